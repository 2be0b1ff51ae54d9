-- Colours that are carried from tile to tile.
use Rattle.std.proofs.Common.{◌≡◌, ℕ, List, [], ◌∷◌, ◌++◌, Bool, true, false, Option, Some, None, if◌then◌else◌, refl}
use Rattle.std.proofs.Common.{sym, subst, ◌∙◌, ap, append-nil, append_assoc}
use Rattle.rfb_codec.specs.Tile.{Tile, later, last_of, is_missing}
use Rattle.rfb_codec.specs.Hextile.{after_last, NoneIs, KeepsRule, CarriesColours}
use Rattle.rfb_codec.specs.encoder.Carried.{IsCarried, IsCarriedIf, IsNamed}
use Rattle.rfb_codec.proofs.TileSpellingLemmas.{IsInForce}

-- ---- one tile more

later_none : (a : Option ℕ) → later a None ≡ a
later_none None = refl
later_none (Some v) = refl

later_assoc : (a b c : Option ℕ) → later (later a b) c ≡ later a (later b c)
later_assoc None b c = refl
later_assoc (Some v) b c = refl

-- the colour that it specifies is the last, else that of those before
pub last_of-more : (colour : Tile → Option ℕ) (tiles : List Tile) (t : Tile) →
    last_of colour (tiles ++ t ∷ []) ≡ later (colour t) (last_of colour tiles)
last_of-more colour [] t = sym (later_none (colour t))
last_of-more colour (u ∷ tiles) t = ap (λ (c : Option ℕ). later c (colour u)) (last_of-more colour tiles t)
    ∙ later_assoc (colour t) (last_of colour tiles) (colour u)

-- it is after the last that specifies the colour, or is that one
after_last-more : (colour : Tile → Option ℕ) (tiles : List Tile) (t : Tile) →
    after_last colour (tiles ++ t ∷ []) ≡ (if is_missing (colour t) then after_last colour tiles ++ t ∷ [] else [])
after_last-more colour [] t = at_none (is_missing (colour t))
  where
    at_none : (b : Bool) → ◌≡◌ {A = List Tile} (if b then t ∷ [] else []) (if b then [] ++ t ∷ [] else [])
    at_none true = refl
    at_none false = refl
after_last-more colour (u ∷ tiles) t = rw (last_of-more colour tiles t, after_last-more colour tiles t)
    (step (colour t) (last_of colour tiles) (is_missing (colour u)))
  where
    step : (a b : Option ℕ) (m : Bool) →
        (if is_missing (later a b) then (if m then u ∷ (tiles ++ t ∷ []) else tiles ++ t ∷ [])
        else (if is_missing a then after_last colour tiles ++ t ∷ [] else [])) ≡ (if is_missing a
        then (if is_missing b then (if m then u ∷ tiles else tiles) else after_last colour tiles) ++ t ∷ [] else [])
    step None None true = refl
    step None None false = refl
    step None (Some v) m = refl
    step (Some v) b m = refl

none_more : (test : Tile → Bool) (tiles : List Tile) (t : Tile) → NoneIs test tiles → test t ≡ false →
    NoneIs test (tiles ++ t ∷ [])
none_more test [] t none e = (e, tt)
none_more test (u ∷ tiles) t none e = (none.0, none_more test tiles t none.1 e)

-- a tile that names the colour leaves it
pub carried_named : (colour : Tile → Option ℕ) (stops : Tile → Bool) (before : List Tile) (t : Tile) (value : ℕ) →
    colour t ≡ Some value → IsCarried colour stops (before ++ t ∷ []) value
carried_named colour stops before t value names =
    let nothing : after_last colour (before ++ t ∷ []) ≡ [] = after_last-more colour before t ∙ rw names refl in
    record { in_force = last_of-more colour before t ∙ rw names refl; unbroken = rw nothing tt }

-- one that names none and does not stop it leaves it as it was
pub carried_kept : (colour : Tile → Option ℕ) (stops : Tile → Bool) (before : List Tile) (t : Tile) (held : Option ℕ) →
    colour t ≡ None → stops t ≡ false → IsCarriedIf colour stops before held →
    IsCarriedIf colour stops (before ++ t ∷ []) held
carried_kept colour stops before t None names free old = tt
carried_kept colour stops before t (Some value) names free old =
    let one_more : after_last colour (before ++ t ∷ []) ≡ after_last colour before ++ t ∷ [] =
    after_last-more colour before t ∙ rw names refl in
    record {
      in_force = last_of-more colour before t ∙ rw names old.in_force;
      unbroken = rw one_more (none_more stops (after_last colour before) t old.unbroken free);
    }

-- ---- a colour that a tile needs: it names it, or the one remembered is it

-- then it is in force in the tile
pub in_force : (colour : Tile → Option ℕ) (stops : Tile → Bool) (before : List Tile)
    (specified held : Option ℕ) (value : ℕ) → IsNamed specified held value → IsCarriedIf colour stops before held →
    IsInForce specified colour before value
in_force colour stops before None None value named old = cc
in_force colour stops before None (Some v) value named old =
    let same : v ≡ value = cc in
    old.in_force ∙ ap (λ (n : ℕ). Some n) same
in_force colour stops before (Some v) held value named old = ap (λ (n : ℕ). Some n) named

-- and after it
pub carried_on : (colour : Tile → Option ℕ) (stops : Tile → Bool) (before : List Tile) (t : Tile)
    (specified held : Option ℕ) (value : ℕ) → colour t ≡ specified → IsNamed specified held value → stops t ≡ false →
    IsCarriedIf colour stops before held → IsCarried colour stops (before ++ t ∷ []) value
carried_on colour stops before t None held value names named free old =
    subst (IsCarriedIf colour stops (before ++ t ∷ [])) named (carried_kept colour stops before t held names free old)
carried_on colour stops before t (Some v) held value names named free old =
    carried_named colour stops before t value (names ∙ ap (λ (n : ℕ). Some n) named)

-- and nothing has stopped it
pub unbroken : (colour : Tile → Option ℕ) (stops : Tile → Bool) (before : List Tile) (specified held : Option ℕ)
    (value : ℕ) → IsNamed specified held value → IsCarriedIf colour stops before held → specified ≡ None →
    NoneIs stops (after_last colour before)
unbroken colour stops before None None value named old none = cc
unbroken colour stops before None (Some v) value named old none = old.unbroken
unbroken colour stops before (Some v) held value named old none = cc

-- ---- the rule

-- one tile more keeps it
pub carries_more : (before tiles : List Tile) (t : Tile) → CarriesColours before tiles → KeepsRule (before ++ tiles) t →
    CarriesColours before (tiles ++ t ∷ [])
carries_more before [] t old keeps = (subst (λ (xs : List Tile). KeepsRule xs t) (append-nil before) keeps, tt)
carries_more before (u ∷ tiles) t old keeps = (
  old.0,
  carries_more (before ++ u ∷ []) tiles t old.1
      (subst (λ (xs : List Tile). KeepsRule xs t) (sym (append_assoc before (u ∷ []) tiles)) keeps),
)
