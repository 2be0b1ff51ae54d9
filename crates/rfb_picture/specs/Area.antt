-- The part of a screen that a client asked for, RFC 6143 section 7.5.3: which places are asked, and
-- which of these whole, asked by a request that is not incremental.
use Rattle.std.specs.Prelude.{ℕ, Bool, true, false, ◌≡◌, ◌<◌, if◌then◌else◌, refl}
use Rattle.std.specs.Coded.{Coded, code_by, coded×, coded_bool}
use Rattle.rfb_picture.specs.declared.rect.Rect.{Rect}
use Rattle.rfb_picture.specs.Grid.{Grid, grid_code, IsGrid, at_or, filled, uniform}

-- a set of places that are asked, and one of places that are whole
pub record Places : Type 0 where
  pub asked : Grid Bool
  pub whole : Grid Bool

-- they are stored as the pair of the two sets
abbrev pub places_code : Coded Places
places_code =
    code_by (Grid Bool × Grid Bool)
    (coded× (grid_code coded_bool) (grid_code coded_bool))
    (λ a. (a.asked, a.whole))
    (λ p. record { asked = p.0; whole = p.1 })
    (λ _. refl)

-- place (x, y) is asked
abbrev pub asked_at : Places → ℕ → ℕ → Bool
asked_at a x y = at_or a.asked x y false

-- place (x, y) is whole
abbrev pub whole_at : Places → ℕ → ℕ → Bool
whole_at a x y = at_or a.whole x y false

-- both sets say of each place of one screen whether it is in them, and each whole place is asked
pub record IsArea (a : Places) : Type 0 where
  pub asks : IsGrid a.asked
  pub wholes : IsGrid a.whole
  pub wide : a.whole.width ≡ a.asked.width
  pub high : a.whole.height ≡ a.asked.height
  pub inside : (x y : ℕ) → x < a.asked.width → y < a.asked.height → whole_at a x y ≡ true →
      asked_at a x y ≡ true

-- each place is asked
abbrev pub AsksEach : Places → Type 0
AsksEach a = (x y : ℕ) → x < a.asked.width → y < a.asked.height → asked_at a x y ≡ true

-- no place is whole
abbrev pub HasNoWhole : Places → Type 0
HasNoWhole a = (x y : ℕ) → x < a.asked.width → y < a.asked.height → whole_at a x y ≡ false

-- an area, and what is noted of it: that each place is asked, and that none is whole
pub record IsNoted (a : Places) (all plain : Bool) : Type 0 where
  pub area : IsArea a
  pub all_asked : all ≡ true → AsksEach a
  pub none_whole : plain ≡ true → HasNoWhole a

-- the area of a screen of that width and height with no place asked
abbrev pub no_places : ℕ → ℕ → Places
no_places w h = record { asked = uniform w h false; whole = uniform w h false }

-- the area of that size with no place asked
abbrev pub nothing : Places → Places
nothing a = no_places a.asked.width a.asked.height

-- the rectangle's places are asked too, and whole if that is asked; what was whole stays whole
abbrev pub added : Rect → Bool → Places → Places
added r w a =
    record { asked = filled r true a.asked; whole = if w then filled r true a.whole else a.whole }
