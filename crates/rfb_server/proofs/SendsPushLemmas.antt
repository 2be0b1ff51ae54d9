-- What needs no sending, and lists of rectangles that get one more.
use Rattle.std.proofs.Common.{◌≡◌, ℕ, ◌&&◌, ◌||◌, Bool, true, false, not, List, [], ◌∷◌}
use Rattle.std.proofs.Common.{◌++◌, map}
use Rattle.std.proofs.Common.{Option, Some, None, refl, ap, ◌∙◌, arith, append_assoc}
use Rattle.std.proofs.Common.{◌==◌}
use Rattle.std.proofs.lemmas.Bool.Decides.{nat_tests}
use Rattle.rfb_pixel.specs.declared.colour.Colour.{Colour}
use Rattle.rfb_picture.specs.Rect.{contains}
use Rattle.rfb_picture.specs.Grid.{Grid, IsGrid}
use Rattle.rfb_codec.specs.UpdateStream.{Rectangle}
use Rattle.rfb_codec.specs.RectData.{painted}
use Rattle.rfb_codec.specs.Effect.{effect, effects, IsAlike, Agrees}
use Rattle.rfb_codec.specs.WholeUpdate.{item_of, SpellsRectangles}
use Rattle.rfb_codec.proofs.EffectLaws.{effect_painted, effects_picture}
use Rattle.rfb_server.specs.Server.{ServerState}
use Rattle.rfb_server.specs.Request.{differs}
use Rattle.rfb_server.specs.Composition.{Part, sent_as, between, HasItsData, HaveTheirData, IsBlockOf}
use Rattle.rfb_server.specs.Composition.{AreBlocksOf, is_in_some}

-- ---- what needs no sending

same_number : (a b : ℕ) → not (a == b) ≡ false → a ≡ b
same_number a b e = grind (arith, nat_tests)

not_differs : (pixel : ℕ) (old : Option ℕ) → differs pixel old ≡ false → old ≡ Some pixel
not_differs pixel None e = absurd cc
not_differs pixel (Some old) e = ap (λ (k : ℕ). Some k) (same_number old pixel e)

-- an asked place that needs no sending is recorded with the wanted pixel, and is not whole
pub quiet_place : (asked whole : Bool) (pixel : ℕ) (old : Option ℕ) → (asked && (whole || differs pixel old)) ≡ false →
    asked ≡ true → (old ≡ Some pixel) × (whole ≡ false)
quiet_place true true pixel old e a = absurd cc
quiet_place true false pixel old e a = (not_differs pixel old e, refl)
quiet_place false whole pixel old e a = absurd cc

-- ---- lists that get one more

module _ (s : ServerState) where
  pub effects_push : (parts : List Part) (part : Part) (picture : Grid Colour) →
      effects (between s) (map item_of (map sent_as (parts ++ part ∷ []))) picture
      ≡ effect (between s) (Rectangle part.head part.body)
      (effects (between s) (map item_of (map sent_as parts)) picture)
  effects_push [] part picture = refl
  effects_push (first ∷ parts) part picture =
      effects_push parts part (effect (between s) (Rectangle first.head first.body) picture)

  pub spelled_push : (parts : List Part) (part : Part) (bytes more : List ℕ) →
      SpellsRectangles (between s) (map sent_as parts) bytes →
      SpellsRectangles (between s) (sent_as part ∷ []) more →
      SpellsRectangles (between s) (map sent_as (parts ++ part ∷ [])) (bytes ++ more)
  spelled_push [] part bytes more none one = rw none one
  spelled_push (first ∷ parts) part bytes more (front, back, whole, here, rest) one =
      (front, back ++ more, rw whole (append_assoc front back more), here, spelled_push parts part back more rest one)

  pub data_push : (parts : List Part) (part : Part) → HaveTheirData s parts → HasItsData s part →
      HaveTheirData s (parts ++ part ∷ [])
  data_push [] part all one = (one, tt)
  data_push (first ∷ parts) part (here, rest) one = (here, data_push parts part rest one)

  pub blocks_push : (parts : List Part) (part : Part) → AreBlocksOf s parts → IsBlockOf s part →
      AreBlocksOf s (parts ++ part ∷ [])
  blocks_push [] part all one = (one, tt)
  blocks_push (first ∷ parts) part (here, rest) one = (here, blocks_push parts part rest one)

-- a picture that agrees with a record after these rectangles agrees with another one after one more,
-- if what that one paints makes of such a picture agrees with it
pub agrees_push : (s : ServerState) (parts : List Part) (part : Part) (known now : Grid (Option ℕ)) →
    IsAlike s.known known → HasItsData s part →
    ((picture : Grid Colour) → IsGrid picture → IsAlike picture s.known → Agrees s.form picture s.known →
    Agrees s.form (effects (between s) (map item_of (map sent_as parts)) picture) known) →
    ((shown : Grid Colour) → IsGrid shown → IsAlike shown known → Agrees s.form shown known →
    Agrees s.form (painted s.form part.head.rect part.contents shown) now) →
    (picture : Grid Colour) → IsGrid picture → IsAlike picture s.known → Agrees s.form picture s.known →
    Agrees s.form (effects (between s) (map item_of (map sent_as (parts ++ part ∷ []))) picture) now
agrees_push s parts part known now size data_is so_far more picture whole alike before =
    let shown : Grid Colour = effects (between s) (map item_of (map sent_as parts)) picture in
    let kept = effects_picture (between s) (map item_of (map sent_as parts)) picture in
    rw (
      effects_push s parts part picture,
      effect_painted (between s) part.head part.contents part.body shown data_is,
    )
    (more shown (kept.whole whole) (record {
      columns = kept.columns ∙ (alike.columns ∙ size.columns);
      rows = kept.rows ∙ (alike.rows ∙ size.rows);
    }) (so_far picture whole alike before))

pub in_push : (parts : List Part) (part : Part) (x y : ℕ) →
    is_in_some (parts ++ part ∷ []) x y ≡ (is_in_some parts x y || contains part.head.rect x y)
in_push [] part x y = or_none (contains part.head.rect x y)
  where
    or_none : (b : Bool) → (b || false) ≡ (false || b)
    or_none true = refl
    or_none false = refl
in_push (first ∷ parts) part x y = rw (in_push parts part x y)
    (or_swing (contains first.head.rect x y) (is_in_some parts x y) (contains part.head.rect x y))
  where
    or_swing : (a b c : Bool) → (a || (b || c)) ≡ ((a || b) || c)
    or_swing true b c = refl
    or_swing false b c = refl
