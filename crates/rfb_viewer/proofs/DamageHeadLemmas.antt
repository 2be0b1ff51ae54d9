-- What bytes of a rectangle's head, and of its data after it, add to the damage.
use Rattle.std.proofs.Common.{◌≡◌, ℕ, zero, suc, ◌<◌, true, List, ◌++◌, length, take, drop, Option, Some, None, refl}
use Rattle.std.proofs.Common.{sym, subst, ◌∙◌, ap, append_assoc, take-append-drop}
use Rattle.arrayvec.specs.ArrayVec.{ArrayVec}
use Rattle.rfb_pixel.specs.declared.colour.Colour.{Colour}
use Rattle.rfb_picture.specs.declared.rect.Rect.{Rect}
use Rattle.rfb_picture.specs.Grid.{Grid}
use Rattle.rfb_wire.specs.declared.fault.WireFault.{WireFault}
use Rattle.rfb_wire.specs.declared.rect_head.RectHead.{RectHead as HeadOfRect}
use Rattle.rfb_wire.specs.RectHead.{SpellsRectHead, IsOnScreen, IsRectFault}
use Rattle.rfb_wire.specs.RectStream.{rect_head}
use Rattle.rfb_wire.specs.stream.Prefix.{Got, Bad}
use Rattle.rfb_wire.proofs.RectStreamLaws.{rect_head_reads}
use Rattle.rfb_hello.specs.declared.viewer_hello.ViewerHello.{ViewerHello}
use Rattle.rfb_viewer.specs.declared.viewer.Viewer.{Viewer}
use Rattle.rfb_viewer.specs.declared.viewer.progress.Progress.{Progress}
use Rattle.rfb_viewer.specs.declared.viewer.progress.Progress.TheVariants.{RectHead}
use Rattle.rfb_viewer.specs.Damage.{joined, under_way, ended_of, head_rect}
use Rattle.rfb_viewer.specs.steps.ItemDamage.{ended_with, begun_on, DamagesAt, Damages}
use Rattle.rfb_viewer.specs.steps.Sound.{is_sound}
use Rattle.rfb_viewer.specs.steps.Steps.{progress_past}
use Rattle.rfb_viewer.proofs.DamageLemmas.{head_short}

-- after a rectangle none is under way, and there is a screen
pub past_none : (left : ℕ) → under_way (progress_past left) ≡ None
past_none zero = refl
past_none (suc more) = refl

past_screen : (hello : ViewerHello) (left : ℕ) (g : Grid Colour) → is_sound hello (progress_past left) (Some g) ≡ true
past_screen hello zero g = refl
past_screen hello (suc more) g = refl

pub past_sound : (hello : ViewerHello) (left : ℕ) (p : Progress) (g : Grid Colour) → p ≡ progress_past left →
    is_sound hello p (Some g) ≡ true
past_sound hello left p g is = ap (λ (q : Progress). is_sound hello q (Some g)) is ∙ past_screen hello left g

short_on : (g : Option (Grid Colour)) (bytes : List ℕ) → length bytes < 12 → begun_on g bytes ≡ None
short_on None bytes short = refl
short_on (Some g) bytes short = ap head_rect (head_short g.width g.height bytes short)

module _ (old new : Viewer) (more : ℕ) (part : ArrayVec ℕ) (was : old.progress ≡ RectHead more part) where
  -- a rectangle is begun, or none is
  adds_begun : (unit : List ℕ) (b : Option Rect) → begun_on old.picture (part.items ++ unit) ≡ b →
      ended_of new ≡ ended_with (under_way new.progress) b (ended_of old) → Damages old unit new
  adds_begun unit b is e =
      subst (λ (p : Progress). DamagesAt p old unit new) (sym was)
      (e ∙ ap (λ (c : Option Rect). ended_with (under_way new.progress) c (ended_of old)) (sym is))

  -- a head that is not whole
  pub part_damages : (now : ArrayVec ℕ) (unit : List ℕ) → now.items ≡ part.items ++ unit → length now.items < 12 →
      ended_of new ≡ ended_of old → Damages old unit new
  part_damages now unit is short same =
      adds_begun unit None
      (short_on old.picture (part.items ++ unit) (subst (λ (ys : List ℕ). length ys < 12) is short)) same

  -- a head at fault
  pub bad_damages : (n : ℕ) (bytes whole : List ℕ) (fault : WireFault) (picture : Grid Colour) →
      whole ≡ part.items ++ take n bytes → length whole ≡ 12 → old.picture ≡ Some picture →
      IsRectFault picture.width picture.height fault whole → ended_of new ≡ ended_of old → Damages old bytes new
  bad_damages n bytes whole fault picture is size shown told same =
      let all : part.items ++ bytes ≡ whole ++ drop n bytes =
      ap (λ (ys : List ℕ). part.items ++ ys) (sym (take-append-drop n bytes))
      ∙ sym (append_assoc part.items (take n bytes) (drop n bytes))
      ∙ ap (λ (ys : List ℕ). ys ++ drop n bytes) (sym is) in
      let bad : rect_head picture.width picture.height (whole ++ drop n bytes) ≡ Bad fault =
      (rect_head_reads picture.width picture.height).blames fault whole (drop n bytes) (size, told) in
      adds_begun bytes None
      (ap (λ (g : Option (Grid Colour)). begun_on g (part.items ++ bytes)) shown
      ∙ ap (λ (ys : List ℕ). head_rect (rect_head picture.width picture.height ys)) all ∙ ap head_rect bad) same

  -- a head whose rectangle is not under way any more
  pub head_damages : (front rest unit whole : List ℕ) (head : HeadOfRect) (picture : Grid Colour) →
      unit ≡ front ++ rest → whole ≡ part.items ++ front → old.picture ≡ Some picture →
      SpellsRectHead head whole → IsOnScreen picture.width picture.height head.rect → under_way new.progress ≡ None →
      ended_of new ≡ joined (ended_of old) head.rect → Damages old unit new
  head_damages front rest unit whole head picture cut is shown spelled on none e =
      let all : part.items ++ unit ≡ whole ++ rest =
      ap (λ (ys : List ℕ). part.items ++ ys) cut ∙ sym (append_assoc part.items front rest)
      ∙ ap (λ (ys : List ℕ). ys ++ rest) (sym is) in
      let got : rect_head picture.width picture.height (whole ++ rest) ≡ Got head rest =
      (rect_head_reads picture.width picture.height).only head whole rest (spelled, on) in
      adds_begun unit (Some head.rect)
      (ap (λ (g : Option (Grid Colour)). begun_on g (part.items ++ unit)) shown
      ∙ ap (λ (ys : List ℕ). head_rect (rect_head picture.width picture.height ys)) all ∙ ap head_rect got)
      (e ∙ sym (ap (λ (b : Option Rect). ended_with b (Some head.rect) (ended_of old)) none))
