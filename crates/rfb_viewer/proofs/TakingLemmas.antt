-- What a step of a viewer promises, by what its bytes are of, and where it fails.
use Rattle.std.proofs.Common.{◌≡◌, ℕ, zero, suc, ◌&&◌, not, Bool, true, false, List, ◌++◌, Option, Some, None, refl}
use Rattle.std.proofs.Common.{sym, subst, ◌∙◌, ap}
use Rattle.arrayvec.specs.ArrayVec.{ArrayVec}
use Rattle.rfb_pixel.specs.declared.colour.Colour.{Colour}
use Rattle.rfb_picture.specs.declared.rect.Rect.{Rect}
use Rattle.rfb_picture.specs.Grid.{Grid}
use Rattle.rfb_wire.specs.declared.fault.WireFault.{WireFault}
use Rattle.rfb_wire.specs.declared.server_head.ServerHead.{ServerHead}
use Rattle.rfb_wire.specs.declared.server_head.ServerHead.TheVariants.{Update, ColourMap, Bell as BellHead}
use Rattle.rfb_wire.specs.declared.server_head.ServerHead.TheVariants.{CutText as CutTextHead}
use Rattle.rfb_wire.specs.RectStream.{is_on_screen}
use Rattle.rfb_codec.specs.declared.fault.PaintFault.{PaintFault}
use Rattle.rfb_codec.specs.Stage.{is_ended}
use Rattle.rfb_codec.specs.UnderWay.{UnderWay}
use Rattle.rfb_hello.specs.ViewerEnd.{ViewerSetup}
use Rattle.rfb_viewer.specs.declared.fault.ViewerFault.{ViewerFault}
use Rattle.rfb_viewer.specs.declared.fault.ViewerFault.TheVariants.{NoMemory}
use Rattle.rfb_viewer.specs.declared.viewer.Viewer.{Viewer}
use Rattle.rfb_viewer.specs.declared.viewer.progress.Progress.{Progress}
use Rattle.rfb_viewer.specs.declared.viewer.progress.Progress.TheVariants.{Handshake, RectHead, Data, Failed}
use Rattle.rfb_viewer.specs.Damage.{joined, under_way, ended_of}
use Rattle.rfb_viewer.specs.Counted.{IsPlacedAt}
use Rattle.rfb_viewer.specs.Failed.{KeepsNone, KeepsReason}
use Rattle.rfb_viewer.specs.Fault.{fault_of_wire, fault_of_paint}
use Rattle.rfb_viewer.specs.Moved.{moved_of}
use Rattle.rfb_viewer.specs.Progress.{fault_in}
use Rattle.rfb_viewer.specs.Model.{Making, making_of, offered_of, taken_of}
use Rattle.rfb_viewer.specs.steps.ItemDamage.{screen_made, ended_with, begun_on, Damages, DamagesAt, EndsIn}
use Rattle.rfb_viewer.specs.Offer.{KeepsOffer, TakesOffer}
use Rattle.rfb_viewer.specs.steps.Steps.{progress_after, told_after, told_past}
use Rattle.rfb_viewer.specs.steps.StepPromises.{Fails}
use Rattle.rfb_viewer.proofs.DamageStepLemmas.{made_same}
use Rattle.rfb_viewer.proofs.FailLemmas.{wire_keeps, wire_offers, paint_keeps, paint_offers}
use Rattle.rfb_viewer.proofs.RectLemmas.{past_going}

-- ---- what stays

-- what a viewer was made with, by that of its handshake
abbrev pub made_by : Viewer → ViewerSetup → Making
made_by old setup = record { hello = setup; encodings = old.encodings.items; text_limit = old.text_limit }

-- after a message's head it goes on
pub after_going : (limit : ℕ) (head : ServerHead) → fault_in (progress_after limit head) ≡ None
after_going limit (Update count) = past_going count
after_going limit (ColourMap first zero) = refl
after_going limit (ColourMap first (suc more)) = refl
after_going limit BellHead = refl
after_going limit (CutTextHead zero) = refl
after_going limit (CutTextHead (suc more)) = refl

-- the data of a rectangle that is painted have not ended
pub data_left : (v : Viewer) (more : ℕ) (painter : UnderWay) (picture : Grid Colour) → v.progress ≡ Data more painter →
    v.picture ≡ Some picture → is_ended painter.rect painter.stage ≡ false
data_left v more painter picture was shown =
    right_of (is_on_screen picture.width picture.height painter.rect) (is_ended painter.rect painter.stage)
    (rw (was, shown) at v.sound)
  where
    right_of : (a b : Bool) → (a && not b) ≡ true → b ≡ false
    right_of true true e = absurd cc
    right_of true false e = refl
    right_of false b e = absurd cc

-- ---- the security types, which stay after the handshake

module _ (old new : Viewer) (unit : List ℕ) (same : offered_of new ≡ offered_of old) where
  pub past_keeps : (left : ℕ) → TakesOffer (told_past left) old unit new
  past_keeps zero = same
  past_keeps (suc left) = same

  pub head_keeps : (head : ServerHead) → TakesOffer (told_after head) old unit new
  head_keeps (Update count) = past_keeps count
  head_keeps (ColourMap first zero) = same
  head_keeps (ColourMap first (suc more)) = same
  head_keeps BellHead = same
  head_keeps (CutTextHead zero) = same
  head_keeps (CutTextHead (suc more)) = same

-- ---- what a step adds to the damage

-- a handshake that makes no screen
pub unmade : (old new : Viewer) → new.picture ≡ old.picture → ended_of new ≡ ended_of old →
    ended_of new ≡ screen_made old.picture new.picture (ended_of old)
unmade old new shown same =
    same ∙ sym (made_same old.picture (ended_of old))
    ∙ ap (λ (g : Option (Grid Colour)). screen_made old.picture g (ended_of old)) (sym shown)

module _ (old new : Viewer) (bytes : List ℕ) where
  pub damages_at : (p : Progress) → old.progress ≡ p → DamagesAt p old bytes new → Damages old bytes new
  damages_at p was d = subst (λ (q : Progress). DamagesAt q old bytes new) (sym was) d

  pub unmade_damages : old.progress ≡ Handshake → new.picture ≡ old.picture → ended_of new ≡ ended_of old →
      Damages old bytes new
  unmade_damages was shown same = damages_at Handshake was (unmade old new shown same)

  kept_under : (r : Rect) (b : Option Rect) (ended : ended_of new ≡ ended_of old) →
      ended_of new ≡ ended_with (Some r) b (ended_of old)
  kept_under r None ended = ended
  kept_under r (Some other) ended = ended

  -- a rectangle's head whose rectangle is under way now
  pub begun_damages : (more : ℕ) (part : ArrayVec ℕ) (r : Rect) → old.progress ≡ RectHead more part →
      under_way new.progress ≡ Some r → ended_of new ≡ ended_of old → Damages old bytes new
  begun_damages more part r was under same =
      damages_at (RectHead more part) was
      (kept_under r (begun_on old.picture (part.items ++ bytes)) same
      ∙ ap (λ (now : Option Rect). ended_with now (begun_on old.picture (part.items ++ bytes)) (ended_of old))
      (sym under))

  -- data of a rectangle that goes on
  pub going_damages : (more : ℕ) (painter : UnderWay) (r : Rect) → old.progress ≡ Data more painter →
      under_way new.progress ≡ Some r → ended_of new ≡ ended_of old → Damages old bytes new
  going_damages more painter r was under same =
      damages_at (Data more painter) was
      (same ∙ ap (λ (now : Option Rect). ended_with now (Some painter.rect) (ended_of old)) (sym under))

  -- data of a rectangle that is not under way any more
  pub ended_damages : (more : ℕ) (painter : UnderWay) → old.progress ≡ Data more painter →
      under_way new.progress ≡ None → ended_of new ≡ joined (ended_of old) painter.rect → Damages old bytes new
  ended_damages more painter was none e =
      damages_at (Data more painter) was
      (e ∙ ap (λ (now : Option Rect). ended_with now (Some painter.rect) (ended_of old)) (sym none))

-- ---- where a step fails

module _ (old new : Viewer) (bytes : List ℕ) (damages : Damages old bytes new)
    (moved : moved_of new ≡ moved_of old) (made : making_of new ≡ making_of old)
    (taken : taken_of new ≡ taken_of old) (offered : offered_of new ≡ offered_of old) where
  -- by any fault
  fails_so : (used : ℕ) (fault : ViewerFault) → KeepsReason fault old bytes new →
      KeepsOffer fault old bytes new →
      IsPlacedAt used fault old bytes → EndsIn fault old bytes new → new.progress ≡ Failed fault →
      Fails old bytes used fault new
  fails_so used fault reason offer placed ends failed = record {
    placed = placed;
    picture = ends;
    reason = reason;
    offer = offer;
    damage = damages;
    moved = moved;
    failed = ap fault_in failed;
    made = made;
    taken = taken;
  }

  -- by a fault of a head
  pub wire_fails : (used : ℕ) (fault : WireFault) → IsPlacedAt used (fault_of_wire fault) old bytes → EndsIn
      (fault_of_wire fault) old bytes new → new.hello ≡ old.hello →
      new.progress ≡ Failed (fault_of_wire fault) →
      Fails old bytes used (fault_of_wire fault) new
  wire_fails used fault placed ends same = fails_so used (fault_of_wire fault)
      (wire_keeps fault old new bytes same) (wire_offers fault old new bytes offered) placed ends

  -- by a fault of data
  pub paint_fails : (used : ℕ) (fault : PaintFault) → IsPlacedAt used (fault_of_paint fault) old bytes → EndsIn
      (fault_of_paint fault) old bytes new → new.hello ≡ old.hello → new.progress ≡ Failed
      (fault_of_paint fault) → Fails old bytes used (fault_of_paint fault) new
  paint_fails used fault placed ends same = fails_so used (fault_of_paint fault)
      (paint_keeps fault old new bytes same) (paint_offers fault old new bytes offered) placed ends

  -- for want of memory
  pub memory_fails : (used : ℕ) → IsPlacedAt used NoMemory old bytes → EndsIn NoMemory old bytes new →
      KeepsNone old new → new.progress ≡ Failed NoMemory → Fails old bytes used NoMemory new
  memory_fails used placed ends none = fails_so used NoMemory none offered placed ends
