-- What a viewer promises of an update of one rectangle of Raw, all of which is there.
use Rattle.std.proofs.Common.{◌≡◌, ℕ, ◌+◌, ◌<◌, ◌≤◌, List}
use Rattle.std.proofs.Common.{[], ◌++◌, Some, None, length, take, drop}
use Rattle.std.proofs.Common.{true, refl, sym, subst, ◌∙◌, ap, arith}
use Rattle.std.proofs.lemmas.List.{length-take-le}
use Rattle.arrayvec.specs.ArrayVec.{ArrayVec}
use Rattle.rfb_pixel.specs.declared.colour.Colour.{Colour}
use Rattle.rfb_pixel.specs.Format.{size_of, colour_of}
use Rattle.rfb_picture.specs.Grid.{Grid, IsGrid}
use Rattle.rfb_wire.specs.declared.encoding.Encoding.{Encoding}
use Rattle.rfb_wire.specs.declared.encoding.Encoding.TheVariants.{Raw}
use Rattle.rfb_wire.specs.declared.rect_head.RectHead.{RectHead as HeadOfRect}
use Rattle.rfb_wire.specs.declared.server_head.ServerHead.TheVariants.{Update}
use Rattle.rfb_wire.specs.RectHead.{SpellsRectHead, IsOnScreen}
use Rattle.rfb_wire.specs.ServerHead.{SpellsUpdate}
use Rattle.rfb_codec.specs.Painter.{over}
use Rattle.rfb_codec.specs.Raw.{raw_length, raw_pixel}
use Rattle.rfb_viewer.specs.declared.event.ViewerEvent.TheVariants.{UpdateDone}
use Rattle.rfb_viewer.specs.declared.viewer.Viewer.{Viewer}
use Rattle.rfb_viewer.specs.declared.viewer.progress.Progress.TheVariants.{Head}
use Rattle.rfb_viewer.specs.declared.viewer.progress.Request.TheVariants.{Answered}
use Rattle.rfb_viewer.specs.Damage.{joined, ended_of}
use Rattle.rfb_viewer.specs.Model.{making_of, offered_of, taken_of}
use Rattle.rfb_viewer.specs.Moved.{moved_of}
use Rattle.rfb_viewer.specs.steps.Sound.{has_screen}
use Rattle.rfb_viewer.specs.steps.StepPromises.{Takes, TakesUpdate}
use Rattle.rfb_viewer.specs.steps.Steps.{at_rectangle}
use Rattle.rfb_viewer.proofs.MessageLemmas.{head_got}
use Rattle.rfb_viewer.proofs.MovedLemmas.{quiet_takes}
use Rattle.rfb_viewer.proofs.RectStepLemmas.{IsBegun, begun_ends}
use Rattle.rfb_viewer.proofs.StepLemmas.{lasting, made_so}
use Rattle.rfb_viewer.proofs.WholeDataLemmas.{raw_begun, raw_fresh, raw_paints}

-- the bytes are its head, `front` of them, the rectangle's head, `middle` of the rest, and `size` of data
pub record IsWhole (old : Viewer) (bytes rest body : List ℕ) (front middle size : ℕ) (part : ArrayVec ℕ)
    (head : HeadOfRect) (picture : Grid Colour) : Type 0 where
  pub was : old.progress ≡ Head part
  pub empty : part.items ≡ []
  pub shown : old.picture ≡ Some picture
  pub whole : IsGrid picture
  pub front_in : front ≤ length bytes
  pub front_is : SpellsUpdate 1 (take front bytes)
  pub rest_is : rest ≡ drop front bytes
  pub middle_in : middle ≤ length rest
  pub middle_is : SpellsRectHead head (take middle rest)
  pub on_screen : IsOnScreen picture.width picture.height head.rect
  pub body_is : body ≡ drop middle rest
  pub raw : head.encoding ≡ Raw
  pub some : 0 < size_of old.format
  pub size_is : size ≡ raw_length old.format head.rect.w head.rect.h
  pub size_in : size ≤ length body

-- a head has bytes
some_bytes : (n size : ℕ) (bytes : List ℕ) → n ≤ length bytes → length (take n bytes) ≡ size → 0 < size →
    0 < n
some_bytes n size bytes within long some =
    let taken : length (take n bytes) ≡ n = length-take-le n bytes within in omega (arith, long, some, taken)

module _ (old : Viewer) (bytes rest body : List ℕ) (front middle size : ℕ) (part : ArrayVec ℕ)
    (head : HeadOfRect) (picture : Grid Colour)
    (w : IsWhole old bytes rest body front middle size part head picture) where
  screen : has_screen old.picture ≡ true
  screen = rw w.shown refl

  -- the viewer after the update's head
  abbrev between : Viewer
  between = record old { progress = at_rectangle 0; sound = screen }

  takes_front : Takes old bytes front None between
  takes_front =
      quiet_takes old between bytes front None (Head part) w.was tt refl
      (some_bytes front 4 bytes w.front_in w.front_is.size (omega arith)) w.front_in
      (λ viewing. head_got viewing old between part (take front bytes) (Update 1) w.was
      (λ begun. subst (λ (ys : List ℕ). SpellsUpdate 1 (ys ++ take front bytes)) (sym w.empty) w.front_is)
      (made_so refl refl refl refl)) refl refl refl refl refl

  is_begun : IsBegun between rest middle 0 (record { items = [] }) (take middle rest) head picture
      (raw_begun old.format head.rect)
  is_begun = record {
    some = some_bytes middle 12 rest w.middle_in w.middle_is.size (omega arith);
    within = w.middle_in;
    opened = record {
      was = refl;
      whole_is = refl;
      shown = w.shown;
      spelled = w.middle_is;
      on_screen = w.on_screen;
      painting_is = ap (λ (e : Encoding). record { rect = head.rect; encoding = e; form = old.format }) (sym w.raw);
      fresh = raw_fresh old.format head.rect picture w.some w.whole;
    };
  }

  pub update_taken : (new : Viewer) (now : Grid Colour) →
      now ≡ over head.rect (λ x y. colour_of old.format (raw_pixel old.format head.rect.w (take size body) x y))
      picture → lasting new ≡ lasting old → new.progress ≡ old.progress → new.request ≡ Answered →
      new.picture ≡ Some now → ended_of new ≡ joined (ended_of old) head.rect →
      moved_of new ≡ moved_of old →
      making_of new ≡ making_of old → offered_of new ≡ offered_of old → taken_of new ≡ taken_of old →
      TakesUpdate old bytes (front + middle + size) new
  update_taken new now value same progress request stored ended moved made offered taken =
      let painter = raw_begun old.format head.rect in
      let long = length-take-le size body w.size_in ∙ w.size_is in
      let next = progress ∙ w.was ∙ ap (λ (ys : List ℕ). Head (record { items = ys })) w.empty in
      record {
        mid = between;
        front = front;
        back = middle + size;
        used_is = omega arith;
        head = takes_front;
        rectangle = subst (λ (ys : List ℕ). Takes between ys (middle + size) (Some UpdateDone) new) w.rest_is
            (begun_ends between new rest middle 0 (record { items = [] }) (take middle rest) head picture now painter
            is_begun body w.body_is made taken offered size painter (Some UpdateDone) head.rect head.rect w.size_in
            (raw_paints old.format head.rect (take size body) picture now w.whole long value)
            (λ g came stands. refl) refl (made_so same next request stored) ended refl moved refl);
      }
