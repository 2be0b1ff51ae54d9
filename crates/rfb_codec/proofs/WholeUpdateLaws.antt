-- An update's head and its rectangles are read as exactly these, and back.
use Rattle.std.proofs.Common.{◌≡◌, ℕ, zero, suc, ◌-◌, List, [], ◌∷◌, ◌++◌, length, map, Option, refl, ◌∙◌, sym, subst}
use Rattle.std.proofs.Common.{arith}
use Rattle.rfb_pixel.specs.declared.colour.Colour.{Colour}
use Rattle.rfb_picture.specs.Grid.{Grid, IsGrid}
use Rattle.rfb_wire.specs.declared.rect_head.RectHead.{RectHead}
use Rattle.rfb_wire.specs.stream.Prefix.{Got}
use Rattle.rfb_wire.specs.stream.Grammar.{ReadsAll, past_all}
use Rattle.rfb_wire.specs.ServerMessage.{ServerMessage, FramebufferUpdate, SpellsServerMessage}
use Rattle.rfb_codec.specs.UpdateStream.{UpdatePoint, Message, Rectangle, SpellsRectangle, SpellsNext, update_stream}
use Rattle.rfb_codec.specs.Effect.{effect, effects, IsAlike, Agrees, noted}
use Rattle.rfb_codec.specs.WholeUpdate.{SentRect, item_of, SpellsRectangles, SpellsWholeUpdate, update_of, AreNoted}
use Rattle.rfb_codec.proofs.EffectLaws.{effect_picture, noted_kept, agrees_item}
use Rattle.rfb_codec.proofs.UpdateStreamLaws.{update_spelled}

-- a rectangle does not depend on how many are left
moved_left : (p : UpdatePoint) (left : ℕ) (head : RectHead) (body bytes : List ℕ) → SpellsRectangle p head body bytes →
    SpellsRectangle (record p { left = left }) head body bytes
moved_left p left head body bytes s =
    record { front = s.front; whole = s.whole; head_is = s.head_is; on_screen = s.on_screen; body_is = s.body_is }

moved_back : (p : UpdatePoint) (left : ℕ) (head : RectHead) (body bytes : List ℕ) →
    SpellsRectangle (record p { left = left }) head body bytes → SpellsRectangle p head body bytes
moved_back p left head body bytes s =
    record { front = s.front; whole = s.whole; head_is = s.head_is; on_screen = s.on_screen; body_is = s.body_is }

-- as many rectangles as are left are read
pub rectangles_read : (p : UpdatePoint) (sent : List SentRect) (bytes : List ℕ) → SpellsRectangles p sent bytes →
    ReadsAll update_stream (record p { left = length sent }) bytes (map item_of sent) []
unfolding update_stream
rectangles_read p [] bytes s = s
rectangles_read p (r ∷ sent) bytes (front, back, whole, here, more) =
    let less : suc (length sent) - 1 ≡ length sent = omega arith in
    let got : update_stream.next (record p { left = suc (length sent) }) (front ++ back)
    ≡ Got (Rectangle r.head r.body) back = (update_spelled.reads (record p { left = suc (length sent) })).only
    (Rectangle r.head r.body) front back (moved_left p (suc (length sent)) r.head r.body front here) in (
      back,
      rw whole got,
      subst (λ (left : ℕ). ReadsAll update_stream (record p { left = left }) back (map item_of sent) []) (sym less)
          (rectangles_read p sent back more),
    )

pub rectangles_spelled : (p : UpdatePoint) (sent : List SentRect) (bytes : List ℕ) →
    ReadsAll update_stream (record p { left = length sent }) bytes (map item_of sent) [] → SpellsRectangles p sent bytes
unfolding update_stream
rectangles_spelled p [] bytes h = h
rectangles_spelled p (r ∷ sent) bytes (mid, got, more) =
    let less : suc (length sent) - 1 ≡ length sent = omega arith in
    let one =
    (update_spelled.reads (record p { left = suc (length sent) })).found bytes (Rectangle r.head r.body) mid got in (
      one.0,
      mid,
      one.1,
      moved_back p (suc (length sent)) r.head r.body one.0 one.2,
      rectangles_spelled p sent mid
          (subst (λ (left : ℕ). ReadsAll update_stream (record p { left = left }) mid (map item_of sent) []) less more),
    )

-- ---- with the head

spelled_as : (p : UpdatePoint) (left : ℕ) (message : ServerMessage) (bytes : List ℕ) → left ≡ 0 →
    SpellsServerMessage message bytes → SpellsNext p left (Message message) bytes
spelled_as p left message bytes none s = subst (λ (n : ℕ). SpellsNext p n (Message message) bytes) (sym none) s

message_of : (p : UpdatePoint) (left : ℕ) (message : ServerMessage) (bytes : List ℕ) →
    SpellsNext p left (Message message) bytes → SpellsServerMessage message bytes
message_of p zero message bytes s = s
message_of p (suc left) message bytes none = absurd none

pub update_read : (p : UpdatePoint) (sent : List SentRect) (bytes : List ℕ) → p.left ≡ 0 →
    SpellsWholeUpdate p sent bytes → ReadsAll update_stream p bytes (update_of sent) []
unfolding update_stream
update_read p sent bytes none s =
    let got : update_stream.next p (s.head ++ s.list) ≡ Got (Message (FramebufferUpdate (length sent))) s.list =
    (update_spelled.reads p).only (Message (FramebufferUpdate (length sent))) s.head s.list
    (spelled_as p p.left (FramebufferUpdate (length sent)) s.head none s.head_is) in
    (s.list, rw s.whole got, rectangles_read p sent s.list s.sent_are)

pub update_back : (p : UpdatePoint) (sent : List SentRect) (bytes : List ℕ) →
    ReadsAll update_stream p bytes (update_of sent) [] → SpellsWholeUpdate p sent bytes
unfolding update_stream
update_back p sent bytes (mid, got, more) =
    let one = (update_spelled.reads p).found bytes (Message (FramebufferUpdate (length sent))) mid got in
    record {
      head = one.0;
      list = mid;
      whole = one.1;
      head_is = message_of p p.left (FramebufferUpdate (length sent)) one.0 one.2;
      sent_are = rectangles_spelled p sent mid more;
    }

-- ---- the point after

rectangles_past : (p : UpdatePoint) (sent : List SentRect) →
    past_all update_stream (record p { left = length sent }) (map item_of sent) ≡ record p { left = 0 }
unfolding update_stream
rectangles_past p [] = refl
rectangles_past p (r ∷ sent) =
    let less : suc (length sent) - 1 ≡ length sent = omega arith in
    subst (λ (left : ℕ). past_all update_stream (record p { left = left }) (map item_of sent) ≡ record p { left = 0 })
    (sym less) (rectangles_past p sent)

-- an update leads to where none of its rectangles is left
pub update_past : (p : UpdatePoint) (sent : List SentRect) →
    past_all update_stream p (update_of sent) ≡ record p { left = 0 }
unfolding update_stream
update_past p sent = rectangles_past p sent

-- ---- what is known after it

pub agrees_update : (p : UpdatePoint) (sent : List SentRect) (picture : Grid Colour) (known now : Grid (Option ℕ)) →
    IsGrid picture → IsGrid known → IsAlike picture known → known.width ≡ p.width → known.height ≡ p.height →
    Agrees p.form picture known → AreNoted p sent known now → Agrees p.form (effects p (map item_of sent) picture) now
agrees_update p [] picture known now whole whole_known alike columns rows agrees noted_are =
    subst (λ (k : Grid (Option ℕ)). Agrees p.form picture k) (sym noted_are) agrees
agrees_update p (r ∷ sent) picture known now whole whole_known alike columns rows agrees (contents, spelled, more) =
    let shown = effect_picture p (Rectangle r.head r.body) picture in
    let kept = noted_kept r.head.rect contents known in
    agrees_update p sent (effect p (Rectangle r.head r.body) picture) (noted r.head.rect contents known) now
    (shown.whole whole) (kept.whole whole_known)
    (record {
      columns = shown.columns ∙ alike.columns ∙ sym kept.columns;
      rows = shown.rows ∙ alike.rows ∙ sym kept.rows;
    })
    (kept.columns ∙ columns) (kept.rows ∙ rows)
    (agrees_item p r.head contents r.body picture known whole whole_known alike columns rows spelled agrees) more
