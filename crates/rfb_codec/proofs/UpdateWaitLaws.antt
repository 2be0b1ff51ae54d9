-- What comes next in an update, as its parts decide: messages, heads of rectangles, and their data.
use Rattle.std.proofs.Common.{◌≡◌, ℕ, zero, suc, ◌-◌, ◌<◌, List, [], ◌++◌, length, refl, sym, ◌∙◌, ap, arith}
use Rattle.std.proofs.Common.{append_assoc}
use Rattle.rfb_pixel.specs.declared.colour.Colour.{Colour}
use Rattle.rfb_picture.specs.Grid.{Grid}
use Rattle.rfb_wire.specs.declared.rect_head.RectHead.{RectHead}
use Rattle.rfb_wire.specs.declared.fault.WireFault.{WireFault}
use Rattle.rfb_wire.specs.RectHead.{SpellsRectHead, IsOnScreen, IsRectFault}
use Rattle.rfb_wire.specs.RectStream.{rect_head}
use Rattle.rfb_wire.specs.stream.Prefix.{More, Got, Bad}
use Rattle.rfb_wire.specs.stream.Parts.{renamed, named}
use Rattle.rfb_wire.specs.ServerMessage.{ServerMessage, FramebufferUpdate, ServerFault, server_message}
use Rattle.rfb_wire.proofs.stream_laws.PartLaws.{piece_short}
use Rattle.rfb_wire.proofs.RectStreamLaws.{rect_head_reads}
use Rattle.rfb_codec.specs.declared.fault.PaintFault.{PaintFault}
use Rattle.rfb_codec.specs.RectData.{RectData, FaultsData, rect_data, painted}
use Rattle.rfb_codec.specs.Effect.{effect}
use Rattle.rfb_codec.specs.UpdateStream.{UpdatePoint, UpdateItem, Message, Rectangle, InMessage, InHead, InData}
use Rattle.rfb_codec.specs.UpdateStream.{SpellsNext, FaultsNext, rectangle, next_item, left_after, update_stream}
use Rattle.rfb_codec.specs.Painter.{data_of, painting_of, AwaitsData}
use Rattle.rfb_codec.proofs.RectDataLaws.{rect_data_reads}
use Rattle.rfb_codec.proofs.UpdateStreamLaws.{update_spelled}
use Rattle.rfb_codec.proofs.EffectLaws.{data_spelled, effect_painted}

-- ---- points

pub past_head : (p : UpdatePoint) (rectangles : ℕ) →
    update_stream.past p (Message (FramebufferUpdate rectangles)) ≡ record p { left = rectangles }
unfolding update_stream
past_head p rectangles = refl

pub past_rectangle : (p : UpdatePoint) (head : RectHead) (body : List ℕ) →
    update_stream.past p (Rectangle head body) ≡ record p { left = p.left - 1 }
unfolding update_stream
past_rectangle p head body = refl

-- no item changes the screen or the format
pub past_left : (p : UpdatePoint) (item : UpdateItem) →
    update_stream.past p item ≡ record p { left = left_after p.left item }
unfolding update_stream
past_left p item = refl

-- ---- what comes next

pub at_message : (p : UpdatePoint) (bytes : List ℕ) → p.left ≡ 0 →
    update_stream.next p bytes ≡ renamed (λ message. Message message) (λ fault. InMessage fault) server_message bytes
unfolding update_stream
at_message p bytes none = ap (λ (left : ℕ). next_item p left bytes) none

at_left : (p : UpdatePoint) (left : ℕ) (bytes : List ℕ) → 0 < left → next_item p left bytes ≡ rectangle p bytes
at_left p zero bytes some = absurd (omega (arith, some))
at_left p (suc left) bytes some = refl

pub at_rect : (p : UpdatePoint) (bytes : List ℕ) → 0 < p.left → update_stream.next p bytes ≡ rectangle p bytes
unfolding update_stream
at_rect p bytes some = at_left p p.left bytes some

-- ---- messages

pub message_got : (p : UpdatePoint) (bytes rest : List ℕ) (message : ServerMessage) → p.left ≡ 0 →
    server_message bytes ≡ Got message rest → update_stream.next p bytes ≡ Got (Message message) rest
message_got p bytes rest message none e =
    at_message p bytes none ∙ ap (named (λ m. Message m) (λ fault. InMessage fault)) e

pub message_waits : (p : UpdatePoint) (bytes : List ℕ) → p.left ≡ 0 → server_message bytes ≡ More →
    update_stream.next p bytes ≡ More
message_waits p bytes none e = at_message p bytes none ∙ ap (named (λ m. Message m) (λ fault. InMessage fault)) e

pub message_bad : (p : UpdatePoint) (bytes : List ℕ) (fault : ServerFault) → p.left ≡ 0 →
    server_message bytes ≡ Bad fault → update_stream.next p bytes ≡ Bad (InMessage fault)
message_bad p bytes fault none e = at_message p bytes none ∙ ap (named (λ m. Message m) (λ fault. InMessage fault)) e

-- ---- heads of rectangles

pub rect_short : (p : UpdatePoint) (bytes : List ℕ) → 0 < p.left → length bytes < 12 → update_stream.next p bytes ≡ More
unfolding rect_head
rect_short p bytes some short =
    let none = piece_short {F = WireFault} 12 bytes short in
    at_rect p bytes some ∙ (rw none refl)

faults_head : (p : UpdatePoint) (left : ℕ) (fault : WireFault) (front : List ℕ) → 0 < left → length front ≡ 12 →
    IsRectFault p.width p.height fault front → FaultsNext p left (InHead fault) front
faults_head p zero fault front some size is = absurd (omega (arith, some))
faults_head p (suc left) fault front some size is = (size, is)

pub head_bad : (p : UpdatePoint) (fault : WireFault) (front rest : List ℕ) → 0 < p.left → length front ≡ 12 →
    IsRectFault p.width p.height fault front → update_stream.next p (front ++ rest) ≡ Bad (InHead fault)
head_bad p fault front rest some size is =
    (update_spelled.reads p).blames (InHead fault) front rest (faults_head p p.left fault front some size is)

-- ---- data

spells_next : (p : UpdatePoint) (left : ℕ) (head : RectHead) (front body : List ℕ) (contents : RectData) →
    0 < left → SpellsRectHead head front → IsOnScreen p.width p.height head.rect →
    rect_data p.form p.width p.height head.rect head.encoding body ≡ Got contents [] →
    SpellsNext p left (Rectangle head body) (front ++ body)
spells_next p zero head front body contents some head_is on e = absurd (omega (arith, some))
spells_next p (suc left) head front body contents some head_is on e =
    record {
      front = front;
      whole = refl;
      head_is = head_is;
      on_screen = on;
      body_is = (contents, data_spelled p.form p.width p.height head contents body e);
    }

faults_data : (p : UpdatePoint) (left : ℕ) (head : RectHead) (front back : List ℕ) (fault : PaintFault) →
    0 < left → SpellsRectHead head front → IsOnScreen p.width p.height head.rect →
    FaultsData p.form p.width p.height head.rect head.encoding fault back →
    FaultsNext p left (InData fault) (front ++ back)
faults_data p zero head front back fault some head_is on told = absurd (omega (arith, some))
faults_data p (suc left) head front back fault some head_is on told =
    record { head = head; front = front; back = back; whole = refl; head_is = head_is; on_screen = on; back_is = told }

module _ (p : UpdatePoint) (head : RectHead) (front : List ℕ) (picture : Grid Colour)
    (awaits : AwaitsData p head front picture) where
  -- on the screen the painter reads what the stream does
  same_data : (bytes : List ℕ) →
      data_of (painting_of p head) picture bytes ≡ rect_data p.form p.width p.height head.rect head.encoding bytes
  same_data bytes = rw (awaits.columns, awaits.rows) refl

  -- data that are whole make an item
  pub body_got : (body rest : List ℕ) (contents : RectData) → data_of (painting_of p head) picture body
      ≡ Got contents [] → update_stream.next p ((front ++ body) ++ rest) ≡ Got (Rectangle head body) rest
  body_got body rest contents e =
      (update_spelled.reads p).only (Rectangle head body) (front ++ body) rest
      (spells_next p p.left head front body contents awaits.some_left awaits.head_is
      awaits.on_screen (sym (same_data body) ∙ e))

  -- and they have their effect
  pub body_effect : (body : List ℕ) (contents : RectData) → data_of (painting_of p head) picture body
      ≡ Got contents [] → effect p (Rectangle head body) picture ≡ painted p.form head.rect contents picture
  body_effect body contents e = effect_painted p head contents body picture
      (data_spelled p.form p.width p.height head contents body (sym (same_data body) ∙ e))

  -- data that wait make none
  pub body_waits : (body : List ℕ) → data_of (painting_of p head) picture body ≡ More →
      update_stream.next p (front ++ body) ≡ More
  body_waits body e =
      let got : rect_head p.width p.height (front ++ body) ≡ Got head body =
      (rect_head_reads p.width p.height).only head front body (awaits.head_is, awaits.on_screen) in
      let waits : rect_data p.form p.width p.height head.rect head.encoding body ≡ More = sym (same_data body) ∙ e in
      at_rect p (front ++ body) awaits.some_left ∙ (rw (got, waits) refl)

  -- data at fault are the stream's fault
  pub body_bad : (body : List ℕ) (fault : PaintFault) → data_of (painting_of p head) picture body ≡ Bad fault →
      update_stream.next p (front ++ body) ≡ Bad (InData fault)
  body_bad body fault e =
      let one = (rect_data_reads p.form p.width p.height head.rect head.encoding).blamed body
      fault (sym (same_data body) ∙ e) in
      let told : update_stream.next p ((front ++ one.0) ++ one.1) ≡ Bad (InData fault) =
      (update_spelled.reads p).blames (InData fault) (front ++ one.0) one.1
      (faults_data p p.left head front one.0 fault awaits.some_left awaits.head_is awaits.on_screen one.3) in
      let whole : front ++ body ≡ (front ++ one.0) ++ one.1 =
      ap (λ (ys : List ℕ). front ++ ys) one.2 ∙ sym (append_assoc front one.0 one.1) in
      rw whole told
