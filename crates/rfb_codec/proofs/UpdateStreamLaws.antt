-- The reading of all that a server sends is what its bytes say, in both directions.
use Rattle.std.proofs.Common.{◌≡◌, ℕ, zero, suc, ◌<◌, ◌+◌, inl, inr, List, ◌++◌, length, refl, sym, subst, ◌∙◌, ap}
use Rattle.std.proofs.Common.{arith, length-append}
use Rattle.rfb_wire.specs.declared.rect_head.RectHead.{RectHead}
use Rattle.rfb_wire.specs.RectHead.{SpellsRectHead, IsOnScreen}
use Rattle.rfb_wire.specs.RectStream.{rect_head, rect_head_says}
use Rattle.rfb_wire.specs.stream.Prefix.{Says, Reads, Same}
use Rattle.rfb_wire.specs.stream.Parts.{kept, renamed}
use Rattle.rfb_wire.specs.stream.Grammar.{IsSpelled, IsGrammar}
use Rattle.rfb_wire.specs.ServerMessage.{server_says, server_message}
use Rattle.rfb_wire.proofs.stream_laws.PartLaws.{kept_says, then_says, then_reads, same_reads}
use Rattle.rfb_wire.proofs.stream_laws.RepeatLaws.{kept_reads, renamed_says, renamed_reads}
use Rattle.rfb_wire.proofs.RectStreamLaws.{rect_head_reads}
use Rattle.rfb_wire.proofs.ServerMessageLaws.{server_message_reads, server_message_sized, server_fault_some}
use Rattle.rfb_wire.proofs.stream_laws.GrammarLaws.{spelled_grammar}
use Rattle.rfb_codec.specs.declared.fault.PaintFault.{PaintFault}
use Rattle.rfb_codec.specs.RectData.{FaultsData, data_says, rect_data}
use Rattle.rfb_codec.specs.UpdateStream.{UpdatePoint, UpdateItem, Message, Rectangle, UpdateFault, InMessage, InHead}
use Rattle.rfb_codec.specs.UpdateStream.{InData, IsBody, SpellsNext, FaultsNext, update_says, rectangle, next_item}
use Rattle.rfb_codec.specs.UpdateStream.{update_item_size, update_stream}
use Rattle.rfb_codec.proofs.RectDataLaws.{rect_data_reads}

-- ---- messages

abbrev messages_say : Says UpdateItem UpdateFault
messages_say = renamed_says (λ message. Message message) (λ fault. InMessage fault) server_says

-- what bytes say where `left` rectangles are left
abbrev next_says : UpdatePoint → ℕ → Says UpdateItem UpdateFault
next_says p left = record { item = SpellsNext p left; fault = FaultsNext p left }

message_same : (p : UpdatePoint) → Same messages_say (next_says p zero)
message_same p = record { item = item; fault = fault; item_back = item_back; fault_back = fault_back }
  where
    item : (i : UpdateItem) (bytes : List ℕ) → messages_say.item i bytes → SpellsNext p zero i bytes
    item (Message message) bytes (k, is, spelled) = let same : message ≡ k = cc in rw same spelled
    item (Rectangle head body) bytes (k, is, spelled) = cc

    item_back : (i : UpdateItem) (bytes : List ℕ) → SpellsNext p zero i bytes → messages_say.item i bytes
    item_back (Message message) bytes spelled = (message, refl, spelled)
    item_back (Rectangle head body) bytes none = absurd none

    fault : (g : UpdateFault) (bytes : List ℕ) → messages_say.fault g bytes → FaultsNext p zero g bytes
    fault (InMessage f) bytes (k, is, told) = let same : f ≡ k = cc in rw same told
    fault (InHead f) bytes (k, is, told) = cc
    fault (InData f) bytes (k, is, told) = cc

    fault_back : (g : UpdateFault) (bytes : List ℕ) → FaultsNext p zero g bytes → messages_say.fault g bytes
    fault_back (InMessage f) bytes told = (f, refl, told)
    fault_back (InHead f) bytes none = absurd none
    fault_back (InData f) bytes none = absurd none

-- ---- rectangles

abbrev head_says : UpdatePoint → Says RectHead UpdateFault
head_says p = renamed_says (λ head. head) (λ fault. InHead fault) (rect_head_says p.width p.height)

abbrev body_says : UpdatePoint → RectHead → Says UpdateItem UpdateFault
body_says p head = renamed_says (λ body. Rectangle head body) (λ fault. InData fault)
    (kept_says (data_says p.form p.width p.height head.rect head.encoding))

abbrev rectangle_parts : UpdatePoint → Says UpdateItem UpdateFault
rectangle_parts p = then_says (head_says p) (body_says p)

rectangle_same : (p : UpdatePoint) (left : ℕ) → Same (rectangle_parts p) (next_says p (suc left))
rectangle_same p left = record { item = item; fault = fault; item_back = item_back; fault_back = fault_back }
  where
    item : (i : UpdateItem) (bytes : List ℕ) → (rectangle_parts p).item i bytes → SpellsNext p (suc left) i bytes
    item (Message message) bytes (h, front, back, whole, told, (body, is, kept_is)) = cc
    item (Rectangle head body) bytes
        (h, front, back, whole, (k, same_head, (spelled, on)), (b, is, (back_is, contents))) =
        let heads : h ≡ head = cc in
        let bodies : b ≡ body = cc in
        let after : bytes ≡ front ++ body = whole ∙ ap (λ (ys : List ℕ). front ++ ys) (back_is ∙ bodies) in
        let named : k ≡ head = sym same_head ∙ heads in
        let head_is : SpellsRectHead head front = subst (λ (r : RectHead). SpellsRectHead r front) named spelled in
        let on_is : IsOnScreen p.width p.height head.rect =
        subst (λ (r : RectHead). IsOnScreen p.width p.height r.rect) named on in
        let body_is : IsBody p h body = subst (λ (ys : List ℕ). IsBody p h ys) bodies contents in
        record {
          front = front;
          whole = after;
          head_is = head_is;
          on_screen = on_is;
          body_is = subst (λ (r : RectHead). IsBody p r body) heads body_is;
        }

    item_back : (i : UpdateItem) (bytes : List ℕ) → SpellsNext p (suc left) i bytes → (rectangle_parts p).item i bytes
    item_back (Message message) bytes none = absurd none
    item_back (Rectangle head body) bytes s =
        (head, s.front, body, s.whole, (head, refl, (s.head_is, s.on_screen)), (body, refl, (refl, s.body_is)))

    fault : (g : UpdateFault) (bytes : List ℕ) → (rectangle_parts p).fault g bytes → FaultsNext p (suc left) g bytes
    fault (InMessage f) bytes (inl (k, is, told)) = cc
    fault (InHead f) bytes (inl (k, is, told)) = let same : f ≡ k = cc in rw same told
    fault (InData f) bytes (inl (k, is, told)) = cc
    fault (InMessage f) bytes (inr (h, front, back, whole, head_is, (k, is, told))) = cc
    fault (InHead f) bytes (inr (h, front, back, whole, head_is, (k, is, told))) = cc
    fault (InData f) bytes (inr (h, front, back, whole, (r, same_head, (spelled, on)), (k, is, told))) =
        let same : f ≡ k = cc in
        record {
          head = h;
          front = front;
          back = back;
          whole = whole;
          head_is = rw same_head spelled;
          on_screen = rw same_head on;
          back_is =
              subst (λ (j : PaintFault). FaultsData p.form p.width p.height h.rect h.encoding j back) (sym same) told;
        }

    fault_back : (g : UpdateFault) (bytes : List ℕ) → FaultsNext p (suc left) g bytes →
        (rectangle_parts p).fault g bytes
    fault_back (InMessage f) bytes none = absurd none
    fault_back (InHead f) bytes told = inl (f, refl, told)
    fault_back (InData f) bytes s =
        inr (s.head, s.front, s.back, s.whole, (s.head, refl, (s.head_is, s.on_screen)), (f, refl, s.back_is))

rectangle_reads : (p : UpdatePoint) (left : ℕ) → Reads (rectangle p) (next_says p (suc left))
rectangle_reads p left =
    same_reads (rectangle p) (rectangle_parts p) (next_says p (suc left)) (rectangle_same p left)
    (then_reads (renamed (λ head. head) (λ fault. InHead fault) (rect_head p.width p.height))
    (λ head. renamed (λ body. Rectangle head body) (λ fault. InData fault)
    (kept (rect_data p.form p.width p.height head.rect head.encoding)))
    (head_says p) (body_says p)
    (renamed_reads (λ head. head) (λ fault. InHead fault) (rect_head p.width p.height) (rect_head_says p.width p.height)
    (rect_head_reads p.width p.height))
    (λ head. renamed_reads (λ body. Rectangle head body) (λ fault. InData fault) (kept (rect_data p.form p.width
    p.height head.rect head.encoding)) (kept_says (data_says p.form p.width p.height head.rect head.encoding))
    (kept_reads (rect_data p.form p.width p.height head.rect head.encoding) (data_says p.form p.width p.height head.rect
    head.encoding) (rect_data_reads p.form p.width p.height head.rect head.encoding))))

next_reads : (p : UpdatePoint) (left : ℕ) → Reads (next_item p left) (next_says p left)
next_reads p zero = same_reads (next_item p zero) messages_say (next_says p zero) (message_same p) (renamed_reads
    (λ message. Message message) (λ fault. InMessage fault) server_message server_says server_message_reads)
next_reads p (suc left) = rectangle_reads p left

-- ---- sizes

next_sized : (p : UpdatePoint) (left : ℕ) (i : UpdateItem) (bytes : List ℕ) → SpellsNext p left i bytes →
    (length bytes ≡ update_item_size i) × (0 < length bytes)
next_sized p zero (Message message) bytes s = server_message_sized message bytes s
next_sized p zero (Rectangle head body) bytes none = absurd none
next_sized p (suc left) (Message message) bytes none = absurd none
next_sized p (suc left) (Rectangle head body) bytes s =
    let all : length bytes ≡ length s.front + length body = ap length s.whole ∙ length-append s.front body in
    (omega (arith, s.head_is.size, all), omega (arith, s.head_is.size, all))

next_fault_some : (p : UpdatePoint) (left : ℕ) (g : UpdateFault) (bytes : List ℕ) →
    FaultsNext p left g bytes → 0 < length bytes
next_fault_some p zero (InMessage f) bytes told = server_fault_some f bytes told
next_fault_some p zero (InHead f) bytes none = absurd none
next_fault_some p zero (InData f) bytes none = absurd none
next_fault_some p (suc left) (InMessage f) bytes none = absurd none
next_fault_some p (suc left) (InHead f) bytes told = omega (arith, told.0)
next_fault_some p (suc left) (InData f) bytes s =
    let all : length bytes ≡ length s.front + length s.back = ap length s.whole ∙ length-append s.front s.back in
    omega (arith, s.head_is.size, all)

-- ---- the stream

-- at each point the grammar reads what bytes say there
pub update_spelled : IsSpelled update_stream update_says
unfolding update_stream
update_spelled = record {
  reads = λ p. next_reads p p.left;
  sized = λ p i bytes s. (next_sized p p.left i bytes s).0;
  some = λ p i bytes s. (next_sized p p.left i bytes s).1;
  some_fault = λ p g bytes told. next_fault_some p p.left g bytes told;
}

-- so it has the laws of grammars
pub update_grammar : IsGrammar update_stream
update_grammar = spelled_grammar update_stream update_says update_spelled
