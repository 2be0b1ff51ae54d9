-- The reading of client messages is what RFC 6143 section 7.5 says of their
-- bytes, in both directions.
use Rattle.std.proofs.Common.{◌≡◌, ℕ, ◌-◌, ◌^◌, ◌<◌, inl, inr, Bool, true, false, not, nat_le}
use Rattle.std.proofs.Common.{◌==◌, ◌||◌}
use Rattle.std.proofs.Common.{◌&&◌, if◌then◌else◌, List, [], ◌++◌, Option, Some, None, length}
use Rattle.std.proofs.Common.{slice_index, refl}
use Rattle.std.proofs.Common.{sym, ◌∙◌, ap, append-nil, length-drop, arith}
use Rattle.std.proofs.lemmas.Bool.Decides.{nat_tests}
use Rattle.rfb_pixel.specs.declared.fault.FormatFault.{FormatFault}
use Rattle.rfb_pixel.specs.declared.fault.FormatFault.TheVariants.{BadBits, DepthTooLarge, NotTrueColour, BadMax}
use Rattle.rfb_pixel.specs.Channel.{is_max, width_of}
use Rattle.rfb_pixel.specs.Format.{PixelFormat}
use Rattle.rfb_pixel.specs.FormatBytes.{Spells, number_at, red_at, green_at, blue_at, first_fault, fault_of_fields}
use Rattle.rfb_pixel.proofs.ReadingLaws.{spells-same}
use Rattle.rfb_wire.specs.declared.client_head.ClientHead.{ClientHead}
use Rattle.rfb_wire.specs.declared.client_head.ClientHead.TheVariants.{SetPixelFormat as FormatHead}
use Rattle.rfb_wire.specs.declared.client_head.ClientHead.TheVariants.{SetEncodings as EncodingsHead, Request, Key}
use Rattle.rfb_wire.specs.declared.client_head.ClientHead.TheVariants.{Pointer, CutText}
use Rattle.rfb_wire.specs.Fields.{s32_at}
use Rattle.rfb_wire.specs.ClientHead.{SpellsClientHead, SpellsSetEncodings, SpellsClientCutText, client_head_size}
use Rattle.rfb_wire.specs.stream.Prefix.{Says, Reads}
use Rattle.rfb_wire.specs.stream.Parts.{valued}
use Rattle.rfb_wire.specs.stream.Grammar.{IsSpelled}
use Rattle.rfb_wire.specs.ClientMessage.{ClientMessage, SetPixelFormat, SetEncodings, FramebufferUpdateRequest}
use Rattle.rfb_wire.specs.ClientMessage.{KeyEvent, PointerEvent, ClientCutText, ClientFault, BadFormat, UnknownType}
use Rattle.rfb_wire.specs.ClientMessage.{SpellsNumber, SpellsClientMessage, FaultsClientMessage, client_says}
use Rattle.rfb_wire.specs.ClientMessage.{client_message_size}
use Rattle.rfb_wire.specs.ClientStream.{client_head_of, format_of, format_fault, client_body, client_message}
use Rattle.rfb_wire.specs.ClientStream.{client_stream}
use Rattle.rfb_wire.proofs.ClientLemmas.{client-sizes, client-spelled}
use Rattle.rfb_wire.proofs.stream_laws.PartLaws.{alone, piece_says, done_says, judged_says, made_says, ThenItem}
use Rattle.rfb_wire.proofs.stream_laws.PartLaws.{ThenFault, piece_reads, done_reads, judged_reads, made_reads}
use Rattle.rfb_wire.proofs.stream_laws.RepeatLaws.{items_say, many_says, value_reads, many_reads}
use Rattle.rfb_wire.proofs.stream_laws.HeadedLaws.{IsHeaded, headed_by, headed_says, message_reads, list_follows}
use Rattle.rfb_wire.proofs.stream_laws.HeadedLaws.{list_sized, text_follows, text_sized}

-- ---- heads

client_head_some : (first n : ℕ) → client_head_size first ≡ Some n → 0 < n
client_head_some first n e = grind (arith, nat_tests)

pub client_headed : IsHeaded SpellsClientHead client_head_size client_head_of
client_headed = headed_by client-sizes client-spelled client_head_some

-- ---- formats

-- there is no fault where no check is failed
passes : (t : Bool) (fault : FormatFault) (rest : Option FormatFault) →
    (if t then Some fault else rest) ≡ None → (t ≡ false) × (rest ≡ None)
passes true fault rest e = cc
passes false fault rest e = (refl, e)

not-false : (b : Bool) → not b ≡ false → b ≡ true
not-false true e = refl
not-false false e = cc

three : (a b c : Bool) → (a && b && c) ≡ true → (a ≡ true) × (b ≡ true) × (c ≡ true)
three true true true e = (refl, refl, refl)
three true true false e = cc
three true false c e = cc
three false b c e = cc

max_is : (m : ℕ) → is_max m ≡ true → m ≡ 2 ^ width_of m - 1
max_is m e = grind (arith, nat_tests)

-- sixteen bytes that pass every check spell a format
pub format_spelled : (bytes : List ℕ) → length bytes ≡ 16 → first_fault bytes ≡ None →
    Spells (format_of bytes) bytes
format_spelled bytes size good =
    let bits = slice_index bytes 0 in
    let one = passes (not (bits == 8 || bits == 16 || bits == 32)) BadBits
    (if not (nat_le (slice_index bytes 1) bits) then Some DepthTooLarge
    else if slice_index bytes 3 == 0 then Some NotTrueColour
    else if not (is_max (number_at 4 bytes) && is_max (number_at 6 bytes)
    && is_max (number_at 8 bytes)) then Some BadMax
    else fault_of_fields bits (red_at bytes) (green_at bytes) (blue_at bytes))
    good in
    let two = passes (not (nat_le (slice_index bytes 1) bits)) DepthTooLarge
    (if slice_index bytes 3 == 0 then Some NotTrueColour
    else if not (is_max (number_at 4 bytes) && is_max (number_at 6 bytes)
    && is_max (number_at 8 bytes)) then Some BadMax else
    fault_of_fields bits (red_at bytes) (green_at bytes) (blue_at bytes)) one.1 in
    let three_is =
    passes (slice_index bytes 3 == 0) NotTrueColour
    (if not (is_max (number_at 4 bytes) && is_max (number_at 6 bytes)
    && is_max (number_at 8 bytes)) then Some BadMax else
    fault_of_fields bits (red_at bytes) (green_at bytes) (blue_at bytes)) two.1 in
    let four = passes
    (not (is_max (number_at 4 bytes) && is_max (number_at 6 bytes)
    && is_max (number_at 8 bytes))) BadMax
    (fault_of_fields bits (red_at bytes) (green_at bytes) (blue_at bytes)) three_is.1 in
    let maxima =
    three (is_max (number_at 4 bytes)) (is_max (number_at 6 bytes)) (is_max (number_at 8 bytes))
    (not-false (is_max (number_at 4 bytes) && is_max (number_at 6 bytes)
    && is_max (number_at 8 bytes)) four.0) in
    let colour : (slice_index bytes 3 == 0) ≡ false = three_is.0 in
    record {
      whole = size;
      bits_per_pixel = refl;
      depth = refl;
      big_endian_flag = refl;
      true_colour_flag = grind (arith, nat_tests);
      red_max = max_is (number_at 4 bytes) maxima.0;
      green_max = max_is (number_at 6 bytes) maxima.1;
      blue_max = max_is (number_at 8 bytes) maxima.2;
      red_shift = refl;
      green_shift = refl;
      blue_shift = refl;
    }

fault_none : (fault : Option FormatFault) → format_fault fault ≡ None → fault ≡ None
fault_none None e = refl
fault_none (Some fault) e = cc

-- ---- what comes after a head

number_reads : Reads {F = ClientFault} (valued 4 (λ bytes. s32_at 0 bytes)) (items_say SpellsNumber)
number_reads =
    value_reads 4 (λ bytes. s32_at 0 bytes) SpellsNumber
    (λ number bytes size is. record { size = size; number_is = sym is })
    (λ number bytes h. (h.size, sym h.number_is))

-- what the bytes after a head say
abbrev after_says : ClientHead → Says ClientMessage ClientFault
after_says (FormatHead bytes) =
    judged_says (format_fault (first_fault bytes)) (SetPixelFormat (format_of bytes))
after_says (EncodingsHead count) =
    made_says (λ numbers. SetEncodings numbers) (many_says count (items_say SpellsNumber))
after_says (Request incremental rect) = done_says (FramebufferUpdateRequest incremental rect)
after_says (Key down key) = done_says (KeyEvent down key)
after_says (Pointer buttons x y) = done_says (PointerEvent buttons x y)
after_says (CutText text_length) =
    made_says (λ text. ClientCutText text) (piece_says text_length)

after_reads : (head : ClientHead) → Reads (client_body head) (after_says head)
after_reads (FormatHead bytes) =
    judged_reads (format_fault (first_fault bytes)) (SetPixelFormat (format_of bytes))
after_reads (EncodingsHead count) =
    made_reads (λ numbers. SetEncodings numbers)
    (many_reads count (valued 4 (λ bytes. s32_at 0 bytes)) (items_say SpellsNumber) number_reads)
after_reads (Request incremental rect) = done_reads (FramebufferUpdateRequest incremental rect)
after_reads (Key down key) = done_reads (KeyEvent down key)
after_reads (Pointer buttons x y) = done_reads (PointerEvent buttons x y)
after_reads (CutText text_length) = made_reads (λ text. ClientCutText text) (piece_reads text_length)

-- ---- whole messages

spells_item : (head : ClientHead) (m : ClientMessage) (bytes front back : List ℕ) →
    bytes ≡ front ++ back → SpellsClientHead head front → (after_says head).item m back →
    SpellsClientMessage m bytes
spells_item (FormatHead pixel_format) m bytes front back e s h =
    let good = fault_none (first_fault pixel_format) h.0 in
    let size : length pixel_format ≡ 16 =
    ap length (sym s.pixel_format_is) ∙ length-drop 4 front ∙ omega (arith, s.size) in
    rw (h.1, alone bytes front back e h.2)
    (record {
      pixel_format = pixel_format;
      head = s;
      spelled = format_spelled pixel_format size good;
      passes = good;
    })
spells_item (EncodingsHead count) m bytes front back e s (numbers, is, many) =
    rw is (list_follows SpellsSetEncodings SpellsNumber count numbers bytes front back e s many)
spells_item (Request incremental rect) m bytes front back e s h =
    rw (h.0, alone bytes front back e h.1) s
spells_item (Key down key) m bytes front back e s h = rw (h.0, alone bytes front back e h.1) s
spells_item (Pointer buttons x y) m bytes front back e s h =
    rw (h.0, alone bytes front back e h.1) s
spells_item (CutText text_length) m bytes front back e s (text, is, is_text) =
    rw is (text_follows SpellsClientCutText text_length text bytes front back e s is_text)

spells_fault : (head : ClientHead) (f : ClientFault) (bytes front back : List ℕ) →
    bytes ≡ front ++ back → SpellsClientHead head front → (after_says head).fault f back →
    FaultsClientMessage f bytes
spells_fault (FormatHead pixel_format) f bytes front back e s h =
    told (first_fault pixel_format) refl h.0
  where
    told : (fault : Option FormatFault) → first_fault pixel_format ≡ fault →
        format_fault fault ≡ Some f → FaultsClientMessage f bytes
    told None is e' = cc
    told (Some fault) is e' = let same : BadFormat fault ≡ f =
        cc in rw (sym same, alone bytes front back e h.1) (pixel_format, s, is)
spells_fault (EncodingsHead count) f bytes front back e s h = absurd h.6
spells_fault (Request incremental rect) f bytes front back e s h = absurd h
spells_fault (Key down key) f bytes front back e s h = absurd h
spells_fault (Pointer buttons x y) f bytes front back e s h = absurd h
spells_fault (CutText text_length) f bytes front back e s h = absurd h

item_back : (m : ClientMessage) (bytes : List ℕ) → SpellsClientMessage m bytes →
    ThenItem (headed_says SpellsClientHead (λ first. UnknownType first)) after_says m bytes
item_back (SetPixelFormat format) bytes s =
    let size : length s.pixel_format ≡ 16 =
    ap length (sym s.head.pixel_format_is) ∙ length-drop 4 bytes ∙ omega (arith, s.head.size) in
    let same : format ≡ format_of s.pixel_format =
    spells-same format (format_of s.pixel_format) s.pixel_format s.spelled
    (format_spelled s.pixel_format size s.passes) in (
      FormatHead s.pixel_format,
      bytes,
      [],
      sym (append-nil bytes),
      s.head,
      (ap format_fault s.passes, ap (λ (f : PixelFormat). SetPixelFormat f) same, refl),
    )
item_back (SetEncodings numbers) bytes s =
    (EncodingsHead (length numbers), s.head, s.list, s.whole, s.head_is, (numbers, refl, (refl, s.listed)))
item_back (FramebufferUpdateRequest incremental rect) bytes s =
    (Request incremental rect, bytes, [], sym (append-nil bytes), s, (refl, refl))
item_back (KeyEvent down key) bytes s =
    (Key down key, bytes, [], sym (append-nil bytes), s, (refl, refl))
item_back (PointerEvent buttons x y) bytes s =
    (Pointer buttons x y, bytes, [], sym (append-nil bytes), s, (refl, refl))
item_back (ClientCutText text) bytes s =
    (CutText (length text), s.head, text, s.whole, s.head_is, (text, refl, (refl, refl)))

fault_back : (f : ClientFault) (bytes : List ℕ) → FaultsClientMessage f bytes →
    ThenFault (headed_says SpellsClientHead (λ first. UnknownType first)) after_says f bytes
fault_back (BadFormat fault) bytes (pixel_format, s, bad) =
    inr (FormatHead pixel_format, bytes, [], sym (append-nil bytes), s, (ap format_fault bad, refl))
fault_back (UnknownType message_type) bytes h = inl (message_type, refl, h.0, h.1)

-- the reading gives exactly the messages and the faults that the bytes of a client say
pub client_message_reads : Reads client_message client_says
unfolding client_message
client_message_reads =
    message_reads client_headed after_reads spells_item spells_fault
    (λ first bytes all none. (all, none)) item_back fault_back

-- ---- the stream

message_sized : (m : ClientMessage) (bytes : List ℕ) → SpellsClientMessage m bytes →
    (length bytes ≡ client_message_size m) × (0 < length bytes)
message_sized (SetPixelFormat format) bytes s = (s.head.size, omega (arith, s.head.size))
message_sized (SetEncodings numbers) bytes s =
    list_sized SpellsSetEncodings SpellsNumber 4 4 (omega arith) (λ count head h. h.size)
    (λ number list h. h.size) numbers bytes s
message_sized (FramebufferUpdateRequest incremental rect) bytes s = (s.size, omega (arith, s.size))
message_sized (KeyEvent down key) bytes s = (s.size, omega (arith, s.size))
message_sized (PointerEvent buttons x y) bytes s = (s.size, omega (arith, s.size))
message_sized (ClientCutText text) bytes s =
    text_sized SpellsClientCutText 8 (omega arith) (λ count head h. h.size) text bytes s

fault_some : (f : ClientFault) (bytes : List ℕ) → FaultsClientMessage f bytes → 0 < length bytes
fault_some (BadFormat fault) bytes (pixel_format, s, bad) = omega (arith, s.size)
fault_some (UnknownType message_type) bytes h = rw h.0 (omega arith)

-- the stream of client messages is spelled as RFC 6143 says
pub client_spelled : IsSpelled client_stream (λ _. client_says)
client_spelled = record {
  reads = λ _. client_message_reads;
  sized = λ _ m bytes s. (message_sized m bytes s).0;
  some = λ _ m bytes s. (message_sized m bytes s).1;
  some_fault = λ _ f bytes h. fault_some f bytes h;
}
