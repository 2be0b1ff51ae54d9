-- The reading of server messages is what RFC 6143 section 7.6 says of their
-- bytes, in both directions.
use Rattle.std.proofs.Common.{◌≡◌, ℕ, ◌<◌, inl, List, [], ◌++◌, Some, length, refl, sym}
use Rattle.std.proofs.Common.{ap, append-nil, arith}
use Rattle.std.proofs.lemmas.Bool.Decides.{nat_tests}
use Rattle.rfb_wire.specs.declared.server_head.ServerHead.{ServerHead}
use Rattle.rfb_wire.specs.declared.server_head.ServerHead.TheVariants.{Update, ColourMap, Bell as BellHead, CutText}
use Rattle.rfb_wire.specs.ServerHead.{SpellsServerHead, SpellsColourMap, SpellsServerCutText, server_head_size}
use Rattle.rfb_wire.specs.stream.Prefix.{Says, Reads}
use Rattle.rfb_wire.specs.stream.Parts.{valued}
use Rattle.rfb_wire.specs.ServerMessage.{MapColour, ServerMessage, FramebufferUpdate, SetColorMapEntries, Bell}
use Rattle.rfb_wire.specs.ServerMessage.{ServerCutText, ServerFault, UnknownType, SpellsMapColour, SpellsServerMessage}
use Rattle.rfb_wire.specs.ServerMessage.{FaultsServerMessage, server_says, server_message_size, server_head_of}
use Rattle.rfb_wire.specs.ServerMessage.{map_colour_of, server_body, server_message}
use Rattle.rfb_wire.proofs.ServerLemmas.{server-sizes, server-spelled}
use Rattle.rfb_wire.proofs.stream_laws.PartLaws.{alone, piece_says, done_says, made_says, ThenItem, ThenFault}
use Rattle.rfb_wire.proofs.stream_laws.PartLaws.{piece_reads, done_reads, made_reads}
use Rattle.rfb_wire.proofs.stream_laws.RepeatLaws.{items_say, many_says, value_reads, many_reads}
use Rattle.rfb_wire.proofs.stream_laws.HeadedLaws.{IsHeaded, headed_by, headed_says, message_reads, list_follows}
use Rattle.rfb_wire.proofs.stream_laws.HeadedLaws.{list_sized, text_follows, text_sized}

-- ---- heads

server_head_some : (first n : ℕ) → server_head_size first ≡ Some n → 0 < n
server_head_some first n e = grind (arith, nat_tests)

pub server_headed : IsHeaded SpellsServerHead server_head_size server_head_of
server_headed = headed_by server-sizes server-spelled server_head_some

-- ---- what comes after a head

colour_reads : Reads {F = ServerFault} (valued 6 map_colour_of) (items_say SpellsMapColour)
colour_reads =
    value_reads 6 map_colour_of SpellsMapColour
    (λ colour bytes size is. record {
      size = size;
      red_is = sym (ap (λ (c : MapColour). c.red) is);
      green_is = sym (ap (λ (c : MapColour). c.green) is);
      blue_is = sym (ap (λ (c : MapColour). c.blue) is);
    })
    (λ colour bytes h. (
      h.size,
      λ k. record {
        red = sym h.red_is k;
        green = sym h.green_is k;
        blue = sym h.blue_is k;
      },
    ))

-- what the bytes after a head say
abbrev after_says : ServerHead → Says ServerMessage ServerFault
after_says (Update count) = done_says (FramebufferUpdate count)
after_says (ColourMap first count) =
    made_says (λ colours. SetColorMapEntries first colours)
    (many_says count (items_say SpellsMapColour))
after_says BellHead = done_says Bell
after_says (CutText text_length) =
    made_says (λ text. ServerCutText text) (piece_says text_length)

after_reads : (head : ServerHead) → Reads (server_body head) (after_says head)
after_reads (Update count) = done_reads (FramebufferUpdate count)
after_reads (ColourMap first count) =
    made_reads (λ colours. SetColorMapEntries first colours)
    (many_reads count (valued 6 map_colour_of) (items_say SpellsMapColour) colour_reads)
after_reads BellHead = done_reads Bell
after_reads (CutText text_length) = made_reads (λ text. ServerCutText text) (piece_reads text_length)

-- ---- whole messages

spells_item : (head : ServerHead) (m : ServerMessage) (bytes front back : List ℕ) →
    bytes ≡ front ++ back → SpellsServerHead head front → (after_says head).item m back →
    SpellsServerMessage m bytes
spells_item (Update count) m bytes front back e s h = rw (h.0, alone bytes front back e h.1) s
spells_item (ColourMap first count) m bytes front back e s (colours, is, many) =
    rw is (list_follows (SpellsColourMap first) SpellsMapColour count colours bytes front back e s many)
spells_item BellHead m bytes front back e s h = rw (h.0, alone bytes front back e h.1) s
spells_item (CutText text_length) m bytes front back e s (text, is, is_text) =
    rw is (text_follows SpellsServerCutText text_length text bytes front back e s is_text)

-- no fault comes after a head
spells_fault : (head : ServerHead) (f : ServerFault) (back : List ℕ) →
    (after_says head).fault f back → ⊥
spells_fault (Update count) f back h = h
spells_fault (ColourMap first count) f back h = h.6
spells_fault BellHead f back h = h
spells_fault (CutText text_length) f back h = h

item_back : (m : ServerMessage) (bytes : List ℕ) → SpellsServerMessage m bytes →
    ThenItem (headed_says SpellsServerHead (λ first. UnknownType first)) after_says m bytes
item_back (FramebufferUpdate count) bytes s =
    (Update count, bytes, [], sym (append-nil bytes), s, (refl, refl))
item_back (SetColorMapEntries first colours) bytes s = (
  ColourMap first (length colours),
  s.head,
  s.list,
  s.whole,
  s.head_is,
  (colours, refl, (refl, s.listed)),
)
item_back Bell bytes s = (BellHead, bytes, [], sym (append-nil bytes), s, (refl, refl))
item_back (ServerCutText text) bytes s =
    (CutText (length text), s.head, text, s.whole, s.head_is, (text, refl, (refl, refl)))

-- the reading gives exactly the messages and the faults that the bytes of a server say
pub server_message_reads : Reads server_message server_says
unfolding server_message
server_message_reads =
    message_reads server_headed after_reads spells_item
    (λ head f bytes front back e s h. absurd (spells_fault head f back h))
    (λ first bytes all none. (all, none)) item_back unknown
  where
    unknown : (f : ServerFault) (bytes : List ℕ) → FaultsServerMessage f bytes →
        ThenFault (headed_says SpellsServerHead (λ first. UnknownType first)) after_says f bytes
    unknown (UnknownType message_type) bytes h = inl (message_type, refl, h.0, h.1)

-- ---- sizes

-- a message has its size, and a byte at least
pub server_message_sized : (m : ServerMessage) (bytes : List ℕ) → SpellsServerMessage m bytes →
    (length bytes ≡ server_message_size m) × (0 < length bytes)
server_message_sized (FramebufferUpdate count) bytes s = (s.size, omega (arith, s.size))
server_message_sized (SetColorMapEntries first colours) bytes s =
    list_sized (SpellsColourMap first) SpellsMapColour 6 6 (omega arith) (λ count head h. h.size)
    (λ colour list h. h.size) colours bytes s
server_message_sized Bell bytes s = (s.size, omega (arith, s.size))
server_message_sized (ServerCutText text) bytes s =
    text_sized SpellsServerCutText 8 (omega arith) (λ count head h. h.size) text bytes s

-- a fault has a byte at least
pub server_fault_some : (f : ServerFault) (bytes : List ℕ) → FaultsServerMessage f bytes →
    0 < length bytes
server_fault_some (UnknownType message_type) bytes h = rw h.0 (omega arith)
