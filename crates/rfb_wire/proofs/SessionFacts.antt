-- Sessions of a client's bytes, computed: a key, and then a type that no message has, split in two
-- ways.
use Rattle.std.proofs.Common.{◌≡◌, ℕ, List, [], ◌∷◌, ◌++◌, Some, None, true, refl, ap, arith}
use Rattle.std.specs.Prelude.{⊤}
use Rattle.rfb_wire.specs.ClientMessage.{ClientMessage, KeyEvent, PointerEvent, ClientFault, UnknownType}
use Rattle.rfb_wire.specs.ClientStream.{client_message, client_stream}
use Rattle.rfb_wire.specs.stream.End.{Machine, Takes, Refuses, Call, bytes_of, events_of}
use Rattle.rfb_wire.specs.stream.Both.{end_at}
use Rattle.rfb_wire.specs.stream.Session.{IsSession, DeliversAll}

-- an end that reports each message
abbrev teller : Machine ⊤ ⊤ ClientMessage ClientFault ClientMessage
teller = end_at client_stream (λ _ message. Some message)

-- the letter a, pressed
abbrev key : List ℕ
key = 4 ∷ 1 ∷ 0 ∷ 0 ∷ 0 ∷ 0 ∷ 0 ∷ 97 ∷ []

-- ---- a key in one slice, and then the fault in another

abbrev at_once : List (Call ClientMessage)
at_once = record { bytes = key; event = Some (KeyEvent true 97) } ∷ []

-- it is told at its last byte, whatever part of it came before
key_taken : (front back : List ℕ) → front ++ back ≡ key →
    Takes teller tt front back (Some (KeyEvent true 97)) tt []
unfolding client_message
key_taken front back whole = record {
  items = KeyEvent true 97 ∷ [];
  reads = ([], ap client_message whole, refl);
  state = refl;
  ends = refl;
  partial = refl;
  whole = refl;
}

type_refused : Refuses teller tt [] (1 ∷ []) (UnknownType 1)
unfolding client_message
type_refused = record { items = []; rest = 1 ∷ []; reads = refl; quiet = refl; bad = refl }

told_at_once : IsSession teller tt [] at_once (1 ∷ []) (Some (UnknownType 1))
told_at_once = (tt, [], (tt, [], key_taken [] key refl, (refl, refl)), type_refused)

-- ---- the key's first three bytes, its others, and the fault with a byte after it

abbrev in_parts : List (Call ClientMessage)
in_parts = record {
  bytes = 4 ∷ 1 ∷ 0 ∷ [];
  event = None;
} ∷ record {
  bytes = 0 ∷ 0 ∷ 0 ∷ 0 ∷ 97 ∷ [];
  event = Some (KeyEvent true 97);
} ∷ []

part_taken : Takes teller tt [] (4 ∷ 1 ∷ 0 ∷ []) None tt (4 ∷ 1 ∷ 0 ∷ [])
unfolding client_message
part_taken =
    record { items = []; reads = refl; state = refl; ends = refl; partial = refl; whole = tt }

others_taken : Takes teller tt (4 ∷ 1 ∷ 0 ∷ []) (0 ∷ 0 ∷ 0 ∷ 0 ∷ 97 ∷ []) (Some (KeyEvent true 97))
    tt []
others_taken = key_taken (4 ∷ 1 ∷ 0 ∷ []) (0 ∷ 0 ∷ 0 ∷ 0 ∷ 97 ∷ []) refl

more_refused : Refuses teller tt [] (1 ∷ 7 ∷ []) (UnknownType 1)
unfolding client_message
more_refused = record { items = []; rest = 1 ∷ 7 ∷ []; reads = refl; quiet = refl; bad = refl }

told_in_parts : IsSession teller tt [] in_parts (1 ∷ 7 ∷ []) (Some (UnknownType 1))
told_in_parts =
    (tt, [], (tt, 4 ∷ 1 ∷ 0 ∷ [], part_taken, (tt, [], others_taken, (refl, refl))), more_refused)

-- the bytes are the same but for the one after the fault, and so are the events
same_bytes : (bytes_of at_once ++ 1 ∷ []) ++ 7 ∷ [] ≡ bytes_of in_parts ++ 1 ∷ 7 ∷ []
same_bytes = refl

same_events : events_of at_once ≡ events_of in_parts
same_events = refl

-- ---- a queue of a key and the pointer: the key and a byte of the pointer are delivered

parts_delivered : DeliversAll teller tt [] (KeyEvent true 97 ∷ PointerEvent 1 258 3 ∷ [])
    (key ++ 5 ∷ []) (1 ∷ 1 ∷ 2 ∷ 0 ∷ 3 ∷ []) (KeyEvent true 97 ∷ []) tt (5 ∷ [])
unfolding client_message
parts_delivered = record {
  done = KeyEvent true 97 ∷ [];
  left = PointerEvent 1 258 3 ∷ [];
  queue_is = refl;
  state = refl;
  ends = refl;
  reads = ([], refl, refl);
  count = refl;
  within = omega arith;
}
