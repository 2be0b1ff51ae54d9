-- A stream of two grammars, computed: messages of a client, which a key leads over to
-- further messages of a client.
use Rattle.std.proofs.Common.{◌≡◌, ℕ, [], ◌∷◌, Option, Some, None, true, refl, ap}
use Rattle.std.specs.Prelude.{⊤}
use Rattle.rfb_wire.specs.stream.Grammar.{ReadsAll, past_all}
use Rattle.rfb_wire.specs.stream.End.{Machine, IsMachine, Takes}
use Rattle.rfb_wire.specs.ClientMessage.{ClientMessage, KeyEvent, PointerEvent, ClientFault, client_says}
use Rattle.rfb_wire.specs.ClientStream.{client_message, client_stream}
use Rattle.rfb_wire.specs.stream.Sequel.{Stage, First, Second, in_both, Two, sequel, sequel_says}
use Rattle.rfb_wire.specs.stream.Both.{first_point, end_at, GoesAsFirst}
use Rattle.rfb_wire.proofs.stream_laws.GrammarLaws.{spelled_grammar}
use Rattle.rfb_wire.proofs.stream_laws.SequelLaws.{sequel_spelled}
use Rattle.rfb_wire.proofs.ClientStreamLaws.{client_spelled}
use Rattle.rfb_wire.proofs.stream_laws.BothLaws.{at_first}

-- a key leads over
abbrev key_leads : ClientMessage → Option ⊤
key_leads (KeyEvent down key) = Some tt
key_leads message = None

-- the first's end reports each of its messages; only a key is an event of the whole
abbrev key_of : ClientMessage → Option ℕ
key_of (KeyEvent down key) = Some key
key_of message = None

abbrev keyed : Two ⊤ ClientMessage ClientFault ⊤ ClientMessage ClientFault ClientFault
keyed = record {
  first = client_stream;
  leads = λ _ message. key_leads message;
  second = client_stream;
  first_fault = λ fault. fault;
  second_fault = λ fault. fault;
}

abbrev keyed_told : Stage ⊤ ⊤ → Stage ClientMessage ClientMessage → Option ℕ
keyed_told (First p) (First message) = key_of message
keyed_told point item = None

abbrev keyed_end : Machine (Stage ⊤ ⊤) (Stage ⊤ ⊤) (Stage ClientMessage ClientMessage) ClientFault ℕ
keyed_end = end_at (sequel keyed) keyed_told

keyed_machine : IsMachine keyed_end
keyed_machine = record {
  laws = spelled_grammar (sequel keyed) (sequel_says keyed (λ _. client_says) (λ _. client_says))
      (sequel_spelled keyed (λ _. client_says) (λ _. client_says) client_spelled client_spelled);
  past = λ s i. refl;
}

-- a pointer, a key that leads over, and a pointer of the second
items_of_both : ReadsAll (sequel keyed) (First tt)
    (5 ∷ 1 ∷ 0 ∷ 2 ∷ 0 ∷ 3 ∷ 4 ∷ 1 ∷ 0 ∷ 0 ∷ 0 ∷ 0 ∷ 0 ∷ 97 ∷ 5 ∷ 0 ∷ 0 ∷ 4 ∷ 0 ∷ 5 ∷ 9 ∷ [])
    (in_both (PointerEvent 1 2 3 ∷ []) (KeyEvent true 97) (PointerEvent 0 4 5 ∷ [])) (9 ∷ [])
unfolding client_message
items_of_both = (
  4 ∷ 1 ∷ 0 ∷ 0 ∷ 0 ∷ 0 ∷ 0 ∷ 97 ∷ 5 ∷ 0 ∷ 0 ∷ 4 ∷ 0 ∷ 5 ∷ 9 ∷ [],
  refl,
  (5 ∷ 0 ∷ 0 ∷ 4 ∷ 0 ∷ 5 ∷ 9 ∷ [], refl, (9 ∷ [], refl, refl)),
)

point_of_second : past_all (sequel keyed) (First tt)
    (First (PointerEvent 1 2 3) ∷ First (KeyEvent true 97) ∷ []) ≡ Second tt
point_of_second = refl

-- the premises of the law of the first part are met
keys_go_as_first : GoesAsFirst keyed keyed_end (end_at client_stream (λ _ message. Some message))
    (λ point. first_point point) key_of
keys_go_as_first =
    at_first keyed keyed_end (λ _ message. Some message) key_of keyed_machine refl told
    (λ p i e. absurd cc)
  where
    told : (s : Stage ⊤ ⊤) (p : ⊤) (message : ClientMessage) → s ≡ First p →
        keyed_told s (First message) ≡ key_of message
    told s p message at = ap (λ (r : Stage ⊤ ⊤). keyed_told r (First message)) at

-- the whole takes a pointer where its part does, and reports nothing
pointer_taken : Takes (end_at client_stream (λ _ message. Some message)) tt (5 ∷ 1 ∷ [])
    (0 ∷ 2 ∷ 0 ∷ 3 ∷ []) (Some (PointerEvent 1 2 3)) tt []
unfolding client_message
pointer_taken =
    record {
      items = PointerEvent 1 2 3 ∷ [];
      reads = ([], refl, refl);
      state = refl;
      ends = refl;
      partial = refl;
      whole = refl;
    }

pointer_taken_by_both : Takes keyed_end (First tt) (5 ∷ 1 ∷ []) (0 ∷ 2 ∷ 0 ∷ 3 ∷ []) None (First tt)
    []
unfolding client_message
pointer_taken_by_both =
    record {
      items = First (PointerEvent 1 2 3) ∷ [];
      reads = ([], refl, refl);
      state = refl;
      ends = refl;
      partial = refl;
      whole = tt;
    }
