-- All that a client sends, RFC 6143 sections 7.1 to 7.5: its handshake, and then its messages.
use Rattle.std.specs.Prelude.{ℕ, Bool, true, false, List, [], ◌∷◌, Option, Some, None, ⊤}
use Rattle.rfb_wire.specs.stream.Prefix.{Says}
use Rattle.rfb_wire.specs.stream.Grammar.{Grammar}
use Rattle.rfb_wire.specs.stream.Sequel.{Stage, First, Second, Two, sequel, sequel_says}
use Rattle.rfb_wire.specs.stream.PendingBytes.{pending_in}
use Rattle.rfb_wire.specs.MessagePieces.{client_pending}
use Rattle.rfb_wire.specs.ClientMessage.{ClientMessage, ClientFault, client_says}
use Rattle.rfb_wire.specs.ClientStream.{client_stream}
use Rattle.rfb_hello.specs.declared.version.Version.{Version}
use Rattle.rfb_hello.specs.declared.fault.HelloFault.{HelloFault}
use Rattle.rfb_hello.specs.ClientHandshake.{ClientPoint, AwaitsInit, ClientItem, ClientInit, client_handshake}
use Rattle.rfb_hello.specs.ClientHandshake.{client_item_says}
use Rattle.rfb_hello.specs.PendingBytes.{client_handshake_pending}
use Rattle.rfb_server.specs.declared.fault.ServerFault.{ServerFault}
use Rattle.rfb_server.specs.Fault.{fault_of_hello, fault_of_message}

-- where a client's bytes are: in the handshake, or between two messages
abbrev pub ClientAt : Type 0
ClientAt = Stage ClientPoint ⊤

-- what a client sends: a step of the handshake, or a message
abbrev pub FromClient : Type 0
FromClient = Stage ClientItem ClientMessage

-- ClientInit leads to the messages, and no other step does
abbrev pub to_messages : ClientPoint → ClientItem → Option ⊤
to_messages (AwaitsInit version) (ClientInit shared) = Some tt
to_messages point item = None

-- the handshake, where the server has offered a version, and the messages after it
abbrev pub client_two : Version →
    Two ClientPoint ClientItem HelloFault ⊤ ClientMessage ClientFault ServerFault
client_two offer = record {
  first = client_handshake offer;
  leads = to_messages;
  second = client_stream;
  first_fault = fault_of_hello;
  second_fault = fault_of_message;
}

-- all that a client sends
abbrev pub client_bytes : Version → Grammar ClientAt FromClient ServerFault
client_bytes offer = sequel (client_two offer)

-- what its bytes say at each point
abbrev pub client_bytes_say : Version → ClientAt → Says FromClient ServerFault
client_bytes_say offer = sequel_says (client_two offer) (client_item_says offer) (λ _. client_says)

-- how many of its bytes are pending: those of the item under way after its last whole piece
abbrev pub client_bytes_pending : ClientAt → List ℕ → ℕ
client_bytes_pending at bytes =
    pending_in client_handshake_pending (λ _ others. client_pending others) at bytes

-- the bytes end between two messages, after the handshake
abbrev pub is_between : ClientAt → List ℕ → Bool
is_between (First point) bytes = false
is_between (Second between) [] = true
is_between (Second between) (first ∷ rest) = false
