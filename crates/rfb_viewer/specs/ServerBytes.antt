-- All that a server sends, RFC 6143 sections 7.1 to 7.6: its handshake, and then its messages,
-- those of updates with their rectangles.
use Rattle.std.specs.Prelude.{ℕ, zero, suc, ◌==◌, Bool, false, List, [], ◌∷◌, Option, Some, None}
use Rattle.rfb_pixel.specs.Format.{PixelFormat}
use Rattle.rfb_wire.specs.stream.Prefix.{Says}
use Rattle.rfb_wire.specs.stream.Grammar.{Grammar}
use Rattle.rfb_wire.specs.stream.Sequel.{Stage, First, Second, Two, sequel, sequel_says}
use Rattle.rfb_wire.specs.stream.PendingBytes.{pending_in}
use Rattle.rfb_codec.specs.UpdateStream.{UpdatePoint, UpdateItem, UpdateFault, update_stream, update_says}
use Rattle.rfb_codec.specs.PendingBytes.{update_pending}
use Rattle.rfb_hello.specs.declared.fault.HelloFault.{HelloFault}
use Rattle.rfb_hello.specs.ServerHandshake.{ServerPoint, AwaitsInit, AwaitsName, ServerItem, ServerInit, Name}
use Rattle.rfb_hello.specs.ServerHandshake.{server_item_says}
use Rattle.rfb_hello.specs.ServerItems.{server_handshake}
use Rattle.rfb_hello.specs.PendingBytes.{server_handshake_pending}
use Rattle.rfb_hello.specs.ViewerEnd.{ViewerSetup}
use Rattle.rfb_viewer.specs.declared.fault.ViewerFault.{ViewerFault}
use Rattle.rfb_viewer.specs.Fault.{fault_of_hello, fault_of_update}

-- where a server's bytes are: in the handshake, or after it, perhaps inside an update
abbrev pub ServerAt : Type 0
ServerAt = Stage ServerPoint UpdatePoint

-- what a server sends: a step of the handshake; or a message, of an update its head, or a rectangle
abbrev pub FromServer : Type 0
FromServer = Stage ServerItem UpdateItem

-- between two messages, on a screen of that size, where updates are in that format
abbrev pub first_between : PixelFormat → ℕ → ℕ → UpdatePoint
first_between form width height = record { width = width; height = height; form = form; left = 0 }

-- ServerInit leads to the messages where no name follows it. Where one does, the name leads there.
-- No other step does
abbrev pub to_updates : PixelFormat → ServerPoint → ServerItem → Option UpdatePoint
to_updates form (AwaitsInit version) (ServerInit width height zero) =
    Some (first_between form width height)
to_updates form (AwaitsInit version) (ServerInit width height (suc n)) = None
to_updates form (AwaitsName version width height name_length) (Name text) =
    Some (first_between form width height)
to_updates form point item = None

-- the handshake, with a viewer of that setup, and the messages after it, where the viewer sets that
-- format first
abbrev pub server_two : PixelFormat → ViewerSetup →
    Two ServerPoint ServerItem HelloFault UpdatePoint UpdateItem UpdateFault ViewerFault
server_two form setup = record {
  first = server_handshake setup.limit setup.max_places;
  leads = to_updates form;
  second = update_stream;
  first_fault = fault_of_hello;
  second_fault = fault_of_update;
}

-- all that a server sends
abbrev pub server_bytes : PixelFormat → ViewerSetup → Grammar ServerAt FromServer ViewerFault
server_bytes form setup = sequel (server_two form setup)

-- what its bytes say at each point
abbrev pub server_bytes_say : PixelFormat → ViewerSetup → ServerAt → Says FromServer ViewerFault
server_bytes_say form setup =
    sequel_says (server_two form setup) (server_item_says setup.max_places) update_says

-- how many of its bytes are pending: those of the item under way after its last whole piece
abbrev pub server_bytes_pending : ServerAt → List ℕ → ℕ
server_bytes_pending at bytes = pending_in server_handshake_pending update_pending at bytes

-- it is between two messages: the handshake is done, no update is under way, and nothing came of
-- the next item
abbrev pub is_between : ServerAt → List ℕ → Bool
is_between (First point) bytes = false
is_between (Second p) [] = p.left == 0
is_between (Second p) (first ∷ rest) = false
