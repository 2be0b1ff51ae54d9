-- What goes from a relay to its server.
use Rattle.std.specs.Prelude.{◌≡◌, ℕ, Bool, true, false, nat_lt, ◌&&◌}
use Rattle.std.specs.Prelude.{List, [], ◌∷◌, ◌++◌, Option, Some, None, Result, Ok, Err, take}
use Rattle.rfb_viewer.specs.declared.fault.AppendFault.{AppendFault}
use Rattle.rfb_viewer.specs.declared.fault.AppendFault.TheVariants.{Refused, NoMemory as NoRoomFor}
use Rattle.rfb_picture.specs.declared.rect.Rect.{Rect}
use Rattle.rfb_wire.specs.ClientMessage.{FramebufferUpdateRequest, SpellsClientMessage}
use Rattle.rfb_viewer.specs.Calls.{request_refusal, requested}
use Rattle.rfb_viewer.specs.Messages.{key_message, pointer_message, request_message, text_message}
use Rattle.rfb_viewer.specs.Model.{StandsFor}
use Rattle.rfb_viewer.specs.Viewer.{Viewing, ViewerState}
use Rattle.rfb_viewer.specs.declared.viewer.Viewer.{Viewer}
use Rattle.rfb_viewer.specs.declared.call.Call.{Call}
use Rattle.rfb_viewer.specs.Call.{message_bytes, is_noted}
use Rattle.rfb_session.specs.declared.console.Outcome.{Outcome}
use Rattle.rfb_session.specs.declared.console.Outcome.TheVariants.{NoMemory}
use Rattle.rfb_session.specs.declared.console.desk.Desk.{Desk}
use Rattle.rfb_session.specs.declared.share.event.SeatEvent.{SeatEvent}
use Rattle.rfb_session.specs.declared.share.event.SeatEvent.TheVariants.{Ready, Key, Pointer, CutText}
use Rattle.rfb_session.specs.relay.Desk.{AsksFrom, CallsDesk}

-- ---- what waits for the server

-- these bytes wait too, after what waited; or there was no memory, and all ends
pub data Queues (old bytes new : List ℕ) (ends : Option Outcome) : Type 0 where
  Queued : new ≡ old ++ bytes → Queues old bytes new ends
  NoRoom : new ≡ old → ends ≡ Some NoMemory → Queues old bytes new ends

-- a viewer takes a request for an area: it does not refuse it, the message spells it, and it is noted
pub record TakesRequest (incremental : Bool) (area : Rect) (old new : Viewer) : Type 0 where
  pub taken : (viewing : Viewing) (s : ViewerState) (prefix : List ℕ) → StandsFor viewing old s prefix →
      None ≡ request_refusal s area
  pub spelled : SpellsClientMessage (FramebufferUpdateRequest incremental area) (request_message incremental area)
  pub noted : (viewing : Viewing) (s : ViewerState) (prefix : List ℕ) → StandsFor viewing old s prefix →
      StandsFor viewing new (requested s) prefix

-- a screen that sessions can have
abbrev pub is_shown_size : ℕ → ℕ → Bool
is_shown_size width height =
    (nat_lt 0 width && nat_lt 0 height) && (nat_lt width 4097 && nat_lt height 4097)

-- how all has ended after a call: where there was no memory for its message all ends
abbrev pub ended_by : Result (Unit {0}) AppendFault → Option Outcome → Option Outcome
ended_by (Ok made) before = before
ended_by (Err (Refused fault)) before = before
ended_by (Err NoRoomFor) before = Some NoMemory

-- ---- what viewers do that is passed on

-- the message that becomes of it, RFC 6143 sections 7.5.4 to 7.5.6: a key, a pointer, or as much of a text as is kept,
-- 1,048,576 bytes at most. None becomes of the end of a handshake, and none at all where viewers are muted
abbrev pub passed : Bool → Option SeatEvent → Option (List ℕ)
passed muted None = None
passed muted (Some (Ready shared)) = None
passed true (Some (Key down key)) = None
passed false (Some (Key down key)) = Some (key_message down key)
passed true (Some (Pointer buttons x y)) = None
passed false (Some (Pointer buttons x y)) = Some (pointer_message buttons x y)
passed true (Some (CutText kept text_length)) = None
passed false (Some (CutText kept text_length)) = Some (text_message (take 1048576 kept.items))

-- the server's viewer makes the call that it is the message of, or refuses it, since it has failed; or there is no
-- desk, and nothing is done
pub data PassesOn (message : List ℕ) (a b : Option Desk) (old new : List ℕ) (before ends : Option Outcome) : Type 0
  where
    NoDesk : a ≡ None → b ≡ None → new ≡ old → ends ≡ before → PassesOn message a b old new before ends
    Made : (call : Call) → message_bytes call ≡ message → is_noted call ≡ false →
        (d e : Desk) (result : Result (Unit {0}) AppendFault) → a ≡ Some d → b ≡ Some e →
        CallsDesk d call old result new e → ends ≡ ended_by result before →
        PassesOn message a b old new before ends

abbrev pub Passes : Option (List ℕ) → Option Desk → Option Desk → List ℕ → List ℕ → Option Outcome →
    Option Outcome → Type 0
Passes None a b old new before ends = (b ≡ a) × (new ≡ old) × (ends ≡ before)
Passes (Some message) a b old new before ends = PassesOn message a b old new before ends

-- ---- updates that the server is asked for

-- where the server's picture is shown and all goes on it asks; there may be no memory for it, and all ends
abbrev pub Asks : Bool → Option Outcome → Option Desk → Option Desk → List ℕ → List ℕ →
    Option Outcome → Type 0
Asks false ended a b old new ends = (b ≡ a) × (new ≡ old) × (ends ≡ ended)
Asks true (Some ended) a b old new ends = (b ≡ a) × (new ≡ old) × (ends ≡ Some ended)
Asks true None None b old new ends = (b ≡ None) × (new ≡ old) × (ends ≡ None)
Asks true None (Some a) b old new ends =
    (desk : Desk) × (asked : Result (Unit {0}) AppendFault) × (b ≡ Some desk) × AsksFrom a asked old new desk
    × (ends ≡ ended_by asked None)

-- what is counted of a viewer's doings once these bytes wait
abbrev pub counted_for : List ℕ → ℕ → ℕ
counted_for [] count = 0
counted_for (byte ∷ bytes) count = count
