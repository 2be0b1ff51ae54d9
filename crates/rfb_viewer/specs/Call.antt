-- Calls of a viewer's owner, as values: the message that each becomes, when it is refused, and what
-- it makes of the viewer's state.
use Rattle.std.specs.Prelude.{ℕ, Bool, true, false, List, [], ◌++◌, map, Option, Some, None, Result, Ok, Err}
use Rattle.rfb_wire.specs.Encoding.{number_of}
use Rattle.rfb_wire.specs.ClientMessage.{ClientMessage, SetPixelFormat, SetEncodings as EncodingsMessage}
use Rattle.rfb_wire.specs.ClientMessage.{FramebufferUpdateRequest, KeyEvent, PointerEvent, ClientCutText}
use Rattle.rfb_viewer.specs.declared.call.Call.{Call}
use Rattle.rfb_viewer.specs.declared.call.Call.TheVariants.{Request, SetFormat, SetEncodings}
use Rattle.rfb_viewer.specs.declared.call.Call.TheVariants.{Key, Pointer, CutText}
use Rattle.rfb_viewer.specs.declared.call.Message.{Message}
use Rattle.rfb_viewer.specs.declared.fault.AppendFault.{AppendFault}
use Rattle.rfb_viewer.specs.declared.fault.AppendFault.TheVariants.{Refused, NoMemory}
use Rattle.rfb_viewer.specs.declared.fault.CallFault.{CallFault}
use Rattle.rfb_viewer.specs.declared.viewer.Viewer.{Viewer}
use Rattle.rfb_viewer.specs.Calls.{call_refusal, request_refusal, format_refusal, requested, formatted}
use Rattle.rfb_viewer.specs.Messages.{format_message, encodings_message, request_message}
use Rattle.rfb_viewer.specs.Messages.{key_message, pointer_message, text_message}
use Rattle.rfb_viewer.specs.Refusals.{call_refused_by, request_refused_by, format_refused_by}
use Rattle.rfb_viewer.specs.Viewer.{ViewerState}

-- ---- messages

-- the message that a call becomes, RFC 6143 section 7.5
abbrev pub message_of : Call → ClientMessage
message_of (Request incremental rect) = FramebufferUpdateRequest incremental rect
message_of (SetFormat format) = SetPixelFormat format
message_of (SetEncodings encodings) =
    EncodingsMessage (map (λ encoding. number_of encoding) encodings.now.items)
message_of (Key down key) = KeyEvent down key
message_of (Pointer buttons x y) = PointerEvent buttons x y
message_of (CutText text) = ClientCutText text.now

-- its bytes
abbrev pub message_bytes : Call → List ℕ
message_bytes (Request incremental rect) = request_message incremental rect
message_bytes (SetFormat format) = format_message format
message_bytes (SetEncodings encodings) = encodings_message encodings.now.items
message_bytes (Key down key) = key_message down key
message_bytes (Pointer buttons x y) = pointer_message buttons x y
message_bytes (CutText text) = text_message text.now

-- the text that a message ends with: ClientCutText has one
abbrev pub text_in : Call → List ℕ
text_in (Request incremental rect) = []
text_in (SetFormat format) = []
text_in (SetEncodings encodings) = []
text_in (Key down key) = []
text_in (Pointer buttons x y) = []
text_in (CutText text) = text.now

-- the bytes of a message in two parts
abbrev pub bytes_of : Message → List ℕ
bytes_of message = message.front.items ++ message.text.now

-- ---- refusals

-- by what a viewer stands for: every call waits for the end of the handshake, a request for the one
-- before it too, and a format for the end of an update
abbrev pub refusal_for : ViewerState → List ℕ → Call → Option CallFault
refusal_for s prefix (Request incremental rect) = request_refusal s rect
refusal_for s prefix (SetFormat format) = format_refusal s prefix
refusal_for s prefix (SetEncodings encodings) = call_refusal s
refusal_for s prefix (Key down key) = call_refusal s
refusal_for s prefix (Pointer buttons x y) = call_refusal s
refusal_for s prefix (CutText text) = call_refusal s

-- the same by the viewer alone, whether it has failed or not
abbrev pub refused_by : Viewer → Call → Option CallFault
refused_by viewer (Request incremental rect) = request_refused_by viewer rect
refused_by viewer (SetFormat format) = format_refused_by viewer
refused_by viewer (SetEncodings encodings) = call_refused_by viewer
refused_by viewer (Key down key) = call_refused_by viewer
refused_by viewer (Pointer buttons x y) = call_refused_by viewer
refused_by viewer (CutText text) = call_refused_by viewer

-- as it is answered where the message is appended: want of memory is no refusal
abbrev pub append_refusal_of : {A : Type 0} → Result A AppendFault → Option CallFault
append_refusal_of (Ok appended) = None
append_refusal_of (Err (Refused fault)) = Some fault
append_refusal_of (Err NoMemory) = None

-- ---- what a call that is not refused makes of the state

-- a request is outstanding then, and a format in force from the next update on
abbrev pub called : Call → ViewerState → ViewerState
called (Request incremental rect) s = requested s
called (SetFormat format) s = formatted format s
called (SetEncodings encodings) s = s
called (Key down key) s = s
called (Pointer buttons x y) s = s
called (CutText text) s = s

-- the others change nothing
abbrev pub is_noted : Call → Bool
is_noted (Request incremental rect) = true
is_noted (SetFormat format) = true
is_noted (SetEncodings encodings) = false
is_noted (Key down key) = false
is_noted (Pointer buttons x y) = false
is_noted (CutText text) = false
