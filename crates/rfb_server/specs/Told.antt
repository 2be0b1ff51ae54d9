-- What a server reports of what its client sent: events, as values that hold what was spelled.
use Rattle.std.specs.Prelude.{ℕ, Bool, List, [], length, take, Option, Some, None, Result, Ok, Err}
use Rattle.rfb_wire.specs.ClientMessage.{ClientMessage, SetPixelFormat, SetEncodings, FramebufferUpdateRequest}
use Rattle.rfb_wire.specs.ClientMessage.{KeyEvent, PointerEvent, ClientCutText}
use Rattle.rfb_hello.specs.declared.step.ServerStep.{ServerStep}
use Rattle.rfb_hello.specs.declared.step.ServerStep.TheVariants.{Reply as ReplyStep, Ready as ReadyStep}
use Rattle.rfb_server.specs.declared.fault.ServerFault.{ServerFault}
use Rattle.rfb_server.specs.declared.event.ServerEvent.{ServerEvent}
use Rattle.rfb_server.specs.declared.event.ServerEvent.TheVariants.{Reply as ReplyEvent, Ready as ReadyEvent}
use Rattle.rfb_server.specs.declared.event.ServerEvent.TheVariants.{Key as KeyTold, Pointer as PointerTold}
use Rattle.rfb_server.specs.declared.event.ServerEvent.TheVariants.{CutText as CutTextTold}

-- an answer that is to be sent; the last one, with the shared-flag; a key; the pointer; a text, as
-- much of it as is kept and how many bytes it has
pub data ServerTold : Type 0 where
  Reply : (bytes : List ℕ) → ServerTold
  Ready : (bytes : List ℕ) → (shared : Bool) → ServerTold
  Key : (down : Bool) → (key : ℕ) → ServerTold
  Pointer : (buttons : ℕ) → (x : ℕ) → (y : ℕ) → ServerTold
  CutText : (kept : List ℕ) → (text_length : ℕ) → ServerTold

-- the bytes that are to be sent for it
abbrev pub reply_bytes : ServerTold → List ℕ
reply_bytes (Reply bytes) = bytes
reply_bytes (Ready bytes shared) = bytes
reply_bytes (Key down key) = []
reply_bytes (Pointer buttons x y) = []
reply_bytes (CutText kept text_length) = []

-- the event that a value of the program is
abbrev pub event_told : ServerEvent → ServerTold
event_told (ReplyEvent reply) = Reply reply.items
event_told (ReadyEvent reply shared) = Ready reply.items shared
event_told (KeyTold down key) = Key down key
event_told (PointerTold buttons x y) = Pointer buttons x y
event_told (CutTextTold kept text_length) = CutText kept.items text_length

-- the same of what may be none
abbrev pub seen : Option ServerEvent → Option ServerTold
seen None = None
seen (Some event) = Some (event_told event)

-- the same of an answer
abbrev pub answer_told :
    Result (Option ServerEvent) ServerFault → Result (Option ServerTold) ServerFault
answer_told (Ok event) = Ok (seen event)
answer_told (Err fault) = Err fault

-- what a server reports of a step of the handshake: its version is the handshake's own matter
abbrev pub step_told : Option ServerStep → Option ServerTold
step_told None = None
step_told (Some (ReplyStep reply)) = Some (Reply reply.items)
step_told (Some (ReadyStep reply version shared)) = Some (Ready reply.items shared)

-- what a server reports of a message, where up to `text_limit` bytes of a text are kept
abbrev pub message_told : ℕ → ClientMessage → Option ServerTold
message_told text_limit (SetPixelFormat format) = None
message_told text_limit (SetEncodings numbers) = None
message_told text_limit (FramebufferUpdateRequest incremental rect) = None
message_told text_limit (KeyEvent down key) = Some (Key down key)
message_told text_limit (PointerEvent buttons x y) = Some (Pointer buttons x y)
message_told text_limit (ClientCutText text) = Some (CutText (take text_limit text) (length text))
