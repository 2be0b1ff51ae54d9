-- What a viewer reports of what its server sent: events, as values that hold what was spelled.
use Rattle.std.specs.Prelude.{ℕ, ◌==◌, Bool, true, false, List, [], length, take, Option, Some, None}
use Rattle.rfb_wire.specs.ServerMessage.{FramebufferUpdate, SetColorMapEntries, Bell as BellMessage, ServerCutText}
use Rattle.rfb_codec.specs.UpdateStream.{UpdatePoint, UpdateItem, Message, Rectangle}
use Rattle.rfb_hello.specs.declared.step.ViewerStep.{ViewerStep}
use Rattle.rfb_hello.specs.declared.step.ViewerStep.TheVariants.{Reply as ReplyStep, Screen, Ready as ReadyStep}
use Rattle.rfb_viewer.specs.declared.event.ViewerEvent.{ViewerEvent}
use Rattle.rfb_viewer.specs.declared.event.ViewerEvent.TheVariants.{Reply as ReplyEvent, Ready as ReadyEvent}
use Rattle.rfb_viewer.specs.declared.event.ViewerEvent.TheVariants.{UpdateDone as UpdateDoneEvent, Bell as BellEvent}
use Rattle.rfb_viewer.specs.declared.event.ViewerEvent.TheVariants.{CutText as CutTextEvent}
use Rattle.rfb_viewer.specs.declared.event.ViewerEvent.TheVariants.{ColourMapSkipped as ColourMapSkippedEvent}

-- an answer that is to be sent; or the last one, with the screen's size, what is kept of its name,
-- and the name's length. The end of an update. A bell. A text: what is kept of it, and its length.
-- A colour map, which is not kept
pub data ViewerTold : Type 0 where
  Reply : (bytes : List ℕ) → ViewerTold
  Ready : (bytes : List ℕ) → (width height : ℕ) → (name : List ℕ) → (name_length : ℕ) → ViewerTold
  UpdateDone : ViewerTold
  Bell : ViewerTold
  CutText : (kept : List ℕ) → (text_length : ℕ) → ViewerTold
  ColourMapSkipped : ViewerTold

-- the bytes that are to be sent for it
abbrev pub reply_bytes : ViewerTold → List ℕ
reply_bytes (Reply bytes) = bytes
reply_bytes (Ready bytes width height name name_length) = bytes
reply_bytes UpdateDone = []
reply_bytes Bell = []
reply_bytes (CutText kept text_length) = []
reply_bytes ColourMapSkipped = []

-- the event that a value of the program is
abbrev pub event_told : ViewerEvent → ViewerTold
event_told (ReplyEvent reply) = Reply reply.items
event_told (ReadyEvent reply width height name name_length) =
    Ready reply.items width height name.items name_length
event_told UpdateDoneEvent = UpdateDone
event_told BellEvent = Bell
event_told (CutTextEvent kept text_length) = CutText kept.items text_length
event_told ColourMapSkippedEvent = ColourMapSkipped

-- the same of what may be none
abbrev pub seen : Option ViewerEvent → Option ViewerTold
seen None = None
seen (Some event) = Some (event_told event)

-- what is reported of a step of the handshake, where these bytes are sent at its end: of the screen
-- nothing, and the version is the handshake's own matter
abbrev pub step_told : List ℕ → ViewerStep → Option ViewerTold
step_told bytes (ReplyStep reply) = Some (Reply reply.items)
step_told bytes (Screen width height) = None
step_told bytes (ReadyStep width height version name name_length) =
    Some (Ready bytes width height name.bytes name_length)

-- the item is the last of an update: a head that counts no rectangles, or the last rectangle
abbrev pub is_last : UpdatePoint → UpdateItem → Bool
is_last p (Message (FramebufferUpdate rectangles)) = rectangles == 0
is_last p (Message (SetColorMapEntries first colors)) = false
is_last p (Message BellMessage) = false
is_last p (Message (ServerCutText text)) = false
is_last p (Rectangle head body) = p.left == 1

-- the end of an update is an event
abbrev pub done_told : Bool → Option ViewerTold
done_told true = Some UpdateDone
done_told false = None

-- what is reported of an item after the handshake, where texts are kept up to `text_limit` bytes
abbrev pub item_told : ℕ → UpdatePoint → UpdateItem → Option ViewerTold
item_told text_limit p (Message (FramebufferUpdate rectangles)) = done_told (rectangles == 0)
item_told text_limit p (Message (SetColorMapEntries first colors)) = Some ColourMapSkipped
item_told text_limit p (Message BellMessage) = Some Bell
item_told text_limit p (Message (ServerCutText text)) =
    Some (CutText (take text_limit text) (length text))
item_told text_limit p (Rectangle head body) = done_told (p.left == 1)
