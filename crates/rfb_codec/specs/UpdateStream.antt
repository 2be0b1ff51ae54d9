-- All that a server sends after the handshake, RFC 6143 section 7.6: messages, and after the head
-- of an update its rectangles with their data.
use Rattle.std.specs.Prelude.{◌≡◌, ℕ, zero, suc, ◌+◌, ◌-◌, List, ◌++◌, length}
use Rattle.rfb_pixel.specs.Format.{PixelFormat}
use Rattle.rfb_wire.specs.declared.rect_head.RectHead.{RectHead}
use Rattle.rfb_wire.specs.declared.fault.WireFault.{WireFault}
use Rattle.rfb_wire.specs.RectHead.{SpellsRectHead, IsOnScreen, IsRectFault}
use Rattle.rfb_wire.specs.RectStream.{rect_head}
use Rattle.rfb_wire.specs.stream.Prefix.{Reading, Says}
use Rattle.rfb_wire.specs.stream.Parts.{kept, and_then, renamed}
use Rattle.rfb_wire.specs.stream.Grammar.{Grammar}
use Rattle.rfb_wire.specs.ServerMessage.{ServerMessage, FramebufferUpdate, SetColorMapEntries, Bell, ServerCutText}
use Rattle.rfb_wire.specs.ServerMessage.{ServerFault, SpellsServerMessage, FaultsServerMessage, server_message}
use Rattle.rfb_wire.specs.ServerMessage.{server_message_size}
use Rattle.rfb_codec.specs.declared.fault.PaintFault.{PaintFault}
use Rattle.rfb_codec.specs.RectData.{RectData, SpellsData, FaultsData, rect_data}

-- a point of the stream: the screen's size, the format in force, and how many rectangles are left
-- of the update that it is in
pub record UpdatePoint : Type 0 where
  pub width : ℕ
  pub height : ℕ
  pub form : PixelFormat
  pub left : ℕ

-- an item: a message, of an update its head alone, or a rectangle with its data as bytes
pub data UpdateItem : Type 0 where
  Message : (message : ServerMessage) → UpdateItem
  Rectangle : (head : RectHead) → (body : List ℕ) → UpdateItem

-- why bytes are no item: at a type byte, at a rectangle's head, or in its data
pub data UpdateFault : Type 0 where
  InMessage : (fault : ServerFault) → UpdateFault
  InHead : (fault : WireFault) → UpdateFault
  InData : (fault : PaintFault) → UpdateFault

-- ---- what bytes say

-- the data stand for something under this head
abbrev pub IsBody : UpdatePoint → RectHead → List ℕ → Type 0
IsBody p head body =
    (contents : RectData) × SpellsData p.form p.width p.height head.rect head.encoding contents body

-- the bytes are a rectangle on the screen: its head, and its data
pub record SpellsRectangle (p : UpdatePoint) (head : RectHead) (body bytes : List ℕ) : Type 0 where
  pub front : List ℕ
  pub whole : bytes ≡ front ++ body
  pub head_is : SpellsRectHead head front
  pub on_screen : IsOnScreen p.width p.height head.rect
  pub body_is : IsBody p head body

-- the bytes are a rectangle's head and data that end in this fault
pub record FaultsInData (p : UpdatePoint) (fault : PaintFault) (bytes : List ℕ) : Type 0 where
  pub head : RectHead
  pub front : List ℕ
  pub back : List ℕ
  pub whole : bytes ≡ front ++ back
  pub head_is : SpellsRectHead head front
  pub on_screen : IsOnScreen p.width p.height head.rect
  pub back_is : FaultsData p.form p.width p.height head.rect head.encoding fault back

-- the bytes are this item, by how many rectangles are left: an update has rectangles alone
abbrev pub SpellsNext : UpdatePoint → ℕ → UpdateItem → List ℕ → Type 0
SpellsNext p zero (Message message) bytes = SpellsServerMessage message bytes
SpellsNext p zero (Rectangle head body) bytes = ⊥
SpellsNext p (suc left) (Message message) bytes = ⊥
SpellsNext p (suc left) (Rectangle head body) bytes = SpellsRectangle p head body bytes

-- the bytes end in this fault there
abbrev pub FaultsNext : UpdatePoint → ℕ → UpdateFault → List ℕ → Type 0
FaultsNext p zero (InMessage fault) bytes = FaultsServerMessage fault bytes
FaultsNext p zero (InHead fault) bytes = ⊥
FaultsNext p zero (InData fault) bytes = ⊥
FaultsNext p (suc left) (InMessage fault) bytes = ⊥
FaultsNext p (suc left) (InHead fault) bytes =
    (length bytes ≡ 12) × IsRectFault p.width p.height fault bytes
FaultsNext p (suc left) (InData fault) bytes = FaultsInData p fault bytes

-- what bytes say at a point
abbrev pub update_says : UpdatePoint → Says UpdateItem UpdateFault
update_says p = record { item = SpellsNext p p.left; fault = FaultsNext p p.left }

-- ---- the grammar

-- a rectangle: its head, and the bytes that its data take
abbrev pub rectangle : UpdatePoint → Reading UpdateItem UpdateFault
rectangle p =
    and_then (renamed (λ head. head) (λ fault. InHead fault) (rect_head p.width p.height))
    (λ head. renamed (λ body. Rectangle head body) (λ fault. InData fault)
    (kept (rect_data p.form p.width p.height head.rect head.encoding)))

-- what comes next, by how many rectangles are left
abbrev pub next_item : UpdatePoint → ℕ → Reading UpdateItem UpdateFault
next_item p zero = renamed (λ message. Message message) (λ fault. InMessage fault) server_message
next_item p (suc left) = rectangle p

-- how many rectangles are left after an item
abbrev pub left_after : ℕ → UpdateItem → ℕ
left_after left (Message (FramebufferUpdate rectangles)) = rectangles
left_after left (Message (SetColorMapEntries first colors)) = left
left_after left (Message Bell) = left
left_after left (Message (ServerCutText text)) = left
left_after left (Rectangle head body) = left - 1

-- how many bytes an item has
abbrev pub update_item_size : UpdateItem → ℕ
update_item_size (Message message) = server_message_size message
update_item_size (Rectangle head body) = 12 + length body

-- all that a server sends
unfoldable pub update_stream : Grammar UpdatePoint UpdateItem UpdateFault
update_stream = record {
  next = λ p. next_item p p.left;
  past = λ p item. record p { left = left_after p.left item };
  size = update_item_size;
}
