-- An update as it is sent: a head that counts rectangles, and these, RFC 6143 section 7.6.1.
use Rattle.std.specs.Prelude.{◌≡◌, List, [], ◌∷◌, ◌++◌, ℕ, length, map, Option}
use Rattle.rfb_picture.specs.Grid.{Grid}
use Rattle.rfb_wire.specs.declared.rect_head.RectHead.{RectHead}
use Rattle.rfb_wire.specs.stream.Prefix.{Listed}
use Rattle.rfb_wire.specs.ServerHead.{SpellsUpdate}
use Rattle.rfb_wire.specs.ServerMessage.{FramebufferUpdate}
use Rattle.rfb_codec.specs.RectData.{RectData, SpellsData}
use Rattle.rfb_codec.specs.Effect.{noted}
use Rattle.rfb_codec.specs.UpdateStream.{UpdatePoint, UpdateItem, Message, Rectangle, SpellsRectangle}

-- a rectangle as it is sent: its head, and its data as bytes
pub record SentRect : Type 0 where
  pub head : RectHead
  pub body : List ℕ

-- the item that it is
abbrev pub item_of : SentRect → UpdateItem
item_of sent = Rectangle sent.head sent.body

-- the bytes are these rectangles one after another, all on the screen and with data of their heads
abbrev pub SpellsRectangles : UpdatePoint → List SentRect → List ℕ → Type 0
SpellsRectangles p sent bytes =
    Listed (λ (s : SentRect). SpellsRectangle p s.head s.body) sent bytes

-- the bytes are an update with these rectangles
pub record SpellsWholeUpdate (p : UpdatePoint) (sent : List SentRect) (bytes : List ℕ)
    : Type 0 where
  pub head : List ℕ
  pub list : List ℕ
  pub whole : bytes ≡ head ++ list
  pub head_is : SpellsUpdate (length sent) head
  pub sent_are : SpellsRectangles p sent list

-- its items
abbrev pub update_of : List SentRect → List UpdateItem
update_of sent = Message (FramebufferUpdate (length sent)) ∷ map item_of sent

-- what is known once these rectangles were sent one after another, each with what its data say
abbrev pub AreNoted : UpdatePoint → List SentRect → Grid (Option ℕ) → Grid (Option ℕ) → Type 0
AreNoted p [] known now = now ≡ known
AreNoted p (s ∷ sent) known now =
    (contents : RectData) ×
    SpellsData p.form p.width p.height s.head.rect s.head.encoding contents s.body ×
    AreNoted p sent (noted s.head.rect contents known) now
