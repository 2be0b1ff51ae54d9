-- How far a server's bytes have come in a viewer, and what it holds of the item under way.
use Rattle.std.specs.Prelude.{◌≡◌, ℕ, ◌+◌, ◌*◌, ◌<◌, true, false, List, [], ◌∷◌, ◌++◌, length, Option, Some, None}
use Rattle.rfb_pixel.specs.declared.colour.Colour.{Colour}
use Rattle.rfb_picture.specs.Grid.{Grid, uniform}
use Rattle.rfb_wire.specs.declared.rect_head.RectHead.{RectHead}
use Rattle.rfb_wire.specs.ServerHead.{server_head_size, SpellsColourMap, SpellsServerCutText}
use Rattle.rfb_wire.specs.stream.Prefix.{More}
use Rattle.rfb_wire.specs.stream.Sequel.{First, Second}
use Rattle.rfb_codec.specs.UnderWay.{UnderWay, painting, StandsFor as PainterStandsFor}
use Rattle.rfb_codec.specs.Painter.{painting_of, AwaitsData}
use Rattle.rfb_codec.specs.UpdateStream.{UpdatePoint, update_stream}
use Rattle.rfb_hello.specs.KeptText.{KeptText, no_text, kept_of}
use Rattle.rfb_hello.specs.ServerHandshake.{ServerPoint, AwaitsVersion, AwaitsSecurity, AwaitsResult, AwaitsInit}
use Rattle.rfb_hello.specs.ServerHandshake.{AwaitsName, Begun}
use Rattle.rfb_hello.specs.ViewerModel.{StandsFor as HelloStandsFor, is_open, reason_of}
use Rattle.rfb_viewer.specs.declared.fault.ViewerFault.{ViewerFault}
use Rattle.rfb_viewer.specs.declared.viewer.Viewer.{Viewer}
use Rattle.rfb_viewer.specs.declared.viewer.progress.Progress.{Progress}
use Rattle.rfb_viewer.specs.declared.viewer.progress.Progress.TheVariants.{Handshake, Head, RectHead as RectHeadPart}
use Rattle.rfb_viewer.specs.declared.viewer.progress.Progress.TheVariants.{Data, Colours, CutText, Failed}
use Rattle.rfb_viewer.specs.ServerBytes.{ServerAt}
use Rattle.rfb_viewer.specs.Viewer.{Viewing, black}

-- the fault that it has failed with, if it has
abbrev pub fault_in : Progress → Option ViewerFault
fault_in (Failed fault) = Some fault
fault_in progress = None

-- ---- items under way

-- the bytes are the beginning of a message's head, and not all of it
abbrev pub IsHeadBegun : List ℕ → Type 0
IsHeadBegun [] = Unit {0}
IsHeadBegun (first ∷ rest) =
    (size : ℕ) × (server_head_size first ≡ Some size) × (length (first ∷ rest) < size)

-- the bytes are a SetColorMapEntries without its last `left` bytes
pub record AreColoursBegun (left : ℕ) (prefix : List ℕ) : Type 0 where
  pub head : List ℕ
  pub colours : List ℕ
  pub first : ℕ
  pub count : ℕ
  pub prefix_is : prefix ≡ head ++ colours
  pub head_is : SpellsColourMap first count head
  pub missing : length colours + left ≡ count * 6

-- the bytes are a ServerCutText of `text_length` bytes without its last `left`, and `kept` is kept
-- of it
pub record IsTextBegun (text_limit text_length left : ℕ) (kept : KeptText)
    (prefix : List ℕ) : Type 0 where
  pub head : List ℕ
  pub text : List ℕ
  pub prefix_is : prefix ≡ head ++ text
  pub head_is : SpellsServerCutText text_length head
  pub missing : length text + left ≡ text_length
  pub kept_is : kept ≡ kept_of text_limit text_length text

-- ---- points

-- before ServerInit there is no screen, and after it a black one
abbrev pub IsScreenAt : ServerPoint → Option (Grid Colour) → Type 0
IsScreenAt AwaitsVersion picture = picture ≡ None
IsScreenAt (AwaitsSecurity version) picture = picture ≡ None
IsScreenAt (AwaitsResult version) picture = picture ≡ None
IsScreenAt (AwaitsInit version) picture = picture ≡ None
IsScreenAt (AwaitsName version width height name_length) picture =
    picture ≡ Some (uniform width height black)
IsScreenAt (Begun version width height) picture = picture ≡ Some (uniform width height black)

-- the handshake is done, and no reason was given; updates are in the viewer's format, on a screen
-- of the picture's size; `left` rectangles are left of the update that the point is in
pub record IsReadyAt (viewer : Viewer) (p : UpdatePoint) (picture : Option (Grid Colour))
    (left : ℕ) : Type 0 where
  pub closed : is_open viewer.hello ≡ false
  pub unreasoned : reason_of viewer.hello ≡ no_text
  pub form_is : p.form ≡ viewer.format
  pub left_is : p.left ≡ left
  pub screen : Grid Colour
  pub picture_is : picture ≡ Some screen
  pub columns : screen.width ≡ p.width
  pub rows : screen.height ≡ p.height

-- the bytes are a rectangle's head and data that are not whole; what is stored shows the whole
-- pieces of these over the picture before the rectangle
pub record IsPainting (viewer : Viewer) (p : UpdatePoint) (painter : UnderWay)
    (before : Grid Colour) (prefix : List ℕ) : Type 0 where
  pub head : RectHead
  pub front : List ℕ
  pub body : List ℕ
  pub prefix_is : prefix ≡ front ++ body
  pub awaits : AwaitsData p head front before
  pub painting_is : painting painter ≡ painting_of p head
  pub now : Grid Colour
  pub now_is : viewer.picture ≡ Some now
  pub shows : PainterStandsFor painter now before body
  pub waits : update_stream.next p prefix ≡ More

-- what is stored is the picture
abbrev pub Stores : Viewer → Option (Grid Colour) → Type 0
Stores viewer picture = viewer.picture ≡ picture

-- this progress stands for that point, that picture and that prefix; one that has failed stands for
-- none
abbrev pub ProgressStandsFor : Viewing → Viewer → Progress → ServerAt → Option (Grid Colour) →
    List ℕ → Type 0
ProgressStandsFor viewing viewer Handshake (First point) picture prefix =
    HelloStandsFor viewing.hello viewer.hello point prefix × (is_open viewer.hello ≡ true)
    × (viewer.format ≡ viewing.form) × Stores viewer picture × IsScreenAt point picture
ProgressStandsFor viewing viewer Handshake (Second p) picture prefix = ⊥
ProgressStandsFor viewing viewer (Head bytes) (First point) picture prefix = ⊥
ProgressStandsFor viewing viewer (Head bytes) (Second p) picture prefix =
    IsReadyAt viewer p picture 0 × Stores viewer picture × (prefix ≡ bytes.items)
    × IsHeadBegun bytes.items
ProgressStandsFor viewing viewer (RectHeadPart more head) (First point) picture prefix = ⊥
ProgressStandsFor viewing viewer (RectHeadPart more head) (Second p) picture prefix =
    IsReadyAt viewer p picture (more + 1) × Stores viewer picture × (prefix ≡ head.items)
    × (length head.items < 12)
ProgressStandsFor viewing viewer (Data more painter) (First point) picture prefix = ⊥
ProgressStandsFor viewing viewer (Data more painter) (Second p) picture prefix =
    (ready : IsReadyAt viewer p picture (more + 1))
    × IsPainting viewer p painter ready.screen prefix
ProgressStandsFor viewing viewer (Colours more) (First point) picture prefix = ⊥
ProgressStandsFor viewing viewer (Colours more) (Second p) picture prefix =
    IsReadyAt viewer p picture 0 × Stores viewer picture × AreColoursBegun (more + 1) prefix
ProgressStandsFor viewing viewer (CutText text_length more kept) (First point) picture prefix = ⊥
ProgressStandsFor viewing viewer (CutText text_length more kept) (Second p) picture prefix =
    IsReadyAt viewer p picture 0 × Stores viewer picture
    × IsTextBegun viewing.hello.text_limit text_length (more + 1) kept prefix
ProgressStandsFor viewing viewer (Failed fault) point picture prefix = ⊥
