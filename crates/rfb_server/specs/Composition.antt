-- One composing: the update that is sent, and what is recorded of it.
use Rattle.std.specs.Prelude.{◌≡◌, ◌≢◌, ℕ, zero, suc, ◌+◌, ◌*◌, ◌<◌, ◌≤◌, Bool, true, false, not, ◌||◌, List, [], ◌∷◌}
use Rattle.std.specs.Prelude.{◌++◌, map, Some, ◌⊎◌, if◌then◌else◌}
use Rattle.std.specs.Int.{div_ceil}
use Rattle.rfb_pixel.specs.declared.colour.Colour.{Colour}
use Rattle.rfb_pixel.specs.Format.{PixelFormat}
use Rattle.rfb_picture.specs.declared.rect.Rect.{Rect}
use Rattle.rfb_picture.specs.Rect.{contains}
use Rattle.rfb_picture.specs.Grid.{Grid, IsGrid, Holds, copied}
use Rattle.rfb_picture.specs.Area.{nothing}
use Rattle.rfb_picture.specs.Box.{IsTight, IsBox}
use Rattle.rfb_wire.specs.declared.encoding.Encoding.{Encoding}
use Rattle.rfb_wire.specs.declared.encoding.Encoding.TheVariants.{Raw, CopyRect}
use Rattle.rfb_wire.specs.declared.rect_head.RectHead.{RectHead}
use Rattle.rfb_wire.specs.stream.Grammar.{ReadsAll}
use Rattle.rfb_wire.specs.stream.Sequel.{Second}
use Rattle.rfb_codec.specs.RectData.{RectData, Pixels, Source, SpellsData, moved_to}
use Rattle.rfb_codec.specs.Pixels.{IsSized}
use Rattle.rfb_codec.specs.Codec.{PacksRect}
use Rattle.rfb_codec.specs.ByRule.{StandsIn, GivesUp}
use Rattle.rfb_codec.specs.UpdateStream.{UpdatePoint, update_stream}
use Rattle.rfb_codec.specs.Effect.{effects, IsAlike, Agrees}
use Rattle.rfb_codec.specs.WholeUpdate.{SentRect, update_of}
use Rattle.rfb_server.specs.Encodings.{is_same, is_listed, preferred}
use Rattle.rfb_server.specs.Server.{ServerState}
use Rattle.rfb_server.specs.Request.{wanted, recorded, is_asked, is_whole, differs, needs_sending}
use Rattle.rfb_server.specs.Cells.{cell_of, IsCell}

-- ---- what is sent

-- a rectangle of the update: its head, what its data say, and the data as bytes
pub record Part : Type 0 where
  pub head : RectHead
  pub contents : RectData
  pub body : List ℕ

-- it as the stream has it
abbrev pub sent_as : Part → SentRect
sent_as part = record { head = part.head; body = part.body }

-- where the server's bytes are between two messages
abbrev pub between : ServerState → UpdatePoint
between s = record { width = s.screen.width; height = s.screen.height; form = s.form; left = 0 }

-- the data say that under that head
abbrev pub HasItsData : ServerState → Part → Type 0
HasItsData s part =
    SpellsData s.form s.screen.width s.screen.height
    part.head.rect part.head.encoding part.contents part.body

-- Raw may always be sent, and another encoding where the viewer listed it
abbrev pub may_send : List Encoding → Encoding → Bool
may_send encodings encoding = is_same encoding Raw || is_listed encoding encodings

-- a block goes in the first listed encoding that brings pixels, unless the rule of that one gives
-- it up; then it goes in Raw
abbrev pub IsForPixels : PixelFormat → List Encoding → Grid ℕ → Encoding → Type 0
IsForPixels f encodings block encoding =
    ((encoding ≡ preferred encodings) × (GivesUp (preferred encodings) f block → ⊥)) ⊎
    ((encoding ≡ Raw) × GivesUp (preferred encodings) f block)

-- ---- rectangles that are copied

-- a rectangle that is copied, and the corner of its source
pub record Move : Type 0 where
  pub to : Rect
  pub sx : ℕ
  pub sy : ℕ

-- what is known of the source is known of the rectangle from then on
abbrev pub moved : Move → ServerState → ServerState
moved move s = record s { known = copied move.to move.sx move.sy s.known }

-- the same of one after another
abbrev pub all_moved : List Move → ServerState → ServerState
all_moved [] s = s
all_moved (move ∷ moves) s = all_moved moves (moved move s)

-- place (x, y) is recorded with the wanted pixel
abbrev pub is_right : ServerState → ℕ → ℕ → Bool
is_right s x y = not (differs (wanted s x y) (recorded s x y))

-- how many of the `w` places of row y from column x on are marked
abbrev pub count_row : (ℕ → ℕ → Bool) → ℕ → ℕ → ℕ → ℕ
count_row p x y zero = 0
count_row p x y (suc w) = count_row p x y w + (if p (x + w) y then 1 else 0)

-- how many of the places of `w` columns and `h` rows from (x, y) on are marked
abbrev pub count_rows : (ℕ → ℕ → Bool) → ℕ → ℕ → ℕ → ℕ → ℕ
count_rows p x y w zero = 0
count_rows p x y w (suc h) = count_rows p x y w h + count_row p x (y + h) w

abbrev pub count_in : (ℕ → ℕ → Bool) → Rect → ℕ
count_in p rect = count_rows p rect.x rect.y rect.w rect.h

-- the rectangle and its source lie on the screen, each place of the source is known, and the copy
-- leaves more places of the rectangle recorded with the wanted pixel than there were
pub record IsGain (s : ServerState) (move : Move) : Type 0 where
  pub on_screen : Holds s.screen move.to
  pub source_on_screen : Holds s.screen (moved_to move.sx move.sy move.to)
  pub source_known : (x y : ℕ) → contains (moved_to move.sx move.sy move.to) x y ≡ true →
      (pixel : ℕ) × (recorded s x y ≡ Some pixel)
  pub more_right : count_in (is_right s) move.to < count_in (is_right (moved move s)) move.to

-- each is a gain, by the record that those before it leave
abbrev pub AllGain : ServerState → List Move → Type 0
AllGain s [] = Unit {0}
AllGain s (move ∷ moves) = IsGain s move × AllGain (moved move s) moves

-- the part says to copy that
pub record IsCopy (move : Move) (part : Part) : Type 0 where
  pub rect_is : part.head.rect ≡ move.to
  pub encoding_is : part.head.encoding ≡ CopyRect
  pub contents_are : part.contents ≡ Source move.sx move.sy

-- these parts say to copy those, in this order
abbrev pub AreCopies : List Move → List Part → Type 0
AreCopies [] [] = Unit {0}
AreCopies [] (part ∷ parts) = ⊥
AreCopies (move ∷ moves) [] = ⊥
AreCopies (move ∷ moves) (part ∷ parts) = IsCopy move part × AreCopies moves parts

-- ---- rectangles whose pixels are sent

-- the part brings the wanted pixels of its rectangle, in the encoding for them and as the rule of
-- that has it; its first and last row and column have a place each that needs sending
pub record IsBlockOf (s : ServerState) (part : Part) : Type 0 where
  pub block : Grid ℕ
  pub contents_are : part.contents ≡ Pixels block
  pub sized : IsSized part.head.rect.w part.head.rect.h block
  pub packed : PacksRect s.form s.screen part.head.rect block
  pub may_be_sent : may_send s.encodings part.head.encoding ≡ true
  pub chosen : IsForPixels s.form s.encodings block part.head.encoding
  pub by_rule : StandsIn part.head.encoding s.form block part.body
  pub tight : IsTight (needs_sending s) part.head.rect

-- each of these is one
abbrev pub AreBlocksOf : ServerState → List Part → Type 0
AreBlocksOf s [] = Unit {0}
AreBlocksOf s (part ∷ parts) = IsBlockOf s part × AreBlocksOf s parts

-- no place of the cells from number `from` up to number `to` needs sending, where a row of the
-- screen has `across` cells
abbrev pub NoneNeeds : ℕ → ServerState → ℕ → ℕ → Type 0
NoneNeeds across s from to = (x y : ℕ) → x < s.screen.width → y < s.screen.height →
    from ≤ cell_of across x y → cell_of across x y < to → needs_sending s x y ≡ false

-- the rectangle is the least one that holds what of that cell needs sending
pub record IsBoxOf (across : ℕ) (s : ServerState) (index : ℕ) (rect : Rect) : Type 0 where
  pub cell : Rect
  pub is_cell : IsCell s.screen.width s.screen.height across index cell
  pub least : IsBox (needs_sending s) cell rect

-- these are the rectangles of the cells from number `from` up to number `to`, in the order of the
-- cells: one for each cell with a place that needs sending, and none for another
abbrev pub AreBoxes : ℕ → ServerState → ℕ → ℕ → List Part → Type 0
AreBoxes across s from to [] = NoneNeeds across s from to
AreBoxes across s from to (part ∷ parts) =
    (index : ℕ) × (from ≤ index) × (index < to) × NoneNeeds across s from index ×
    IsBoxOf across s index part.head.rect × AreBoxes across s (index + 1) to parts

-- of all cells of the screen
abbrev pub AreAllBoxes : ServerState → List Part → Type 0
AreAllBoxes s parts =
    AreBoxes (div_ceil s.screen.width 64) s
    0 (div_ceil s.screen.width 64 * div_ceil s.screen.height 64) parts

-- a place lies in one of these rectangles
abbrev pub is_in_some : List Part → ℕ → ℕ → Bool
is_in_some [] x y = false
is_in_some (part ∷ parts) x y = contains part.head.rect x y || is_in_some parts x y

-- ---- the relation

-- the place is on the screen
abbrev pub IsPlace : ServerState → ℕ → ℕ → Type 0
IsPlace s x y = (x < s.screen.width) × (y < s.screen.height)

-- the data of each part are what it says
abbrev pub HaveTheirData : ServerState → List Part → Type 0
HaveTheirData s [] = Unit {0}
HaveTheirData s (part ∷ parts) = HasItsData s part × HaveTheirData s parts

-- a composing: the state before it and after it, the bytes that were appended, and the rectangles
-- that these are, first those that are copied
pub record Composes (old new : ServerState) (bytes : List ℕ)
    (copies blocks : List Part) : Type 0 where
  -- the bytes are one update in the server's format, with these rectangles, all on the screen
  pub is_update :
      ReadsAll update_stream (between old) bytes (update_of (map sent_as (copies ++ blocks))) []
  pub data_are : HaveTheirData old (copies ++ blocks)
  -- a picture that agreed with the record agrees, once it is updated, with the new one
  pub agrees : (picture : Grid Colour) → IsGrid picture → IsAlike picture old.known →
      Agrees old.form picture old.known →
      Agrees old.form
      (effects (between old) (update_of (map sent_as (copies ++ blocks))) picture) new.known
  -- each asked place is recorded with the wanted pixel
  pub answered : (x y : ℕ) → IsPlace old x y → is_asked old x y ≡ true →
      recorded new x y ≡ Some (wanted old x y)
  -- each other place is as it was, or recorded with the wanted pixel
  pub others : (x y : ℕ) → IsPlace old x y → is_asked old x y ≡ false →
      (recorded new x y ≡ recorded old x y) ⊎ (recorded new x y ≡ Some (wanted old x y))
  -- each whole place is sent as a pixel, and is in no rectangle that is copied
  pub renewed : (x y : ℕ) → IsPlace old x y → is_whole old x y ≡ true →
      (is_in_some blocks x y ≡ true) × (is_in_some copies x y ≡ false)
  -- nothing is asked any more, and the rest is as it was
  pub emptied : new.area ≡ nothing old.area
  pub same_point : new.point ≡ old.point
  pub same_screen : new.screen ≡ old.screen
  pub same_size : IsAlike new.known old.known
  pub same_format : new.form ≡ old.form
  pub same_encodings : new.encodings ≡ old.encodings
  -- where some are copied the viewer listed CopyRect, and each of them is a gain
  pub moves : List Move
  pub copies_are : AreCopies moves copies
  pub copies_listed : moves ≢ [] → is_listed CopyRect old.encodings ≡ true
  pub gains : AllGain old moves
  -- of what the copies leave, the others take cell by cell no more than needs sending
  pub blocks_are : AreBlocksOf (all_moved moves old) blocks
  pub boxes_are : AreAllBoxes (all_moved moves old) blocks
  -- the record is what the copies leave, with the wanted pixel in each place of the others
  pub noted : (x y : ℕ) → IsPlace old x y →
      recorded new x y ≡
      (if is_in_some blocks x y then Some (wanted old x y) else recorded (all_moved moves old) x y)

-- a composing is due: the server is ready, and a place needs sending
pub record IsDue (s : ServerState) : Type 0 where
  pub ready : s.point ≡ Second tt
  pub x : ℕ
  pub y : ℕ
  pub is_place : IsPlace s x y
  pub needs : needs_sending s x y ≡ true
