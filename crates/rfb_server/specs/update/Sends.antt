-- Composing, cell by cell: what the rectangles so far are, and what they leave known.
use Rattle.std.specs.Prelude.{◌≡◌, ℕ, ◌+◌, ◌*◌, ◌<◌, ◌≤◌, ◌&&◌, Bool, List, [], ◌++◌, length, map, true, false, Option}
use Rattle.std.specs.Prelude.{Some, None, MatchOption, if◌then◌else◌}
use Rattle.std.specs.Int.{div_ceil}
use Rattle.rfb_pixel.specs.declared.colour.Colour.{Colour}
use Rattle.rfb_pixel.specs.Format.{PixelFormat, size_of}
use Rattle.rfb_picture.specs.declared.rect.Rect.{Rect}
use Rattle.rfb_picture.specs.Grid.{Grid, IsGrid, at_or}
use Rattle.rfb_picture.specs.Area.{Places, asked_at}
use Rattle.rfb_picture.specs.Box.{IsTight, IsBox, is_in}
use Rattle.rfb_wire.specs.declared.encoding.Encoding.{Encoding}
use Rattle.rfb_wire.specs.stream.Sequel.{Second}
use Rattle.rfb_codec.specs.Codec.{PacksRect}
use Rattle.rfb_codec.specs.Pixels.{IsSized}
use Rattle.rfb_codec.specs.Effect.{effects, IsAlike, Agrees, IsRecorded}
use Rattle.rfb_codec.specs.WholeUpdate.{item_of, SpellsRectangles}
use Rattle.rfb_server.specs.declared.session.Session.{Session}
use Rattle.rfb_server.specs.Server.{ServerState}
use Rattle.rfb_server.specs.Request.{wanted, recorded, is_asked, is_whole}
use Rattle.rfb_server.specs.update.Needs.{HasBox, needs_of}
use Rattle.rfb_server.specs.session.Sessions.{KeepsSetting}
use Rattle.rfb_server.specs.update.Rectangle.{IsCoded}
use Rattle.rfb_server.specs.Cells.{cell_of, IsCell}
use Rattle.rfb_server.specs.Room.{sum_below}
use Rattle.rfb_server.specs.Composition.{Part, sent_as, between, may_send, IsForPixels, is_in_some, IsPlace}
use Rattle.rfb_server.specs.Composition.{HaveTheirData, AreBlocksOf, AreBoxes}

-- ---- one rectangle

-- all of a session but what is known is as it was
pub record IsKept (old new : Session) : Type 0 where
  pub setting : KeepsSetting old new
  pub area : new.area ≡ old.area
  pub marks : new.marks ≡ old.marks
  pub hints : new.hints ≡ old.hints
  pub claim : new.claim ≡ old.claim

-- the bytes are a rectangle with the pixels of the screen, in an encoding that may be sent, and
-- these pixels are known from then on
pub record SendsPixels (screen : Grid Colour) (form : PixelFormat) (encodings : List Encoding)
    (rect : Rect) (known now : Grid (Option ℕ)) (bytes : List ℕ) : Type 0 where
  pub block : Grid ℕ
  pub encoding : Encoding
  pub sized : IsSized rect.w rect.h block
  pub packed : PacksRect form screen rect block
  pub coded : IsCoded form rect encoding block bytes
  pub may_be_sent : may_send encodings encoding ≡ true
  pub chosen : IsForPixels form encodings block encoding
  pub noted : IsRecorded rect block known now
  pub whole : IsGrid now
  pub alike : IsAlike known now

-- such bytes are appended
pub record AppendsPixels (screen : Grid Colour) (rect : Rect) (old new : Session)
    (before after : List ℕ) : Type 0 where
  pub bytes : List ℕ
  pub appended : after ≡ before ++ bytes
  pub sent : SendsPixels screen old.format old.encodings rect old.known new.known bytes

-- of a cell the least rectangle that needs sending is appended; or there is none, and nothing
-- changes
abbrev pub SendsCell : Bool → Grid Colour → Rect → Session → Session → List ℕ → List ℕ → Type 0
SendsCell true screen cell old new before after =
    (rect : Rect) × IsBox (needs_of screen old) cell rect ×
    AppendsPixels screen rect old new before after
SendsCell false screen cell old new before after =
    HasBox (needs_of screen old) cell None × (new.known ≡ old.known) × (after ≡ before)

-- ---- rectangles one after another

-- the state of a session that is about that screen, between two messages or in one
abbrev pub state_of : Grid Colour → Session → ServerState
state_of screen session = record {
  point = Second tt;
  screen = screen;
  known = session.known;
  area = session.area;
  form = session.format;
  encodings = session.encodings;
}

-- the bytes are these rectangles, which take care of the first cells and leave that known
pub record Sends (across n : ℕ) (s : ServerState) (known : Grid (Option ℕ))
    (parts : List Part) (bytes : List ℕ) : Type 0 where
  pub whole : IsGrid known
  pub alike : IsAlike s.known known
  pub few : length parts ≤ n
  pub idle : parts ≡ [] → known ≡ s.known
  pub spelled : SpellsRectangles (between s) (map sent_as parts) bytes
  pub data_are : HaveTheirData s parts
  pub blocks_are : AreBlocksOf s parts
  pub boxes_are : AreBoxes across s 0 n parts
  pub agrees : (picture : Grid Colour) → IsGrid picture → IsAlike picture s.known →
      Agrees s.form picture s.known →
      Agrees s.form (effects (between s) (map item_of (map sent_as parts)) picture) known
  pub answered : (x y : ℕ) → IsPlace s x y → cell_of across x y < n → is_asked s x y ≡ true →
      at_or known x y None ≡ Some (wanted s x y)
  pub noted : (x y : ℕ) → IsPlace s x y → at_or known x y None ≡
      (if is_in_some parts x y then Some (wanted s x y) else recorded s x y)
  pub later : (x y : ℕ) → IsPlace s x y → n ≤ cell_of across x y →
      at_or known x y None ≡ recorded s x y
  pub renewed : (x y : ℕ) → IsPlace s x y → cell_of across x y < n → is_whole s x y ≡ true →
      is_in_some parts x y ≡ true

-- such bytes are appended, which are `count` rectangles
pub record AppendsCells (across n : ℕ) (screen : Grid Colour) (old new : Session)
    (before after : List ℕ) (count : ℕ) : Type 0 where
  pub parts : List Part
  pub bytes : List ℕ
  pub appended : after ≡ before ++ bytes
  pub count_is : count ≡ length parts
  pub sent : Sends across n (state_of screen old) new.known parts bytes

-- ---- room

-- the place is marked and asked: no other can need sending
abbrev pub may_need : Grid Bool → Places → ℕ → ℕ → Bool
may_need marks area x y = is_in marks x y && asked_at area x y

-- the cost of a cell is at least that of a rectangle in it whose edges all have such a place: the
-- room of a head, and of the rectangle's pixels by themselves
abbrev pub IsCost : (ℕ → ℕ → Bool) → PixelFormat → Rect → ℕ → Type 0
IsCost p form cell cost = (r : Rect) → IsTight p r →
    cell.x ≤ r.x → r.x + r.w ≤ cell.x + cell.w → cell.y ≤ r.y → r.y + r.h ≤ cell.y + cell.h →
    12 + r.h * r.w * size_of form ≤ cost

-- so it is in that session
abbrev pub IsCostIn : Session → Rect → ℕ → Type 0
IsCostIn session cell cost = IsCost (may_need session.marks session.area) session.format cell cost

-- so it is for each of the first `n` cells
abbrev pub AreCosts : ℕ → ℕ → ℕ → (ℕ → ℕ → Bool) → PixelFormat → ℕ → (ℕ → ℕ) → Type 0
AreCosts width height across p form n cost = (i : ℕ) (cell : Rect) → i < n →
    IsCell width height across i cell → IsCost p form cell (cost i)

-- `room` is enough for the first `n` cells
pub record IsEnough (session : Session) (across n room : ℕ) : Type 0 where
  pub cost : ℕ → ℕ
  pub costs : AreCosts session.known.width session.known.height across
      (may_need session.marks session.area) session.format n cost
  pub sum_is : sum_below cost n ≤ room

-- ---- the cells that are looked at

-- no place of the cells from one number up to another is marked and asked
abbrev pub NoneMayNeed : Session → ℕ → ℕ → Type 0
NoneMayNeed session n m = (x y : ℕ) → x < session.known.width → y < session.known.height →
    n ≤ cell_of (div_ceil session.known.width 64) x y →
    cell_of (div_ceil session.known.width 64) x y < m →
    may_need session.marks session.area x y ≡ false

-- the cell is one of the screen's, and no cell from a number on and before it has such a place
pub record IsNext (session : Session) (n cell : ℕ) : Type 0 where
  pub after : n ≤ cell
  pub is_cell : cell < div_ceil session.known.width 64 * div_ceil session.known.height 64
  pub none : NoneMayNeed session n cell

-- only cells from one number on and before another may have such a place; these are the screen's
pub record AreLimits (session : Session) (first end : ℕ) : Type 0 where
  pub some : 0 < end → first < end
  pub within : end ≤ div_ceil session.known.width 64 * div_ceil session.known.height 64
  pub before : NoneMayNeed session 0 first
  pub after : NoneMayNeed session end (div_ceil session.known.width 64 * div_ceil session.known.height 64)

-- that cell comes next, or there is no such place any more
abbrev pub HasNext : Session → ℕ → Option ℕ → Type 0
HasNext session n found =
    MatchOption found
    (NoneMayNeed session n (div_ceil session.known.width 64 * div_ceil session.known.height 64))
    (λ cell. IsNext session n cell)
