-- What an owner draws on a screen, or says of it: what that makes of the screen, and what the
-- sessions over it are told.
use Rattle.std.specs.Prelude.{◌≡◌, ◌+◌, ◌*◌, ℕ, ℤ, List, length, Option, Some, None}
use Rattle.rfb_pixel.specs.declared.colour.Colour.{Colour}
use Rattle.rfb_pixel.specs.Bytes.{byte_colour}
use Rattle.rfb_pixel.specs.Format.{PixelFormat, colour_of}
use Rattle.rfb_picture.specs.declared.rect.Rect.{Rect}
use Rattle.rfb_picture.specs.Rect.{rect, scrolled_to}
use Rattle.rfb_picture.specs.Grid.{Grid, Holds, filled, copied, scrolled, with_row, with_rows}
use Rattle.rfb_codec.specs.Painter.{over}
use Rattle.rfb_codec.specs.Raw.{raw_length, raw_pixel}
use Rattle.rfb_server.specs.declared.drawing.Drawing.{Drawing}
use Rattle.rfb_server.specs.declared.drawing.Drawing.TheVariants as As
use Rattle.rfb_server.specs.declared.drawing.notice.Notice.{Notice}
use Rattle.rfb_server.specs.declared.hint.Hint.{Hint as HintOf}
use Rattle.rfb_server.specs.Hints.{with_hint, scroll_hint}
use Rattle.rfb_server.specs.Model.{row_from, AreOf, HoldsBoth}

-- one drawing, or a hint
pub data Stroke : Type 0 where
  -- a rectangle gets one colour
  Fill : (area : Rect) → (colour : Colour) → Stroke
  -- a part of row y gets these colours, from column x on
  Put : (x : ℕ) → (y : ℕ) → (row : List Colour) → Stroke
  -- a rectangle gets these colours, row by row
  Rows : (area : Rect) → (rows : List Colour) → Stroke
  -- it gets the colours of these pixels, in that format
  Pixels : (area : Rect) → (form : PixelFormat) → (bytes : List ℕ) → Stroke
  -- it gets the colours of these bytes, three for each place
  Bytes : (area : Rect) → (bytes : List ℕ) → Stroke
  -- it gets what the one of its size at (sx, sy) had
  Copy : (area : Rect) → (sx : ℕ) → (sy : ℕ) → Stroke
  -- what lies in it moves by dx columns and dy rows
  Scroll : (area : Rect) → (dx : ℤ) → (dy : ℤ) → Stroke
  -- it looks as the one of its size at (sx, sy) did
  Hint : (area : Rect) → (sx : ℕ) → (sy : ℕ) → Stroke

-- as a value of the program has it
abbrev pub stroke : Drawing → Stroke
stroke (As.Fill area colour) = Fill area colour
stroke (As.Put x y row) = Put x y row.now
stroke (As.Rows area rows) = Rows area rows.now
stroke (As.Pixels area form bytes) = Pixels area form bytes.now
stroke (As.Bytes area bytes) = Bytes area bytes.now
stroke (As.Copy area sx sy) = Copy area sx sy
stroke (As.Scroll area dx dy) = Scroll area dx dy
stroke (As.Hint area sx sy) = Hint area sx sy

-- all that it needs lies on the screen, and what it has is of all its places and of no others
abbrev pub IsInside : Grid Colour → Stroke → Type 0
IsInside screen (Fill area colour) = Holds screen area
IsInside screen (Put x y row) = Holds screen (row_from x y (length row))
IsInside screen (Rows area rows) = AreOf screen area rows
IsInside screen (Pixels area form bytes) =
    Holds screen area × (length bytes ≡ raw_length form area.w area.h)
IsInside screen (Bytes area bytes) = Holds screen area × (length bytes ≡ area.h * area.w * 3)
IsInside screen (Copy area sx sy) = HoldsBoth screen area sx sy
IsInside screen (Scroll area dx dy) = Holds screen area
IsInside screen (Hint area sx sy) = HoldsBoth screen area sx sy

-- the screen that it leaves
abbrev pub drawn_by : Stroke → Grid Colour → Grid Colour
drawn_by (Fill area colour) screen = filled area colour screen
drawn_by (Put x y row) screen = with_row x y row screen
drawn_by (Rows area rows) screen = with_rows area rows screen
drawn_by (Pixels area form bytes) screen =
    over area (λ x y. colour_of form (raw_pixel form area.w bytes x y)) screen
drawn_by (Bytes area bytes) screen = over area (λ x y. byte_colour bytes (y * area.w + x)) screen
drawn_by (Copy area sx sy) screen = copied area sx sy screen
drawn_by (Scroll area dx dy) screen = scrolled area dx dy screen
drawn_by (Hint area sx sy) screen = screen

-- ---- what sessions are told

-- all that it changes lies in this rectangle; a hint changes nothing
abbrev pub area_of : Stroke → Rect
area_of (Fill area colour) = area
area_of (Put x y row) = row_from x y (length row)
area_of (Rows area rows) = area
area_of (Pixels area form bytes) = area
area_of (Bytes area bytes) = area
area_of (Copy area sx sy) = area
area_of (Scroll area dx dy) = scrolled_to dx dy area
area_of (Hint area sx sy) = rect 0 0 0 0

-- the hint that it gives: a scroll that of what stays of its rectangle
abbrev pub hint_of : Stroke → Option HintOf
hint_of (Fill area colour) = None
hint_of (Put x y row) = None
hint_of (Rows area rows) = None
hint_of (Pixels area form bytes) = None
hint_of (Bytes area bytes) = None
hint_of (Copy area sx sy) = None
hint_of (Scroll area dx dy) = Some (scroll_hint area dx dy)
hint_of (Hint area sx sy) = Some (record { to = area; sx = sx; sy = sy })

-- the copy that it is, if it is one
abbrev pub copy_of : Stroke → Option HintOf
copy_of (Copy area sx sy) = Some (record { to = area; sx = sx; sy = sy })
copy_of (Scroll area dx dy) = Some (scroll_hint area dx dy)
copy_of (Fill area colour) = None
copy_of (Put x y row) = None
copy_of (Rows area rows) = None
copy_of (Hint area sx sy) = None
copy_of (Pixels area form bytes) = None
copy_of (Bytes area bytes) = None

abbrev pub notice_of : Stroke → Notice
notice_of stroke = record { area = area_of stroke; copy = copy_of stroke; hint = hint_of stroke }

-- what is told of a change in a rectangle, whatever it is
abbrev pub change_in : Rect → Notice
change_in area = record { area = area; copy = None; hint = None }

-- the hints that a session keeps then
abbrev pub with_hint_of : Option HintOf → List HintOf → List HintOf
with_hint_of None hints = hints
with_hint_of (Some hint) hints = with_hint hint hints

-- what a notice says
abbrev pub area_told : Notice → Rect
area_told notice = notice.area

abbrev pub hint_told : Notice → Option HintOf
hint_told notice = notice.hint
