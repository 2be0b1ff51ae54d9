-- What a drawing changes lies in its rectangle, and that one lies on the screen.
use Rattle.std.proofs.Common.{◌≡◌, ◌+◌, ◌-◌, ◌*◌, arith, if◌then◌else◌, length, refl, subst, Some, None}
use Rattle.std.specs.Prelude.{slice_index_or}
use Rattle.rfb_pixel.specs.declared.colour.Colour.{Colour}
use Rattle.rfb_pixel.specs.Bytes.{byte_colour}
use Rattle.rfb_pixel.specs.Format.{colour_of}
use Rattle.rfb_picture.specs.Rect.{contains, scrolled_to, scrolled_from}
use Rattle.rfb_picture.specs.Grid.{Grid, IsGrid, Holds, at_or, copied, scrolled}
use Rattle.rfb_picture.proofs.GridLaws.{whole-changed, width-changed, height-changed}
use Rattle.rfb_picture.proofs.ScrollLaws.{holds_scrolled_to}
use Rattle.rfb_codec.specs.Raw.{raw_pixel}
use Rattle.rfb_server.specs.declared.session.Session.{Session}
use Rattle.rfb_server.specs.Model.{row_from}
use Rattle.rfb_server.specs.declared.hint.Hint.{Hint as HintOf}
use Rattle.rfb_server.specs.Hints.{scroll_hint}
use Rattle.rfb_server.specs.KnownScreen.{Follows, IsSameOutside, IsCopied, IsTold}
use Rattle.rfb_server.specs.Strokes.{Stroke, Fill, Put, Rows, Pixels, Bytes, Copy, Scroll, Hint, IsInside}
use Rattle.rfb_server.specs.Strokes.{drawn_by, area_of, copy_of, notice_of}
use Rattle.rfb_server.proofs.FollowingLaws.{outside_changed}

-- its rectangle lies on the screen
pub area_held : (s : Stroke) (screen : Grid Colour) → IsInside screen s → Holds screen (area_of s)
area_held (Fill area colour) screen inside = inside
area_held (Put x y row) screen inside = inside
area_held (Rows area rows) screen inside = inside.0
area_held (Pixels area form bytes) screen inside = inside.0
area_held (Bytes area bytes) screen inside = inside.0
area_held (Copy area sx sy) screen inside = inside.0
area_held (Scroll area dx dy) screen inside = holds_scrolled_to screen area dx dy inside
area_held (Hint area sx sy) screen inside = (omega arith, omega arith)

-- the screen that it leaves has a colour at each place
pub whole_drawn : (s : Stroke) (screen : Grid Colour) → IsGrid screen → IsGrid (drawn_by s screen)
whole_drawn (Fill area colour) screen whole = whole-changed _ screen whole
whole_drawn (Put x y row) screen whole = whole-changed _ screen whole
whole_drawn (Rows area rows) screen whole = whole-changed _ screen whole
whole_drawn (Pixels area form bytes) screen whole = whole-changed _ screen whole
whole_drawn (Bytes area bytes) screen whole = whole-changed _ screen whole
whole_drawn (Copy area sx sy) screen whole = whole-changed _ screen whole
whole_drawn (Scroll area dx dy) screen whole = whole-changed _ screen whole
whole_drawn (Hint area sx sy) screen whole = whole

-- and it keeps its size
size_drawn : (s : Stroke) (screen : Grid Colour) →
    ((drawn_by s screen).width ≡ screen.width) × ((drawn_by s screen).height ≡ screen.height)
size_drawn (Fill area colour) screen = (width-changed _ screen, height-changed _ screen)
size_drawn (Put x y row) screen = (width-changed _ screen, height-changed _ screen)
size_drawn (Rows area rows) screen = (width-changed _ screen, height-changed _ screen)
size_drawn (Pixels area form bytes) screen = (width-changed _ screen, height-changed _ screen)
size_drawn (Bytes area bytes) screen = (width-changed _ screen, height-changed _ screen)
size_drawn (Copy area sx sy) screen = (width-changed _ screen, height-changed _ screen)
size_drawn (Scroll area dx dy) screen = (width-changed _ screen, height-changed _ screen)
size_drawn (Hint area sx sy) screen = (refl, refl)

pub width_drawn : (s : Stroke) (screen : Grid Colour) → (drawn_by s screen).width ≡ screen.width
width_drawn s screen = (size_drawn s screen).0

pub height_drawn : (s : Stroke) (screen : Grid Colour) → (drawn_by s screen).height ≡ screen.height
height_drawn s screen = (size_drawn s screen).1

-- outside of its rectangle the screen is as it was
pub drawn_outside : (s : Stroke) (screen : Grid Colour) → IsGrid screen → IsSameOutside (area_of s) screen
    (drawn_by s screen)
drawn_outside (Fill area colour) screen whole =
    outside_changed area (λ x y old. if contains area x y then colour else old) screen whole (λ x y old e. rw e refl)
drawn_outside (Put x y row) screen whole =
    let area = row_from x y (length row) in
    outside_changed area (λ i j old. if contains area i j then slice_index_or row
    (i - x) old else old) screen whole (λ i j old e. rw e refl)
drawn_outside (Rows area rows) screen whole =
    outside_changed area (λ x y old. if contains area x y then slice_index_or rows ((y - area.y) * area.w +
    (x - area.x)) old else old) screen whole (λ x y old e. rw e refl)
drawn_outside (Pixels area form bytes) screen whole =
    outside_changed area (λ x y old. if contains area x y then colour_of form (raw_pixel form area.w bytes
    (x - area.x) (y - area.y)) else old) screen whole (λ x y old e. rw e refl)
drawn_outside (Bytes area bytes) screen whole =
    outside_changed area (λ x y old. if contains area x y then byte_colour bytes ((y - area.y) * area.w +
    (x - area.x)) else old) screen whole (λ x y old e. rw e refl)
drawn_outside (Copy area sx sy) screen whole =
    outside_changed area (λ x y old. if contains area x y then at_or screen (sx + (x - area.x)) (sy +
    (y - area.y)) old else old) screen whole (λ x y old e. rw e refl)
drawn_outside (Scroll area dx dy) screen whole =
    let to = scrolled_to dx dy area in
    let from = scrolled_from dx dy area in
    outside_changed to (λ x y old. if contains to x y then at_or screen (from.x + (x - to.x)) (from.y +
    (y - to.y)) old else old) screen whole (λ x y old e. rw e refl)
drawn_outside (Hint area sx sy) screen whole = record { columns = refl; rows = refl; same = λ x y p q e. refl }

none_told : (copy : HintOf) → None ≡ Some copy → ⊥
none_told copy e = cc

-- where it is told as a copy, it is that
drawn_copied : (s : Stroke) (screen : Grid Colour) → IsCopied (copy_of s) screen (drawn_by s screen)
drawn_copied (Fill area colour) screen = λ copy e. absurd (none_told copy e)
drawn_copied (Put x y row) screen = λ copy e. absurd (none_told copy e)
drawn_copied (Rows area rows) screen = λ copy e. absurd (none_told copy e)
drawn_copied (Pixels area form bytes) screen = λ copy e. absurd (none_told copy e)
drawn_copied (Bytes area bytes) screen = λ copy e. absurd (none_told copy e)
drawn_copied (Copy area sx sy) screen = λ copy e.
    let same : record { to = area; sx = sx; sy = sy } ≡ copy = cc in
    subst (λ (c : HintOf). copied area sx sy screen ≡ copied c.to c.sx c.sy screen) same refl
drawn_copied (Scroll area dx dy) screen = λ copy e.
    let same : scroll_hint area dx dy ≡ copy = cc in
    subst (λ (c : HintOf). scrolled area dx dy screen ≡ copied c.to c.sx c.sy screen) same refl
drawn_copied (Hint area sx sy) screen = λ copy e. absurd (none_told copy e)

-- it is what its notice says
pub drawn_told : (s : Stroke) (screen : Grid Colour) → IsGrid screen →
    IsTold (notice_of s) screen (drawn_by s screen)
drawn_told s screen whole = record {
  whole = whole_drawn s screen whole;
  outside = drawn_outside s screen whole;
  copied = drawn_copied s screen;
}

-- a session that was told of it follows the screen that it leaves
pub follows_stroke : (s : Stroke) (old new : Session) (screen : Grid Colour) → Follows screen old →
    ((before after : Grid Colour) → Follows before old → IsTold (notice_of s) before after → Follows after new) →
    Follows (drawn_by s screen) new
follows_stroke s old new screen follows told =
    told screen (drawn_by s screen) follows (drawn_told s screen follows.whole)
