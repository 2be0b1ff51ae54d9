-- What is seen of a screen, and of parts of it.
use Rattle.std.specs.Prelude.{◌≡◌, ◌+◌, ◌-◌, ◌*◌, ◌≤◌, ◌&&◌, nat_le, nat_lt, min, max, ℕ, Bool}
use Rattle.std.specs.Prelude.{Option, Some, None, slice_index_or}
use Rattle.rfb_pixel.specs.declared.colour.Colour.{Colour}
use Rattle.rfb_picture.specs.declared.rect.Rect.{Rect}
use Rattle.rfb_picture.specs.Grid.{Grid, at_or}
use Rattle.rfb_picture.specs.Rect.{rect}
use Rattle.rfb_session.specs.declared.drive.comparing.Difference.{Difference}
use Rattle.rfb_session.specs.declared.drive.driver.looking.Sight.{Sight}
use Rattle.rfb_session.specs.declared.drive.driver.looking.Sight.TheVariants as Seen
use Rattle.rfb_session.specs.declared.drive.driver.saying.Unlike.{Unlike}
use Rattle.rfb_session.specs.declared.drive.words.Likeness.{Likeness}
use Rattle.rfb_session.specs.declared.drive.words.Place.{Place}
use Rattle.rfb_session.specs.declared.netpbm.Pixmap.{Pixmap}
use Rattle.rfb_session.specs.drive.Compare.{Differs, rows_of}
use Rattle.rfb_session.specs.drive.Near.{AreNear}

-- ---- parts of a screen

-- all of it
abbrev pub whole_of : Grid Colour → Rect
whole_of screen = rect 0 0 screen.width screen.height

-- the part of it where a picture is expected
abbrev pub rect_of : Pixmap → Place → Rect
rect_of wanted at = rect at.x at.y wanted.width wanted.height

-- a part, or all of it
abbrev pub part_or : Option Rect → Grid Colour → Rect
part_or None screen = whole_of screen
part_or (Some part) screen = part

-- a part has a place, and lies on the screen
abbrev pub is_part : Grid Colour → Rect → Bool
is_part screen part =
    nat_lt 0 part.w && (nat_lt 0 part.h
    && (nat_le (part.x + part.w) screen.width && nat_le (part.y + part.h) screen.height))

-- two rows of places have one in common
abbrev pub touched : ℕ → ℕ → ℕ → ℕ → Bool
touched a a_len b b_len =
    nat_lt 0 a_len && (nat_lt 0 b_len && (nat_lt a (b + b_len) && nat_lt b (a + a_len)))

-- two rectangles do
abbrev pub touches : Rect → Rect → Bool
touches a b = touched a.x a.w b.x b.w && touched a.y a.h b.y b.h

-- the place after the last of a row of places, as far as 16 bits go
abbrev pub end_of : ℕ → ℕ → ℕ
end_of start len = min (start + len) 65535

-- the least rectangle that holds two
abbrev pub around : Rect → Rect → Rect
around a b =
    let x = min a.x b.x in
    let y = min a.y b.y in
    rect x y (max (end_of a.x a.w) (end_of b.x b.w) - x) (max (end_of a.y a.h) (end_of b.y b.h) - y)

-- the least rectangle that holds what changed before, if something did, and a rectangle
abbrev pub joined : Option Rect → Rect → Rect
joined None rect = rect
joined (Some before) rect = around before rect

-- ---- a picture that is expected there

-- it lies on the screen
abbrev pub Fits : Grid Colour → Pixmap → Place → Type 0
Fits screen wanted at =
    (at.x + wanted.width ≤ screen.width) × (at.y + wanted.height ≤ screen.height)

-- the screen shows it
pub record IsSame (screen : Grid Colour) (wanted : Pixmap) (likeness : Likeness) : Type 0 where
  pub fits : Fits screen wanted likeness.at
  pub near : AreNear likeness.within
      (rows_of screen likeness.at.x likeness.at.y wanted.width wanted.height) wanted.places.items

-- it does not: how many places are too far off, and the first of them
pub record IsUnlike (screen : Grid Colour) (wanted : Pixmap) (likeness : Likeness) (unlike : Unlike) : Type 0 where
  pub fits : Fits screen wanted likeness.at
  pub found : Difference
  pub differs : Differs likeness.within
      (rows_of screen likeness.at.x likeness.at.y wanted.width wanted.height) wanted.places.items wanted.width found
  pub count : unlike.count ≡ found.count
  pub x : unlike.x ≡ likeness.at.x + found.x
  pub y : unlike.y ≡ likeness.at.y + found.y
  pub shown : (d : Colour) → unlike.shown ≡ at_or screen unlike.x unlike.y d
  pub expected : (d : Colour) →
      unlike.expected ≡ slice_index_or wanted.places.items (found.y * wanted.width + found.x) d

abbrev pub Sees : Grid Colour → Pixmap → Likeness → Sight → Type 0
Sees screen wanted likeness Seen.Same = IsSame screen wanted likeness
Sees screen wanted likeness (Seen.Differs unlike) = IsUnlike screen wanted likeness unlike
Sees screen wanted likeness Seen.Off = ¬ (Fits screen wanted likeness.at)
