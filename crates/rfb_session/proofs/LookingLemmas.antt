-- What is seen of a part of a screen.
use Rattle.std.proofs.Common.{◌≡◌, ℕ, zero, suc, ◌+◌, ◌*◌, ◌<◌, ◌≤◌, length, arith, length-append, inl, inr}
use Rattle.std.proofs.lemmas.Bool.{cases_lt}
use Rattle.std.proofs.Math.Nat.{mul-le-mul_right}
use Rattle.rfb_picture.proofs.GridLaws.{length-row_of}
use Rattle.rfb_picture.specs.Grid.{Grid, IsGrid, row_of}
use Rattle.rfb_pixel.specs.declared.colour.Colour.{Colour}
use Rattle.rfb_session.specs.declared.drive.comparing.Difference.{Difference}
use Rattle.rfb_session.specs.declared.drive.words.Likeness.{Likeness}
use Rattle.rfb_session.specs.declared.netpbm.Pixmap.{Pixmap}
use Rattle.rfb_session.specs.drive.Compare.{Differs, rows_of}
use Rattle.rfb_session.specs.drive.driver.Sight.{Fits}

pub rows_length : (g : Grid Colour) (x y w h : ℕ) → IsGrid g → x + w ≤ g.width → y + h ≤ g.height →
    length (rows_of g x y w h) ≡ h * w
rows_length g x y w zero whole columns rows = omega arith
rows_length g x y w (suc h) whole columns rows =
    omega (
      arith,
      length-append (rows_of g x y w h) (row_of g x (y + h) w),
      rows_length g x y w h whole columns (omega arith),
      length-row_of g x (y + h) w whole columns (omega arith),
    )

row_below : (x y w h : ℕ) → y * w + x < h * w → y < h
row_below x y w h inside = elim (cases_lt y h) [
  | inl low ↦ low
  | inr high ↦ absurd (omega (arith, inside, mul-le-mul_right w high))
]

-- the first place that differs lies in the part
pub place_found : (likeness : Likeness) (g : Grid Colour) (wanted : Pixmap) (found : Difference) → IsGrid g →
    Fits g wanted likeness.at →
    Differs likeness.within (rows_of g likeness.at.x likeness.at.y wanted.width wanted.height)
    wanted.places.items wanted.width found → found.y * wanted.width + found.x < wanted.height * wanted.width
place_found likeness g wanted found whole fits differs =
    let long = rows_length g likeness.at.x likeness.at.y wanted.width wanted.height whole fits.0 fits.1 in
    omega (arith, differs.first.inside, long)

pub row_found : (likeness : Likeness) (g : Grid Colour) (wanted : Pixmap) (found : Difference) → IsGrid g →
    Fits g wanted likeness.at →
    Differs likeness.within (rows_of g likeness.at.x likeness.at.y wanted.width wanted.height)
    wanted.places.items wanted.width found → found.y < wanted.height
row_found likeness g wanted found whole fits differs =
    row_below found.x found.y wanted.width wanted.height (place_found likeness g wanted found whole fits differs)
