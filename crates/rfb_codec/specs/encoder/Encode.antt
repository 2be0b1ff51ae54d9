-- What the parts of the encoders promise. No public clause reads these words.
use Rattle.std.specs.Prelude.{◌≡◌, ℕ, ◌+◌, ◌*◌, ◌<◌, List, slice_index}
use Rattle.rfb_pixel.specs.declared.colour.Colour.{Colour}
use Rattle.rfb_pixel.specs.Format.{PixelFormat, pixel_of}
use Rattle.rfb_picture.specs.declared.rect.Rect.{Rect}
use Rattle.rfb_picture.specs.Grid.{Grid, at_or}

-- each place of the first rows of a rectangle of a picture has its colour's pixel, row after
-- row
abbrev pub PacksRows : PixelFormat → Grid Colour → Rect → ℕ → List ℕ → Type 0
PacksRows f picture rect rows pixels = (x y : ℕ) (d : Colour) → x < rect.w → y < rows →
    slice_index pixels (y * rect.w + x) ≡ pixel_of f (at_or picture (rect.x + x) (rect.y + y) d)
