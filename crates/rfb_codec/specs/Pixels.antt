-- Blocks of pixels, as the data of a rectangle stand for them: a pixel value at each place.
use Rattle.std.specs.Prelude.{◌≡◌, ℕ, ◌*◌, ◌^◌, ◌<◌, slice_index}
use Rattle.rfb_pixel.specs.Format.{PixelFormat, size_of}
use Rattle.rfb_picture.specs.Grid.{Grid, IsGrid, at_or, changed, uniform}

-- a block of that size has one pixel for each place; either size may be 0
pub record IsSized (width height : ℕ) (block : Grid ℕ) : Type 0 where
  pub width_is : block.width ≡ width
  pub height_is : block.height ≡ height
  pub whole : IsGrid block

-- each place (x, y) of the block has the pixel c x y
abbrev pub Shows : Grid ℕ → (ℕ → ℕ → ℕ) → Type 0
Shows block c = (x y d : ℕ) → x < block.width → y < block.height → at_or block x y d ≡ c x y

-- the block of that size with pixel c x y at each place (x, y)
abbrev pub drawn : ℕ → ℕ → (ℕ → ℕ → ℕ) → Grid ℕ
drawn width height c = changed (λ x y old. c x y) (uniform width height 0)

-- a pixel has no more bits than the format gives it
abbrev pub IsPixel : PixelFormat → ℕ → Type 0
IsPixel f pixel = pixel < 2 ^ (8 * size_of f)

-- no pixel of the block has more
abbrev pub HasPixels : PixelFormat → Grid ℕ → Type 0
HasPixels f block = (i : ℕ) → IsPixel f (slice_index block.places i)
