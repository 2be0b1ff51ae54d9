-- Raw, RFC 6143 section 7.7.1: the pixels row by row from the top, each row from the left.
use Rattle.std.specs.Prelude.{◌≡◌, ℕ, ◌+◌, ◌*◌, List, length, drop}
use Rattle.rfb_pixel.specs.Format.{PixelFormat, size_of, pixel_number}
use Rattle.rfb_picture.specs.Grid.{Grid}
use Rattle.rfb_wire.specs.stream.Prefix.{Reading}
use Rattle.rfb_wire.specs.stream.Parts.{valued}
use Rattle.rfb_codec.specs.declared.fault.PaintFault.{PaintFault}
use Rattle.rfb_codec.specs.Pixels.{Shows, drawn}

-- how many bytes the pixels of `width` columns and `height` rows have
abbrev pub raw_length : PixelFormat → ℕ → ℕ → ℕ
raw_length f width height = height * width * size_of f

-- the pixel of a place, after those of the rows above and of the places to the left
abbrev pub raw_pixel : PixelFormat → ℕ → List ℕ → ℕ → ℕ → ℕ
raw_pixel f width bytes x y = pixel_number f (drop ((y * width + x) * size_of f) bytes)

-- the bytes are the block's pixels
pub record StandsRaw (f : PixelFormat) (block : Grid ℕ) (bytes : List ℕ) : Type 0 where
  pub size : length bytes ≡ raw_length f block.width block.height
  pub shows : Shows block (raw_pixel f block.width bytes)

-- the reading of Raw data
unfoldable pub raw : PixelFormat → ℕ → ℕ → Reading (Grid ℕ) PaintFault
raw f width height =
    valued (raw_length f width height) (λ bytes. drawn width height (raw_pixel f width bytes))
