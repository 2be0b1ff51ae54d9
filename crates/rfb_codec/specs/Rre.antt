-- RRE, RFC 6143 section 7.7.3: a background, and subrectangles of one pixel each over it.
use Rattle.std.specs.Prelude.{◌≡◌, ℕ, ◌+◌, ◌<◌, List, [], ◌∷◌, ◌++◌, length, drop, Option, Some, None, if◌then◌else◌}
use Rattle.rfb_pixel.specs.Format.{PixelFormat, size_of, pixel_number}
use Rattle.rfb_picture.specs.Rect.{contains}
use Rattle.rfb_picture.specs.Grid.{Grid}
use Rattle.rfb_wire.specs.Fields.{u32_at, IsRectAt}
use Rattle.rfb_wire.specs.stream.Prefix.{Reading, Listed}
use Rattle.rfb_wire.specs.stream.Parts.{done, and_then, valued, checked, many}
use Rattle.rfb_wire.specs.RectHead.{IsOnScreen}
use Rattle.rfb_wire.specs.RectStream.{rect_of, is_on_screen}
use Rattle.rfb_codec.specs.declared.subrect.Subrect.{Subrect}
use Rattle.rfb_codec.specs.declared.fault.PaintFault.{PaintFault}
use Rattle.rfb_codec.specs.declared.fault.PaintFault.TheVariants.{SubrectOutside}
use Rattle.rfb_codec.specs.Pixels.{Shows, drawn}

-- ---- what a background and subrectangles show

-- the pixel of a place: that of the last subrectangle that holds it, else the background
abbrev pub pixel_at : ℕ → List Subrect → ℕ → ℕ → ℕ
pixel_at background [] x y = background
pixel_at background (s ∷ subs) x y =
    pixel_at (if contains s.rect x y then s.pixel else background) subs x y

-- ---- the data

-- the data begin with the U32 number of subrectangles and the background pixel
pub record SpellsRreHead (f : PixelFormat) (count background : ℕ) (bytes : List ℕ) : Type 0 where
  pub size : length bytes ≡ 4 + size_of f
  pub count_is : u32_at 0 bytes ≡ count
  pub background_is : pixel_number f (drop 4 bytes) ≡ background

-- a subrectangle is its pixel, and its place and size in the rectangle
pub record SpellsSubrect (f : PixelFormat) (s : Subrect) (bytes : List ℕ) : Type 0 where
  pub size : length bytes ≡ size_of f + 8
  pub pixel_is : pixel_number f bytes ≡ s.pixel
  pub rect_is : IsRectAt 0 s.rect (drop (size_of f) bytes)

-- a subrectangle that does not leave the rectangle, which has that width and height
abbrev pub SpellsInside : PixelFormat → ℕ → ℕ → Subrect → List ℕ → Type 0
SpellsInside f width height s bytes = SpellsSubrect f s bytes × IsOnScreen width height s.rect

-- the bytes spell a background and subrectangles inside, which show the block
pub record StandsRre (f : PixelFormat) (block : Grid ℕ) (bytes : List ℕ) : Type 0 where
  pub background : ℕ
  pub subs : List Subrect
  pub head : List ℕ
  pub list : List ℕ
  pub whole : bytes ≡ head ++ list
  pub head_is : SpellsRreHead f (length subs) background head
  pub listed : Listed (SpellsInside f block.width block.height) subs list
  pub shows : Shows block (pixel_at background subs)

-- the bytes end with the first subrectangle that leaves the rectangle
pub record LeavesAtEnd (f : PixelFormat) (width height : ℕ) (bytes : List ℕ) : Type 0 where
  pub count : ℕ
  pub background : ℕ
  pub subs : List Subrect
  pub outside : Subrect
  pub head : List ℕ
  pub list : List ℕ
  pub last : List ℕ
  pub whole : bytes ≡ head ++ (list ++ last)
  pub head_is : SpellsRreHead f count background head
  pub fewer : length subs < count
  pub listed : Listed (SpellsInside f width height) subs list
  pub last_is : SpellsSubrect f outside last
  pub leaves : IsOnScreen width height outside.rect → ⊥

-- ---- the reading

-- the subrectangle that bytes begin with
abbrev pub subrect_of : PixelFormat → List ℕ → Subrect
subrect_of f bytes =
    record { pixel = pixel_number f bytes; rect = rect_of (drop (size_of f) bytes) }

-- the fault of a subrectangle, if it has one
abbrev pub subrect_fault : ℕ → ℕ → Subrect → Option PaintFault
subrect_fault width height s =
    if is_on_screen width height s.rect then None else Some SubrectOutside

-- a subrectangle, judged at its last byte
abbrev pub subrect : PixelFormat → ℕ → ℕ → Reading Subrect PaintFault
subrect f width height =
    checked (size_of f + 8) (λ bytes. subrect_fault width height (subrect_of f bytes))
    (subrect_of f)

-- how many subrectangles follow, and the background
pub record RreHead : Type 0 where
  pub count : ℕ
  pub background : ℕ

-- the head that bytes begin with
abbrev pub rre_head_of : PixelFormat → List ℕ → RreHead
rre_head_of f bytes = record { count = u32_at 0 bytes; background = pixel_number f (drop 4 bytes) }

-- the reading of RRE data
unfoldable pub rre : PixelFormat → ℕ → ℕ → Reading (Grid ℕ) PaintFault
rre f width height =
    and_then (valued (4 + size_of f) (rre_head_of f))
    (λ head. and_then (many head.count (subrect f width height))
    (λ subs. done (drawn width height (pixel_at head.background subs))))
