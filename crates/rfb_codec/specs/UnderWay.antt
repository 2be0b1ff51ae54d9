-- A rectangle under way in a `Painter`: what it and the picture stand for, and what a slice makes
-- of it.
use Rattle.std.specs.Prelude.{◌≡◌, ℕ, List, [], ◌++◌}
use Rattle.rfb_pixel.specs.declared.colour.Colour.{Colour}
use Rattle.rfb_pixel.specs.Format.{PixelFormat}
use Rattle.rfb_picture.specs.declared.rect.Rect.{Rect}
use Rattle.rfb_picture.specs.Grid.{Grid}
use Rattle.rfb_wire.specs.stream.Prefix.{More, Got, Bad}
use Rattle.rfb_wire.specs.stream.FaultPlace.{FaultsWith}
use Rattle.rfb_codec.specs.declared.fault.PaintFault.{PaintFault}
use Rattle.rfb_codec.specs.declared.fault.Flaw.{Flaw}
use Rattle.rfb_codec.specs.declared.painter.stage.Stage.{Stage}
use Rattle.rfb_codec.specs.RectData.{RectData, painted, source_in}
use Rattle.rfb_codec.specs.Painter.{Painting, data_of}
use Rattle.rfb_codec.specs.Front.{ShowsFront}
use Rattle.rfb_codec.specs.Stage.{StandsAt, IsRefused, copied_from, encoding_at}

-- what a `Painter` paints, how far the data have come, and the bytes of the piece under way
pub record UnderWay : Type 0 where
  pub rect : Rect
  pub form : PixelFormat
  pub stage : Stage
  pub pending : List ℕ

abbrev pub painting : UnderWay → Painting
painting p = record { rect = p.rect; encoding = encoding_at p.stage; form = p.form }

-- the painter and the picture `now` stand for the picture before the rectangle and for its data so
-- far
abbrev pub StandsFor : UnderWay → Grid Colour → Grid Colour → List ℕ → Type 0
StandsFor p now before body = StandsAt p.form p.rect p.stage p.pending now before body

-- ---- a slice: what holds for each picture and data that painter and picture stand for

-- the bytes are the rest of the data, which are painted over the picture before; nothing is pending
abbrev pub Paints : UnderWay → Grid Colour → List ℕ → UnderWay → Grid Colour → Type 0
Paints p picture bytes next now =
    (before : Grid Colour) (body : List ℕ) → StandsFor p picture before body →
    (contents : RectData) × (data_of (painting p) before (body ++ bytes) ≡ Got contents []) ×
    (now ≡ painted p.form p.rect contents before)
    × (next.pending ≡ [])

-- the corner that was copied from is the one that the data with these bytes name
abbrev pub CopiesFrom : UnderWay → Grid Colour → List ℕ → UnderWay → Type 0
CopiesFrom p picture bytes next =
    (before : Grid Colour) (body : List ℕ) → StandsFor p picture before body →
    copied_from next.stage ≡ source_in (encoding_at p.stage) (body ++ bytes)

-- with the bytes the data are not whole, and painter and picture stand for them
abbrev pub Waits : UnderWay → Grid Colour → List ℕ → UnderWay → Grid Colour → Type 0
Waits p picture bytes next now =
    (before : Grid Colour) (body : List ℕ) → StandsFor p picture before body →
    (data_of (painting p) before (body ++ bytes) ≡ More) × StandsFor next now before (body ++ bytes)

-- the bytes show this fault, and the picture shows the pieces before the one at fault
abbrev pub Refuses : UnderWay → Grid Colour → List ℕ → Grid Colour → PaintFault → Type 0
Refuses p picture bytes now fault =
    (before : Grid Colour) (body : List ℕ) → StandsFor p picture before body →
    (data_of (painting p) before (body ++ bytes) ≡ Bad fault) ×
    IsRefused p.form p.rect (encoding_at p.stage) before body bytes fault now

-- they show it with that byte, and without it the data wait for more
abbrev pub ShowsWith : UnderWay → Grid Colour → List ℕ → Flaw → Type 0
ShowsWith p picture bytes flaw =
    (before : Grid Colour) (body : List ℕ) → StandsFor p picture before body →
    FaultsWith (λ more. data_of (painting p) before (body ++ more)) bytes flaw.used flaw.fault

-- ---- what a painter stands for is shown

abbrev pub ShowsPieces : UnderWay → Grid Colour → Grid Colour → List ℕ → Type 0
ShowsPieces p now before body =
    ShowsFront p.form p.rect (encoding_at p.stage) before body p.pending now
