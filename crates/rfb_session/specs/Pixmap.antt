-- Portable pixmaps (PPM): a header, then the places of a picture, row after row.
use Rattle.std.specs.Prelude.{ℕ, List, [], ◌∷◌, ◌++◌}
use Rattle.std.specs.Fmt.{decimal}
use lib.Chars.{codes}
use Rattle.byteorder.specs.Endian.{big_bytes}
use Rattle.rfb_picture.specs.Grid.{Grid}
use Rattle.rfb_pixel.specs.declared.colour.Colour.{Colour}

-- The red, the green and the blue of each colour in turn, two bytes each, the most significant
-- first.
unfoldable pub components : List Colour → List ℕ
components [] = []
components (c ∷ cs) =
    big_bytes 2 c.r ++ (big_bytes 2 c.g ++ (big_bytes 2 c.b ++ components cs))

-- What comes before the places of a picture of that size: `P6`, the width and the height in
-- decimal, and the largest component.
abbrev pub header_of : ℕ → ℕ → List ℕ
header_of width height =
    codes "P6\n" ++ (decimal width ++ (codes " " ++ (decimal height ++ codes "\n65535\n")))

abbrev pub header : Grid Colour → List ℕ
header g = header_of g.width g.height

-- The pixmap of a picture: the header, and the places.
abbrev pub pixmap : Grid Colour → List ℕ
pixmap g = header g ++ components g.places
