use Rattle.std.proofs.Common.{◌≡◌, arith}
use Rattle.rfb_pixel.specs.Format.{IsFormat, IsColour, pixel_of}
use Rattle.std.specs.Prelude.{bit_or}
use Rattle.rfb_pixel.proofs.FormatLemmas.{pixel_of-fields, pixel_of-lt, pixel_of-outside, seen_through-full}
use Rattle.rfb_pixel.proofs.format.Format.pack.Goals.{After-place-3}
use Rattle.rfb_pixel.proofs.format.Format.pack.Goals as goal

-- the format and the colour are ones, and the three fields are the pixel
ok : (c : After-place-3) → IsFormat c.args.self.now
ok c = rw (← c.self.view_is) c.self.invariant

small : (c : After-place-3) → IsColour c.args.colour
small c = (omega arith, omega arith, omega arith)

is : (c : After-place-3) → bit_or (bit_or c.place.result c.place-2.result) c.place-3.result
    ≡ pixel_of c.args.self.now c.args.colour
is c = rw (← c.self.view_is) (cc)

pub returns-clause-fields : goal.returns-clause-fields
returns-clause-fields c = rw (is c) (pixel_of-fields c.args.self.now c.args.colour (ok c) (small c))

pub returns-clause-outside : goal.returns-clause-outside
returns-clause-outside c = rw (is c) (pixel_of-outside c.args.self.now c.args.colour (ok c) (small c))

pub returns-clause-exact : goal.returns-clause-exact
returns-clause-exact c = rw (is c) (seen_through-full c.args.self.now c.args.colour (ok c) (small c))

pub returns-clause-bound : goal.returns-clause-bound
returns-clause-bound c = rw (is c) (pixel_of-lt c.args.self.now c.args.colour (ok c) (small c))
