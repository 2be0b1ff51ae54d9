use Rattle.std.proofs.Common.{◌∙◌, refl}
use Rattle.rfb_pixel.proofs.UnpackLemmas.{eight_written}
use Rattle.rfb_pixel.proofs.lanes.write_eight.Goals as goal

pub returns : goal.returns
returns c =
    eight_written c.args.colours.now _ _ _ _ _ _ _ _ c.requires
    ∙ rw (
      c.colour.ensures,
      c.colour-2.ensures,
      c.colour-3.ensures,
      c.colour-4.ensures,
      c.colour-5.ensures,
      c.colour-6.ensures,
      c.colour-7.ensures,
      c.colour-8.ensures,
    ) refl
