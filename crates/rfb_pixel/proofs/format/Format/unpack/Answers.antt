use Rattle.std.proofs.Common.{◌∙◌}
use Rattle.rfb_pixel.specs.Format.{colour_of}
use Rattle.rfb_pixel.proofs.FormatLemmas.{colour_of-agree, same_colour}
use Rattle.rfb_pixel.proofs.format.Format.unpack.Goals as goal

pub returns-clause-ignored : goal.returns-clause-ignored
returns-clause-ignored c = λ other same.
    same_colour _ (colour_of c.args.self.now c.args.pixel)
    (rw (← c.self.view_is) c.component.ensures)
    (rw (← c.self.view_is) c.component-2.ensures) (rw (← c.self.view_is) c.component-3.ensures)
    ∙ colour_of-agree c.args.self.now c.args.pixel other same
