use Rattle.std.proofs.Common.{◌∙◌, ap, sym, Option, Bor, option_copied}
use Rattle.rfb_pixel.specs.declared.colour.Colour.{Colour}
use Rattle.rfb_picture.specs.Grid.{Grid}
use Rattle.rfb.proofs.script.run.finish.Goals as goal

pub returns-clause-shown : goal.returns-clause-shown
returns-clause-shown g c = (
  c.in_ok-picture.picture.now,
  sym c.picture.ensures.shown
      ∙ ap (λ (seen : Option (Bor (Grid Colour))). option_copied seen) c.in_ok-picture.ensures.ok_part,
  c.in_ok-write_ppm.ensures.done,
)
