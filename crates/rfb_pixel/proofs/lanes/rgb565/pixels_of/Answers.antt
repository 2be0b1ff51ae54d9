use Rattle.rfb_pixel.specs.Format.{pixel_of, rgb565}
use Rattle.rfb_pixel.proofs.Pack565Lemmas.{below_pixel, lane, packed}
use Rattle.rfb_pixel.proofs.PackLemmas.{eight_below, eight_in}
use Rattle.rfb_pixel.proofs.lanes.rgb565.pixels_of.Goals as goal

pub returns-clause-value : goal.returns-clause-value
returns-clause-value c =
    eight_in lane (pixel_of rgb565) packed c.args.x.now c.args.y.now c.args.z.now c.type_inv.x c.type_inv.y c.type_inv.z

pub returns-clause-bound : goal.returns-clause-bound
returns-clause-bound c =
    eight_below _ (below_pixel _) (below_pixel _) (below_pixel _) (below_pixel _) (below_pixel _) (below_pixel _)
    (below_pixel _) (below_pixel _)
