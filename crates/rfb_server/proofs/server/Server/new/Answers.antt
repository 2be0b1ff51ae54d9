use Rattle.rfb_picture.specs.Grid.{uniform}
use Rattle.rfb_picture.proofs.GridLaws.{whole-uniform, width-uniform, height-uniform}
use Rattle.rfb_server.specs.Server.{black}
use Rattle.rfb_server.proofs.server.Server.new.Goals as goal

pub invariant_of-result : goal.invariant_of-result
invariant_of-result c =
    record {
      follows = rw (c.in_ok-screen.ensures.value)
          (c.in_ok-session.ensures.follows (uniform c.args.width c.args.height black) (whole-uniform _ _ _)
          (width-uniform _ _ _) (height-uniform _ _ _));
    }

pub returns-clause-stands : goal.returns-clause-stands
returns-clause-stands c =
    rw (c.in_ok-screen.ensures.value) (c.in_ok-session.ensures.stands (uniform c.args.width c.args.height black))
