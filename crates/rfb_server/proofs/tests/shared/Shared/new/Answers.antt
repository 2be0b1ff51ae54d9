use Rattle.rfb_picture.specs.Grid.{uniform}
use Rattle.rfb_picture.proofs.GridLaws.{whole-uniform, width-uniform, height-uniform}
use Rattle.rfb_server.specs.Server.{black}
use Rattle.rfb_server.proofs.tests.shared.Shared.new.Goals as goal

pub invariant_of-result : goal.invariant_of-result
invariant_of-result c =
    let both =
    c.in_ok-first.ensures (uniform 3 2 black) (whole-uniform _ _ _) (width-uniform _ _ _) (height-uniform _ _ _) in
    record {
      told_first = rw (c.in_ok-screen.ensures.value) both.0;
      told_second = rw (c.in_ok-screen.ensures.value) both.1;
    }
