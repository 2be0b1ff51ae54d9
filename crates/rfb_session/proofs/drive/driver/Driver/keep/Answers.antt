use Rattle.std.proofs.Common.{Option, refl, sym, subst}
use Rattle.rfb_session.specs.declared.drive.words.Likeness.{Likeness}
use Rattle.rfb_session.specs.declared.netpbm.Pixmap.{Pixmap}
use Rattle.rfb_session.specs.drive.driver.Rigs.{Kept}
use Rattle.rfb_session.specs.drive.driver.DriverTurn.{KeptPicture}
use Rattle.rfb_session.proofs.drive.driver.Driver.keep.Goals as goal

pub returns-in-Some-clause-keeps : goal.returns-in-Some-clause-keeps
returns-in-Some-clause-keeps g c =
    let screen = c.in-Some.picture.now in
    KeptPicture screen (sym c.in-Some.ensures.value) c.keep.new.self
    (subst (λ (wanted : Option (Pixmap × Likeness)). g.R.Rig.steps c.args.self.now.rig (Kept screen wanted)
    c.keep.new.self) c.wanted.ensures c.keep.ensures) refl
