use Rattle.std.proofs.Common.{refl, sym}
use Rattle.rfb_session.specs.drive.driver.LineRun.{PictureOff, Shown, Unlike_yet}
use Rattle.rfb_session.proofs.drive.driver.Driver.await_picture.Goals as goal

pub returns-in-Same : goal.returns-in-Same
returns-in-Same g c =
    Shown c.in-Some.picture.now (sym c.in-Some.ensures.value) c.in-Same.ensures c.finish.ensures

pub returns-in-Differs : goal.returns-in-Differs
returns-in-Differs g c =
    Unlike_yet c.in-Some.picture.now (sym c.in-Some.ensures.value) c.in-Differs.unlike c.in-Differs.ensures refl

pub returns-in-Off : goal.returns-in-Off
returns-in-Off g c =
    PictureOff c.in-Some.picture.now (sym c.in-Some.ensures.value) c.in-Off.ensures c.refuse.ensures
