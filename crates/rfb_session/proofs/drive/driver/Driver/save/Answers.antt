use Rattle.std.proofs.Common.{Ok, Err, sym, subst}
use Rattle.rfb_picture.specs.declared.rect.Rect.{Rect}
use Rattle.rfb_session.specs.drive.driver.Rigs.{Saved}
use Rattle.rfb_session.specs.drive.driver.LineRun.{NoPart, SavedPart}
use Rattle.rfb_session.proofs.drive.driver.Driver.save.Goals as goal

pub returns-then-not-is_part : goal.returns-then-not-is_part
returns-then-not-is_part g c =
    NoPart c.in-Some.picture.now (sym c.in-Some.ensures.value)
    (cc (c.is_part.ensures, c.part_or-part.ensures, c.if-not-is_part.true)) c.refuse.ensures

pub returns-in-Ok : goal.returns-in-Ok
returns-in-Ok g c =
    let screen = c.in-Some.picture.now in
    SavedPart screen (sym c.in-Some.ensures.value)
    (cc (c.is_part.ensures, c.part_or-part.ensures, c.if-not-is_part.false)) c.save.new.self (Ok c.in-Ok.field-0)
    (subst (λ (part : Rect). g.R.Rig.steps c.args.self.now.rig
    (Saved c.args.name.now screen part (Ok c.in-Ok.field-0)) c.save.new.self) c.part_or-part.ensures c.in-Ok.ensures)
    c.finish.ensures

pub returns-in-Err : goal.returns-in-Err
returns-in-Err g c =
    let screen = c.in-Some.picture.now in
    SavedPart screen (sym c.in-Some.ensures.value)
    (cc (c.is_part.ensures, c.part_or-part.ensures, c.if-not-is_part.false)) c.save.new.self (Err c.in-Err.fault)
    (subst (λ (part : Rect). g.R.Rig.steps c.args.self.now.rig
    (Saved c.args.name.now screen part (Err c.in-Err.fault)) c.save.new.self) c.part_or-part.ensures c.in-Err.ensures)
    c.fail_for.ensures
