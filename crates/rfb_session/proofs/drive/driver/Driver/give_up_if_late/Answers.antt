use Rattle.std.proofs.Common.{◌∙◌, ap, sym}
use Rattle.rfb_session.specs.declared.drive.driver.input.Input.{Input}
use Rattle.rfb_session.specs.declared.drive.driver.outcome.DriveOutcome.TheVariants as How
use Rattle.rfb_session.specs.drive.driver.Driver.{ends, with_note}
use Rattle.rfb_session.specs.drive.driver.DriverTurn.{IsLate}
use Rattle.rfb_session.proofs.drive.driver.Driver.give_up_if_late.Goals as goal

pub returns : goal.returns
returns g c =
    let kept = c.keep.new.self in
    IsLate c.in-Some.why (sym c.in-Some.ensures) kept c.keep.ensures.keeps (
      c.say.ensures.0,
      c.end.ensures ∙ ap (λ driver. ends (How.Late kept.input.count) driver) c.say.ensures.1
          ∙ ap (λ (input : Input). ends (How.Late input.count) (with_note c.say.ensures.0 kept)) c.keep.ensures.input,
    )
