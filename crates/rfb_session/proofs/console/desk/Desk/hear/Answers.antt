use Rattle.std.proofs.Common.{refl, ◌∙◌}
use Rattle.rfb_session.proofs.DeskLemmas.{hears_took, hears_not, not_itself}
use Rattle.rfb_session.proofs.console.desk.Desk.hear.Goals as goal

pub returns-in_ok-tell_of-in-Ok-clause-hears : goal.returns-in_ok-tell_of-in-Ok-clause-hears
returns-in_ok-tell_of-in-Ok-clause-hears c =
    hears_took c.args.self.now c.stir.new.self _ _ c.args.seat c.args.bytes.now c.stir.ensures (λ j. refl) refl
    (record { rules = refl; hold = refl; first = refl; large = refl }) c.in-Ok.heard c.in-Ok.ensures.heard
    c.in_ok-tell_of-in-Ok.ensures

pub returns-after-is_new-clause-hears : goal.returns-after-is_new-clause-hears
returns-after-is_new-clause-hears c =
    hears_not c.args.self.now c.stir.new.self _ _ c.args.seat c.args.bytes.now c.stir.ensures (λ j. refl) refl
    (record { rules = refl; hold = refl; first = refl; large = refl })
    c.in-Err.fault c.none.result c.in_ok-is_new-in-Err.is_new
    c.in-Err.ensures.refused c.none.ensures c.in_ok-is_new-in-Err.ensures

pub returns-in_ok-tell_of-in-Ok-clause-idle : goal.returns-in_ok-tell_of-in-Ok-clause-idle
returns-in_ok-tell_of-in-Ok-clause-idle c =
    c.in_ok-tell_of-in-Ok.ensures.idle
    (not_itself _ _ _ c.args.seat c.args.bytes.now c.in-Ok.heard c.in-Ok.ensures.heard) ∙ c.stir.ensures.idle
