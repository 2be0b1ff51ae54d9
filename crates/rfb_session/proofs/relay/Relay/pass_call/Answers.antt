use Rattle.std.proofs.Common.{Ok, Err, refl, sym, ap}
use Rattle.rfb_viewer.specs.declared.fault.AppendFault.{AppendFault}
use Rattle.rfb_session.specs.relay.Calls.{Made, ended_by}
use Rattle.rfb_session.proofs.relay.Relay.pass_call.Goals as goal

pub returns-in-Ok-clause-passes : goal.returns-in-Ok-clause-passes
returns-in-Ok-clause-passes g c =
    Made c.args.call.now refl c.requires.unnoted _ _ (Ok c.in-Ok.field-0) c.in-Some.is refl c.in-Ok.ensures refl

pub returns-in-Err-Refused-clause-passes : goal.returns-in-Err-Refused-clause-passes
returns-in-Err-Refused-clause-passes g c =
    Made c.args.call.now refl c.requires.unnoted _ _ (Err c.in-Err-Refused.field-0) c.in-Some.is refl
    c.in-Err-Refused.ensures
    (sym (ap (λ (f : AppendFault). ended_by (Err f) c.args.self.now.console.outcome) c.in-Err-Refused.field-0-is))

pub returns-in-Err-NoMemory-clause-passes : goal.returns-in-Err-NoMemory-clause-passes
returns-in-Err-NoMemory-clause-passes g c =
    Made c.args.call.now refl c.requires.unnoted _ _ (Err c.in-Err-NoMemory.field-0) c.in-Some.is refl
    c.in-Err-NoMemory.ensures
    (sym (ap (λ (f : AppendFault). ended_by (Err f) c.args.self.now.console.outcome) c.in-Err-NoMemory.field-0-is))
