use Rattle.std.proofs.Common.{Ok, Err, None, refl, sym, ap}
use Rattle.rfb_viewer.specs.declared.fault.AppendFault.{AppendFault}
use Rattle.rfb_session.specs.relay.Desk.{NobodyWaits}
use Rattle.rfb_session.specs.relay.Calls.{ended_by}
use Rattle.rfb_session.proofs.RelayStepLemmas.{asks_kept, asks_ended, asks_some}
use Rattle.rfb_session.proofs.relay.Relay.ask.Goals as goal

pub returns-in_default-wanted-clause-asks : goal.returns-in_default-wanted-clause-asks
returns-in_default-wanted-clause-asks g c =
    asks_kept _ c.if-not-is_shown.ensures _ _ c.in-Some.desk c.in-Some.desk (Ok tt) _ _ (sym c.if-is_some.ensures)
    c.in-Some.is
    (NobodyWaits (c.in_default-wanted.ensures.none refl) refl refl refl) refl

pub returns-in-Ok-clause-asks : goal.returns-in-Ok-clause-asks
returns-in-Ok-clause-asks g c =
    asks_kept _ c.if-not-is_shown.ensures _ _ _ _ _ _ _ (sym c.if-is_some.ensures) c.in-Some.is
    (asks_some c.in-Some-wanted.ensures.some c.in-Ok.ensures) refl

pub returns-in-Err-Refused-clause-asks : goal.returns-in-Err-Refused-clause-asks
returns-in-Err-Refused-clause-asks g c =
    asks_kept _ c.if-not-is_shown.ensures _ _ _ _ _ _ _ (sym c.if-is_some.ensures) c.in-Some.is
    (asks_some c.in-Some-wanted.ensures.some c.in-Err-Refused.ensures)
    (ap (λ (f : AppendFault). ended_by (Err f) None) c.in-Err-Refused.field-0-is)

pub returns-in-Err-NoMemory-clause-asks : goal.returns-in-Err-NoMemory-clause-asks
returns-in-Err-NoMemory-clause-asks g c =
    asks_ended _ c.if-not-is_shown.ensures _ _ _ _ _ _ _ (sym c.if-is_some.ensures) c.in-Some.is
    (asks_some c.in-Some-wanted.ensures.some c.in-Err-NoMemory.ensures)
    (ap (λ (f : AppendFault). ended_by (Err f) None) c.in-Err-NoMemory.field-0-is)
