use Rattle.std.proofs.Common.{◌≡◌, [], sym}
use Rattle.rfb_wire.specs.stream.End.{EndsWith, told, with_event}
use Rattle.rfb_wire.proofs.stream_laws.EndLaws.{told_ends}
use Rattle.rfb_wire.proofs.stream_laws.SessionLaws.{calls_deliver, delivers_so, deliveries_join, calls_not_refused}
use Rattle.rfb_wire.proofs.stream.law.session.calls_of_a_delivery_are_one.Goals as goal

pub returns-clause-calls : goal.returns-clause-calls
returns-clause-calls g c = calls_deliver

pub returns-clause-one : goal.returns-clause-one
returns-clause-one g c = λ m s t prefix bytes later rest queue event one.
    delivers_so m s t prefix bytes later rest queue (λ done. EndsWith m s done event)
    (λ done. with_event event [] ≡ told m s done) (λ done ends. sym (told_ends m s done event ends)) one

pub returns-clause-join : goal.returns-clause-join
returns-clause-join g c = deliveries_join

pub returns-clause-good : goal.returns-clause-good
returns-clause-good g c = calls_not_refused
