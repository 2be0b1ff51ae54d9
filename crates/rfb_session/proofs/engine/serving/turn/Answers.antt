use Rattle.std.proofs.Common.{◌≡◌, ◌<◌, take, length, refl, rules, arith, inl, inr}
use Rattle.std.proofs.KnownBytes.{Consumes-nil}
use Rattle.std.proofs.lemmas.Result.{err_from_is_err_and}
use Rattle.rfb_session.specs.declared.engine.fault.EngineFault.TheVariants.{Server as ServerEnded}
use Rattle.rfb_session.specs.ServeOrder.{MissesRead, StopsInHearing, StopsInUpdating}
use Rattle.rfb_session.specs.Wire.{Came, Ended, Missed}
use Rattle.rfb_session.proofs.FailedLemmas.{err_as, no_answer, none_kept}
use Rattle.rfb_session.proofs.PlayLemmas.{some_taken}
use Rattle.rfb_session.proofs.TurnLemmas.{few_taken}
use Rattle.rfb_session.proofs.engine.serving.turn.Goals as goal

pub returns-in_default-clause-stopped : goal.returns-in_default-clause-stopped
returns-in_default-clause-stopped g c = MissesRead refl c.in_default.ensures.stepped refl

pub hear-requires : goal.hear-requires
hear-requires g c =
    let some : 0 < c.in-Ok.count = search rules in
    let told = g.met.W.Wire.tells c.args.wire.now c.read.new.self
    (Came (take c.in-Ok.count c.read.new.buf)) (c.in-Ok.ensures.stepped.0 some) in
    omega (arith, told.0.1, c.requires.writable)

pub update-requires : goal.update-requires
update-requires g c =
    let some : 0 < c.in-Ok.count = search rules in
    let told = g.met.W.Wire.tells c.args.wire.now c.read.new.self
    (Came (take c.in-Ok.count c.read.new.buf)) (c.in-Ok.ensures.stepped.0 some) in
    omega (arith, told.0.1, c.in_ok-hear.ensures.none_failed, c.requires.writable)

pub returns-in_err-hear-clause-stopped : goal.returns-in_err-hear-clause-stopped
returns-in_err-hear-clause-stopped g c =
    let p = err_from_is_err_and c.from_residual.result c.from_residual.ensures.1 in
    rw (p.1, p.2) (let size : length c.read.new.buf ≡ 4096 = search rules in
    let some : 0 < c.in-Ok.count = search rules in
    StopsInHearing (take c.in-Ok.count c.read.new.buf) c.read.new.self
    (c.in-Ok.ensures.stepped.0 some)
    (few_taken c.in-Ok.count c.read.new.buf (search rules) size) c.in_err-hear.ensures.stopped)

pub returns-clause-turned : goal.returns-clause-turned
returns-clause-turned g c =
    let size : length c.read.new.buf ≡ 4096 = search rules in
    let some : 0 < c.in-Ok.count = search rules in
    record {
      bytes = take c.in-Ok.count c.read.new.buf;
      came = c.read.new.self;
      read = c.in-Ok.ensures.stepped.0 some;
      turn = record {
        some = some_taken c.in-Ok.count c.read.new.buf some (search rules);
        few = few_taken c.in-Ok.count c.read.new.buf (search rules) size;
        heard = c.hear.new.server;
        answered = c.hear.new.wire;
        hears = c.in_ok-hear.ensures.answered;
        ends = c.in_ok-updates.ensures.updated;
      };
    }

pub returns-in_err-updates-clause-stopped : goal.returns-in_err-updates-clause-stopped
returns-in_err-updates-clause-stopped g c =
    let p = err_from_is_err_and c.from_residual-in_err-updates.result c.from_residual-in_err-updates.ensures.1 in
    rw (p.1, p.2) (let size : length c.read.new.buf ≡ 4096 = search rules in
    let some : 0 < c.in-Ok.count = search rules in
    StopsInUpdating (take c.in-Ok.count c.read.new.buf) c.read.new.self
    (c.in-Ok.ensures.stepped.0 some)
    (few_taken c.in-Ok.count c.read.new.buf (search rules) size) c.hear.new.server
    c.hear.new.wire c.in_ok-hear.ensures.answered c.in_err-updates.ensures.stopped)

pub returns-in_default-clause-failed : goal.returns-in_default-clause-failed
returns-in_default-clause-failed g c = λ f is.
    let told = g.met.W.Wire.tells c.args.wire.now c.read.new.self Missed c.in_default.ensures.stepped in
    let old = g.W.Wire.known c.args.wire.now in
    let new = g.W.Wire.known c.read.new.self in
    (refl, inr (none_kept old.unread old.unread new.unread (Consumes-nil old.unread) told.1, inl refl))

pub returns-then-count-eq0-clause-failed : goal.returns-then-count-eq0-clause-failed
returns-then-count-eq0-clause-failed g c = λ f is.
    let none : c.in-Ok.count ≡ 0 = search rules in
    let told = g.met.W.Wire.tells c.args.wire.now c.read.new.self Ended
    (c.in-Ok.ensures.stepped.1 none) in
    (refl, inr (told.1, inr refl))

pub returns-in_err-hear-clause-failed : goal.returns-in_err-hear-clause-failed
returns-in_err-hear-clause-failed g c =
    let p = err_from_is_err_and c.from_residual.result c.from_residual.ensures.1 in
    rw (p.1, p.2) (λ f is.
    let some : 0 < c.in-Ok.count = search rules in
    let again = c.in_err-hear.ensures.failed
    (some_taken c.in-Ok.count c.read.new.buf some (search rules)) f is in
    (again.1, inl (err_as (ServerEnded f) c.in_err-hear.field-0.0 again.0)))

pub returns-clause-failed : goal.returns-clause-failed
returns-clause-failed g c = λ f is.
    let some : 0 < c.in-Ok.count = search rules in
    let again = c.in_ok-hear.ensures.failed
    (some_taken c.in-Ok.count c.read.new.buf some (search rules)) f is in
    absurd (no_answer tt (ServerEnded f) again.0)

pub returns-in_err-updates-clause-failed : goal.returns-in_err-updates-clause-failed
returns-in_err-updates-clause-failed g c =
    let p = err_from_is_err_and c.from_residual-in_err-updates.result c.from_residual-in_err-updates.ensures.1 in
    rw (p.1, p.2) (λ f is.
    let some : 0 < c.in-Ok.count = search rules in
    let again = c.in_ok-hear.ensures.failed
    (some_taken c.in-Ok.count c.read.new.buf some (search rules)) f is in
    absurd (no_answer tt (ServerEnded f) again.0))
