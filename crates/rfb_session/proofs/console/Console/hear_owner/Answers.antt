use Rattle.std.proofs.Common.{Some, None, refl, sym}
use Rattle.rfb_session.specs.console.Console.{Heard}
use Rattle.rfb_session.proofs.console.Console.hear_owner.Goals as goal

pub returns-in-Some-clause-hears : goal.returns-in-Some-clause-hears
returns-in-Some-clause-hears g c =
    Heard (Some c.in-Some.order)
    (rw (c.follow.ensures.side.owner.reader, sym c.in-Some.is) c.feed-used.ensures.feeds)
    c.follow.ensures.obeys c.follow.ensures.side.owner.input

pub returns-in_default-clause-hears : goal.returns-in_default-clause-hears
returns-in_default-clause-hears g c =
    Heard None (rw (sym c.in_default.is) c.feed-used.ensures.feeds) refl refl
