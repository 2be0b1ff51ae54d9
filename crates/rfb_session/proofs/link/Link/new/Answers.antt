use Rattle.std.proofs.Common.{[]}
use Rattle.rfb_session.proofs.DeliveringLemmas.{fresh_link}
use Rattle.rfb_session.proofs.link.Link.new.Goals as goal

pub returns-clause-stands : goal.returns-clause-stands
returns-clause-stands c = λ e screen fresh.
    fresh_link e screen _ fresh c.new.ensures
    (c.in_ok-latest.ensures.greeting e.serving screen _ [] fresh.session_is)
    c.in_ok-latest.ensures.none
