use Rattle.std.proofs.Common.{refl}
use Rattle.rfb_session.proofs.ShareLemmas.{follows_on}
use Rattle.rfb_session.proofs.KinLemmas.{still_heard}
use Rattle.rfb_session.proofs.share.receiving.hear_in.Goals as goal

pub returns-in-Ok-clause-follows : goal.returns-in-Ok-clause-follows
returns-in-Ok-clause-follows c = λ screen follow.
    follows_on screen _ _ c.in-Some.seat c.hear.new.self c.in-Some.is refl
    (c.hear.ensures.follows screen) follow

pub returns-else-is_wanting-clause-follows : goal.returns-else-is_wanting-clause-follows
returns-else-is_wanting-clause-follows c = λ screen follow.
    follows_on screen _ _ c.in-Some.seat c.hear.new.self c.in-Some.is refl
    (c.hear.ensures.follows screen) follow

pub returns-in-Ok-clause-known : goal.returns-in-Ok-clause-known
returns-in-Ok-clause-known c =
    λ first. still_heard _ c.in-Some.seat c.hear.new.self c.in-Some.is c.hear.ensures.known first

pub returns-else-is_wanting-clause-known : goal.returns-else-is_wanting-clause-known
returns-else-is_wanting-clause-known c =
    λ first. still_heard _ c.in-Some.seat c.hear.new.self c.in-Some.is c.hear.ensures.known first
