use Rattle.std.proofs.Common.{refl}
use Rattle.rfb_server.proofs.LedOnLemmas.{used_claimed}
use Rattle.rfb_server.proofs.UnclaimedLemmas.{claimed_still, left_known}
use Rattle.rfb_server.proofs.session.Session.follow_claimed.Goals as goal

pub returns-then-follow_hint-clause-claimed : goal.returns-then-follow_hint-clause-claimed
returns-then-follow_hint-clause-claimed c =
    used_claimed c.args.screen.now c.args.hint c.args.self.now c.follow_hint.new.self c.follow_hint.result c.args.claim
    c.led_on.result c.if-follow_hint.true c.requires.about c.follow_hint.ensures.followed
    c.follow_hint.ensures.kept.setting.format c.requires.claimed c.led_on.ensures

pub returns-clause-claimed : goal.returns-clause-claimed
returns-clause-claimed c =
    claimed_still c.args.screen.now c.args.self.now c.follow_hint.new.self c.args.claim c.args.claim refl
    (left_known c.args.screen.now c.args.hint c.args.self.now c.follow_hint.new.self c.follow_hint.result
    c.if-follow_hint.false c.follow_hint.ensures.followed) c.follow_hint.ensures.kept.setting.format
    c.requires.claimed
