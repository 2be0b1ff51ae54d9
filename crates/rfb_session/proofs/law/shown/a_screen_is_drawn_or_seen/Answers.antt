use Rattle.rfb_session.proofs.MirrorLaws.{drawn_only, seen_only}
use Rattle.rfb_session.proofs.law.shown.a_screen_is_drawn_or_seen.Goals as goal

pub returns-clause-drawn : goal.returns-clause-drawn
returns-clause-drawn c = λ share none. drawn_only share.screen none

pub returns-clause-seen : goal.returns-clause-seen
returns-clause-seen c = λ share some. seen_only share.screen some
