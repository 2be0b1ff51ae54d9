use Rattle.rfb_session.proofs.ShareWorkLemmas.{no_work, rests_in}
use Rattle.rfb_session.proofs.share.Share.to_serve.Goals as goal

pub returns-clause-work : goal.returns-clause-work
returns-clause-work c = λ k clear. no_work c.args.self.now k c.args.self.now.rest clear

pub returns-clause-rests : goal.returns-clause-rests
returns-clause-rests c = λ k clear. rests_in c.args.self.now k c.args.self.now.rest clear
