use Rattle.rfb_session.proofs.MirrorLaws.{one_stands, one_failed, fed_stands}
use Rattle.rfb_session.proofs.law.shown.a_viewer_may_be_shown.Goals as goal

pub returns-clause-stands : goal.returns-clause-stands
returns-clause-stands c = λ viewing viewer s prefix stands. one_stands viewing viewer s prefix stands

pub returns-clause-failed : goal.returns-clause-failed
returns-clause-failed c = λ viewer fault fails. one_failed viewer fault fails

pub returns-clause-fed : goal.returns-clause-fed
returns-clause-fed c = λ old new bytes event fed going stands. fed_stands old new bytes event fed going stands
