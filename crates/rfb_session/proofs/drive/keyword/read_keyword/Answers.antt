use Rattle.rfb_session.specs.drive.Keywords.{keywords}
use Rattle.rfb_session.proofs.drive.keyword.read_keyword.Goals as goal

pub returns : goal.returns
unfolding keywords
returns c = c.keyword_in.ensures
