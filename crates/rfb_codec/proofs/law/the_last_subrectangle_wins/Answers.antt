use Rattle.rfb_codec.proofs.RreLaws.{pixel_at-last}
use Rattle.rfb_codec.proofs.law.the_last_subrectangle_wins.Goals as goal

pub returns-clause-last : goal.returns-clause-last
returns-clause-last c = λ background subs s x y. pixel_at-last background subs s x y
