use Rattle.std.proofs.Common.{arith}
use Rattle.rfb_session.proofs.DriveArgumentLemmas.{place_words}
use Rattle.rfb_session.proofs.drive.arguments.read_place.Goals as goal

pub returns : goal.returns
returns c = place_words c.args.words.now _ _ (omega arith) c.read_at.ensures
