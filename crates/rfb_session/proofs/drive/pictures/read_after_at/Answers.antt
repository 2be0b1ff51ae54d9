use Rattle.std.proofs.Common.{codes}
use Rattle.rfb_session.proofs.DriveArgumentLemmas.{after_at, unnot}
use Rattle.rfb_session.proofs.WordLaws.{same_word}
use Rattle.rfb_session.proofs.drive.pictures.read_after_at.Goals as goal

pub returns : goal.returns
returns c =
    after_at c.args.word.now c.args.x.now c.args.y.now c.read_at.result
    (same_word c.args.word.now (codes "at") (unnot _ c.if-ne.ensures)) c.read_at.ensures
