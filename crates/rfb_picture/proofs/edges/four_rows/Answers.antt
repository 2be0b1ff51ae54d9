use Rattle.std.proofs.Common.{refl}
use Rattle.rfb_picture.proofs.GatherLemmas.{bits_of_four}
use Rattle.rfb_picture.proofs.edges.four_rows.Goals as goal

pub returns-clause-each : goal.returns-clause-each
returns-clause-each c = (bits_of_four c.args.words.now c.args.across c.args.column c.args.row _ _ refl refl).0

pub returns-clause-some : goal.returns-clause-some
returns-clause-some c = (bits_of_four c.args.words.now c.args.across c.args.column c.args.row _ _ refl refl).1
