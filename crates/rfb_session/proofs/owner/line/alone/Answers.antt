use Rattle.std.proofs.Common.{refl}
use Rattle.rfb_session.proofs.OwnerLineLemmas.{some_texts}
use Rattle.rfb_session.proofs.WordLaws.{empty_of, no_texts}
use Rattle.rfb_session.proofs.owner.line.alone.Goals as goal

pub returns-then-is_empty : goal.returns-then-is_empty
returns-then-is_empty c = (refl, no_texts c.args.rest.now (empty_of _ _ c.is_empty.ensures c.if-is_empty.true))

pub returns : goal.returns
returns c = some_texts c.args.rest.now _ c.is_empty.ensures c.if-is_empty.false
