use Rattle.std.proofs.Common.{arith}
use Rattle.rfb_session.proofs.OwnerLineLemmas.{not_places, places_are}
use Rattle.rfb_session.proofs.owner.line.read_places.Goals as goal

pub returns : goal.returns
returns c =
    places_are c.args.words.now _ (omega arith) _ c.read_rect.ensures.value c.read_rect.ensures.found

pub returns-in_default : goal.returns-in_default
returns-in_default c = not_places c.args.words.now (λ e. omega (arith, e))

pub returns-in_default-2 : goal.returns-in_default-2
returns-in_default-2 c = not_places c.args.words.now (λ e. omega (arith, e))
