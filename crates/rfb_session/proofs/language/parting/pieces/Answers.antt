use Rattle.std.proofs.Common.{◌==◌, ap, rules, tests, arith, length}
use Rattle.std.proofs.lemmas.Iterator.Splits.{YieldsList-from_slice_split}
use Rattle.std.proofs.lemmas.Iterator.Consumers.{YieldsList-turn, YieldsList-end}
use Rattle.rfb_session.proofs.WordLaws.{eight_already}
use Rattle.rfb_session.proofs.language.parting.pieces.Goals as goal

pub returns-in_err-ok : goal.returns-in_err-ok
returns-in_err-ok c =
    let turn = YieldsList-turn (YieldsList-from_slice_split _ (λ byte. byte == c.args.separator)
    {f = record { 0 = c.args.separator }} c.args.text.now (cc) (cc) (cc) (λ x r q k. search (rules, tests)))
    c.loop-piece.yielded _ c.loop-piece.yielded_by _ _ c.in-Some.piece c.in-Some.is c.next.ensures.steps in
    let same = ap (λ pieces. length pieces) c.loop-piece.invariant in
    let full = eight_already _ _ c.try_push.ensures.variant c.in_err-ok.ensures.variant in
    rw c.from_residual.ensures (omega (arith, turn.0, same, full))

pub returns : goal.returns
returns c =
    let end = YieldsList-end (YieldsList-from_slice_split _ (λ byte. byte == c.args.separator)
    {f = record { 0 = c.args.separator }} c.args.text.now (cc) (cc) (cc) (λ x r q k. search (rules, tests)))
    c.loop-piece.yielded _ c.loop-piece.yielded_by _ _ c.in-None.is c.next.ensures.steps in
    rw c.loop-piece.invariant end.0
