use Rattle.std.proofs.Common.{List, take, sym, subst, arith}
use Rattle.std.proofs.lemmas.List.{take_more, take_all}
use Rattle.rfb_viewer.specs.declared.viewer.moved.Move.{Move}
use Rattle.rfb_session.specs.ShareMoves.{GetsMoves}
use Rattle.rfb_session.proofs.ShareMoveLemmas.{moves_none, moves_then}
use Rattle.rfb_session.proofs.share.mirroring.telling.tell_moves.Goals as goal

pub loop-copy-init : goal.loop-copy-init
loop-copy-init c = moves_none c.args.picture.now c.args.seat.now

pub loop-copy-preserved : goal.loop-copy-preserved
loop-copy-preserved c =
    let before = take c.loop-copy.copy-index c.args.moves.now in
    subst (λ (moves : List Move). GetsMoves c.args.picture.now moves c.args.seat.now c.tell_move.new.seat)
    (sym (take_more c.args.moves.now c.loop-copy.copy-index _ (omega arith)))
    (moves_then c.args.picture.now before _ c.args.seat.now c.loop-copy.seat c.tell_move.new.seat
    c.loop-copy.invariant c.tell_move.ensures)

pub returns : goal.returns
returns c =
    let all = take_all c.loop-copy.copy-index c.args.moves.now (omega arith) in
    subst (λ (moves : List Move). GetsMoves c.args.picture.now moves c.args.seat.now c.loop-copy.seat) all
    c.loop-copy.invariant
