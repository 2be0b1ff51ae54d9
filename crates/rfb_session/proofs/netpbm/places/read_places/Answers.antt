use Rattle.std.proofs.Common.{◌≡◌, ◌+◌, arith}
use Rattle.std.proofs.lemmas.Result.{err_from_is_err_and}
use Rattle.rfb_session.proofs.NetpbmPlacesLemmas.{all_read, count_read, long_read, more_read, short_read}
use Rattle.rfb_session.proofs.netpbm.places.read_places.Goals as goal

pub loop-left-preserved : goal.loop-left-preserved
loop-left-preserved g c =
    let l = c.loop-left in
    let more = c.in_ok-read_piece.ensures.more in
    record {
      done = l.invariant.done + c.min-wanted.result;
      all = omega (arith, l.invariant.all, c.min-wanted.ensures);
      came = more_read c.args.sample l.invariant.done c.min-wanted.result _ _ _ l.places.items more.0
          c.read_piece.new.places.items
          l.invariant.came more.2 more.1;
    }

pub returns-in_err-read_piece-clause-refused : goal.returns-in_err-read_piece-clause-refused
returns-in_err-read_piece-clause-refused g c =
    let l = c.loop-left in
    let p = err_from_is_err_and c.from_residual-in_err-read_piece.result c.from_residual-in_err-read_piece.ensures.1 in
    rw (p.1, p.2)
    (short_read c.args.sample l.invariant.done c.min-wanted.result c.args.count _ _ _ l.places.items _ l.invariant.came
    c.in_err-read_piece.ensures.refused (omega (arith, l.invariant.all, c.min-wanted.ensures)))

pub returns-in_err-judge_end-clause-refused : goal.returns-in_err-judge_end-clause-refused
returns-in_err-judge_end-clause-refused g c =
    let l = c.loop-left in
    let whole : l.invariant.done ≡ c.args.count = omega (arith, l.invariant.all) in
    let p = err_from_is_err_and c.from_residual-in_err-judge_end.result c.from_residual-in_err-judge_end.ensures.1 in
    rw (p.1, p.2)
    (long_read c.args.sample c.args.count _ _ l.places.items _
    (rw whole at l.invariant.came) c.in_err-judge_end.ensures.refused)

pub returns-clause-count : goal.returns-clause-count
returns-clause-count g c =
    let l = c.loop-left in
    omega (arith, l.invariant.all, count_read c.args.sample l.invariant.done _ _ l.places.items l.invariant.came)

pub returns-clause-read : goal.returns-clause-read
returns-clause-read g c =
    let l = c.loop-left in
    let whole : l.invariant.done ≡ c.args.count = omega (arith, l.invariant.all) in
    all_read c.args.sample c.args.count _ _ l.places.items
    (rw whole at l.invariant.came) c.in_ok-judge_end.ensures.done
