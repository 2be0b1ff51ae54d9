use Rattle.std.proofs.Common.{arith}
use Rattle.std.proofs.lemmas.Result.{err_from_is_err_and}
use Rattle.rfb_session.proofs.NetpbmFileLemmas.{first_in, head_flaw_read, input_read, places_flaw_read, spells_read}
use Rattle.rfb_session.proofs.netpbm.read.read_parts.Goals as goal

pub returns-in_err-head-clause-refused : goal.returns-in_err-head-clause-refused
returns-in_err-head-clause-refused g c =
    let front = first_in (g.R.Read.remaining c.args.input.now) (g.R.Read.remaining c.read_up_to.new.input)
    c.read_up_to.new.buffer c.in_ok-count.count (omega arith) c.in_ok-count.ensures.count
    c.in_ok-count.ensures.bytes (λ short. c.in_ok-count.ensures.end (omega (arith, short))) in
    let p = err_from_is_err_and c.from_residual-in_err-head.result c.from_residual-in_err-head.ensures.1 in
    rw (p.1, p.2) (head_flaw_read _ _ _ c.in_err-head.field-0.0 front c.in_err-head.ensures)

pub returns-in_err-places-clause-refused : goal.returns-in_err-places-clause-refused
returns-in_err-places-clause-refused g c =
    let front = first_in (g.R.Read.remaining c.args.input.now) (g.R.Read.remaining c.read_up_to.new.input)
    c.read_up_to.new.buffer c.in_ok-count.count (omega arith) c.in_ok-count.ensures.count
    c.in_ok-count.ensures.bytes (λ short. c.in_ok-count.ensures.end (omega (arith, short))) in
    let fails = rw (c.chain-all.ensures.bytes, c.from.ensures, c.from-2.ensures) at c.in_err-places.ensures.refused in
    let p = err_from_is_err_and c.from_residual-in_err-places.result c.from_residual-in_err-places.ensures.1 in
    rw (p.1, p.2) (places_flaw_read _ _ _ _ _ _ _ _ front c.in_ok-head.ensures fails)

pub returns-clause-read : goal.returns-clause-read
returns-clause-read g c =
    let front = first_in (g.R.Read.remaining c.args.input.now) (g.R.Read.remaining c.read_up_to.new.input)
    c.read_up_to.new.buffer c.in_ok-count.count (omega arith) c.in_ok-count.ensures.count
    c.in_ok-count.ensures.bytes (λ short. c.in_ok-count.ensures.end (omega (arith, short))) in
    let are = rw (c.chain-all.ensures.bytes, c.from.ensures, c.from-2.ensures) at c.in_ok-places.ensures.read in
    spells_read _ _ _ _ _ _ _ _ front c.in_ok-head.ensures are

pub returns-in_err-count-clause-refused : goal.returns-in_err-count-clause-refused
returns-in_err-count-clause-refused g c =
    let p = err_from_is_err_and c.from_residual.result c.from_residual.ensures.1 in
    rw (p.1, p.2) (input_read (g.R.Read.remaining c.args.input.now) _ (λ flaw e. absurd cc))
