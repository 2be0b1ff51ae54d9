use Rattle.std.proofs.Common.{inl, inr}
use Rattle.std.proofs.lemmas.Result.{err_from_is_err_and}
use Rattle.rfb_session.proofs.netpbm.head.read_head.Goals as goal

pub returns-in_err-height : goal.returns-in_err-height
returns-in_err-height c =
    let p = err_from_is_err_and c.from_residual-in_err-height.result c.from_residual-in_err-height.ensures.1 in
    rw (p.1, p.2) (inr (_, c.in-Some.ensures, inr (_, _, c.in_ok-width.ensures, inl c.in_err-height.ensures)))

pub returns-in_err-sample : goal.returns-in_err-sample
returns-in_err-sample c =
    let p = err_from_is_err_and c.from_residual-in_err-sample.result c.from_residual-in_err-sample.ensures.1 in
    rw (p.1, p.2) (inr (
      _,
      c.in-Some.ensures,
      inr (_, _, c.in_ok-width.ensures, inr (_, _, c.in_ok-height.ensures, c.in_err-sample.ensures)),
    ))

pub returns : goal.returns
returns c = record {
  magic = c.in-Some.rest.now;
  one = c.in_ok-width.rest.now;
  two = c.in_ok-height.rest.now;
  three = c.in_ok-sample.ensures.0;
  is_magic = c.in-Some.ensures;
  is_width = c.in_ok-width.ensures;
  is_height = c.in_ok-height.ensures;
  is_maximum = c.in_ok-sample.ensures.1;
  is_blank = c.in_ok-sample.ensures.2;
}
