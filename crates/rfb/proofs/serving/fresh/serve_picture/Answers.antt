use Rattle.std.proofs.Common.{inr, refl}
use Rattle.std.proofs.lemmas.Result.{err_from_is_err_and}
use Rattle.rfb.proofs.serving.fresh.serve_picture.Goals as goal

pub returns-in_err-server : goal.returns-in_err-server
returns-in_err-server g c =
    let p = err_from_is_err_and c.from_residual.result c.from_residual.ensures.1 in
    rw (p.1, p.2) (inr refl)
