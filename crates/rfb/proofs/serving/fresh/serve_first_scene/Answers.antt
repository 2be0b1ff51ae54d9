use Rattle.std.proofs.Common.{inl, inr, refl}
use Rattle.std.proofs.lemmas.Result.{err_from_is_err_and}
use Rattle.rfb.proofs.ServingLemmas.{shows_scene}
use Rattle.rfb.proofs.serving.fresh.serve_first_scene.Goals as goal

pub returns : goal.returns
returns g c = inl (
  c.new.new.server,
  shows_scene c.args.size c.args.server.now c.new.new.server c.requires.fresh c.in_ok-scene.ensures.drawn,
  c.serve_shown.ensures,
)

pub returns-in_err-scene : goal.returns-in_err-scene
returns-in_err-scene g c =
    let p = err_from_is_err_and c.from_residual.result c.from_residual.ensures.1 in
    rw (p.1, p.2) (inr refl)
