use Rattle.std.proofs.Common.{ap, arith, length, List, ℕ}
use Rattle.std.proofs.lemmas.List.{length-take}
use Rattle.rfb_session.proofs.owner.notices.tell_text_hex.Goals as goal

pub tell_hex-requires : goal.tell_hex-requires
tell_hex-requires g c =
    omega (arith, ap (λ (t : List ℕ). length t) c.beginning_of.ensures.value, length-take 1024 c.args.text.now)
