use Rattle.std.proofs.Common.{refl}
use Rattle.rfb_server.proofs.law.a_session_over_a_screen_is_a_server.Goals as goal

pub returns-clause-stands : goal.returns-clause-stands
returns-clause-stands c = λ serving screen session taken follows s prefix. (λ stands. stands, λ stands. stands)

pub returns-clause-server : goal.returns-clause-server
returns-clause-server c = λ server. (server.follows, refl)
