-- The rules of a console that has viewers come.
use Rattle.std.specs.Prelude.{◌≡◌, ◌≤◌, ◌*◌, option_map}
use Rattle.rfb_session.specs.declared.console.plan.Rules.{Rules}
use Rattle.rfb.specs.declared.sharing.hosting.Hosting.{Hosting}

-- what is asked for of viewers; its times are seconds, and those of rules are milliseconds
pub record IsHosted (hosting : Hosting) (rules : Rules) : Type 0 where
  pub viewers : hosting.viewers ≤ 8 → rules.viewers ≡ hosting.viewers
  pub until_idle : rules.until_idle ≡ hosting.until_idle
  pub always_shared : rules.always_shared ≡ hosting.is_always_shared
  pub view_only : rules.view_only ≡ hosting.is_view_only
  pub handshake : rules.handshake ≡ 1000 * hosting.handshake
  pub timeout : rules.timeout ≡ option_map (λ seconds. 1000 * seconds) hosting.timeout
