-- What a share does, as far as its console shows it: all that happens to the console is what its doors bring, and what
-- leaves there.
use Rattle.std.specs.Prelude.{◌≡◌, ℕ, ◌*◌, List, Option}
use Rattle.rfb_session.specs.declared.console.Console.{Console}
use Rattle.rfb_session.specs.declared.console.Outcome.{Outcome}
use Rattle.rfb_session.specs.console.Console.{IsFreshConsole}
use Rattle.rfb_session.specs.console.History.{Lasts}
use Rattle.rfb.specs.Outcomes.{HappensUntil, LeavesCore}
use Rattle.rfb.specs.Ends.{EndsWell, IsNoEnd}
use Rattle.rfb.specs.HostRules.{IsHosted}
use Rattle.rfb.specs.declared.sharing.share_words.ShareOptions.{ShareOptions}
use Rattle.rfb.specs.declared.sharing.speaker.Reporter.{Reporter}

-- a console that was told nothing, with the rules that options ask for; their times are seconds, and
-- its are milliseconds
pub record IsAsked (options : ShareOptions) (console : Console Reporter) : Type 0 where
  pub fresh : IsFreshConsole console
  pub hosted : IsHosted options.hosting console.rules
  pub hold : console.rules.hold ≡ 1000 * options.hold

-- these happened to a console of the options, in this order, and nothing else did; so it has ended,
-- or has not
abbrev pub SharesUntil : ShareOptions → Option Outcome → Type 0
SharesUntil options outcome =
    HappensUntil (IsAsked options) Lasts (λ (console : Console Reporter). console.outcome) outcome

-- a share that ends well
abbrev pub Shares : ShareOptions → Type 0
Shares options = (outcome : Option Outcome) × SharesUntil options outcome × EndsWell outcome

-- one that fails: nothing was written before there was a console, or it has not ended well
abbrev pub LeavesShare : ShareOptions → Option (List ℕ) → Option (List ℕ) → Type 0
LeavesShare options before after = LeavesCore (SharesUntil options) IsNoEnd before after
