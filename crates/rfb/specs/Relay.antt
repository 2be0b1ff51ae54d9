-- What a relay does, as far as its core shows it: all that happens to the core is what its doors bring, and what leaves
-- there.
use Rattle.std.specs.Prelude.{◌≡◌, ℕ, ◌*◌, List, Option, option_map, take}
use Rattle.rfb_session.specs.declared.console.Outcome.{Outcome}
use Rattle.rfb_session.specs.declared.relay.Relay.{Relay}
use Rattle.rfb_session.specs.doors.Tenants.{Goes}
use Rattle.rfb_session.specs.declared.relay.setup.RelaySetup.{RelaySetup}
use Rattle.rfb_session.specs.relay.Server.{IsFreshRelay}
use Rattle.rfb_session.specs.relay.Setup.{viewing_by}
use Rattle.rfb_session.specs.relay.Relay.{DeclinesRelay, OpensRelay, RelaySteps}
use Rattle.rfb.specs.Outcomes.{HappensUntil, LeavesCore}
use Rattle.rfb.specs.Ends.{EndsWell, FailsFor, IsNoEnd}
use Rattle.rfb.specs.HostRules.{IsHosted}
use Rattle.rfb.specs.Recording.{viewing_of}
use Rattle.rfb.specs.declared.fault.Failure.{Failure}
use Rattle.rfb.specs.declared.relaying.relay_words.RelayOptions.{RelayOptions}
use Rattle.rfb.specs.declared.sharing.speaker.Reporter.{Reporter}

-- what options ask for; their times are seconds, and those of a setup are milliseconds
pub record IsSetupOf (options : RelayOptions) (setup : RelaySetup) : Type 0 where
  pub name : option_map (λ name. name.now) setup.name
      ≡ option_map (λ name. take 255 name.now) options.name
  pub text_limit : setup.rules.text_limit ≡ 65536
  pub hosted : IsHosted options.hosting setup.rules
  pub hold : setup.rules.hold ≡ 1000
  pub retry : setup.rules.retry ≡ option_map (λ seconds. 1000 * seconds) options.retry
  pub viewer : viewing_by setup.viewer ≡ viewing_of options.wants.format options.wants.encodings.items

-- a relay that was told nothing, as options ask for it
abbrev pub IsRelayOf : RelayOptions → Relay Reporter → Type 0
IsRelayOf options relay = (setup : RelaySetup) × IsSetupOf options setup × IsFreshRelay setup relay

-- these happened to a relay of the options, in this order, and nothing else did; so it has ended, or
-- has not
abbrev pub RelaysUntil : RelayOptions → Option Outcome → Type 0
RelaysUntil options outcome =
    HappensUntil (IsRelayOf options) (Goes RelaySteps OpensRelay DeclinesRelay)
    (λ (relay : Relay Reporter). relay.console.outcome) outcome

-- a relay that ends well
abbrev pub Relays : RelayOptions → Type 0
Relays options = (outcome : Option Outcome) × RelaysUntil options outcome × EndsWell outcome

-- one that fails: nothing was written before there was a relay, or it has not ended well
abbrev pub LeavesRelay : RelayOptions → Option (List ℕ) → Option (List ℕ) → Type 0
LeavesRelay options before after = LeavesCore (RelaysUntil options) IsNoEnd before after

-- and why: by how it has ended, if anything was written
abbrev pub FailsToRelay : RelayOptions → Option (List ℕ) → Option (List ℕ) → Failure → Type 0
FailsToRelay options before after failure =
    LeavesCore (RelaysUntil options) (λ outcome. FailsFor outcome failure) before after
