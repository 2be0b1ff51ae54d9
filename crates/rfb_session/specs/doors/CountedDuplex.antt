-- A duplex with a count of its failures.
use Rattle.std.specs.Prelude.{◌≡◌, ◌≢◌, ◌⊎◌, ℕ, true, if◌then◌else◌}
use Rattle.std.specs.declared.io.ErrorKind.{ErrorKind}
use Rattle.std.specs.declared.io.ErrorKind.TheVariants.{Interrupted, WouldBlock}
use Rattle.rfb_session.specs.declared.doors.device.Answer.{Answer}
use Rattle.rfb_session.specs.declared.doors.device.Answer.TheVariants.{Again, Waits, Failed}
use Rattle.rfb_session.specs.declared.doors.duplex.Counted.{Counted}

-- an error that says to try again is that, and one that says to wait; all others are failures
pub record Means (kind : ErrorKind) (answer : Answer) : Type 0 where
  pub again : kind ≡ Interrupted → answer ≡ Again
  pub waits : kind ≡ WouldBlock → answer ≡ Waits
  pub fails : kind ≢ Interrupted → kind ≢ WouldBlock → answer ≡ Failed

module _ {S : Type 0} where
  abbrev pub within : Counted S → S
  within counted = counted.inner

  -- how many there were, one at most
  abbrev pub failures : Counted S → ℕ
  failures counted = if counted.has_failed then 1 else 0

  -- a failure is counted, and nothing else
  abbrev pub Counts : Answer → Counted S → Counted S → Type 0
  Counts answer old new =
      ((answer ≡ Failed) × (new ≡ record old { has_failed = true }))
      ⊎ (((answer ≡ Again) ⊎ (answer ≡ Waits)) × (new ≡ old))
