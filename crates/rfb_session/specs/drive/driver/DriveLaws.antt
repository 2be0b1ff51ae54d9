-- What holds of all lines: no button stays down, and nothing happens before it is due.
use Rattle.std.specs.Prelude.{◌≡◌, ◌≤◌, ℕ, List, [], ◌∷◌, Some, None, false}
use Rattle.rfb_session.specs.declared.drive.driver.task.Task.{Task}
use Rattle.rfb_session.specs.declared.drive.driver.task.Task.TheVariants.{Idle, Sending, Still, Wait, Change, Expect}
use Rattle.rfb_session.specs.drive.driver.Acts.{Act, OfKey, OfPointer, OfText}
use Rattle.rfb_session.specs.drive.driver.Tasks.{is_passed, lateness}

-- the buttons that are down after messages
abbrev pub buttons_after : ℕ → List Act → ℕ
buttons_after down [] = down
buttons_after down (OfKey event ∷ acts) = buttons_after down acts
buttons_after down (OfPointer buttons at ∷ acts) = buttons_after buttons acts
buttons_after down (OfText text ∷ acts) = buttons_after down acts

-- it is no earlier than that, nor than what a line counts its time from
abbrev pub IsSince : ℕ → ℕ → Task → Type 0
IsSince begun time Idle = begun ≤ time
IsSince begun time (Sending left) = begun ≤ time
IsSince begun time (Still span None) = begun ≤ time
IsSince begun time (Still span (Some since)) = (begun ≤ time) × (since ≤ time)
IsSince begun time (Wait span) = begun ≤ time
IsSince begun time (Change part) = begun ≤ time
IsSince begun time (Expect expected) = begun ≤ time

-- before the time at which it is due a line is neither done by time nor late
pub record IsQuietBefore (begun limit time : ℕ) (task : Task) : Type 0 where
  pub passed : is_passed begun time task ≡ false
  pub late : lateness begun limit time task ≡ None
