-- What becomes of a driver over many events: the rig's bytes are lines, and each is run once and in order.
use Rattle.std.specs.Prelude.{◌≡◌, ◌+◌, ℕ, true, List, [], ◌∷◌, ◌++◌, take}
use Rattle.rfb_session.specs.declared.drive.driver.Driver.{Driver}
use Rattle.rfb_session.specs.doors.Events.{Event, Received, Ended, Failed, Wrote, Turned, came}
use Rattle.rfb_session.specs.drive.driver.Input.{IsLineOf}
use Rattle.rfb_session.specs.drive.driver.Rigs.{Rigging}
use Rattle.rfb_session.specs.drive.driver.LineRun.{RunsLine, may_begin}
use Rattle.rfb_session.specs.drive.driver.DriverTurn.{Passes, first_at}

-- texts one after another
abbrev pub texts_joined : List (List ℕ) → List ℕ
texts_joined [] = []
texts_joined (text ∷ texts) = text ++ texts_joined texts

module _ {R : Type 0} (steps : Rigging R) where
  -- lines are run one after another, each where no other is under way. Each is what comes next then, and is taken with
  -- its newline, if it has one
  pub data RunsTexts (now : ℕ) (first : Driver R) : List (List ℕ) → Driver R → Type 0 where
    NoText : RunsTexts now first [] first
    NextText : {texts : List (List ℕ)} {old new : Driver R} (count : ℕ) → RunsTexts now first texts old →
        may_begin old ≡ true → IsLineOf old.input.waiting old.input.has_ended count →
        RunsLine steps count now old new →
        RunsTexts now first (texts ++ (take (count + 1) old.input.waiting ∷ [])) new

  -- those that are run at an event: at no other than a turn, once the line before them is done by time, if it is
  abbrev pub RunsAt : Driver R → Event → List (List ℕ) → Driver R → Type 0
  RunsAt old (Received door bytes) texts new = texts ≡ []
  RunsAt old (Ended door) texts new = texts ≡ []
  RunsAt old (Failed door) texts new = texts ≡ []
  RunsAt old (Wrote door bytes) texts new = texts ≡ []
  RunsAt old (Turned now) texts new =
      (passed : Driver R) × (ran : Driver R) × Passes now (first_at now old) passed
      × RunsTexts now passed texts ran × (new.input ≡ ran.input)

  -- those at each of many
  abbrev pub RunsAll : Driver R → List Event → List (List ℕ) → Driver R → Type 0
  RunsAll old [] texts new = (texts ≡ []) × (new ≡ old)
  RunsAll old (event ∷ events) texts new =
      (mid : Driver R) × (now : List (List ℕ)) × (later : List (List ℕ)) × (texts ≡ now ++ later)
      × RunsAt old event now mid × RunsAll mid events later new

  -- what had come and what came, however it was cut, is the lines that were run, in order, and what waits
  pub record IsRun (old : Driver R) (events : List Event) (new : Driver R) : Type 0 where
    pub texts : List (List ℕ)
    pub bytes : old.input.waiting ++ came 1 events ≡ texts_joined texts ++ new.input.waiting
    pub runs : RunsAll old events texts new
