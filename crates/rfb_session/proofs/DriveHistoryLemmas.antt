-- The lines of a rig over many events.
use Rattle.std.proofs.Common.{◌≡◌, ◌∙◌, ℕ, List, [], ◌∷◌, ◌++◌, true, Option}
use Rattle.std.proofs.Common.{None, refl, sym, ap, append_assoc, append-nil}
use Rattle.std.specs.Prelude.{is_some}
use Rattle.rfb_session.specs.declared.drive.driver.Driver.{Driver}
use Rattle.rfb_session.specs.declared.drive.driver.input.Input.{Input}
use Rattle.rfb_session.specs.declared.drive.driver.outcome.DriveOutcome.{DriveOutcome}
use Rattle.rfb_session.specs.declared.drive.driver.outcome.DriveOutcome.TheVariants as How
use Rattle.rfb_session.specs.doors.Events.{Event, Received, Ended, Failed, Wrote, Turned, came, came_by, Runs}
use Rattle.rfb_session.specs.drive.driver.DriveHistory.{IsRun, RunsAt, texts_joined}
use Rattle.rfb_session.specs.drive.driver.Rigs.{Rigging}
use Rattle.rfb_session.specs.drive.driver.LineRun.{LastLine, LongLine, NextLine, NoLine, RunsLines}
use Rattle.rfb_session.specs.drive.driver.Steps.{DriverSteps}
use Rattle.rfb_session.specs.drive.driver.DriverTurn.{AllEnded, EndedBefore, GivesUp, GivesUpFirst, GoesOn}
use Rattle.rfb_session.specs.drive.driver.DriverTurn.{InTime, IsLate}
use Rattle.rfb_session.specs.drive.driver.DriverTurn.{Keeps, KeptPicture, NotLate, NothingShown, Silent, TooLate, Went}
use Rattle.rfb_session.proofs.DriverLineLemmas.{ended_by, line_stays, long_ends}
use Rattle.rfb_session.proofs.DriverStepLemmas.{ends_with_keeps, finishes_if_keeps}
use Rattle.rfb_session.proofs.DriveEventLemmas.{GoesOnYet, ends_come, fails_come, goes, hears_come}
use Rattle.rfb_session.proofs.DriveEventLemmas.{joined_both, lines_ran}
use Rattle.rfb_session.proofs.DriveEventLemmas.{some_ended, true_false, went, writes_come}

module _ {R : Type 0} (steps : Rigging R) where
  -- ---- a turn

  keeps_come : (old kept : Driver R) → Keeps steps old kept →
      (kept.input ≡ old.input) × (is_some old.outcome ≡ true → is_some kept.outcome ≡ true)
  keeps_come old kept (KeptPicture screen is rig step same) =
      (ap (λ (d : Driver R). d.input) same, λ was. ap (λ (d : Driver R). is_some d.outcome) same ∙ was)
  keeps_come old kept (NothingShown none same) =
      (ap (λ (d : Driver R). d.input) same, λ was. ap (λ (d : Driver R). is_some d.outcome) same ∙ was)

  gives_up_come : (now : ℕ) (old new : Driver R) → GivesUp steps now old new →
      (new.input ≡ old.input) × (is_some old.outcome ≡ true → is_some new.outcome ≡ true)
  gives_up_come now old new (EndedBefore ended is) =
      (ap (λ (d : Driver R). d.input) is, λ was. ap (λ (d : Driver R). is_some d.outcome) is ∙ was)
  gives_up_come now old new (Silent shown does) = by does
    where
      by : GivesUpFirst now old new →
          (new.input ≡ old.input) × (is_some old.outcome ≡ true → is_some new.outcome ≡ true)
      by (InTime early is) =
          (ap (λ (d : Driver R). d.input) is, λ was. ap (λ (d : Driver R). is_some d.outcome) is ∙ was)
      by (TooLate late does) =
          let keeps = ends_with_keeps _ old new does in (keeps.input, keeps.stays)
  gives_up_come now old new (NotLate shown none is) =
      (ap (λ (d : Driver R). d.input) is, λ was. ap (λ (d : Driver R). is_some d.outcome) is ∙ was)
  gives_up_come now old new (IsLate why late kept keeping does) =
      let first = keeps_come old kept keeping in
      let then = ends_with_keeps _ kept new does in
      (then.input ∙ first.0, λ was. then.stays (first.1 was))

  lines_stay : (now : ℕ) (first new : Driver R) → RunsLines steps now first new → is_some first.outcome ≡ true →
      is_some new.outcome ≡ true
  lines_stay now first new NoLine was = was
  lines_stay now first new (NextLine {old = old} count before may line runs) was =
      line_stays steps count now old new runs (lines_stay now first old before was)
  lines_stay now first new (LongLine {old = old} before may long does) was = long_ends old new does
  lines_stay now first new (LastLine {old = old} before may none ended is) was = ended_by How.Done old new is

  goes_on_stays : (now : ℕ) (old new : Driver R) → GoesOn steps now old new → is_some old.outcome ≡ true →
      is_some new.outcome ≡ true
  goes_on_stays now old new (AllEnded ended is) was = ap (λ (d : Driver R). is_some d.outcome) is ∙ was
  goes_on_stays now old new (Went none passed ran passes lines rests gives) was =
      (gives_up_come now ran new gives).1
      (lines_stay now passed ran lines ((finishes_if_keeps _ _ passed passes).stays was))

  -- what was run at an event, and what waits then
  record RunsOne (old : Driver R) (event : Event) (new : Driver R) : Type 0 where
    texts : List (List ℕ)
    runs : RunsAt steps old event texts new
    bytes : old.input.waiting ++ came_by 1 event ≡ texts_joined texts ++ new.input.waiting

  turn_runs : (now : ℕ) (old mid new : Driver R) → GoesOn steps now old mid → new.input ≡ mid.input →
      new.outcome ≡ mid.outcome → GoesOnYet new → RunsOne old (Turned now) new
  turn_runs now old mid new (AllEnded ended is) input outcome on =
      absurd (true_false (sym (ap (λ (o : Option DriveOutcome). is_some o) outcome
      ∙ ap (λ (d : Driver R). is_some d.outcome) is ∙ some_ended old.outcome ended) ∙ on))
  turn_runs now old mid new (Went none passed ran passes lines rests gives) input outcome on =
      let given = gives_up_come now ran mid gives in
      let mid_on = ap (λ (o : Option DriveOutcome). is_some o) (sym outcome) ∙ on in
      let texts = lines_ran steps now passed ran lines (went ran mid given.1 mid_on) in
      let kept = (finishes_if_keeps _ _ passed passes).input in
      let last = input ∙ given.0 in
      record {
        texts = texts.texts;
        runs = (passed, ran, passes, texts.runs, last);
        bytes = append-nil old.input.waiting ∙ ap (λ (i : Input). i.waiting) (sym kept) ∙ texts.left
            ∙ ap (λ (i : Input). texts_joined texts.texts ++ i.waiting) (sym last);
      }

  event_stays : (old : Driver R) (event : Event) (new : Driver R) → DriverSteps steps old event new →
      is_some old.outcome ≡ true → is_some new.outcome ≡ true
  event_stays old (Received door bytes) new does was = (hears_come old new door bytes does).stays was
  event_stays old (Ended door) new does was = (ends_come old new door does).stays was
  event_stays old (Failed door) new does was = (fails_come old new door does).stays was
  event_stays old (Wrote door bytes) new does was = (writes_come old new door bytes does).stays was
  event_stays old (Turned now) new does was =
      ap (λ (d : Driver R). is_some d.outcome) does.room ∙ goes_on_stays now old does.mid does.goes was

  event_runs : (old : Driver R) (event : Event) (new : Driver R) → DriverSteps steps old event new →
      GoesOnYet new → RunsOne old event new
  event_runs old (Received door bytes) new does on =
      record { texts = []; runs = refl; bytes = sym ((hears_come old new door bytes does).waits on) }
  event_runs old (Ended door) new does on =
      record { texts = []; runs = refl; bytes = sym ((ends_come old new door does).waits on) }
  event_runs old (Failed door) new does on =
      record { texts = []; runs = refl; bytes = sym ((fails_come old new door does).waits on) }
  event_runs old (Wrote door bytes) new does on =
      record { texts = []; runs = refl; bytes = sym ((writes_come old new door bytes does).waits on) }
  event_runs old (Turned now) new does on =
      turn_runs now old does.mid new does.goes (ap (λ (d : Driver R). d.input) does.room)
      (ap (λ (d : Driver R). d.outcome) does.room) on

  -- ---- many

  all_stay : (old : Driver R) (events : List Event) (new : Driver R) → Runs (DriverSteps steps) old events new →
      is_some old.outcome ≡ true → is_some new.outcome ≡ true
  all_stay old [] new is was = ap (λ (d : Driver R). is_some d.outcome) is ∙ was
  all_stay old (event ∷ events) new runs was =
      all_stay runs.0 events new runs.2 (event_stays old event runs.0 runs.1 was)

  runs_all : (old : Driver R) (events : List Event) (new : Driver R) → GoesOnYet new →
      Runs (DriverSteps steps) old events new → IsRun steps old events new
  runs_all old [] new on is = record {
    texts = [];
    bytes = append-nil old.input.waiting ∙ ap (λ (d : Driver R). d.input.waiting) (sym is);
    runs = (refl, is);
  }
  runs_all old (event ∷ events) new on runs =
      let mid = runs.0 in
      let later = runs_all mid events new on runs.2 in
      let one = event_runs old event mid runs.1 (went mid new (all_stay mid events new runs.2) on) in
      let more = came 1 events in
      record {
        texts = one.texts ++ later.texts;
        bytes = sym (append_assoc old.input.waiting (came_by 1 event) more)
            ∙ ap (λ (l : List ℕ). l ++ more) one.bytes
            ∙ append_assoc (texts_joined one.texts) mid.input.waiting more
            ∙ ap (λ (l : List ℕ). texts_joined one.texts ++ l) later.bytes
            ∙ sym (append_assoc (texts_joined one.texts) (texts_joined later.texts) new.input.waiting)
            ∙ ap (λ (l : List ℕ). l ++ new.input.waiting) (sym (joined_both one.texts later.texts));
        runs = (mid, one.texts, later.texts, refl, one.runs, later.runs);
      }

  pub all_run : (old new : Driver R) (events : List Event) → new.outcome ≡ None →
      Runs (DriverSteps steps) old events new → IsRun steps old events new
  all_run old new events none runs = runs_all old events new (goes new none) runs
