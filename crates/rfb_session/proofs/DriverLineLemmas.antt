-- Lines that are run take what came of the rig, each once and in order.
use Rattle.std.proofs.Common.{◌≡◌, ◌∙◌, ◌≤◌, ◌<◌, ◌+◌, ℕ, List, Bool, true, false, Option, Some}
use Rattle.std.proofs.Common.{None, Result, Ok, Err, refl, sym, ap, subst, inl, inr, arith, length, drop, length-drop}
use Rattle.std.specs.Prelude.{is_some, ◌⊎◌, ◌&&◌, ◌^◌, ◌-◌, not, min}
use Rattle.rfb_picture.specs.declared.rect.Rect.{Rect}
use Rattle.rfb_wire.specs.stream.FaultPlace.{counted_on}
use Rattle.rfb_session.specs.declared.drive.drive_line.DriveLine.{DriveLine}
use Rattle.rfb_session.specs.declared.drive.drive_line.DriveLine.TheVariants as Line
use Rattle.rfb_session.specs.declared.drive.driver.Driver.{Driver}
use Rattle.rfb_session.specs.declared.drive.driver.input.Input.{Input}
use Rattle.rfb_session.specs.declared.drive.driver.outcome.DriveOutcome.{DriveOutcome}
use Rattle.rfb_session.specs.declared.drive.driver.outcome.DriveOutcome.TheVariants as How
use Rattle.rfb_session.specs.declared.drive.driver.rig.RigFault.{RigFault}
use Rattle.rfb_session.specs.declared.drive.driver.rig.RigFault.TheVariants.{NoFile, BadPicture, TooLong, NoMemory}
use Rattle.rfb_session.specs.declared.drive.words.Likeness.{Likeness}
use Rattle.rfb_session.specs.declared.drive.words.Place.{Place}
use Rattle.rfb_session.specs.declared.netpbm.Pixmap.{Pixmap}
use Rattle.rfb_session.specs.declared.drive.driver.task.Task.TheVariants as Waits
use Rattle.rfb_session.specs.drive.driver.Driver.{KeepsRig, Refuses, ends, ends_after, with_note}
use Rattle.rfb_session.specs.drive.driver.Input.{IsLineOf, taken}
use Rattle.rfb_session.specs.drive.driver.Rigs.{Rigging}
use Rattle.rfb_session.specs.drive.driver.LineRun.{AwaitsChange, AwaitsFound, AwaitsPicture, Bad, Begins, Begun}
use Rattle.rfb_session.specs.drive.driver.LineRun.{Blank, FailsFor, FinishesOrFails, LetsSend, NoPart, NoRoom}
use Rattle.rfb_session.specs.drive.driver.LineRun.{NoRoomForLine, NoRoomForText, NoRoomToSpell, NoScreen, NoText, Off}
use Rattle.rfb_session.specs.drive.driver.LineRun.{On, PartOff, PartOn, Pasted, Pastes, PictureOff, Ran, RunsLine}
use Rattle.rfb_session.specs.drive.driver.LineRun.{RunsRead, SavedPart, Saves, SendsLine, Sent, Shown, Skipped}
use Rattle.rfb_session.specs.drive.driver.LineRun.{RefusesLong, Rests, Unlike_yet, may_begin, millis, with_task}
use Rattle.rfb_session.specs.drive.driver.Tasks.{is_idle}
use Rattle.rfb_session.proofs.DriverStepLemmas.{ends_keeps, ends_with_keeps, finishes_if_keeps, finishes_keeps}

true_false : true ≡ false → ⊥
true_false e = cc e

module _ {R : Type 0} where
  -- once it has ended so, it has ended
  pub ended_by : (how : DriveOutcome) (old new : Driver R) → new ≡ ends how old → is_some new.outcome ≡ true
  ended_by how old new is = subst (λ (d : Driver R). is_some d.outcome ≡ true) (sym is) (by old.outcome refl)
    where
      by : (o : Option DriveOutcome) → old.outcome ≡ o → is_some (ends_after o how old).outcome ≡ true
      by None none = refl
      by (Some before) some = ap (λ (o : Option DriveOutcome). is_some o) some

  -- no more of what came is taken, and what has ended stays so
  abbrev pub KeepsInput : Driver R → Driver R → Type 0
  KeepsInput old new =
      (new.input ≡ old.input) × (is_some old.outcome ≡ true → is_some new.outcome ≡ true)

  of_rig : (old new : Driver R) → KeepsRig old new → KeepsInput old new
  of_rig old new keeps = (keeps.input, keeps.stays)

  by_end : (how : DriveOutcome) (old new : Driver R) → new ≡ ends how old → KeepsInput old new
  by_end how old new is =
      (ap (λ (d : Driver R). d.input) is ∙ (ends_keeps how old).input, λ was. ended_by how old new is)

  as_was : (old new : Driver R) → new ≡ old → KeepsInput old new
  as_was old new is =
      (ap (λ (d : Driver R). d.input) is, λ was. ap (λ (d : Driver R). is_some d.outcome) is ∙ was)

  lets_send_input : (bytes : List ℕ) (at : Place) (old new : Driver R) → LetsSend bytes at old new → KeepsInput old new
  lets_send_input bytes at old new (Sent waits is does) = of_rig _ new (finishes_if_keeps _ _ new does)
  lets_send_input bytes at old new (NoRoom is) = by_end _ old new is

  refuses_input : (old new : Driver R) → Refuses old new → KeepsInput old new
  refuses_input old new does = of_rig old new (ends_with_keeps _ old new does)

  sends_input : (said : DriveLine) (old new : Driver R) → SendsLine said old new → KeepsInput old new
  sends_input said old new (Off place is does) = refuses_input old new does
  sends_input said old new (On is does) = lets_send_input _ _ old new does
  sends_input said old new (NoRoomToSpell is) = by_end _ old new is

  change_input : (part : Option Rect) (old new : Driver R) → AwaitsChange part old new → KeepsInput old new
  change_input part old new (PartOff area is off does) = refuses_input old new does
  change_input part old new (PartOn on does) = of_rig _ new (finishes_if_keeps _ _ new does)

  fails_input : (fault : RigFault) (old new : Driver R) → FailsFor fault old new → KeepsInput old new
  fails_input NoFile old new does = of_rig old new (ends_with_keeps _ old new does)
  fails_input (BadPicture flaw) old new does = of_rig old new (ends_with_keeps _ old new does)
  fails_input TooLong old new does = of_rig old new (ends_with_keeps _ old new does)
  fails_input NoMemory old new is = by_end _ old new is

  done_input : (done : Result (Unit {0}) RigFault) (old new : Driver R) → FinishesOrFails done old new →
      KeepsInput old new
  done_input (Ok done) old new does = of_rig old new (finishes_keeps old new does)
  done_input (Err fault) old new does = fails_input fault old new does

  picture_input : (wanted : Pixmap) (likeness : Likeness) (old new : Driver R) →
      AwaitsPicture wanted likeness old new → KeepsInput old new
  picture_input wanted likeness old new (Shown screen is same does) =
      of_rig old new (finishes_keeps old new does)
  picture_input wanted likeness old new (Unlike_yet screen is unlike differs does) =
      (ap (λ (d : Driver R). d.input) does, λ was. ap (λ (d : Driver R). is_some d.outcome) does ∙ was)
  picture_input wanted likeness old new (PictureOff screen is off does) = refuses_input old new does
  picture_input wanted likeness old new (NoScreen none is) = as_was old new is

  found_input : (found : Result Pixmap RigFault) (likeness : Likeness) (old new : Driver R) →
      AwaitsFound found likeness old new → KeepsInput old new
  found_input (Ok wanted) likeness old new does = picture_input wanted likeness old new does
  found_input (Err fault) likeness old new does = fails_input fault old new does

module _ {R : Type 0} (steps : Rigging R) where
  saves_input : (name : List ℕ) (part : Option Rect) (old new : Driver R) → Saves steps name part old new →
      KeepsInput old new
  saves_input name part old new (SavedPart screen is on rig done step does) =
      done_input done (record old { rig = rig }) new does
  saves_input name part old new (NoPart screen is off does) = refuses_input old new does
  saves_input name part old new (Blank none is) = as_was old new is

  pastes_input : (name : List ℕ) (old new : Driver R) → Pastes steps name old new → KeepsInput old new
  pastes_input name old new (Pasted rig text found is step does) =
      lets_send_input _ _ (record old { rig = rig }) new does
  pastes_input name old new (NoText rig fault step does) = fails_input fault (record old { rig = rig }) new does
  pastes_input name old new (NoRoomForText rig found step is) = by_end _ (record old { rig = rig }) new is

  -- a line that is begun takes nothing more of what came
  begins_input : (now : ℕ) (said : DriveLine) (old new : Driver R) → Begins steps now said old new →
      KeepsInput old new
  begins_input now (Line.Key events) old new does = sends_input (Line.Key events) old new does
  begins_input now (Line.Down key) old new does = sends_input (Line.Down key) old new does
  begins_input now (Line.Up key) old new does = sends_input (Line.Up key) old new does
  begins_input now (Line.Text text) old new does = sends_input (Line.Text text) old new does
  begins_input now (Line.Move place) old new does = sends_input (Line.Move place) old new does
  begins_input now (Line.Click press) old new does = sends_input (Line.Click press) old new does
  begins_input now (Line.Double press) old new does = sends_input (Line.Double press) old new does
  begins_input now (Line.Drag place) old new does = sends_input (Line.Drag place) old new does
  begins_input now (Line.Wheel way times) old new does = sends_input (Line.Wheel way times) old new does
  begins_input now (Line.Paste digits) old new does = sends_input (Line.Paste digits) old new does
  begins_input now (Line.PasteFile name) old new does = pastes_input name.now old new does
  begins_input now (Line.Save name part) old new does = saves_input name.now part old new does
  begins_input now (Line.Expect name likeness) old new does =
      found_input does.found likeness (record old { rig = does.rig }) new does.awaits
  begins_input now (Line.Still n) old new does =
      of_rig (record old { pace = with_task (Waits.Still (millis n) (Some now)) old.pace }) new
      (finishes_if_keeps _ _ new does)
  begins_input now (Line.Wait n) old new does =
      of_rig (record old { pace = with_task (Waits.Wait (millis n)) old.pace }) new (finishes_if_keeps _ _ new does)
  begins_input now (Line.UntilChange part) old new does = change_input part old new does
  begins_input now (Line.Timeout n) old new does =
      let limited = record old { pace = record old.pace { limit = millis n } } in
      of_rig limited new (finishes_keeps limited new does)

  read_input : (line : List ℕ) (now : ℕ) (old new : Driver R) → RunsRead steps line now old new →
      KeepsInput old new
  read_input line now old new (Begun said says does) =
      begins_input now said (record old { pace = record old.pace { begun = now } }) new does
  read_input line now old new (Bad why says does) = refuses_input old new does

  -- what is left of what came after a line: all but that, or all has ended
  pub line_taken : (count now : ℕ) (old new : Driver R) → RunsLine steps count now old new →
      (new.input ≡ taken count old.input) ⊎ (is_some new.outcome ≡ true)
  line_taken count now old new (Skipped skips is) = inl (ap (λ (d : Driver R). d.input) is)
  line_taken count now old new (Ran runs does) =
      inl (read_input _ now (record old { input = taken count old.input }) new does).0
  line_taken count now old new (NoRoomForLine is) = inr (ended_by How.NoMemory old new is)

  pub line_stays : (count now : ℕ) (old new : Driver R) → RunsLine steps count now old new →
      is_some old.outcome ≡ true → is_some new.outcome ≡ true
  line_stays count now old new (Skipped skips is) was = ap (λ (d : Driver R). is_some d.outcome) is ∙ was
  line_stays count now old new (Ran runs does) was =
      (read_input _ now (record old { input = taken count old.input }) new does).1 was
  line_stays count now old new (NoRoomForLine is) was = ended_by How.NoMemory old new is

-- ---- how far lines are run

-- a line is taken, so less is left
pub less_left : (bytes : List ℕ) (ended : Bool) (count : ℕ) → IsLineOf bytes ended count →
    length (drop (count + 1) bytes) < length bytes
less_left bytes ended count line = elim line.ends [
  | inl newline ↦
      omega (arith, length-drop (count + 1) bytes, length-drop count bytes, ap (λ (l : List ℕ). length l) newline.1)
  | inr last ↦ omega (arith, length-drop (count + 1) bytes, last.0, last.1)
]

going : (a b c d : Bool) → (a && (b && (not c && d))) ≡ true → c ≡ false
going true true false d is = refl
going true true true d is = absurd (cc is)
going true false c d is = absurd (cc is)
going false b c d is = absurd (cc is)

over : (a b c d : Bool) → c ≡ true → (a && (b && (not c && d))) ≡ false
over true true true d is = refl
over true true false d is = absurd (cc is)
over true false c d is = refl
over false b c d is = refl

module _ {R : Type 0} where
  -- the same as `length l + i ≤ n`, unless all has ended
  abbrev pub IsFewer : Driver R → ℕ → ℕ → Type 0
  IsFewer driver i n = (length driver.input.waiting + i ≤ n) ⊎ (is_some driver.outcome ≡ true)

  pub ended_rests : (driver : Driver R) → is_some driver.outcome ≡ true → Rests driver
  ended_rests driver is = inl (over driver.is_shown (is_idle driver.pace.task) (is_some driver.outcome) _ is)

  pub refused_rests : (old new : Driver R) → Refuses old new → Rests new
  refused_rests old new does = ended_rests new (ended_by _ (with_note does.0 old) new does.1)

  pub long_ends : (old new : Driver R) → RefusesLong old new → is_some new.outcome ≡ true
  long_ends old new does =
      let counted = record old { input = record old.input { count = counted_on old.input.count 1 } } in
      ended_by _ (with_note does.0 counted) new does.1

  pub long_rests : (old new : Driver R) → RefusesLong old new → Rests new
  long_rests old new does =
      refused_rests (record old { input = record old.input { count = counted_on old.input.count 1 } }) new does

  pub end_rests : (how : DriveOutcome) (old new : Driver R) → new ≡ ends how old → Rests new
  end_rests how old new is = ended_rests new (ended_by how old new is)

  -- one line more was run
  pub fewer_more : (steps : Rigging R) (count now i n : ℕ) (old new : Driver R) → IsFewer old i n →
      may_begin old ≡ true → IsLineOf old.input.waiting old.input.has_ended count →
      RunsLine steps count now old new → IsFewer new (i + 1) n
  fewer_more steps count now i n old new few may line runs = elim (line_taken steps count now old new runs) [
    | inl is ↦ inl (omega (
      arith,
      ap (λ (input : Input). length input.waiting) is,
      less_left old.input.waiting old.input.has_ended count line,
      still few,
    ))
    | inr ended ↦ inr ended
  ]
    where
      still : IsFewer old i n → length old.input.waiting + i ≤ n
      still (inl few) = few
      still (inr ended) =
          let goes = going old.is_shown (is_idle old.pace.task) (is_some old.outcome) _ may in
          absurd (true_false (sym ended ∙ goes))

  -- so many lines are never run
  pub all_rests : (driver : Driver R) (n end : ℕ) → IsFewer driver end n → end ≡ min (n + 1) (2 ^ 64 - 1) →
      n < 2 ^ 64 - 1 → Rests driver
  all_rests driver n end (inl few) is small = absurd (omega (arith, few, is, small))
  all_rests driver n end (inr ended) is small = ended_rests driver ended
