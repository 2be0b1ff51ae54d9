-- The lines of a rig, as they begin and are done.
use Rattle.std.specs.Prelude.{◌⊎◌, ◌≡◌, ◌*◌, ◌==◌, ℕ, Bool, true, false, not, ◌&&◌, nat_lt}
use Rattle.std.specs.Prelude.{List, [], ◌∷◌, ◌++◌, Option, Some, None, Result, Ok, Err, length, is_some, take}
use Rattle.std.specs.Prelude.{if◌then◌else◌}
use Rattle.std.specs.Global.{Vec}
use Rattle.rfb_pixel.specs.declared.colour.Colour.{Colour}
use Rattle.rfb_picture.specs.declared.rect.Rect.{Rect}
use Rattle.rfb_picture.specs.Grid.{Grid}
use Rattle.rfb_viewer.specs.Model.{picture_of}
use Rattle.rfb_wire.specs.stream.FaultPlace.{counted_on}
use Rattle.rfb_session.specs.declared.drive.drive_line.BadLine.{BadLine}
use Rattle.rfb_session.specs.declared.drive.drive_line.DriveLine.{DriveLine}
use Rattle.rfb_session.specs.declared.drive.drive_line.DriveLine.TheVariants as Line
use Rattle.rfb_session.specs.declared.drive.driver.Driver.{Driver}
use Rattle.rfb_session.specs.declared.drive.driver.Pace.{Pace}
use Rattle.rfb_session.specs.declared.drive.driver.outcome.DriveOutcome.TheVariants as How
use Rattle.rfb_session.specs.declared.drive.driver.rig.RigFault.{RigFault}
use Rattle.rfb_session.specs.declared.drive.driver.rig.RigFault.TheVariants.{NoFile, BadPicture, TooLong, NoMemory}
use Rattle.rfb_session.specs.declared.drive.driver.saying.ScreenSize.{ScreenSize}
use Rattle.rfb_session.specs.declared.drive.driver.saying.Unlike.{Unlike}
use Rattle.rfb_session.specs.declared.drive.driver.task.Task.{Task}
use Rattle.rfb_session.specs.declared.drive.driver.task.Task.TheVariants as Waits
use Rattle.rfb_session.specs.declared.drive.words.Likeness.{Likeness}
use Rattle.rfb_session.specs.declared.drive.words.Place.{Place}
use Rattle.rfb_session.specs.declared.netpbm.Pixmap.{Pixmap}
use Rattle.rfb_session.specs.drive.DriveLines.{Says, SaysNone}
use Rattle.rfb_session.specs.drive.driver.Driver.{EndsWith, Finishes, FinishesIf, Refuses, ends}
use Rattle.rfb_session.specs.drive.driver.Input.{IsLineOf, IsPart, IsTooLong, is_skipped, taken}
use Rattle.rfb_session.specs.drive.driver.Sight.{Fits, IsSame, IsUnlike, is_part, part_or}
use Rattle.rfb_session.specs.drive.driver.Rigs.{Rigging, Looked, Took, Saved}
use Rattle.rfb_session.specs.drive.driver.Acts.{OfText, acts_of, place_named, place_or, spelled}
use Rattle.rfb_session.specs.drive.driver.Tasks.{is_idle, is_passed, is_touched}

abbrev pub millis : ℕ → ℕ
millis seconds = 1000 * seconds

-- ---- the screen

abbrev pub size_of : Option (Grid Colour) → ScreenSize
size_of None = record { width = 0; height = 0 }
size_of (Some screen) = record { width = screen.width; height = screen.height }

abbrev pub has_part_of : Option (Grid Colour) → Rect → Bool
has_part_of None part = false
has_part_of (Some screen) part = is_part screen part

-- a place that is named, if it is not on a screen of this size
abbrev pub place_off : Option Place → ScreenSize → Option Place
place_off None screen = None
place_off (Some place) screen =
    if nat_lt place.x screen.width && nat_lt place.y screen.height then None else Some place

-- ---- what the line that is under way waits for

abbrev pub with_task : Task → Pace → Pace
with_task task pace = record pace { task = task }

-- so many bytes wait up to the last of its messages, and the pointer is there
abbrev pub sending : ℕ → Place → Pace → Pace
sending left at pace = record pace { task = Waits.Sending left; at = at }

-- whether something of a part changed
abbrev pub has_changed : Option Rect → Option Rect → Bool
has_changed part None = false
has_changed part (Some changed) = is_touched part changed

module _ {R : Type 0} where
  abbrev pub screen_of : Driver R → ScreenSize
  screen_of driver = size_of (picture_of driver.viewer)

  abbrev pub has_part : Driver R → Rect → Bool
  has_part driver part = has_part_of (picture_of driver.viewer) part

  -- all goes on, and few bytes of reports wait
  abbrev pub is_free : Driver R → Bool
  is_free driver = not (is_some driver.outcome) && nat_lt (length driver.lines) 65536

  -- a line may begin: the first update is whole, and no line is under way
  abbrev pub may_begin : Driver R → Bool
  may_begin driver = driver.is_shown && (is_idle driver.pace.task && is_free driver)

  -- ---- what is sent

  -- these bytes wait for the server, and with the last of what waits then the line is done
  pub data LetsSend (bytes : List ℕ) (at : Place) (old new : Driver R) : Type 0 where
    Sent : (waits : List ℕ) → waits ≡ old.to_server ++ bytes →
        FinishesIf (length waits == 0)
        (record old { to_server = waits; pace = sending (length waits) at old.pace }) new →
        LetsSend bytes at old new
    NoRoom : new ≡ ends How.NoMemory old → LetsSend bytes at old new

  -- the messages of a line wait, in order; or it names a place that is not on the screen, and nothing is sent
  pub data SendsLine (said : DriveLine) (old new : Driver R) : Type 0 where
    Off : (place : Place) → place_off (place_named said) (screen_of old) ≡ Some place → Refuses old new →
        SendsLine said old new
    On : place_off (place_named said) (screen_of old) ≡ None →
        LetsSend (spelled (acts_of old.pace.at said)) (place_or (place_named said) old.pace.at) old new →
        SendsLine said old new
    NoRoomToSpell : new ≡ ends How.NoMemory old → SendsLine said old new

  -- ---- time and changes

  abbrev pub Awaits : Task → ℕ → Driver R → Driver R → Type 0
  Awaits task now old new =
      FinishesIf (is_passed old.pace.begun now task) (record old { pace = with_task task old.pace }) new

  -- a change of a part, or of anything; the part may not lie on the screen
  pub data AwaitsChange (part : Option Rect) (old new : Driver R) : Type 0 where
    PartOff : (area : Rect) → part ≡ Some area → has_part old area ≡ false → Refuses old new →
        AwaitsChange part old new
    PartOn : ((area : Rect) → part ≡ Some area → has_part old area ≡ true) →
        FinishesIf (has_changed part old.pace.changed)
        (record old { pace = with_task (Waits.Change part) old.pace }) new →
        AwaitsChange part old new

  abbrev pub SetsLimit : ℕ → Driver R → Driver R → Type 0
  SetsLimit limit old new = Finishes (record old { pace = record old.pace { limit = limit } }) new

  -- ---- files

  -- a file could not be read or written: a sentence, and all ends
  abbrev pub FailsFor : RigFault → Driver R → Driver R → Type 0
  FailsFor NoFile old new = EndsWith (How.File old.input.count) old new
  FailsFor (BadPicture flaw) old new = EndsWith (How.File old.input.count) old new
  FailsFor TooLong old new = EndsWith (How.File old.input.count) old new
  FailsFor NoMemory old new = new ≡ ends How.NoMemory old

  abbrev pub FinishesOrFails : Result (Unit {0}) RigFault → Driver R → Driver R → Type 0
  FinishesOrFails (Ok done) old new = Finishes old new
  FinishesOrFails (Err fault) old new = FailsFor fault old new

  -- the screen shows a picture, and the line is done; or it waits for that; or the picture leaves the screen
  pub data AwaitsPicture (wanted : Pixmap) (likeness : Likeness) (old new : Driver R) : Type 0 where
    Shown : (screen : Grid Colour) → picture_of old.viewer ≡ Some screen → IsSame screen wanted likeness →
        Finishes old new → AwaitsPicture wanted likeness old new
    Unlike_yet : (screen : Grid Colour) → picture_of old.viewer ≡ Some screen → (unlike : Unlike) →
        IsUnlike screen wanted likeness unlike →
        new ≡ record old {
          pace = with_task (Waits.Expect (record { wanted = wanted; likeness = likeness; unlike = unlike })) old.pace;
        } → AwaitsPicture wanted likeness old new
    PictureOff : (screen : Grid Colour) → picture_of old.viewer ≡ Some screen →
        ¬ (Fits screen wanted likeness.at) → Refuses old new → AwaitsPicture wanted likeness old new
    NoScreen : picture_of old.viewer ≡ None → new ≡ old → AwaitsPicture wanted likeness old new

  abbrev pub AwaitsFound : Result Pixmap RigFault → Likeness → Driver R → Driver R → Type 0
  AwaitsFound (Ok wanted) likeness old new = AwaitsPicture wanted likeness old new
  AwaitsFound (Err fault) likeness old new = FailsFor fault old new

module _ {R : Type 0} (steps : Rigging R) where
  -- the part of the screen, or all of it, went to the rig; or the part has no place or leaves the screen
  pub data Saves (name : List ℕ) (part : Option Rect) (old new : Driver R) : Type 0 where
    SavedPart : (screen : Grid Colour) → picture_of old.viewer ≡ Some screen →
        is_part screen (part_or part screen) ≡ true → (rig : R) (done : Result (Unit {0}) RigFault) →
        steps old.rig (Saved name screen (part_or part screen) done) rig →
        FinishesOrFails done (record old { rig = rig }) new → Saves name part old new
    NoPart : (screen : Grid Colour) → picture_of old.viewer ≡ Some screen →
        is_part screen (part_or part screen) ≡ false → Refuses old new → Saves name part old new
    Blank : picture_of old.viewer ≡ None → new ≡ old → Saves name part old new

  -- the rig looked for the picture, which is waited for
  pub record Expects (name : List ℕ) (likeness : Likeness) (old new : Driver R) : Type 0 where
    pub rig : R
    pub found : Result Pixmap RigFault
    pub looked : steps old.rig (Looked name found) rig
    pub awaits : AwaitsFound found likeness (record old { rig = rig }) new

  -- the rig took the text, whose message waits
  pub data Pastes (name : List ℕ) (old new : Driver R) : Type 0 where
    Pasted : (rig : R) (text : List ℕ) (found : Vec ℕ) → found.items ≡ text →
        steps old.rig (Took name (Ok found)) rig →
        LetsSend (spelled (OfText text ∷ [])) old.pace.at (record old { rig = rig }) new → Pastes name old new
    NoText : (rig : R) (fault : RigFault) → steps old.rig (Took name (Err fault)) rig →
        FailsFor fault (record old { rig = rig }) new → Pastes name old new
    NoRoomForText : (rig : R) (found : Vec ℕ) → steps old.rig (Took name (Ok found)) rig →
        new ≡ ends How.NoMemory (record old { rig = rig }) → Pastes name old new

  -- ---- lines

  -- a line is begun, and done as far as it can be at once
  abbrev pub Begins : ℕ → DriveLine → Driver R → Driver R → Type 0
  Begins now (Line.Key events) old new = SendsLine (Line.Key events) old new
  Begins now (Line.Down key) old new = SendsLine (Line.Down key) old new
  Begins now (Line.Up key) old new = SendsLine (Line.Up key) old new
  Begins now (Line.Text text) old new = SendsLine (Line.Text text) old new
  Begins now (Line.Move place) old new = SendsLine (Line.Move place) old new
  Begins now (Line.Click press) old new = SendsLine (Line.Click press) old new
  Begins now (Line.Double press) old new = SendsLine (Line.Double press) old new
  Begins now (Line.Drag place) old new = SendsLine (Line.Drag place) old new
  Begins now (Line.Wheel way times) old new = SendsLine (Line.Wheel way times) old new
  Begins now (Line.Paste digits) old new = SendsLine (Line.Paste digits) old new
  Begins now (Line.PasteFile name) old new = Pastes name.now old new
  Begins now (Line.Save name part) old new = Saves name.now part old new
  Begins now (Line.Expect name likeness) old new = Expects name.now likeness old new
  Begins now (Line.Still n) old new = Awaits (Waits.Still (millis n) (Some now)) now old new
  Begins now (Line.Wait n) old new = Awaits (Waits.Wait (millis n)) now old new
  Begins now (Line.UntilChange part) old new = AwaitsChange part old new
  Begins now (Line.Timeout n) old new = SetsLimit (millis n) old new

  -- a line says something, which is begun; or it says nothing, and all ends
  pub data RunsRead (line : List ℕ) (now : ℕ) (old new : Driver R) : Type 0 where
    Begun : (said : DriveLine) → Says line said →
        Begins now said (record old { pace = record old.pace { begun = now } }) new → RunsRead line now old new
    Bad : (why : BadLine) → SaysNone line why → Refuses old new → RunsRead line now old new

  -- the next line is taken and counted, and begun unless it is passed over
  pub data RunsLine (count now : ℕ) (old new : Driver R) : Type 0 where
    Skipped : is_skipped (take count old.input.waiting) ≡ true →
        new ≡ record old { input = taken count old.input } → RunsLine count now old new
    Ran : is_skipped (take count old.input.waiting) ≡ false →
        RunsRead (take count old.input.waiting) now (record old { input = taken count old.input }) new →
        RunsLine count now old new
    NoRoomForLine : new ≡ ends How.NoMemory old → RunsLine count now old new

module _ {R : Type 0} where
  -- the next line is too long, and all ends
  abbrev pub RefusesLong : Driver R → Driver R → Type 0
  RefusesLong old new = Refuses (record old { input = record old.input { count = counted_on old.input.count 1 } }) new

module _ {R : Type 0} where
  -- no line can begin now: another is under way, or none may begin, or none has come whole
  abbrev pub Rests : Driver R → Type 0
  Rests driver = (may_begin driver ≡ false) ⊎ IsPart driver.input.waiting driver.input.has_ended

module _ {R : Type 0} (steps : Rigging R) (now : ℕ) where
  -- lines are run one after another, each where no other is under way; a line that is too long ends all, and so does
  -- the end of the input once all are done
  pub data RunsLines : Driver R → Driver R → Type 0 where
    NoLine : {driver : Driver R} → RunsLines driver driver
    NextLine : {first old new : Driver R} (count : ℕ) → RunsLines first old → may_begin old ≡ true →
        IsLineOf old.input.waiting old.input.has_ended count → RunsLine steps count now old new →
        RunsLines first new
    LongLine : {first old new : Driver R} → RunsLines first old → may_begin old ≡ true →
        IsTooLong old.input.waiting → RefusesLong old new → RunsLines first new
    LastLine : {first old new : Driver R} → RunsLines first old → may_begin old ≡ true →
        old.input.waiting ≡ [] → old.input.has_ended ≡ true → new ≡ ends How.Done old → RunsLines first new
