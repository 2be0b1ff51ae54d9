-- A driver: what it is at first, and what it does of what its server sends.
use Rattle.std.specs.Prelude.{is_some}
use Rattle.std.specs.Prelude.{◌≡◌, ◌≢◌, ◌⊎◌, ℕ, Bool, true, false, List, [], ◌++◌}
use Rattle.std.specs.Prelude.{Option, Some, None, Result, Ok, Err, length}
use Rattle.std.specs.Global.{Vec}
use Rattle.std.specs.declared.io.Error.{Error}
use Rattle.rfb_hello.specs.declared.fed.Fed.{Fed}
use Rattle.rfb_picture.specs.declared.rect.Rect.{Rect}
use Rattle.rfb_picture.specs.Rect.{rect}
use Rattle.rfb_picture.specs.Grid.{Grid}
use Rattle.rfb_pixel.specs.declared.colour.Colour.{Colour}
use Rattle.rfb_viewer.specs.declared.event.ViewerEvent.{ViewerEvent}
use Rattle.rfb_viewer.specs.declared.event.ViewerEvent.TheVariants as Said
use Rattle.rfb_viewer.specs.declared.fault.ViewerFault.{ViewerFault}
use Rattle.rfb_viewer.specs.declared.viewer.Viewer.{Viewer}
use Rattle.rfb_viewer.specs.declared.call.Call.TheVariants.{Request}
use Rattle.rfb_viewer.specs.Call.{refused_by}
use Rattle.rfb_viewer.specs.Calls.{requested}
use Rattle.rfb_viewer.specs.Damage.{damage_of}
use Rattle.rfb_viewer.specs.Messages.{request_message}
use Rattle.rfb_viewer.specs.Model.{StandsFor, picture_of}
use Rattle.rfb_viewer.specs.Viewer.{first_viewer}
use Rattle.rfb_session.specs.declared.drive.driver.Driver.{Driver}
use Rattle.rfb_session.specs.declared.drive.driver.DriverSetup.{DriverSetup}
use Rattle.rfb_session.specs.declared.drive.driver.Pace.{Pace}
use Rattle.rfb_session.specs.declared.drive.driver.outcome.DriveOutcome.{DriveOutcome}
use Rattle.rfb_session.specs.declared.drive.driver.outcome.DriveOutcome.TheVariants as How
use Rattle.rfb_session.specs.declared.drive.driver.task.Task.{Task}
use Rattle.rfb_session.specs.declared.drive.driver.task.Task.TheVariants.{Idle}
use Rattle.rfb_session.specs.declared.relay.gone.Gone.{Gone}
use Rattle.rfb_session.specs.declared.relay.gone.Gone.TheVariants.{Failed as OfFault, Size}
use Rattle.rfb_session.specs.LinkBytes.{IsCalled}
use Rattle.rfb_session.specs.Mirrors.{TakesBytes, FailsAt, KeepsViewing}
use Rattle.rfb_session.specs.relay.Calls.{is_shown_size}
use Rattle.rfb_session.specs.relay.Setup.{viewing_by}
use Rattle.rfb_session.specs.drive.driver.RigLines.{ready_line, done_line, changed_line, drive_bell_line}
use Rattle.rfb_session.specs.drive.driver.RigLines.{drive_text_line}
use Rattle.rfb_session.specs.drive.driver.Sight.{joined, whole_of}
use Rattle.rfb_session.specs.drive.driver.Tasks.{HearsChange}

-- no line is under way, and nothing has changed since the last one was done
abbrev pub resting : Pace → Pace
resting pace = record pace { task = Idle; changed = None }

-- a rectangle has changed
abbrev pub with_change : Rect → Pace → Pace
with_change rect pace = record pace { changed = Some (joined pace.changed rect) }

module _ {R : Type 0} where
  -- ---- at first

  -- its server has said nothing, its rig is that one, and nothing waits
  pub record IsFreshDriver (setup : DriverSetup) (rig : R) (driver : Driver R) : Type 0 where
    pub rig_is : driver.rig ≡ rig
    pub stands : StandsFor (viewing_by setup.viewer) driver.viewer first_viewer []
    pub shown : driver.is_shown ≡ false
    pub to_server : driver.to_server ≡ []
    pub orders : driver.input.waiting ≡ []
    pub count : driver.input.count ≡ 0
    pub more : driver.input.has_ended ≡ false
    pub task : driver.pace.task ≡ Idle
    pub limit : driver.pace.limit ≡ setup.limit
    pub pointer : (driver.pace.at.x ≡ 0) × (driver.pace.at.y ≡ 0)
    pub tells : driver.tells_changes ≡ setup.tells_changes
    pub lines : driver.lines ≡ []
    pub notes : driver.notes ≡ []
    pub outcome : driver.outcome ≡ None
    pub changed : driver.pace.changed ≡ None
    pub rooms : (driver.rooms.server ≡ 65536) × (driver.rooms.orders ≡ 65536)
    pub turned : (driver.turns.first ≡ None) × (driver.turns.next ≡ None)
    pub patience : driver.turns.patience ≡ None
    pub goes_on : driver.turns.is_over ≡ false
    pub heard : driver.are_notes_lost ≡ false

  -- the rig, the lines that came and what is taken are as they were, and what has ended stays so
  pub record KeepsRig (old new : Driver R) : Type 0 where
    pub rig : new.rig ≡ old.rig
    pub input : new.input ≡ old.input
    pub rooms : new.rooms ≡ old.rooms
    pub stays : is_some old.outcome ≡ true → is_some new.outcome ≡ true

  -- ---- how all ends

  -- there was no memory, and all has ended
  abbrev pub RunsOut : Driver R → Type 0
  RunsOut new = new.outcome ≡ Some How.NoMemory

  -- all ends so, unless it had before; nothing waits for the server any more
  abbrev pub ends_after : Option DriveOutcome → DriveOutcome → Driver R → Driver R
  ends_after (Some before) how old = old
  ends_after None how old = record old { outcome = Some how; to_server = [] }

  abbrev pub ends : DriveOutcome → Driver R → Driver R
  ends how old = ends_after old.outcome how old

  -- ---- what is reported

  abbrev pub with_line : List ℕ → Driver R → Driver R
  with_line line old = record old { lines = old.lines ++ line }

  abbrev pub with_note : List ℕ → Driver R → Driver R
  with_note note old = record old { notes = old.notes ++ note }

  -- a line that was made waits
  abbrev pub Tells : Result (Vec ℕ) Error → Driver R → Driver R → Type 0
  Tells (Ok line) old new = (new ≡ with_line line.items old) ⊎ (new ≡ record old { outcome = Some How.NoMemory })
  Tells (Err fault) old new = new ≡ record old { outcome = Some How.NoMemory }

  -- the line that is under way is done, and a line says so
  abbrev pub finished : Driver R → Driver R
  finished old =
      record old { lines = old.lines ++ done_line old.input.count; pace = resting old.pace }

  abbrev pub Finishes : Driver R → Driver R → Type 0
  Finishes old new =
      (new ≡ finished old) ⊎ (new ≡ record old { outcome = Some How.NoMemory; pace = resting old.pace })

  abbrev pub FinishesIf : Bool → Driver R → Driver R → Type 0
  FinishesIf false old new = new ≡ old
  FinishesIf true old new = Finishes old new

  -- a sentence waits, or nothing
  abbrev pub SaysNote : Driver R → Driver R → Type 0
  SaysNote old new = (note : List ℕ) × (new ≡ with_note note old)

  -- a sentence, and all ends so
  abbrev pub EndsWith : DriveOutcome → Driver R → Driver R → Type 0
  EndsWith how old new = (note : List ℕ) × (new ≡ ends how (with_note note old))

  -- the line that was read last is bad
  abbrev pub Refuses : Driver R → Driver R → Type 0
  Refuses old new = EndsWith (How.BadLine old.input.count) old new

  -- ---- the server goes away

  -- the input has ended, and all its lines are done
  abbrev pub IsDoneWithAll : Driver R → Type 0
  IsDoneWithAll driver =
      (driver.is_shown ≡ true) × (driver.pace.task ≡ Idle) × (driver.input.waiting ≡ [])
      × (driver.input.has_ended ≡ true)

  -- it has gone away, once: that is a fault unless all was done
  pub data LosesServer (old : Driver R) (how : Gone) (new : Driver R) : Type 0 where
    EndedBefore : old.outcome ≢ None → new ≡ old → LosesServer old how new
    DoneBefore : IsDoneWithAll old → new ≡ ends How.Done old → LosesServer old how new
    GoneNow : ¬ (IsDoneWithAll old) → EndsWith (How.ServerGone how) old new → LosesServer old how new

  -- ---- what it sends

  -- these bytes wait for it too
  abbrev pub with_sent : List ℕ → Driver R → Driver R
  with_sent bytes old = record old { to_server = old.to_server ++ bytes }

  abbrev pub Sends : List ℕ → Driver R → Driver R → Type 0
  Sends bytes old new = (new ≡ with_sent bytes old) ⊎ (new ≡ record old { outcome = Some How.NoMemory })

  -- a line reports it, once the first update is whole
  abbrev pub TellsIf : Bool → Result (Vec ℕ) Error → Driver R → Driver R → Type 0
  TellsIf false line old new = new ≡ old
  TellsIf true line old new = Tells line old new

  -- this line waits, or there was no memory for it
  abbrev pub TellsLine : Bool → List ℕ → Driver R → Driver R → Type 0
  TellsLine false line old new = new ≡ old
  TellsLine true line old new = (new ≡ with_line line old) ⊎ (new ≡ record old { outcome = Some How.NoMemory })

  -- an update of an area is asked for, and its viewer has noted that; or it refuses the request, since one is
  -- outstanding
  pub data Asks (incremental : Bool) (area : Rect) (old new : Driver R) : Type 0 where
    Asked : (viewer : Viewer) → IsCalled requested old.viewer viewer →
        new ≡ record old { viewer = viewer; to_server = old.to_server ++ request_message incremental area } →
        Asks incremental area old new
    Refused : refused_by old.viewer (Request incremental area) ≢ None → new ≡ old → Asks incremental area old new
    NoRoom : new ≡ record old { outcome = Some How.NoMemory } → Asks incremental area old new

  -- its handshake is done: what is owed waits, and after it a request for the whole screen; or its screen is none
  -- that can be shown
  pub data Readies (reply : List ℕ) (width height : ℕ) (old new : Driver R) : Type 0 where
    ReadyNow : is_shown_size width height ≡ true → (mid : Driver R) → Sends reply old mid →
        Asks false (rect 0 0 width height) mid new → Readies reply width height old new
    BadSize : is_shown_size width height ≡ false → (mid : Driver R) → Sends reply old mid →
        LosesServer mid (Size width height) new → Readies reply width height old new

  -- the first update is whole
  abbrev pub BeginsShowing : Rect → Driver R → Driver R → Type 0
  BeginsShowing whole old new =
      TellsLine true (ready_line whole.w whole.h old.name.items) (record old { is_shown = true }) new

  -- an update changed nothing; or a rectangle, which is reported if that is wanted, and the line that is under way may
  -- be done by it
  pub data Changes (old : Driver R) : Option Rect → Driver R → Type 0 where
    Unchanged : {new : Driver R} → new ≡ old → Changes old None new
    NoPicture : {area : Rect} {new : Driver R} → picture_of old.viewer ≡ None → (told : Driver R) →
        TellsLine old.tells_changes (changed_line area) old told →
        new ≡ record told { pace = with_change area told.pace } → Changes old (Some area) new
    Changed : {area : Rect} {new : Driver R} (told : Driver R) →
        TellsLine old.tells_changes (changed_line area) old told →
        (task : Task) (done : Bool) (screen : Grid Colour) → picture_of old.viewer ≡ Some screen →
        HearsChange old.pace.task area screen done task →
        FinishesIf done (record told { pace = record (with_change area told.pace) { task = task } }) new →
        Changes old (Some area) new

  abbrev pub ShowsOrChanges : Bool → Rect → Option Rect → Driver R → Driver R → Type 0
  ShowsOrChanges false whole area old new = BeginsShowing whole old new
  ShowsOrChanges true whole area old new = Changes old area new

  -- an update is whole: what it changed is heard, or the first picture is shown; then the next one is asked for
  pub record Updates (old new : Driver R) : Type 0 where
    pub viewer : Viewer
    pub keeps : KeepsViewing old.viewer viewer
    pub shows : (screen : Grid Colour) → picture_of old.viewer ≡ Some screen →
        (mid : Driver R)
        × ShowsOrChanges old.is_shown (whole_of screen) (damage_of old.viewer) (record old { viewer = viewer }) mid
        × Asks true (whole_of screen) mid new
    pub blank : picture_of old.viewer ≡ None → new ≡ record old { viewer = viewer }

  -- what an event asks for
  abbrev pub Meets : Driver R → Option ViewerEvent → Driver R → Type 0
  Meets old None new = new ≡ old
  Meets old (Some (Said.Reply reply)) new = Sends reply.items old new
  Meets old (Some (Said.Ready reply width height name name_length)) new =
      Readies reply.items width height (record old { name = name }) new
  Meets old (Some Said.UpdateDone) new = Updates old new
  Meets old (Some Said.Bell) new = TellsLine old.is_shown drive_bell_line old new
  Meets old (Some (Said.CutText kept text_length)) new =
      TellsLine old.is_shown (drive_text_line kept.items) old new
  Meets old (Some Said.ColourMapSkipped) new = new ≡ old

  -- its viewer is fed them, as far as the first event, which is met; or it has failed at them, and the server has
  -- gone. After the end nothing is done
  pub data HearsDriven (old : Driver R) (bytes : List ℕ) (used : ℕ) (new : Driver R) : Type 0 where
    Ignored : old.outcome ≢ None → used ≡ length bytes → new ≡ old → HearsDriven old bytes used new
    Met : (viewer : Viewer) (fed : Fed ViewerEvent) → TakesBytes old.viewer bytes fed viewer → used ≡ fed.used →
        Meets (record old { viewer = viewer }) fed.event new → HearsDriven old bytes used new
    FailedAt : (viewer : Viewer) (fault : ViewerFault) → FailsAt old.viewer bytes fault viewer →
        used ≡ length bytes → LosesServer (record old { viewer = viewer }) (OfFault fault) new →
        HearsDriven old bytes used new
