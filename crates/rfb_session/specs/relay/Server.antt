-- What a relay does with its server: how that comes, is shown, goes away and is called again.
use Rattle.std.specs.Prelude.{◌≡◌, ◌≢◌, ◌<◌, ◌⊎◌, ℕ, Bool, true, false}
use Rattle.std.specs.Prelude.{List, [], ◌++◌, Option, Some, None}
use Rattle.std.specs.Prelude.{length, take}
use Rattle.rfb_hello.specs.declared.fed.Fed.{Fed}
use Rattle.rfb_picture.specs.Rect.{rect}
use Rattle.rfb_viewer.specs.declared.event.ViewerEvent.{ViewerEvent}
use Rattle.rfb_viewer.specs.declared.event.ViewerEvent.TheVariants as Said
use Rattle.rfb_viewer.specs.declared.fault.ViewerFault.{ViewerFault}
use Rattle.rfb_viewer.specs.declared.viewer.Viewer.{Viewer}
use Rattle.rfb_viewer.specs.Messages.{request_message}
use Rattle.rfb_viewer.specs.Model.{StandsFor}
use Rattle.rfb_viewer.specs.Viewer.{first_viewer}
use Rattle.rfb_session.specs.declared.console.Outcome.{Outcome}
use Rattle.rfb_session.specs.declared.console.Outcome.TheVariants.{NoMemory, ServerGone}
use Rattle.rfb_session.specs.declared.console.desk.Desk.{Desk}
use Rattle.rfb_session.specs.declared.relay.Relay.{Relay}
use Rattle.rfb_session.specs.declared.relay.gone.Gone.{Gone}
use Rattle.rfb_session.specs.declared.relay.gone.Gone.TheVariants.{Failed as OfFault, Size}
use Rattle.rfb_session.specs.declared.relay.presence.Presence.{Presence}
use Rattle.rfb_session.specs.declared.relay.presence.Presence.TheVariants.{Coming, Shown, Gone as Lost}
use Rattle.rfb_session.specs.declared.relay.presence.Recall.TheVariants.{Unplanned}
use Rattle.rfb_session.specs.declared.relay.setup.RelaySetup.{RelaySetup}
use Rattle.rfb_session.specs.declared.share.Share.{Share}
use Rattle.rfb_session.specs.Mirrors.{TakesBytes, FailsAt}
use Rattle.rfb_session.specs.Share.{viewer_of}
use Rattle.rfb_session.specs.console.Console.{IsFreshConsole, KeepsSide}
use Rattle.rfb_session.specs.console.Console.{KeepsButNext}
use Rattle.rfb_session.specs.console.Time.{IsBy}
use Rattle.rfb_session.specs.relay.Calls.{Queues, TakesRequest, is_shown_size}
use Rattle.rfb_session.specs.relay.Desk.{IsShareOf, IsOver, FeedsDesk, FailsDesk, HoldsWithin, LosesDesk, TellsSome}
use Rattle.rfb_session.specs.relay.Desk.{told_of_server, ShowsAgain, BeginsAnew, TellsServer, up_of}
use Rattle.rfb_session.specs.relay.Presence.{is_gone, is_shown, call_time, planned, WakesToCall}
use Rattle.rfb_session.specs.relay.Setup.{name_by, viewing_by}
use Rattle.rfb_session.specs.relay.Doors.{KeepsBeside, KeepsDeskBy, KeepsHere, KeepsServer, TakesViewer, passed_at}

-- how all has ended then: where it is not called again all ends, if it had not before; or memory was wanting
abbrev pub EndsFor : Option ℕ → Option Outcome → Gone → Option Outcome → Type 0
EndsFor retry (Some ended) how ends = ends ≡ Some ended
EndsFor None None how ends = (ends ≡ Some (ServerGone how)) ⊎ (ends ≡ Some NoMemory)
EndsFor (Some pause) None how ends = (ends ≡ None) ⊎ (ends ≡ Some NoMemory)

-- where its picture was shown and all goes on a line says so, or memory for that was wanting; the share is as it was
abbrev pub IsToldGone : Bool → Option Outcome → Gone → Option Desk → Option Desk → Option Outcome → Type 0
IsToldGone false ended how a b ends = b ≡ a
IsToldGone true (Some ended) how a b ends = b ≡ a
IsToldGone true None how None b ends = b ≡ None
IsToldGone true None how (Some a) b ends =
    (desk : Desk) × (b ≡ Some desk) × (desk.share ≡ a.share) × (LosesDesk a how desk ⊎
    (ends ≡ Some NoMemory))

-- a call is planned where there is a pause before it, and all goes on
abbrev pub planned_for : Option ℕ → Option Outcome → ℕ → Presence → Presence
planned_for None ended now presence = presence
planned_for (Some pause) (Some ended) now presence = presence
planned_for (Some pause) None now presence = planned now pause presence

abbrev pub WakesFor : Option ℕ → Option Outcome → Presence → Option ℕ → Type 0
WakesFor None ended presence next = Unit {0}
WakesFor (Some pause) (Some ended) presence next = Unit {0}
WakesFor (Some pause) None presence next = WakesToCall (call_time presence) next

-- the server's name is kept as it told it, of 255 bytes at most
abbrev pub named_by : Option ViewerEvent → List ℕ → List ℕ
named_by None old = old
named_by (Some (Said.Reply reply)) old = old
named_by (Some (Said.Ready reply width height name name_length)) old = take 255 name.items
named_by (Some Said.UpdateDone) old = old
named_by (Some Said.Bell) old = old
named_by (Some (Said.CutText kept text_length)) old = old
named_by (Some Said.ColourMapSkipped) old = old

module _ {S : Type 0} where
  -- a relay whose server has said nothing: its viewer was fed nothing, and nothing waits
  pub record IsFreshRelay (setup : RelaySetup) (relay : Relay S) : Type 0 where
    pub console : IsFreshConsole relay.console
    pub rules : relay.console.rules ≡ setup.rules
    pub coming : Viewer
    pub coming_is : relay.coming ≡ Some coming
    pub stands : StandsFor (viewing_by setup.viewer) coming first_viewer []
    pub given : relay.given.viewer ≡ setup.viewer
    pub waits : relay.to_server ≡ []
    pub presence : relay.presence ≡ Coming

  -- all ends for it, unless it is called again
  pub record EndsUnlessCalled (old : Relay S) (how : Gone) (new : Relay S) : Type 0 where
    pub ends : EndsFor old.console.rules.retry None how new.console.outcome
    pub desk : new.console.desk ≡ old.console.desk
    pub server : KeepsServer old new
    pub side : KeepsSide old.console new.console

  -- a line says that it has gone, where its picture was shown; or memory for that was wanting
  pub record TellsGone (was_shown : Bool) (old : Relay S) (how : Gone) (new : Relay S) : Type 0 where
    pub told : IsToldGone was_shown None how old.console.desk new.console.desk new.console.outcome
    pub goes_on : (new.console.outcome ≡ old.console.outcome) ⊎ (new.console.outcome ≡ Some NoMemory)
    pub server : KeepsServer old new
    pub side : KeepsSide old.console new.console

  -- it goes away now: all ends, unless it is called again. A line says so if its picture was shown and all went on
  -- before, and each session is as it was
  pub record GoesNow (old : Relay S) (how : Gone) (new : Relay S) : Type 0 where
    pub presence : new.presence ≡ Lost how Unplanned
    pub coming : new.coming ≡ None
    pub waits : new.to_server ≡ []
    pub passed : (k : ℕ) → k < 8 → passed_at new k ≡ 0
    pub name : new.server_name ≡ old.server_name
    pub ends : EndsFor old.console.rules.retry old.console.outcome how new.console.outcome
    pub desk : IsToldGone (is_shown old.presence) old.console.outcome how old.console.desk new.console.desk
        new.console.outcome
    pub side : KeepsSide old.console new.console

  -- it has gone away, once
  pub data LosesServer (old : Relay S) (how : Gone) (new : Relay S) : Type 0 where
    GoneBefore : is_gone old.presence ≡ true → new ≡ old → LosesServer old how new
    GoneNow : is_gone old.presence ≡ false → GoesNow old how new → LosesServer old how new

  -- nothing waits for it any more
  pub record ForgetsServer (old new : Relay S) : Type 0 where
    pub waits : new.to_server ≡ []
    pub passed : (k : ℕ) → k < 8 → passed_at new k ≡ 0
    pub console : new.console ≡ old.console
    pub presence : new.presence ≡ old.presence
    pub coming : new.coming ≡ old.coming
    pub name : new.server_name ≡ old.server_name

  -- what happened at an event of a server whose picture is shown is told
  pub record Heeds (old : Relay S) (event : Option ViewerEvent) (new : Relay S) : Type 0 where
    pub told : (a : Desk) → old.console.desk ≡ Some a →
        ((b : Desk) × (new.console.desk ≡ Some b) × TellsSome a (told_of_server event) b
        × (new.console.outcome ≡ old.console.outcome)) ⊎ (new.console.outcome ≡ Some NoMemory)
    pub server : KeepsServer old new
    pub side : KeepsSide old.console new.console

  -- its viewer stays, and these bytes wait for the server
  pub record Stands (old : Relay S) (now : Viewer) (bytes : List ℕ) (new : Relay S) : Type 0 where
    pub coming : new.coming ≡ Some now
    pub waits : Queues old.to_server bytes new.to_server new.console.outcome
    pub presence : new.presence ≡ old.presence
    pub keeps : KeepsDeskBy old new

  -- its handshake is done. What is owed waits, and after it a request for the whole screen, which its viewer does not
  -- refuse; or the screen is none that can be shown
  pub data Begins (old : Relay S) (now : Viewer) (reply : List ℕ) (width height : ℕ) (new : Relay S) : Type 0
    where
      Begun : (asked : Viewer) → Stands old asked (reply ++ request_message false (rect 0 0 width height)) new →
          TakesRequest false (rect 0 0 width height) now asked → Begins old now reply width height new
      BadSize : is_shown_size width height ≡ false → (mid : Relay S) →
          Queues old.to_server reply mid.to_server mid.console.outcome → mid.presence ≡ old.presence →
          KeepsDeskBy old mid → LosesServer mid (Size width height) new → Begins old now reply width height new
      NoRoomToAsk : new.console.outcome ≡ Some NoMemory → Begins old now reply width height new

  -- its picture is shown from here on: a line says so, and a sentence; or memory for a line was wanting
  pub record TellsUp (old new : Relay S) : Type 0 where
    pub presence : new.presence ≡ Shown
    pub told : (a : Desk) → old.console.desk ≡ Some a →
        ((b : Desk) × (new.console.desk ≡ Some b) × TellsServer a (up_of a.share old.server_name.items) b
        × (new.console.outcome ≡ old.console.outcome)) ⊎ (new.console.outcome ≡ Some NoMemory)
    pub keeps : KeepsBeside old new

  -- another share takes the place of the one that was shown
  pub data OpensAnew (old : Relay S) (share : Share) (new : Relay S) : Type 0 where
    OpenedAnew : (a mid b : Desk) → old.console.desk ≡ Some a → BeginsAnew a share mid →
        TellsServer mid (up_of mid.share old.server_name.items) b → new.console.desk ≡ Some b →
        new.console.outcome ≡ old.console.outcome → new.presence ≡ Shown → KeepsBeside old new →
        OpensAnew old share new
    NoRoomForLines : new.console.outcome ≡ Some NoMemory → OpensAnew old share new

  -- its first update is whole: a desk shows its picture, of a share with eight empty seats. Or the picture takes the
  -- place of one of the same size, or a new share that of one of another; or there was no memory
  pub data Opens (old : Relay S) (now : Viewer) (new : Relay S) : Type 0 where
    Opened : (desk : Desk) → old.console.desk ≡ None → new.console.desk ≡ Some desk →
        IsShareOf now (name_by old.given old.server_name.items) old.console.rules.text_limit desk.share →
        IsOver desk.share old.console.rules old.server_name.items desk → new.presence ≡ Shown →
        KeepsBeside old new → Opens old now new
    OpenedAgain : (a mid b : Desk) → old.console.desk ≡ Some a → ShowsAgain a now mid →
        TellsServer mid (up_of mid.share old.server_name.items) b → new.console.desk ≡ Some b →
        new.console.outcome ≡ old.console.outcome → new.presence ≡ Shown → KeepsBeside old new →
        Opens old now new
    OpenedOther : (share : Share) →
        IsShareOf now (name_by old.given old.server_name.items) old.console.rules.text_limit share →
        OpensAnew old share new → Opens old now new
    NoPicture : (how : Gone) (mid : Relay S) → KeepsHere old mid → LosesServer mid how new → Opens old now new
    NoRoomToShow : new.console.outcome ≡ Some NoMemory → Opens old now new

  abbrev pub Meets : Relay S → Viewer → Option ViewerEvent → Relay S → Type 0
  Meets old now None new = Stands old now [] new
  Meets old now (Some (Said.Reply reply)) new = Stands old now reply.items new
  Meets old now (Some (Said.Ready reply width height name name_length)) new =
      Begins old now reply.items width height new
  Meets old now (Some Said.UpdateDone) new = Opens old now new
  Meets old now (Some Said.Bell) new = Stands old now [] new
  Meets old now (Some (Said.CutText kept text_length)) new = Stands old now [] new
  Meets old now (Some Said.ColourMapSkipped) new = Stands old now [] new

  -- the viewer took bytes, as far as its first event; or it has failed at them, and the server has gone
  pub data HearsComing (old : Relay S) (was : Viewer) (bytes : List ℕ) (used : ℕ) (new : Relay S) : Type 0 where
    Met : (now : Viewer) (fed : Fed ViewerEvent) → TakesBytes was bytes fed now → used ≡ fed.used →
        Meets old now fed.event new → new.server_name.items ≡ named_by fed.event old.server_name.items →
        HearsComing old was bytes used new
    FailedAt : (now : Viewer) (fault : ViewerFault) → FailsAt was bytes fault now → used ≡ length bytes →
        LosesServer old (OfFault fault) new → HearsComing old was bytes used new

  pub data HearsShown (old : Relay S) (bytes : List ℕ) (used : ℕ) (new : Relay S) : Type 0 where
    NoneShown : old.console.desk ≡ None → used ≡ length bytes → new ≡ old → HearsShown old bytes used new
    NoViewer : (a b : Desk) → old.console.desk ≡ Some a → viewer_of a.share ≡ None → used ≡ length bytes →
        HoldsWithin a b → new.console.desk ≡ Some b → new.console.outcome ≡ old.console.outcome →
        KeepsServer old new → HearsShown old bytes used new
    Fed_on : (a mid b : Desk) (fed : Fed ViewerEvent) → old.console.desk ≡ Some a → used ≡ fed.used →
        FeedsDesk a bytes fed mid → TellsSome mid (told_of_server fed.event) b → new.console.desk ≡ Some b →
        new.console.outcome ≡ old.console.outcome → KeepsServer old new → HearsShown old bytes used new
    FailedOn : (a : Desk) (mid : Relay S) (b : Desk) (fault : ViewerFault) → old.console.desk ≡ Some a →
        mid.console.desk ≡ Some b → FailsDesk a bytes fault b → used ≡ length bytes →
        KeepsServer old mid → LosesServer mid (OfFault fault) new → HearsShown old bytes used new
    NoRoomToTell : new.console.outcome ≡ Some NoMemory → HearsShown old bytes used new

  -- bytes of the server's, and how many are taken: after the end, or once it has gone, nothing is done
  pub data HearsServer (old : Relay S) (bytes : List ℕ) (used : ℕ) (new : Relay S) : Type 0 where
    Ignored : (old.console.outcome ≢ None) ⊎ (is_gone old.presence ≡ true) → used ≡ length bytes →
        new ≡ old →
        HearsServer old bytes used new
    Comes : (was : Viewer) → old.coming ≡ Some was → (mid : Relay S) → TakesViewer old mid →
        HearsComing mid was bytes used new → HearsServer old bytes used new
    Shows : old.coming ≡ None → (mid : Relay S) → TakesViewer old mid → HearsShown mid bytes used new →
        HearsServer old bytes used new

  -- where it is called again after a pause, that is planned, and the turn is wanted in which it is, or sooner
  pub record PlansCall (old : Relay S) (now : ℕ) (new : Relay S) : Type 0 where
    pub presence : new.presence ≡ planned_for old.console.rules.retry old.console.outcome now old.presence
    pub wakes : WakesFor old.console.rules.retry old.console.outcome new.presence new.console.next
    pub sooner : (limit : ℕ) → IsBy limit old.console.next → IsBy limit new.console.next
    pub beside : KeepsBeside old new
    pub console : KeepsButNext old.console new.console
