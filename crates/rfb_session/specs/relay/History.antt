-- What goes from a relay to its server over all that happens since that was called: the answers of its viewer,
-- requests for updates, and what the relay's viewers do. Each is sent once, in the order in which they came.
use Rattle.std.specs.Prelude.{◌≡◌, ◌⊎◌, ℕ, Bool, true, false, ◌||◌, not, List, [], ◌∷◌, ◌++◌, length, take, drop}
use Rattle.std.specs.Prelude.{Option, Some, None}
use Rattle.rfb_hello.specs.declared.fed.Fed.{Fed}
use Rattle.rfb_viewer.specs.declared.event.ViewerEvent.{ViewerEvent}
use Rattle.rfb_viewer.specs.declared.viewer.Viewer.{Viewer}
use Rattle.rfb_viewer.specs.Model.{StandsFor}
use Rattle.rfb_viewer.specs.Viewer.{ViewerState}
use Rattle.rfb_session.specs.declared.console.Console.{Console}
use Rattle.rfb_session.specs.declared.console.desk.Desk.{Desk}
use Rattle.rfb_session.specs.declared.relay.Relay.{Relay}
use Rattle.rfb_session.specs.declared.relay.presence.Presence.TheVariants.{Coming, Shown}
use Rattle.rfb_session.specs.declared.share.event.SeatEvent.{SeatEvent}
use Rattle.rfb_session.specs.doors.Events.{Received, Ended, Failed, Wrote, Turned, left}
use Rattle.rfb_session.specs.doors.Tenants.{Happening, Told, Opened, Declined, events_in, Meets, Goes}
use Rattle.rfb_session.specs.Mirrors.{TakesBytes}
use Rattle.rfb_session.specs.Share.{viewer_of}
use Rattle.rfb_session.specs.ShareWaiters.{SomeAsked}
use Rattle.rfb_session.specs.console.Console.{HearsBytes}
use Rattle.rfb_session.specs.console.History.{left_in}
use Rattle.rfb_session.specs.relay.Presence.{is_gone, is_shown}
use Rattle.rfb_session.specs.relay.Relay.{AtDoor, RelaySteps, OpensRelay, DeclinesRelay}
use Rattle.rfb_session.specs.relay.Setup.{viewing_by}
use Rattle.rfb_session.specs.relay.Sent.{Sent, Ask, all_bytes, all_sent, answers_to, updates_in, passes_of}
use Rattle.rfb_session.specs.relay.Sent.{IsInOrder, HasOut}

module _ {S : Type 0} where
  -- ---- what happens

  -- one thing happens to a relay
  abbrev pub Happens : Relay S → Happening → Relay S → Type 0
  Happens old happening new = Meets RelaySteps OpensRelay DeclinesRelay old happening new

  -- these happen to it, one after the other, and nothing else does
  abbrev pub Lasts : Relay S → List Happening → Relay S → Type 0
  Lasts old happenings new = Goes RelaySteps OpensRelay DeclinesRelay old happenings new

  -- ---- a server's viewer

  -- the server comes, and this is its viewer
  pub record IsComing (relay : Relay S) (viewer : Viewer) : Type 0 where
    pub presence : relay.presence ≡ Coming
    pub coming : relay.coming ≡ Some viewer

  -- its picture is shown, and this is the viewer that has it
  pub record IsShowing (relay : Relay S) (viewer : Viewer) : Type 0 where
    pub presence : relay.presence ≡ Shown
    pub coming : relay.coming ≡ None
    pub desk : Desk
    pub desk_is : relay.console.desk ≡ Some desk
    pub seen : viewer_of desk.share ≡ Some viewer

  abbrev pub HasViewer : Relay S → Viewer → Bool → Type 0
  HasViewer relay viewer false = IsComing relay viewer
  HasViewer relay viewer true = IsShowing relay viewer

  -- ---- what one thing sends

  -- its server's viewer reported this of bytes that came, before its picture is shown or after that
  pub record Says (old : Relay S) (shown : Bool) (part : List ℕ) (event : Option ViewerEvent) : Type 0 where
    pub was : Viewer
    pub now : Viewer
    pub here : HasViewer old was shown
    pub bytes : List ℕ
    pub fed : Fed ViewerEvent
    pub takes : TakesBytes was bytes fed now
    pub part_is : part ≡ take fed.used bytes
    pub event_is : fed.event ≡ event

  -- before that it is answered, and after it a whole update is marked
  pub data Answers (old : Relay S) (part : List ℕ) (sent : List Sent) : Type 0 where
    Comes : (event : Option ViewerEvent) → Says old false part event → sent ≡ answers_to event →
        Answers old part sent
    IsShown : (event : Option ViewerEvent) → Says old true part event → sent ≡ updates_in event →
        Answers old part sent

  -- the session of a seat reported this of bytes that came from its viewer
  pub record Reports (old : Relay S) (k : ℕ) (part : List ℕ) (event : Option SeatEvent) : Type 0 where
    pub bytes : List ℕ
    pub used : ℕ
    pub part_is : part ≡ take used bytes
    pub heard : Console S
    pub hears : HearsBytes old.console k bytes used event heard
    pub nobody : old.console.desk ≡ None → event ≡ None

  -- viewers are muted where they only view, and as long as the server's picture is not shown
  abbrev pub is_muted : Relay S → Bool
  is_muted relay = relay.console.rules.view_only || not (is_shown relay.presence)

  -- that is passed on
  pub record Passes (old : Relay S) (k : ℕ) (part : List ℕ) (sent : List Sent) : Type 0 where
    pub event : Option SeatEvent
    pub reports : Reports old k part event
    pub sent_is : sent ≡ passes_of (is_muted old) k event

  -- some viewer waits for an update
  abbrev pub SomeWait : Relay S → Type 0
  SomeWait relay = (desk : Desk) × (relay.console.desk ≡ Some desk) × SomeAsked desk.share

  -- in a turn the server is asked once at most, and only where its picture is shown, no request is outstanding and some
  -- viewer waits. Where some viewer waits after the turn, a request is outstanding
  pub data Asks (old : Relay S) (sent : List Sent) (new : Relay S) : Type 0 where
    NotAsked : sent ≡ [] → ((now : Viewer) → IsShowing new now → SomeWait new → HasOut now true) →
        Asks old sent new
    AskedOnce : (width height : ℕ) (was now : Viewer) → IsShowing old was → IsShowing new now → HasOut was false →
        HasOut now true → SomeWait old ⊎ SomeWait new → sent ≡ Ask true width height ∷ [] → Asks old sent new

  -- nothing else sends anything
  abbrev pub Sends : Relay S → Happening → List Sent → Relay S → Type 0
  Sends old (Told (Received door part)) sent new =
      AtDoor door (Answers old part sent) (λ k. Passes old k part sent) (sent ≡ [])
  Sends old (Told (Ended door)) sent new = sent ≡ []
  Sends old (Told (Failed door)) sent new = sent ≡ []
  Sends old (Told (Wrote door bytes)) sent new = sent ≡ []
  Sends old (Told (Turned now)) sent new = Asks old sent new
  Sends old (Opened door from) sent new = sent ≡ []
  Sends old (Declined from) sent new = sent ≡ []

  -- ---- since a server was called

  -- these were sent to a server that is there, in order, and its viewer stands for what its bytes led to
  pub record HasSent (relay : Relay S) (sent : List Sent) : Type 0 where
    pub shown : Bool
    pub viewer : Viewer
    pub here : HasViewer relay viewer shown
    pub state : ViewerState
    pub prefix : List ℕ
    pub stands : StandsFor (viewing_by relay.given.viewer) viewer state prefix
    pub order : IsInOrder relay.console.rules.view_only shown state.point state.outstanding sent

  -- the server has gone away, and nothing waits for it
  pub record HasGone (relay : Relay S) : Type 0 where
    pub gone : is_gone relay.presence ≡ true
    pub coming : relay.coming ≡ None
    pub waits : relay.to_server ≡ []

  -- what each thing sends waits after what waited then
  abbrev pub SendsEach : Relay S → List Happening → List (List Sent) → Relay S → Type 0
  SendsEach old [] [] new = new ≡ old
  SendsEach old (happening ∷ happenings) (sent ∷ more) new =
      (mid : Relay S) × Happens old happening mid × Sends old happening sent mid
      × (mid.to_server ≡ drop (length (left_in 0 happening)) old.to_server ++ all_bytes sent)
      × SendsEach mid happenings more new
  SendsEach old happenings sent new = ⊥

  -- what left for the server, and what waits for it, is what waited and what each thing sent, in order
  pub record SendsAll (old : Relay S) (before : List Sent) (happenings : List Happening) (new : Relay S)
      : Type 0 where
    pub sent : List (List Sent)
    pub each : SendsEach old happenings sent new
    pub order : left 0 (events_in happenings) ++ new.to_server ≡ old.to_server ++ all_bytes (all_sent sent)
    pub since : HasSent new (before ++ all_sent sent)
