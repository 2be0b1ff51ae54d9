-- What the calls of a `Link` do to its bytes and its ends, whatever these are.
use Rattle.std.specs.Prelude.{◌≡◌, ◌≢◌, ◌⊎◌, ℕ, ◌<◌, min, Bool, true, false, List, [], ◌++◌, map, length, take, drop}
use Rattle.std.specs.Prelude.{Option, None, Some}
use Rattle.rfb_pixel.specs.declared.colour.Colour.{Colour}
use Rattle.rfb_picture.specs.Grid.{Grid}
use Rattle.rfb_wire.specs.Encoding.{number_of}
use Rattle.rfb_wire.specs.ClientMessage.{ClientMessage, SpellsClientMessage, SetPixelFormat}
use Rattle.rfb_wire.specs.ClientMessage.{SetEncodings as EncodingsMessage, FramebufferUpdateRequest}
use Rattle.rfb_wire.specs.ClientMessage.{KeyEvent, PointerEvent, ClientCutText}
use Rattle.rfb_server.specs.declared.fault.ServerFault.{ServerFault}
use Rattle.rfb_server.specs.declared.fault.ServerFault.TheVariants.{NoMemory as ServerWants}
use Rattle.rfb_server.specs.declared.session.Session.{Session}
use Rattle.rfb_server.specs.ClientBytes.{ClientAt, FromClient}
use Rattle.rfb_server.specs.Failed.{EndsAs}
use Rattle.rfb_server.specs.Hints.{hints_in}
use Rattle.rfb_server.specs.Server.{Serving, ServerState, server}
use Rattle.rfb_server.specs.Model.{SessionStandsFor, session_fault, notes_in}
use Rattle.rfb_server.specs.Told.{ServerTold, Reply, Ready, Key as KeyTold}
use Rattle.rfb_server.specs.Told.{Pointer as PointerTold, CutText as TextTold}
use Rattle.rfb_server.specs.UpdateCall.{SendsUpdate, OwesNone}
use Rattle.rfb_viewer.specs.declared.fault.ViewerFault.{ViewerFault}
use Rattle.rfb_viewer.specs.declared.fault.ViewerFault.TheVariants.{NoMemory as ViewerWants}
use Rattle.rfb_viewer.specs.declared.viewer.Viewer.{Viewer}
use Rattle.rfb_viewer.specs.declared.fault.CallFault.{CallFault}
use Rattle.rfb_viewer.specs.Refusals.{call_refused_by, request_refused_by, format_refused_by}
use Rattle.rfb_viewer.specs.Calls.{requested, formatted}
use Rattle.rfb_viewer.specs.Damage.{damage_of, ended_of}
use Rattle.rfb_viewer.specs.Messages.{format_message, encodings_message, request_message}
use Rattle.rfb_viewer.specs.Messages.{key_message, pointer_message, text_message}
use Rattle.rfb_viewer.specs.Model.{StandsFor as ViewerStandsFor, KeepsRest, picture_of, fault_of}
use Rattle.rfb_viewer.specs.Viewer.{Viewing, ViewerState}
use Rattle.rfb_session.specs.declared.event.Event.{Event}
use Rattle.rfb_session.specs.declared.event.Event.TheVariants.{Request, SetFormat, SetEncodings}
use Rattle.rfb_session.specs.declared.event.Event.TheVariants.{Key, Pointer, CutText}
use Rattle.rfb_session.specs.declared.event.Event.TheVariants.{ToServer, ToViewer}
use Rattle.rfb_session.specs.declared.link.Link.{Link}
use Rattle.rfb_session.specs.declared.told.Told.{Told}
use Rattle.rfb_session.specs.Told.{refused_as}
use Rattle.rfb_session.specs.Latest.{composing_in}
use Rattle.rfb_session.specs.EngineRun.{Step, Fed, Did, Driven, driven, FeedsOn, TakesNone}
use Rattle.rfb_session.specs.ViewerActs.{ViewerFeeds, EndsBy}
use Rattle.rfb_session.specs.ServeEngine.{ServerAct, Serves, server_sends}

-- ---- calls of the viewer

-- whatever a viewer stood for, it stands for what the call makes of that. What it shows is as it
-- was, and so are its damage, its fault, the server's reason, what it was made with and its count
pub record IsCalled (call : ViewerState → ViewerState) (old new : Viewer) : Type 0 where
  pub stands : (viewing : Viewing) (s : ViewerState) (prefix : List ℕ) →
      ViewerStandsFor viewing old s prefix → ViewerStandsFor viewing new (call s) prefix
  pub picture : picture_of new ≡ picture_of old
  pub damage : damage_of new ≡ damage_of old
  pub ended : ended_of new ≡ ended_of old
  pub rest : KeepsRest old new

-- the viewer was called so, and these bytes joined those in flight to the session
pub record OnlySends (call : ViewerState → ViewerState) (bytes : List ℕ) (old new : Link)
    : Type 0 where
  pub session : new.session ≡ old.session
  pub viewer : IsCalled call old.viewer new.viewer
  pub to_server : new.to_server ≡ old.to_server ++ bytes
  pub to_viewer : new.to_viewer ≡ old.to_viewer
  pub latest : new.latest ≡ old.latest

-- a call is refused so, or not; one that is not sent these bytes, which spell its message, once
pub record SendsMessage (message : ClientMessage) (bytes : List ℕ)
    (call : ViewerState → ViewerState) (refusal : Option CallFault) (old : Link) (told : Told)
    (new : Link) : Type 0 where
  pub refused : told.refused ≡ refused_as refusal
  pub sent : told.refused ≡ None →
      SpellsClientMessage message bytes × OnlySends call bytes old new

-- the same of a call that changes nothing of the viewer, and waits for its handshake alone
abbrev pub SendsPlain : ClientMessage → List ℕ → Link → Told → Link → Type 0
SendsPlain message bytes old told new =
    SendsMessage message bytes (λ s. s) (call_refused_by old.viewer) old told new
    × (new.viewer ≡ old.viewer)

-- the refusal of a call, by its viewer alone
abbrev pub refusal_on : Link → Event → Option CallFault
refusal_on link (Request incremental rect) = request_refused_by link.viewer rect
refusal_on link (SetFormat format) = format_refused_by link.viewer
refusal_on link (SetEncodings encodings) = call_refused_by link.viewer
refusal_on link (Key down key) = call_refused_by link.viewer
refusal_on link (Pointer buttons x y) = call_refused_by link.viewer
refusal_on link (CutText text) = call_refused_by link.viewer
refusal_on link event = None

-- a delivery for which no byte is in flight, or that is of none
abbrev pub MovesNone : Link → Event → Type 0
MovesNone link (ToServer count) = min (length link.to_server) count ≡ 0
MovesNone link (ToViewer count) = min (length link.to_viewer) count ≡ 0
MovesNone link event = ⊥

-- ---- what an end hears

-- how often a client asks for the screen alone, if its session reports this: once, by a ClientInit with shared-flag 0,
-- RFC 6143 section 7.3.1
abbrev pub sole_told : Option ServerTold → ℕ
sole_told None = 0
sole_told (Some (Reply bytes)) = 0
sole_told (Some (Ready bytes true)) = 0
sole_told (Some (Ready bytes false)) = 1
sole_told (Some (KeyTold down key)) = 0
sole_told (Some (PointerTold buttons x y)) = 0
sole_told (Some (TextTold kept text_length)) = 0

abbrev pub soles_in : Step ServerTold ServerAct → ℕ
soles_in (Fed bytes event) = sole_told event
soles_in (Did act) = 0

-- whether it did at all
pub record IsSole (sole : Bool) (soles : ℕ) : Type 0 where
  pub some : sole ≡ true → 0 < soles
  pub none : sole ≡ false → soles ≡ 0

-- a session over a screen, as it is run
abbrev pub session_driven : Grid Colour →
    Driven Session Serving ServerState ClientAt FromClient ServerFault ServerTold ServerAct
session_driven screen =
    driven server (λ serving session s prefix. SessionStandsFor serving screen session s prefix) Serves
    server_sends soles_in

-- it was fed these bytes, over whatever screen, and nothing else was done with it; those are its
-- answers, and so often its client asked for the screen alone
abbrev pub HearsOver : Session → List ℕ → List ℕ → ℕ → Session → Type 0
HearsOver old bytes sent soles new =
    (screen : Grid Colour) → FeedsOn (session_driven screen) old bytes sent soles new

-- it ended at these bytes, by a fault of theirs; one that had failed before stays as it was
pub record SessionEndsBy (old : Session) (slice : List ℕ) (new : Session) : Type 0 where
  pub fault : ServerFault
  pub fails : session_fault new ≡ Some fault
  pub has_memory : fault ≢ ServerWants
  pub ends : EndsAs old slice fault new
  pub failed : session_fault old ≢ None → new ≡ old

-- the same of a viewer
pub record ViewerEndsBy (old : Viewer) (slice : List ℕ) (new : Viewer) : Type 0 where
  pub fault : ViewerFault
  pub has_memory : fault ≢ ViewerWants
  pub ends : EndsBy fault old slice new
  pub failed : fault_of old ≢ None → new ≡ old

-- ---- bytes that reach an end

module _ {V : Type 0} where
  -- an end was fed all that there was, and is what it became by that
  abbrev pub IsFedAll : V → List ℕ → V → Type 0
  IsFedAll last later new = (later ≡ []) × (new ≡ last)

  -- or it ended at the bytes that it was not fed
  abbrev pub IsFedOrEnds : (V → List ℕ → V → Type 0) → V → List ℕ → V → Type 0
  IsFedOrEnds ends_at last later new = IsFedAll last later new ⊎ ends_at last later new

  -- the first bytes in flight to an end left the channel. The end was fed them, or the first of them, and
  -- became `last`; what came of the later ones is said by `ends_at`. Its answers joined the bytes the other
  -- way, and it told so often of something. One that had failed before took none of them, and told nothing.
  -- Nothing else has changed
  pub record ReachesBy (end : Link → V) (comes goes : Link → List ℕ)
      (feeds : V → List ℕ → List ℕ → ℕ → V → Type 0) (has_failed : V → Type 0)
      (keeps : Link → Link → Type 0) (ends_at : V → List ℕ → V → Type 0) (old : Link) (count : ℕ)
      (new : Link) : Type 0 where
    pub fed : List ℕ
    pub later : List ℕ
    pub sent : List ℕ
    pub told : ℕ
    pub last : V
    pub bytes_are : take count (comes old) ≡ fed ++ later
    pub hears : feeds (end old) fed sent told last
    pub failed : has_failed (end old) → TakesNone (end old) fed sent told last
    pub ends : ends_at last later (end new)
    pub gone : comes new ≡ drop count (comes old)
    pub answered : goes new ≡ goes old ++ sent
    pub beside : keeps old new

-- but for the session and the bytes in flight all is as it was
pub record IsBesideSession (old new : Link) : Type 0 where
  pub viewer : new.viewer ≡ old.viewer
  pub latest : new.latest ≡ old.latest

pub record IsBesideViewer (old new : Link) : Type 0 where
  pub session : new.session ≡ old.session
  pub latest : new.latest ≡ old.latest

-- bytes in flight reach the session, and at those that it was not fed this happened; or the viewer
abbrev pub ReachesSessionBy : (Session → List ℕ → Session → Type 0) → Link → ℕ → Link → Type 0
ReachesSessionBy ends_at old count new =
    ReachesBy (λ link. link.session) (λ link. link.to_server) (λ link. link.to_viewer) HearsOver
    (λ session. session_fault session ≢ None) IsBesideSession ends_at old count new

abbrev pub ReachesViewerBy : (Viewer → List ℕ → Viewer → Type 0) → Link → ℕ → Link → Type 0
ReachesViewerBy ends_at old count new =
    ReachesBy (λ link. link.viewer) (λ link. link.to_viewer) (λ link. link.to_server) ViewerFeeds
    (λ viewer. fault_of viewer ≢ None) IsBesideViewer ends_at old count new

-- they reach the session, all or those before the ones that it ended at; or the viewer
abbrev pub ReachesSession : Link → ℕ → Link → Type 0
ReachesSession old count new = ReachesSessionBy (IsFedOrEnds SessionEndsBy) old count new

abbrev pub ReachesViewer : Link → ℕ → Link → Type 0
ReachesViewer old count new = ReachesViewerBy (IsFedOrEnds ViewerEndsBy) old count new

-- of bytes that reached the session, whether its client asked for the screen alone among them
abbrev pub TellsSole : Link → ℕ → Bool → Link → Type 0
TellsSole old count sole new = (r : ReachesSession old count new) × IsSole sole r.told

-- ---- composing

-- over that screen an update was composed, which joined the bytes to the viewer, and what it
-- answered is noted; or none was due, and nothing has changed. A session that has failed composes
-- none
pub record ComposesOver (screen : Grid Colour) (old : Link) (told : Told) (new : Link)
    : Type 0 where
  pub composed : told.composed ≡ true →
      SendsUpdate screen old.session new.session old.to_viewer new.to_viewer
      × (composing_in new.latest ≡ Some (record {
        screen = screen;
        area = (notes_in old.session).area;
        form = (notes_in new.session).form;
      }))
  pub idle : told.composed ≡ false →
      OwesNone screen old.session new.session old.to_viewer new.to_viewer
      × (composing_in new.latest ≡ composing_in old.latest)
  pub appended : (bytes : List ℕ) × (new.to_viewer ≡ old.to_viewer ++ bytes)
  pub failed : session_fault old.session ≢ None → told.composed ≡ false
  pub viewer : new.viewer ≡ old.viewer
  pub to_server : new.to_server ≡ old.to_server

-- an update that is composed spends all hints, and else none
pub record SpendsHints (old : Link) (told : Told) (new : Link) : Type 0 where
  pub spent : told.composed ≡ true → hints_in new.session ≡ []
  pub kept : told.composed ≡ false → hints_in new.session ≡ hints_in old.session

-- ---- an event

-- what an event of the link alone does
abbrev pub ActsOnBytes : Link → Event → Told → Link → Type 0
ActsOnBytes old (Request incremental rect) told new =
    SendsMessage (FramebufferUpdateRequest incremental rect) (request_message incremental rect)
    (λ s. requested s) (request_refused_by old.viewer rect) old told new
ActsOnBytes old (SetFormat format) told new =
    SendsMessage (SetPixelFormat format) (format_message format)
    (λ s. formatted format s) (format_refused_by old.viewer) old told new
ActsOnBytes old (SetEncodings encodings) told new =
    SendsPlain (EncodingsMessage (map (λ encoding. number_of encoding) encodings.items))
    (encodings_message encodings.items) old told new
ActsOnBytes old (Key down key) told new =
    SendsPlain (KeyEvent down key) (key_message down key) old told new
ActsOnBytes old (Pointer buttons x y) told new =
    SendsPlain (PointerEvent buttons x y) (pointer_message buttons x y) old told new
ActsOnBytes old (CutText text) told new =
    SendsPlain (ClientCutText text.items) (text_message text.items) old told new
ActsOnBytes old (ToServer count) told new =
    (told.moved ≡ min (length old.to_server) count) × ReachesSession old told.moved new
ActsOnBytes old (ToViewer count) told new =
    (told.moved ≡ min (length old.to_viewer) count) × ReachesViewer old told.moved new
ActsOnBytes old event told new = Unit {0}
