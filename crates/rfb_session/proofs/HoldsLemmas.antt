-- What holds of a link at all times, and that each step of it keeps that.
use Rattle.std.proofs.Common.{◌≡◌, ℕ, List, [], ◌∷◌, ◌++◌, Option, Some, None, ◌⊎◌, inl, inr, refl, sym, ap, ◌∙◌, subst}
use Rattle.std.proofs.Common.{append-nil, append_assoc}
use Rattle.rfb_pixel.specs.declared.colour.Colour.{Colour}
use Rattle.rfb_pixel.specs.Format.{PixelFormat}
use Rattle.rfb_picture.specs.Grid.{Grid, at_or}
use Rattle.rfb_picture.proofs.GridLaws.{width-uniform, height-uniform}
use Rattle.rfb_wire.specs.stream.Sequel.{First, Second}
use Rattle.rfb_wire.specs.stream.End.{acts}
use Rattle.rfb_wire.specs.ClientMessage.{SetPixelFormat, SetEncodings, FramebufferUpdateRequest, KeyEvent, PointerEvent}
use Rattle.rfb_wire.specs.ClientMessage.{ClientCutText}
use Rattle.rfb_server.specs.ClientBytes.{FromClient}
use Rattle.rfb_server.specs.Server.{Serving, ServerState, item_acts, serves, server}
use Rattle.rfb_viewer.specs.ServerBytes.{FromServer}
use Rattle.rfb_viewer.specs.Viewer.{viewer, shows}
use Rattle.rfb_session.specs.Link.{Ends, SessionState, server_of, session_of, Composing, LinkState}
use Rattle.rfb_session.specs.Answers.{viewer_answers, viewer_replies, server_answers, server_replies}
use Rattle.rfb_session.specs.Headline.{IsUnknown, ShowsKnown, ShowsLatest}
use Rattle.rfb_session.specs.LinkSteps.{MovesToViewer, MovesToServer}
use Rattle.rfb_session.proofs.QueueLemmas.{forgotten_unknown}
use Rattle.rfb_session.proofs.PhaseLemmas.{Core, core, Phase, Greeting, Versioned, Typed, Choosing37, Choosing38}
use Rattle.rfb_session.proofs.PhaseLemmas.{Chosen, Sharing, Begun, Named, Idling, Asking, Held, Sent}
use Rattle.rfb_session.proofs.ShowingLemmas.{shown, phase_shown}
use Rattle.rfb_session.proofs.ServedLemmas.{served, phase_served, no_answer}

-- what the viewer shows once all that is in flight has reached it
abbrev pub due : Ends → Core → Option (Grid Colour)
due e c = (acts (viewer e.viewing) c.viewer c.to_viewer).picture

pub record Holds (e : Ends) (screen : Grid Colour) (c : Core) : Type 0 where
  pub wide : screen.width ≡ e.serving.hello.width
  pub high : screen.height ≡ e.serving.hello.height
  pub known_wide : c.session.known.width ≡ e.serving.hello.width
  pub known_high : c.session.known.height ≡ e.serving.hello.height
  pub phase : Phase e c
  pub known : ShowsKnown c.session.form c.session.known (due e c)
  pub latest : ShowsLatest c.latest (due e c)

-- where nothing is known every picture shows it
pub unknown_shows : (form : PixelFormat) (known : Grid (Option ℕ))
    (picture : Option (Grid Colour)) → IsUnknown known → ShowsKnown form known picture
unknown_shows form known None unknown = unknown
unknown_shows form known (Some picture) unknown =
    λ x y pixel d p q e. let none : at_or known x y None ≡ None = unknown x y in absurd cc

-- ---- an item reaches the viewer

pub holds_shown : (e : Ends) (screen : Grid Colour) (c : Core) (item : FromServer)
    (rest : List FromServer) → Holds e screen c → c.to_viewer ≡ item ∷ rest →
    Holds e screen (shown e c item rest)
holds_shown e screen c item rest h queue =
    let same : due e c ≡ due e (shown e c item rest) =
    ap (λ (q : List FromServer). (acts (viewer e.viewing) c.viewer q).picture) queue in
    record {
      wide = h.wide;
      high = h.high;
      known_wide = h.known_wide;
      known_high = h.known_high;
      phase = phase_shown e c item rest h.phase queue;
      known = subst
          (λ (d : Option (Grid Colour)). ShowsKnown c.session.form c.session.known d) same h.known;
      latest = subst (λ (d : Option (Grid Colour)). ShowsLatest c.latest d) same h.latest;
    }

-- queues that are the same
same_queues : (e : Ends) (screen : Grid Colour) (c : Core) (to_server : List FromClient) (to_viewer : List FromServer) →
    c.to_server ≡ to_server → c.to_viewer ≡ to_viewer → Holds e screen c →
    Holds e screen (record c { to_server = to_server; to_viewer = to_viewer })
same_queues e screen c to_server to_viewer sends gets h =
    subst (λ (q : List FromServer). Holds e screen (record c { to_server = to_server; to_viewer = q })) gets
    (subst (λ (q : List FromClient). Holds e screen (record c { to_server = q })) sends h)

abbrev all_shown : Ends → Core → List FromServer → List FromServer → Core
all_shown e c done left = record c {
  viewer = acts (viewer e.viewing) c.viewer done;
  to_viewer = left;
  to_server = c.to_server ++ viewer_replies e.viewing c.viewer done;
}

pub holds_all_shown : (e : Ends) (screen : Grid Colour) (c : Core) (done left : List FromServer) →
    Holds e screen c → c.to_viewer ≡ done ++ left → Holds e screen (all_shown e c done left)
holds_all_shown e screen c [] left h queue =
    same_queues e screen c (c.to_server ++ []) left (sym (append-nil c.to_server)) queue h
holds_all_shown e screen c (item ∷ done) left h queue =
    let one = holds_shown e screen c item (done ++ left) h queue in
    let others = holds_all_shown e screen (shown e c item (done ++ left)) done left one refl in
    subst (λ (q : List FromClient). Holds e screen
    (record c {
      viewer = acts (viewer e.viewing) c.viewer (item ∷ done);
      to_viewer = left;
      to_server = q;
    }))
    (append_assoc c.to_server (viewer_answers e.viewing c.viewer.point item)
    (viewer_replies e.viewing (shows e.viewing c.viewer item) done)) others

-- ---- an item reaches the server

known_served : (screen : Grid Colour) (s : SessionState) (item : FromClient)
    (d : Option (Grid Colour)) → ShowsKnown s.form s.known d →
    ShowsKnown (item_acts (server_of screen s) item).form
    (item_acts (server_of screen s) item).known d
known_served screen s (First step) d shows = shows
known_served screen s (Second (SetPixelFormat form)) d shows =
    unknown_shows form _ d (forgotten_unknown s.known)
known_served screen s (Second (SetEncodings numbers)) d shows = shows
known_served screen s (Second (FramebufferUpdateRequest incremental rect)) d shows = shows
known_served screen s (Second (KeyEvent down key)) d shows = shows
known_served screen s (Second (PointerEvent buttons x y)) d shows = shows
known_served screen s (Second (ClientCutText text)) d shows = shows

unknown_served : (screen : Grid Colour) (s : SessionState) (item : FromClient) → IsUnknown s.known →
    IsUnknown (item_acts (server_of screen s) item).known
unknown_served screen s (First step) unknown = unknown
unknown_served screen s (Second (SetPixelFormat form)) unknown = forgotten_unknown s.known
unknown_served screen s (Second (SetEncodings numbers)) unknown = unknown
unknown_served screen s (Second (FramebufferUpdateRequest incremental rect)) unknown = unknown
unknown_served screen s (Second (KeyEvent down key)) unknown = unknown
unknown_served screen s (Second (PointerEvent buttons x y)) unknown = unknown
unknown_served screen s (Second (ClientCutText text)) unknown = unknown

size_served : (screen : Grid Colour) (s : SessionState) (item : FromClient) →
    ((item_acts (server_of screen s) item).known.width ≡ s.known.width)
    × ((item_acts (server_of screen s) item).known.height ≡ s.known.height)
size_served screen s (First step) = (refl, refl)
size_served screen s (Second (SetPixelFormat form)) = (
  width-uniform s.known.width s.known.height None,
  height-uniform s.known.width s.known.height None,
)
size_served screen s (Second (SetEncodings numbers)) = (refl, refl)
size_served screen s (Second (FramebufferUpdateRequest incremental rect)) = (refl, refl)
size_served screen s (Second (KeyEvent down key)) = (refl, refl)
size_served screen s (Second (PointerEvent buttons x y)) = (refl, refl)
size_served screen s (Second (ClientCutText text)) = (refl, refl)

-- nothing is known and composed yet, or the server is ready
early_or_ready : (e : Ends) (c : Core) → Phase e c →
    (IsUnknown c.session.known × (c.latest ≡ None)) ⊎ (c.session.point ≡ Second tt)
early_or_ready e c (Greeting s) = inl (s.unknown, s.none_yet)
early_or_ready e c (Versioned v s) = inl (s.unknown, s.none_yet)
early_or_ready e c (Typed v s) = inl (s.unknown, s.none_yet)
early_or_ready e c (Choosing37 s) = inl (s.unknown, s.none_yet)
early_or_ready e c (Choosing38 s) = inl (s.unknown, s.none_yet)
early_or_ready e c (Chosen s) = inl (s.unknown, s.none_yet)
early_or_ready e c (Sharing v s) = inl (s.unknown, s.none_yet)
early_or_ready e c (Begun v s) = inl (s.unknown, s.none_yet)
early_or_ready e c (Named v n text s h) = inl (s.unknown, s.none_yet)
early_or_ready e c (Idling p m s) = inr m.session_at
early_or_ready e c (Asking p m s) = inr m.session_at
early_or_ready e c (Held p m s) = inr m.session_at
early_or_ready e c (Sent p m s) = inr m.session_at

-- what the viewer is to show is known, and composed, of a served item too
shows_served : (e : Ends) (screen : Grid Colour) (c : Core) (item : FromClient)
    (rest : List FromClient) → Holds e screen c →
    (IsUnknown c.session.known × (c.latest ≡ None)) ⊎ (c.session.point ≡ Second tt) →
    ShowsKnown (item_acts (server_of screen c.session) item).form
    (item_acts (server_of screen c.session) item).known (due e (served e screen c item rest))
    × ShowsLatest c.latest (due e (served e screen c item rest))
shows_served e screen c item rest h (inl (unknown, none_yet)) = (
  unknown_shows (item_acts (server_of screen c.session) item).form
      (item_acts (server_of screen c.session) item).known
      (due e (served e screen c item rest)) (unknown_served screen c.session item unknown),
  subst (λ (o : Option Composing). ShowsLatest o (due e (served e screen c item rest))) (sym none_yet) tt,
)
shows_served e screen c item rest h (inr at) =
    let same : due e c ≡ due e (served e screen c item rest) =
    ap (λ (q : List FromServer). (acts (viewer e.viewing) c.viewer q).picture)
    (sym (no_answer e c item at)) in (
      known_served screen c.session item (due e (served e screen c item rest))
          (subst (λ (d : Option (Grid Colour)). ShowsKnown c.session.form c.session.known d) same h.known),
      subst (λ (d : Option (Grid Colour)). ShowsLatest c.latest d) same h.latest,
    )

pub holds_served : (e : Ends) (screen : Grid Colour) (c : Core) (item : FromClient)
    (rest : List FromClient) → Holds e screen c → c.to_server ≡ item ∷ rest →
    Holds e screen (served e screen c item rest)
holds_served e screen c item rest h queue =
    let sizes = size_served screen c.session item in
    let shows = shows_served e screen c item rest h (early_or_ready e c h.phase) in
    record {
      wide = h.wide;
      high = h.high;
      known_wide = sizes.0 ∙ h.known_wide;
      known_high = sizes.1 ∙ h.known_high;
      phase = phase_served e screen c item rest h.phase queue;
      known = shows.0;
      latest = shows.1;
    }

-- the screen stays what it was
pub kept_screen : (serving : Serving) (screen : Grid Colour) (s : SessionState)
    (item : FromClient) → server_of screen (session_of (serves serving (server_of screen s) item))
    ≡ serves serving (server_of screen s) item
kept_screen serving screen s (First step) = refl
kept_screen serving screen s (Second (SetPixelFormat form)) = refl
kept_screen serving screen s (Second (SetEncodings numbers)) = refl
kept_screen serving screen s (Second (FramebufferUpdateRequest incremental rect)) = refl
kept_screen serving screen s (Second (KeyEvent down key)) = refl
kept_screen serving screen s (Second (PointerEvent buttons x y)) = refl
kept_screen serving screen s (Second (ClientCutText text)) = refl

abbrev all_served : Ends → Core → ServerState → List FromClient → List FromServer →
    List FromClient → Core
all_served e c s done before left = record c {
  session = session_of (acts (server e.serving) s done);
  to_server = left;
  to_viewer = before ++ server_replies e.serving s done;
}

pub holds_all_served : (e : Ends) (screen : Grid Colour) (c : Core) (done left : List FromClient) →
    Holds e screen c → c.to_server ≡ done ++ left →
    Holds e screen (all_served e c (server_of screen c.session) done c.to_viewer left)
holds_all_served e screen c [] left h queue =
    same_queues e screen c left (c.to_viewer ++ []) queue (sym (append-nil c.to_viewer)) h
holds_all_served e screen c (item ∷ done) left h queue =
    let one = holds_served e screen c item (done ++ left) h queue in
    let others =
    holds_all_served e screen (served e screen c item (done ++ left)) done left one refl in
    let same = kept_screen e.serving screen c.session item in
    let there : Holds e screen
    (all_served e c (serves e.serving (server_of screen c.session) item) done
    (c.to_viewer ++ server_answers e.serving c.session.point item) left) =
    subst (λ (s : ServerState). Holds e screen
    (all_served e c s done
    (c.to_viewer ++ server_answers e.serving c.session.point item) left)) same others in
    subst (λ (q : List FromServer). Holds e screen
    (record c {
      session = session_of
          (acts (server e.serving) (server_of screen c.session) (item ∷ done));
      to_server = left;
      to_viewer = q;
    }))
    (append_assoc c.to_viewer (server_answers e.serving c.session.point item)
    (server_replies e.serving (serves e.serving (server_of screen c.session) item) done)) there

-- ---- deliveries

pub holds_to_viewer : (e : Ends) (screen : Grid Colour) (old new : LinkState) (n : ℕ) →
    Holds e screen (core old) → MovesToViewer e old n new → Holds e screen (core new)
holds_to_viewer e screen old new n h m =
    subst (λ (l : LinkState). Holds e screen (core l)) (sym m.result)
    (holds_all_shown e screen (core old) m.done m.left h m.queue)

pub holds_to_server : (e : Ends) (screen : Grid Colour) (old new : LinkState) (n : ℕ) →
    Holds e screen (core old) → MovesToServer e screen old n new → Holds e screen (core new)
holds_to_server e screen old new n h m =
    subst (λ (l : LinkState). Holds e screen (core l)) (sym m.result)
    (holds_all_served e screen (core old) m.done m.left h m.queue)
