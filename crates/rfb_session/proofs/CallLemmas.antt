-- Calls of the viewer keep what holds of a link.
use Rattle.std.proofs.Common.{◌≡◌, ℕ, Bool, true, List, [], ◌∷◌, ◌++◌, Option, Some, None, refl, sym, ap, ◌∙◌, subst}
use Rattle.rfb_pixel.specs.declared.colour.Colour.{Colour}
use Rattle.rfb_pixel.specs.Format.{PixelFormat}
use Rattle.rfb_picture.specs.declared.rect.Rect.{Rect}
use Rattle.rfb_picture.specs.Grid.{Grid}
use Rattle.rfb_wire.specs.stream.Sequel.{First, Second}
use Rattle.rfb_wire.specs.stream.End.{acts}
use Rattle.rfb_wire.specs.ClientMessage.{ClientMessage, SetPixelFormat, FramebufferUpdateRequest}
use Rattle.rfb_codec.specs.UpdateStream.{UpdatePoint}
use Rattle.rfb_hello.specs.ServerHandshake.{ServerPoint}
use Rattle.rfb_viewer.specs.declared.fault.CallFault.{CallFault}
use Rattle.rfb_viewer.specs.declared.fault.CallFault.TheVariants.{NotReady, Busy}
use Rattle.rfb_viewer.specs.ServerBytes.{ServerAt, FromServer}
use Rattle.rfb_viewer.specs.Viewer.{ViewerState, viewer}
use Rattle.rfb_viewer.specs.Calls.{call_refused, request_refused, format_refused, call_refusal, request_refusal}
use Rattle.rfb_viewer.specs.Calls.{format_refusal, requested, with_format, formatted}
use Rattle.rfb_server.specs.ClientBytes.{FromClient}
use Rattle.rfb_session.specs.Link.{Ends, LinkState}
use Rattle.rfb_session.specs.Headline.{ShowsKnown, ShowsLatest}
use Rattle.rfb_session.specs.LinkSteps.{calls}
use Rattle.rfb_session.proofs.QueueLemmas.{IsMere, form_after, form_append, mere_form, mere_later, mere_more}
use Rattle.rfb_session.proofs.QueueLemmas.{later_more, ask_more, asks_now}
use Rattle.rfb_session.proofs.PhaseLemmas.{Core, core, Phase, Greeting, Versioned, Typed, Choosing37, Choosing38}
use Rattle.rfb_session.proofs.PhaseLemmas.{Chosen, Sharing, Begun, Named, Idling, Asking, Held, Sent, meets_as}
use Rattle.rfb_session.proofs.PhaseLemmas.{Meets, Idles, Asks, Awaits, Sends}
use Rattle.rfb_session.proofs.HoldsLemmas.{Holds, due}

-- a message joins those in flight to the server
abbrev sent : Core → ViewerState → ClientMessage → Core
sent c v message = record c { viewer = v; to_server = c.to_server ++ Second message ∷ [] }

some_none : {A : Type 0} (x : A) → Some x ≡ None → ⊥
some_none x e = cc

-- a link whose viewer is past the handshake is in one of four phases
past_handshake : {G : Type 0} (e : Ends) (c : Core) → ((vp : ServerPoint) → c.viewer.point ≡ First vp → ⊥) →
    ((p : UpdatePoint) → Meets e c p → Idles c p → G) →
    ((p : UpdatePoint) → Meets e c p → Asks c p → G) →
    ((p : UpdatePoint) → Meets e c p → Awaits c p → G) →
    ((p : UpdatePoint) → Meets e c p → Sends c p → G) → Phase e c → G
past_handshake e c past idles asks awaits sends (Greeting s) = absurd (past _ s.viewer_at)
past_handshake e c past idles asks awaits sends (Versioned v s) = absurd (past _ s.viewer_at)
past_handshake e c past idles asks awaits sends (Typed v s) = absurd (past _ s.viewer_at)
past_handshake e c past idles asks awaits sends (Choosing37 s) = absurd (past _ s.viewer_at)
past_handshake e c past idles asks awaits sends (Choosing38 s) = absurd (past _ s.viewer_at)
past_handshake e c past idles asks awaits sends (Chosen s) = absurd (past _ s.viewer_at)
past_handshake e c past idles asks awaits sends (Sharing v s) = absurd (past _ s.viewer_at)
past_handshake e c past idles asks awaits sends (Begun v s) = absurd (past _ s.viewer_at)
past_handshake e c past idles asks awaits sends (Named v n text s h) = absurd (past _ s.viewer_at)
past_handshake e c past idles asks awaits sends (Idling p m s) = idles p m s
past_handshake e c past idles asks awaits sends (Asking p m s) = asks p m s
past_handshake e c past idles asks awaits sends (Held p m s) = awaits p m s
past_handshake e c past idles asks awaits sends (Sent p m s) = sends p m s

-- ---- a message that is neither a request nor a format

-- a viewer in the handshake takes no call
not_ready : (c : Core) (vp : ServerPoint) → c.viewer.point ≡ First vp → call_refusal c.viewer
    ≡ None → ⊥
not_ready c vp at e = some_none NotReady (sym (ap (λ (p : ServerAt). call_refused p) at) ∙ e)

later_form : (form : PixelFormat) (items : List FromClient) (message : ClientMessage) →
    IsMere (Second message) → form_after form (items ++ Second message ∷ [])
    ≡ form_after form items
later_form form items message mere =
    form_append form items (Second message)
    ∙ mere_form (form_after form items) (Second message) mere

phase_mere : (e : Ends) (c : Core) (message : ClientMessage) → Phase e c → IsMere (Second message) →
    call_refusal c.viewer ≡ None → Phase e (sent c c.viewer message)
phase_mere e c message phase mere open_now =
    past_handshake e c (λ vp at. not_ready c vp at open_now)
    (λ p m s. Idling p (meets p m) (assumption (
      s,
      later_form c.session.form c.to_server message mere ∙ s.formed,
      later_more c.to_server (Second message) s.later (mere_later (Second message) mere),
    )))
    (λ p m s. Asking p (meets p m) (assumption (
      s,
      later_form c.session.form c.to_server message mere ∙ s.formed,
      ask_more c.to_server (Second message) s.once mere,
    )))
    (λ p m s. Held p (meets p m) (assumption (s, mere_more c.to_server (Second message) s.mere mere)))
    (λ p m s. Sent p (meets p m) (assumption (s, mere_more c.to_server (Second message) s.mere mere))) phase
  where
    meets : (p : UpdatePoint) → Meets e c p → Meets e (sent c c.viewer message) p
    meets p m = meets_as e c (sent c c.viewer message) p p m m.session_at m.viewer_at refl refl refl

-- ---- a request or a format

-- what is refused in the handshake, and while a request is outstanding, is taken where nobody has one
taken_idle : (e : Ends) (c d : Core) (refused : ServerAt → Bool → Option CallFault) →
    ((vp : ServerPoint) → refused (First vp) c.viewer.outstanding ≡ Some NotReady) →
    ((p : UpdatePoint) → refused (Second p) true ≡ Some Busy) →
    refused c.viewer.point c.viewer.outstanding ≡ None →
    ((p : UpdatePoint) → Meets e c p → Idles c p → Phase e d) → Phase e c → (c.to_viewer ≡ []) × Phase e d
taken_idle e c d refused early busy open_now goes phase =
    past_handshake e c
    (λ vp at. some_none NotReady
    (sym (ap (λ (p : ServerAt). refused p c.viewer.outstanding) at ∙ early vp) ∙ open_now))
    (λ p m s. (s.none, goes p m s)) (λ p m s. absurd (busy_now p m.viewer_at s.busy))
    (λ p m s. absurd (busy_now p m.viewer_at s.busy)) (λ p m s. absurd (busy_now p m.viewer_at s.busy)) phase
  where
    busy_now : (p : UpdatePoint) → c.viewer.point ≡ Second p → c.viewer.outstanding ≡ true → ⊥
    busy_now p at outstanding =
        some_none Busy
        (sym (ap (λ (q : ServerAt). refused q c.viewer.outstanding) at
        ∙ ap (λ (b : Bool). refused (Second p) b) outstanding ∙ busy p) ∙ open_now)

pub phase_request : (e : Ends) (c : Core) (incremental : Bool) (rect : Rect) → Phase e c →
    request_refusal c.viewer rect ≡ None → (c.to_viewer ≡ [])
    × Phase e (sent c (requested c.viewer) (FramebufferUpdateRequest incremental rect))
phase_request e c incremental rect phase open_now =
    let now = sent c (requested c.viewer) (FramebufferUpdateRequest incremental rect) in
    taken_idle e c now (λ at outstanding. request_refused at outstanding rect) (λ vp. refl) (λ p. refl) open_now
    (λ p m s. Asking p (meets_as e c now p p m m.session_at m.viewer_at refl refl refl) (record {
      busy =
          refl;
      none = s.none;
      between = s.between;
      unasked = s.unasked;
      once = asks_now c.to_server incremental rect s.later;
      formed = form_append c.session.form c.to_server
          (Second (FramebufferUpdateRequest incremental rect)) ∙ s.formed;
    })) phase

pub phase_format : (e : Ends) (c : Core) (form : PixelFormat) (prefix : List ℕ) → Phase e c →
    format_refusal c.viewer prefix ≡ None → (c.to_viewer ≡ [])
    × Phase e (sent c (formatted form c.viewer) (SetPixelFormat form))
phase_format e c form prefix phase open_now =
    let now = sent c (formatted form c.viewer) (SetPixelFormat form) in
    taken_idle e c now (λ at outstanding. format_refused at outstanding prefix) (λ vp. refl) (λ p. refl) open_now
    (λ p m s. Idling (record p { form = form })
    (meets_as e c now p (record p { form = form }) m m.session_at
    (ap (λ (q : ServerAt). with_format form q) m.viewer_at) refl refl refl) (record {
      quiet =
          s.quiet;
      none = s.none;
      between = s.between;
      unasked = s.unasked;
      later = later_more c.to_server (Second (SetPixelFormat form)) s.later tt;
      formed = form_append c.session.form c.to_server (Second (SetPixelFormat form));
    })) phase

-- ---- what holds

-- with nothing in flight to it the viewer shows its picture
nothing_due : (e : Ends) (c : Core) → c.to_viewer ≡ [] → due e c ≡ c.viewer.picture
nothing_due e c none =
    ap (λ (q : List FromServer). (acts (viewer e.viewing) c.viewer q).picture) none

holds_sent : (e : Ends) (screen : Grid Colour) (c : Core) (v : ViewerState)
    (message : ClientMessage) → Holds e screen c → Phase e (sent c v message) → due e c
    ≡ due e (sent c v message) → Holds e screen (sent c v message)
holds_sent e screen c v message h phase same = record {
  wide = h.wide;
  high = h.high;
  known_wide = h.known_wide;
  known_high = h.known_high;
  phase = phase;
  known = subst
      (λ (d : Option (Grid Colour)). ShowsKnown c.session.form c.session.known d) same h.known;
  latest = subst (λ (d : Option (Grid Colour)). ShowsLatest c.latest d) same h.latest;
}

called : (e : Ends) (screen : Grid Colour) (l : LinkState) (v : ViewerState) (message : ClientMessage)
    (refusal : Option CallFault) → Holds e screen (core l) →
    (refusal ≡ None → Holds e screen (sent (core l) v message)) →
    Holds e screen (core (calls refusal l v message))
called e screen l v message (Some fault) h goes = h
called e screen l v message None h goes = goes refl

pub holds_mere : (e : Ends) (screen : Grid Colour) (l : LinkState) (message : ClientMessage) →
    IsMere (Second message) → Holds e screen (core l) →
    Holds e screen (core (calls (call_refusal l.viewer) l l.viewer message))
holds_mere e screen l message mere h =
    called e screen l l.viewer message (call_refusal l.viewer) h
    (λ open_now. holds_sent e screen (core l) l.viewer message h
    (phase_mere e (core l) message h.phase mere open_now) refl)

pub holds_request : (e : Ends) (screen : Grid Colour) (l : LinkState) (incremental : Bool)
    (rect : Rect) → Holds e screen (core l) →
    Holds e screen
    (core (calls (request_refusal l.viewer rect) l (requested l.viewer)
    (FramebufferUpdateRequest incremental rect)))
holds_request e screen l incremental rect h =
    called e screen l (requested l.viewer) (FramebufferUpdateRequest incremental rect)
    (request_refusal l.viewer rect) h
    (λ open_now.
    let one = phase_request e (core l) incremental rect h.phase open_now in
    let now = sent (core l) (requested l.viewer) (FramebufferUpdateRequest incremental rect) in
    holds_sent e screen (core l) (requested l.viewer)
    (FramebufferUpdateRequest incremental rect) h one.1
    (nothing_due e (core l) one.0 ∙ sym (nothing_due e now one.0)))

pub holds_format : (e : Ends) (screen : Grid Colour) (l : LinkState) (form : PixelFormat)
    (prefix : List ℕ) → Holds e screen (core l) →
    Holds e screen
    (core (calls (format_refusal l.viewer prefix) l (formatted form l.viewer)
    (SetPixelFormat form)))
holds_format e screen l form prefix h =
    called e screen l (formatted form l.viewer) (SetPixelFormat form)
    (format_refusal l.viewer prefix) h
    (λ open_now.
    let one = phase_format e (core l) form prefix h.phase open_now in
    let now = sent (core l) (formatted form l.viewer) (SetPixelFormat form) in
    holds_sent e screen (core l) (formatted form l.viewer) (SetPixelFormat form) h one.1
    (nothing_due e (core l) one.0 ∙ sym (nothing_due e now one.0)))
