-- Every step of a world keeps what holds of its link; so it holds of all that is reached.
use Rattle.std.proofs.Common.{◌≡◌, ◌⊎◌, ℕ, [], map, None, inl, inr, refl, sym, ap, ◌∙◌, subst}
use Rattle.rfb_pixel.specs.declared.colour.Colour.{Colour}
use Rattle.rfb_picture.specs.Grid.{Grid, changed}
use Rattle.rfb_picture.proofs.GridLaws.{width-changed, height-changed, width-uniform, height-uniform}
use Rattle.rfb_wire.specs.ClientMessage.{SetEncodings as EncodingsMessage, KeyEvent, PointerEvent, ClientCutText}
use Rattle.rfb_wire.specs.Encoding.{number_of}
use Rattle.rfb_wire.specs.stream.Sequel.{First, Second}
use Rattle.rfb_codec.specs.UpdateStream.{UpdatePoint}
use Rattle.rfb_hello.specs.ServerHandshake.{ServerPoint}
use Rattle.rfb_viewer.specs.ServerBytes.{ServerAt}
use Rattle.rfb_server.specs.Strokes.{Stroke, drawn_by}
use Rattle.rfb_server.proofs.DrawingLaws.{width_drawn, height_drawn}
use Rattle.rfb_session.specs.declared.event.Event.{Event}
use Rattle.rfb_session.specs.declared.event.Event.TheVariants.{Fill, Put, Copy, Hint, Request, SetFormat, SetEncodings}
use Rattle.rfb_session.specs.declared.event.Event.TheVariants.{Key, Pointer, CutText, Compose, ToServer, ToViewer}
use Rattle.rfb_session.specs.Link.{Ends, LinkState, first_link}
use Rattle.rfb_session.specs.LinkSteps.{LinkEvent, Request as OfRequest, SetFormat as OfFormat}
use Rattle.rfb_session.specs.LinkSteps.{SetEncodings as OfEncodings, Key as OfKey, Pointer as OfPointer}
use Rattle.rfb_session.specs.LinkSteps.{CutText as OfText, Compose as OfComposing, ToServer as OfServer}
use Rattle.rfb_session.specs.LinkSteps.{ToViewer as OfViewer, LinkSteps, begun}
use Rattle.rfb_session.specs.Headline.{IsHeadline}
use Rattle.rfb_session.specs.Network.{Network, Draws, OnLink, Steps, Strokes, Leads, Still, Then, IsReached}
use Rattle.rfb_session.proofs.QueueLemmas.{uniform_at, none_unasked}
use Rattle.rfb_session.proofs.PhaseLemmas.{Meets, Sends}
use Rattle.rfb_session.proofs.PhaseLemmas.{Core, core, Phase, Greeting, Versioned, Typed, Choosing37, Choosing38}
use Rattle.rfb_session.proofs.PhaseLemmas.{Chosen, Sharing, Begun, Named, Idling, Asking, Held, Sent}
use Rattle.rfb_session.proofs.HoldsLemmas.{Holds, holds_to_viewer, holds_to_server}
use Rattle.rfb_session.proofs.DueLemmas.{holds_composed}
use Rattle.rfb_session.proofs.CallLemmas.{holds_mere, holds_request, holds_format}

-- each step of a link
pub link_holds : (e : Ends) (screen : Grid Colour) (old new : LinkState) (event : LinkEvent) →
    Holds e screen (core old) → LinkSteps e screen old event new → Holds e screen (core new)
link_holds e screen old new (OfRequest incremental rect) h step =
    subst (λ (l : LinkState). Holds e screen (core l)) (sym step)
    (holds_request e screen old incremental rect h)
link_holds e screen old new (OfFormat form) h step =
    subst (λ (l : LinkState). Holds e screen (core l)) (sym step)
    (holds_format e screen old form (begun old.at_viewer old.to_viewer) h)
link_holds e screen old new (OfEncodings encodings) h step =
    subst (λ (l : LinkState). Holds e screen (core l)) (sym step)
    (holds_mere e screen old
    (EncodingsMessage (map (λ encoding. number_of encoding) encodings)) tt h)
link_holds e screen old new (OfKey down key) h step =
    subst (λ (l : LinkState). Holds e screen (core l)) (sym step)
    (holds_mere e screen old (KeyEvent down key) tt h)
link_holds e screen old new (OfPointer buttons x y) h step =
    subst (λ (l : LinkState). Holds e screen (core l)) (sym step)
    (holds_mere e screen old (PointerEvent buttons x y) tt h)
link_holds e screen old new (OfText text) h step =
    subst (λ (l : LinkState). Holds e screen (core l)) (sym step)
    (holds_mere e screen old (ClientCutText text) tt h)
link_holds e screen old new OfComposing h (inl composed) =
    holds_composed e screen old new h composed
link_holds e screen old new OfComposing h (inr idle) =
    subst (λ (l : LinkState). Holds e screen (core l)) (sym idle.1) h
link_holds e screen old new (OfServer count) h moves = holds_to_server e screen old new _ h moves
link_holds e screen old new (OfViewer count) h moves = holds_to_viewer e screen old new _ h moves

-- of a fresh link
pub first_holds : (e : Ends) (screen : Grid Colour) → screen.width ≡ e.serving.hello.width →
    screen.height ≡ e.serving.hello.height → Holds e screen (core (first_link e))
first_holds e screen wide high = record {
  wide = wide;
  high = high;
  known_wide = width-uniform e.serving.hello.width e.serving.hello.height None;
  known_high = height-uniform e.serving.hello.width e.serving.hello.height None;
  phase = Greeting (record {
    session_at = refl;
    viewer_at = refl;
    quiet = refl;
    to_server_is = refl;
    to_viewer_is = refl;
    unasked = none_unasked e.serving.hello.width e.serving.hello.height;
    unknown = λ x y. uniform_at e.serving.hello.width e.serving.hello.height None x y;
    none_yet = refl;
  });
  known = λ x y. uniform_at e.serving.hello.width e.serving.hello.height None x y;
  latest = tt;
}

-- a screen of the same size may look as it likes
pub drawn_holds : (e : Ends) (old new : Grid Colour) (c : Core) → new.width ≡ old.width → new.height
    ≡ old.height → Holds e old c → Holds e new c
drawn_holds e old new c wide high h =
    record {
      wide = wide ∙ h.wide;
      high = high ∙ h.high;
      known_wide = h.known_wide;
      known_high = h.known_high;
      phase = h.phase;
      known = h.known;
      latest = h.latest;
    }

abbrev NetworkHolds : Ends → Network → Type 0
NetworkHolds e n = Holds e n.screen (core n.link)

draws_holds : (e : Ends) (Inside : Type 0) (f : ℕ → ℕ → Colour → Colour) (old new : Network) →
    NetworkHolds e old → Draws Inside (changed f old.screen) old new → NetworkHolds e new
draws_holds e Inside f old new h (inl (inside, is)) =
    subst (λ (n : Network). NetworkHolds e n) (sym is)
    (drawn_holds e old.screen (changed f old.screen) (core old.link)
    (width-changed f old.screen) (height-changed f old.screen) h)
draws_holds e Inside f old new h (inr (outside, is)) =
    subst (λ (n : Network). NetworkHolds e n) (sym is) h

on_link : (e : Ends) (event : LinkEvent) (old new : Network) → NetworkHolds e old →
    OnLink e event old new → NetworkHolds e new
on_link e event old new h (same, step) =
    subst (λ (screen : Grid Colour). Holds e screen (core new.link)) (sym same)
    (link_holds e old.screen old.link new.link event h step)

step_holds : (e : Ends) (old new : Network) (event : Event) → NetworkHolds e old →
    Steps e old event new → NetworkHolds e new
step_holds e old new (Fill rect colour) h step = draws_holds e _ _ old new h step
step_holds e old new (Put x y row) h step = draws_holds e _ _ old new h step
step_holds e old new (Copy rect sx sy) h step = draws_holds e _ _ old new h step
step_holds e old new (Hint rect sx sy) h step =
    subst (λ (n : Network). NetworkHolds e n) (sym step) h
step_holds e old new (Request incremental rect) h step =
    on_link e (OfRequest incremental rect) old new h step
step_holds e old new (SetFormat form) h step = on_link e (OfFormat form) old new h step
step_holds e old new (SetEncodings encodings) h step =
    on_link e (OfEncodings encodings.items) old new h step
step_holds e old new (Key down key) h step = on_link e (OfKey down key) old new h step
step_holds e old new (Pointer buttons x y) h step = on_link e (OfPointer buttons x y) old new h step
step_holds e old new (CutText text) h step = on_link e (OfText text.items) old new h step
step_holds e old new Compose h step = on_link e OfComposing old new h step
step_holds e old new (ToServer count) h step = on_link e (OfServer count) old new h step
step_holds e old new (ToViewer count) h step = on_link e (OfViewer count) old new h step

stroke_holds : (e : Ends) (s : Stroke) (old new : Network) → NetworkHolds e old → Strokes s old new → NetworkHolds e new
stroke_holds e s old new h (inl (inside, is)) =
    subst (λ (n : Network). NetworkHolds e n) (sym is)
    (drawn_holds e old.screen (drawn_by s old.screen) (core old.link)
    (width_drawn s old.screen) (height_drawn s old.screen) h)
stroke_holds e s old new h (inr (outside, is)) =
    subst (λ (n : Network). NetworkHolds e n) (sym is) h

leads_hold : (e : Ends) (old new : Network) → Leads e old new → NetworkHolds e old → NetworkHolds e new
leads_hold e old new Still h = h
leads_hold e old new (Then mid now leads (inl (event, step))) h = step_holds e mid new event
    (leads_hold e old mid leads h) step
leads_hold e old new (Then mid now leads (inr (s, step))) h = stroke_holds e s mid new
    (leads_hold e old mid leads h) step

pub reached_holds : (e : Ends) (n : Network) → IsReached e n → Holds e n.screen (core n.link)
reached_holds e n r =
    let first = r.is_first in
    let fresh : NetworkHolds e r.first =
    subst (λ (l : LinkState). Holds e r.first.screen (core l)) (sym first.link)
    (first_holds e r.first.screen first.width first.height) in
    leads_hold e r.first n r.leads fresh

apart : (vp : ServerPoint) (p : UpdatePoint) (at : ServerAt) → at ≡ First vp → at ≡ Second p → ⊥
apart vp p at one two = cc

one_point : (p q : UpdatePoint) (at : ServerAt) → at ≡ Second p → at ≡ Second q → p.form ≡ q.form
one_point p q at one two = let same : p ≡ q = cc in ap (λ (r : UpdatePoint). r.form) same

-- where the viewer is past the handshake both ends meet, and nothing is in flight to it but an update
pub met : (e : Ends) (c : Core) (p : UpdatePoint) → Phase e c → c.viewer.point ≡ Second p →
    (q : UpdatePoint) × Meets e c q × ((c.to_viewer ≡ []) ⊎ Sends c q)
met e c p phase at = by phase
  where
    early : (vp : ServerPoint) → c.viewer.point ≡ First vp →
        (q : UpdatePoint) × Meets e c q × ((c.to_viewer ≡ []) ⊎ Sends c q)
    early vp here = absurd (apart vp p c.viewer.point here at)

    by : Phase e c → (q : UpdatePoint) × Meets e c q × ((c.to_viewer ≡ []) ⊎ Sends c q)
    by (Greeting s) = early _ s.viewer_at
    by (Versioned v s) = early _ s.viewer_at
    by (Typed v s) = early _ s.viewer_at
    by (Choosing37 s) = early _ s.viewer_at
    by (Choosing38 s) = early _ s.viewer_at
    by (Chosen s) = early _ s.viewer_at
    by (Sharing v s) = early _ s.viewer_at
    by (Begun v s) = early _ s.viewer_at
    by (Named v n text s h) = early _ s.viewer_at
    by (Idling q m s) = (q, m, inl s.none)
    by (Asking q m s) = (q, m, inl s.none)
    by (Held q m s) = (q, m, inl s.none)
    by (Sent q m s) = (q, m, inr s)

-- while an update is in flight both ends have one format
agreed_now : (e : Ends) (c : Core) (p : UpdatePoint) → Phase e c → c.viewer.point ≡ Second p →
    (c.to_viewer ≡ [] → ⊥) → p.form ≡ c.session.form
agreed_now e c p phase at some = by (met e c p phase at)
  where
    by : (q : UpdatePoint) × Meets e c q × ((c.to_viewer ≡ []) ⊎ Sends c q) → p.form ≡ c.session.form
    by (q, m, inl none) = absurd (some none)
    by (q, m, inr s) = one_point p q c.viewer.point at m.viewer_at ∙ sym s.formed

pub headline_holds : (e : Ends) (n : Network) → IsReached e n → IsHeadline e n.link
headline_holds e n r =
    let h = reached_holds e n r in record {
      known = h.known;
      latest = h.latest;
      agreed = λ p at some. agreed_now e (core n.link) p h.phase at some;
    }

-- a fresh world is reached, whatever was drawn on its screen
pub first_reached : (e : Ends) (screen : Grid Colour) → screen.width ≡ e.serving.hello.width →
    screen.height ≡ e.serving.hello.height →
    IsReached e (record { screen = screen; link = first_link e })
first_reached e screen wide high =
    record {
      first = record { screen = screen; link = first_link e };
      is_first = record { width = wide; height = high; link = refl };
      leads = Still;
    }
