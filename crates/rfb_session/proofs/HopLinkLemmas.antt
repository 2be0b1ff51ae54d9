-- What a viewer shows outside of updates is the screen as its server composed one of it.
use Rattle.std.proofs.Common.{◌≡◌, ◌⊎◌, ◌<◌, ℕ, Bool, true, false, List, [], ◌∷◌, ◌++◌}
use Rattle.std.proofs.Common.{map, Option, Some, None}
use Rattle.std.proofs.Common.{inl, inr, refl, sym, ap, subst, ◌∙◌, append-nil, arith}
use Rattle.rfb_pixel.specs.declared.colour.Colour.{Colour}
use Rattle.rfb_picture.specs.Grid.{Grid}
use Rattle.rfb_wire.specs.ClientMessage.{ClientMessage}
use Rattle.rfb_wire.specs.stream.Sequel.{Second}
use Rattle.rfb_wire.specs.stream.End.{acts}
use Rattle.rfb_codec.specs.UpdateStream.{UpdatePoint}
use Rattle.rfb_server.specs.Composition.{sent_as}
use Rattle.rfb_viewer.specs.declared.fault.CallFault.{CallFault}
use Rattle.rfb_viewer.specs.Calls.{requested, formatted, with_format}
use Rattle.rfb_viewer.specs.ServerBytes.{ServerAt, FromServer}
use Rattle.rfb_viewer.specs.Viewer.{ViewerState, viewer}
use Rattle.rfb_session.specs.Headline.{AnswersSome, ShowsLatest}
use Rattle.rfb_session.specs.Link.{Ends, Composing, LinkState, server_of}
use Rattle.rfb_session.specs.LinkSteps.{LinkEvent, Request as OfRequest, SetFormat as OfFormat}
use Rattle.rfb_session.specs.LinkSteps.{SetEncodings as OfEncodings, Key as OfKey, Pointer as OfPointer}
use Rattle.rfb_session.specs.LinkSteps.{CutText as OfText, Compose as OfComposing, ToServer as OfServer}
use Rattle.rfb_session.specs.LinkSteps.{ToViewer as OfViewer, LinkSteps, MovesToViewer, calls, update_items}
use Rattle.rfb_session.proofs.PhaseLemmas.{Core, core, none_first, Phase}
use Rattle.rfb_session.proofs.PhaseLemmas.{Greeting, Versioned, Typed, Choosing37, Choosing38}
use Rattle.rfb_session.proofs.PhaseLemmas.{Chosen, Sharing, Begun, Named, Idling, Asking, Held, Sent}
use Rattle.rfb_session.proofs.HoldsLemmas.{Holds}
use Rattle.rfb_session.proofs.DueLemmas.{due_held}
use Rattle.rfb_session.proofs.NetworkLemmas.{link_holds, met}
use Rattle.rfb_session.proofs.HopQueueLemmas.{IsLeft, Nothing, Whole, left_same, some_shown, no_replies}

-- after the handshake, and outside of updates its picture shows that composing; the server has composed some
pub record ShowsOutside (l : LinkState) (c : Composing) : Type 0 where
  pub point : UpdatePoint
  pub at : l.viewer.point ≡ Second point
  pub left : IsLeft point l.to_viewer
  pub latest : Composing
  pub latest_is : l.latest ≡ Some latest
  pub shows : point.left ≡ 0 → ShowsLatest (Some c) l.viewer.picture
  pub fresh : l.to_viewer ≡ [] → l.latest ≡ Some c

-- the same composing, or the latest one
pub record GoesOutside (l : LinkState) (c : Composing) : Type 0 where
  pub composing : Composing
  pub shows : ShowsOutside l composing
  pub either : (composing ≡ c) ⊎ (l.latest ≡ Some composing)

abbrev stays : (l : LinkState) (c : Composing) → ShowsOutside l c → GoesOutside l c
stays l c s = record { composing = c; shows = s; either = inl refl }

-- ---- where nothing is in flight

some_latest : (o : Option Composing) → AnswersSome o → (c : Composing) × (o ≡ Some c)
some_latest None some = absurd some
some_latest (Some c) some = (c, refl)

not_none : (o : Option Composing) → AnswersSome o → o ≡ None → ⊥
not_none o some none = subst (λ (x : Option Composing). AnswersSome x) none some

not_both : (b : Bool) → b ≡ true → b ≡ false → ⊥
not_both b busy quiet = cc

-- all that was composed has come, so it shows the latest
all_come : (e : Ends) (screen : Grid Colour) (l : LinkState) (c : Composing) → Holds e screen (core l) →
    l.to_viewer ≡ [] → l.latest ≡ Some c → ShowsLatest (Some c) l.viewer.picture
all_come e screen l c h none is =
    subst (λ (o : Option Composing). ShowsLatest o l.viewer.picture) is
    (subst (λ (g : Option (Grid Colour)). ShowsLatest l.latest g)
    (ap (λ (q : List FromServer). (acts (viewer e.viewing) l.viewer q).picture) none) h.latest)

-- no request is outstanding, and some update was composed
pub first_outside : (e : Ends) (screen : Grid Colour) (l : LinkState) → Holds e screen (core l) →
    l.viewer.outstanding ≡ false → AnswersSome l.latest →
    (c : Composing) × (l.latest ≡ Some c) × ShowsOutside l c
first_outside e screen l h quiet some = by h.phase
  where
    one : (c : Composing) × (l.latest ≡ Some c)
    one = some_latest l.latest some

    early : l.latest ≡ None → (c : Composing) × (l.latest ≡ Some c) × ShowsOutside l c
    early none = absurd (not_none l.latest some none)

    busy : l.viewer.outstanding ≡ true → (c : Composing) × (l.latest ≡ Some c) × ShowsOutside l c
    busy is = absurd (not_both l.viewer.outstanding is quiet)

    by : Phase e (core l) → (c : Composing) × (l.latest ≡ Some c) × ShowsOutside l c
    by (Greeting s) = early s.none_yet
    by (Versioned v s) = early s.none_yet
    by (Typed v s) = early s.none_yet
    by (Choosing37 s) = early s.none_yet
    by (Choosing38 s) = early s.none_yet
    by (Chosen s) = early s.none_yet
    by (Sharing v s) = early s.none_yet
    by (Begun v s) = early s.none_yet
    by (Named v n text s has) = early s.none_yet
    by (Idling p m s) = (
      one.0,
      one.1,
      record {
        point = p;
        at = m.viewer_at;
        left = Nothing s.none;
        latest = one.0;
        latest_is = one.1;
        shows = λ none. all_come e screen l one.0 h s.none one.1;
        fresh = λ none. one.1;
      },
    )
    by (Asking p m s) = busy s.busy
    by (Held p m s) = busy s.busy
    by (Sent p m s) = busy s.busy

-- ---- calls of the viewer

called : (o : Option CallFault) (l : LinkState) (v : ViewerState) (message : ClientMessage) (c : Composing) →
    ShowsOutside l c → v.picture ≡ l.viewer.picture →
    ((p : UpdatePoint) → l.viewer.point ≡ Second p →
    (q : UpdatePoint) × (v.point ≡ Second q) × (q.left ≡ p.left)) → ShowsOutside (calls o l v message) c
called (Some fault) l v message c s picture point = s
called None l v message c s picture point =
    let one = point s.point s.at in
    record {
      point = one.0;
      at = one.1;
      left = left_same s.point one.0 l.to_viewer one.2 s.left;
      latest = s.latest;
      latest_is = s.latest_is;
      shows = λ none. subst (λ (g : Option (Grid Colour)). ShowsLatest (Some c) g) (sym picture)
          (s.shows (sym one.2 ∙ none));
      fresh = s.fresh;
    }

by_call : (o : Option CallFault) (old new : LinkState) (v : ViewerState) (message : ClientMessage) (c : Composing) →
    new ≡ calls o old v message → ShowsOutside old c → v.picture ≡ old.viewer.picture →
    ((p : UpdatePoint) → old.viewer.point ≡ Second p →
    (q : UpdatePoint) × (v.point ≡ Second q) × (q.left ≡ p.left)) → GoesOutside new c
by_call o old new v message c is s picture point =
    stays new c (subst (λ (l : LinkState). ShowsOutside l c) (sym is) (called o old v message c s picture point))

-- ---- deliveries

-- the server is past the handshake where the viewer is
server_past : (e : Ends) (c : Core) (p : UpdatePoint) → Phase e c → c.viewer.point ≡ Second p →
    c.session.point ≡ Second tt
server_past e c p phase at = (met e c p phase at).1.session_at

-- items reach the viewer
to_viewer : (e : Ends) (screen : Grid Colour) (old new : LinkState) (c : Composing) (n : ℕ) →
    Holds e screen (core new) → MovesToViewer e old n new → ShowsOutside old c → GoesOutside new c
to_viewer e screen old new c n h moves s = by moves.done refl
  where
    latest_is : new.latest ≡ Some s.latest
    latest_is = ap (λ (l : LinkState). l.latest) moves.result ∙ s.latest_is

    left_is : new.to_viewer ≡ moves.left
    left_is = ap (λ (l : LinkState). l.to_viewer) moves.result

    viewer_is : (done : List FromServer) → moves.done ≡ done →
        new.viewer ≡ acts (viewer e.viewing) old.viewer done
    viewer_is done is = ap (λ (l : LinkState). l.viewer) moves.result
        ∙ ap (λ (q : List FromServer). acts (viewer e.viewing) old.viewer q) is

    queue_is : (done : List FromServer) → moves.done ≡ done → IsLeft s.point (done ++ moves.left)
    queue_is done is = subst (λ (q : List FromServer). IsLeft s.point q)
        (moves.queue ∙ ap (λ (q : List FromServer). q ++ moves.left) is) s.left

    ends : (q : UpdatePoint) → new.viewer.point ≡ Second q → IsLeft q moves.left →
        ((moves.left ≡ []) ⊎ ((0 < q.left) × (moves.left ≡ [] → ⊥))) → GoesOutside new c
    ends q at left (inl none) = record {
      composing = s.latest;
      shows = record {
        point = q;
        at = at;
        left = Nothing (left_is ∙ none);
        latest = s.latest;
        latest_is = latest_is;
        shows = λ outside. all_come e screen new s.latest h (left_is ∙ none) latest_is;
        fresh = λ all. latest_is;
      };
      either = inr latest_is;
    }
    ends q at left (inr some) = stays new c (record {
      point = q;
      at = at;
      left = subst (λ (l : List FromServer). IsLeft q l) (sym left_is) left;
      latest = s.latest;
      latest_is = latest_is;
      shows = λ outside. absurd (let more = some.0 in omega (arith, more, outside));
      fresh = λ all. absurd (some.1 (sym left_is ∙ all));
    })

    by : (done : List FromServer) → moves.done ≡ done → GoesOutside new c
    by [] is = stays new c (record {
      point = s.point;
      at = ap (λ (v : ViewerState). v.point) (viewer_is [] is) ∙ s.at;
      left = subst (λ (l : List FromServer). IsLeft s.point l) (sym left_is) (queue_is [] is);
      latest = s.latest;
      latest_is = latest_is;
      shows = λ outside. subst (λ (v : ViewerState). ShowsLatest (Some c) v.picture) (sym (viewer_is [] is))
          (s.shows outside);
      fresh = λ all. ap (λ (l : LinkState). l.latest) moves.result
          ∙ s.fresh (moves.queue ∙ ap (λ (q : List FromServer). q ++ moves.left) is ∙ sym left_is ∙ all);
    })
    by (item ∷ done) is =
        let one = some_shown e old.viewer s.point item done moves.left s.at (queue_is (item ∷ done) is) in
        ends one.0 (ap (λ (v : ViewerState). v.point) (viewer_is (item ∷ done) is) ∙ one.1) one.2 one.3

-- ---- each step

pub link_outside : (e : Ends) (screen : Grid Colour) (old new : LinkState) (event : LinkEvent) (c : Composing) →
    Holds e screen (core old) → LinkSteps e screen old event new → ShowsOutside old c → GoesOutside new c
link_outside e screen old new (OfRequest incremental rect) c h step s =
    by_call _ old new (requested old.viewer) _ c step s refl (λ p at. (p, at, refl))
link_outside e screen old new (OfFormat form) c h step s =
    by_call _ old new (formatted form old.viewer) _ c step s refl
    (λ p at. (record p { form = form }, ap (λ (a : ServerAt). with_format form a) at, refl))
link_outside e screen old new (OfEncodings encodings) c h step s =
    by_call _ old new old.viewer _ c step s refl (λ p at. (p, at, refl))
link_outside e screen old new (OfKey down key) c h step s =
    by_call _ old new old.viewer _ c step s refl (λ p at. (p, at, refl))
link_outside e screen old new (OfPointer buttons x y) c h step s =
    by_call _ old new old.viewer _ c step s refl (λ p at. (p, at, refl))
link_outside e screen old new (OfText text) c h step s =
    by_call _ old new old.viewer _ c step s refl (λ p at. (p, at, refl))
link_outside e screen old new OfComposing c h (inl composed) s =
    let held = due_held e screen (core old) h.phase composed.due in
    let same : s.point ≡ held.p = (let is = sym s.at ∙ held.meets.viewer_at in cc) in
    let outside : s.point.left ≡ 0 = ap (λ (p : UpdatePoint). p.left) same ∙ held.awaits.between in
    stays new c (subst (λ (l : LinkState). ShowsOutside l c) (sym composed.result) (record {
      point = s.point;
      at = s.at;
      left = Whole outside (map sent_as (composed.copies ++ composed.blocks))
          (ap (λ (q : List FromServer). q ++ update_items composed.copies composed.blocks) held.awaits.none);
      latest = record { screen = screen; area = old.session.area; form = old.session.form };
      latest_is = refl;
      shows = s.shows;
      fresh = λ all. absurd (none_first _ _ (sym all
          ∙ ap (λ (q : List FromServer). q ++ update_items composed.copies composed.blocks) held.awaits.none));
    }))
link_outside e screen old new OfComposing c h (inr idle) s =
    stays new c (subst (λ (l : LinkState). ShowsOutside l c) (sym idle.1) s)
link_outside e screen old new (OfServer count) c h moves s =
    let none = no_replies e (server_of screen old.session) moves.done
    (server_past e (core old) s.point h.phase s.at) in
    stays new c (subst (λ (l : LinkState). ShowsOutside l c) (sym moves.result) (record {
      point = s.point;
      at = s.at;
      left = subst (λ (q : List FromServer). IsLeft s.point q)
          (sym (append-nil old.to_viewer) ∙ ap (λ (q : List FromServer). old.to_viewer ++ q) (sym none)) s.left;
      latest = s.latest;
      latest_is = s.latest_is;
      shows = s.shows;
      fresh = λ all. s.fresh (sym (append-nil old.to_viewer)
          ∙ ap (λ (q : List FromServer). old.to_viewer ++ q) (sym none) ∙ all);
    }))
link_outside e screen old new (OfViewer count) c h moves s =
    to_viewer e screen old new c _ (link_holds e screen old new (OfViewer count) h moves) moves s
