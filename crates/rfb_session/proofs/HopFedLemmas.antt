-- A viewer and its server before a share shows the picture: what the viewer is fed, its requests, and the end of an
-- update.
use Rattle.std.proofs.Common.{◌≡◌, ◌+◌, ◌≤◌, ℕ, Bool, false, List, [], ◌++◌, length}
use Rattle.std.proofs.Common.{Option, Some, None, inl, inr, refl, sym, ap, subst, ◌∙◌, length-append}
use Rattle.std.proofs.Common.{append_assoc}
use Rattle.std.proofs.Common.{arith}
use Rattle.rfb_pixel.specs.declared.colour.Colour.{Colour}
use Rattle.rfb_picture.specs.Grid.{Grid}
use Rattle.rfb_picture.specs.declared.rect.Rect.{Rect}
use Rattle.rfb_wire.specs.ClientMessage.{SpellsClientMessage, FramebufferUpdateRequest}
use Rattle.rfb_wire.specs.stream.End.{EndsWith, FedBy}
use Rattle.rfb_wire.specs.stream.Grammar.{ReadsAll}
use Rattle.rfb_wire.proofs.stream_laws.EndLaws.{delivered}
use Rattle.rfb_hello.specs.Version.{version_text}
use Rattle.rfb_viewer.specs.declared.fault.CallFault.{CallFault}
use Rattle.rfb_viewer.specs.declared.viewer.Viewer.{Viewer}
use Rattle.rfb_viewer.specs.Calls.{requested}
use Rattle.rfb_viewer.specs.ServerBytes.{FromServer}
use Rattle.rfb_viewer.specs.Model.{StandsFor as ViewerStandsFor}
use Rattle.rfb_viewer.specs.Told.{ViewerTold, UpdateDone}
use Rattle.rfb_viewer.specs.Viewer.{ViewerState, first_viewer, viewer as viewer_end}
use Rattle.rfb_viewer.proofs.ViewerLaws.{viewer_machine}
use Rattle.rfb_session.specs.declared.event.Event.TheVariants.{Request as OfRequest, ToViewer as OfViewer}
use Rattle.rfb_session.specs.Headline.{AnswersSome}
use Rattle.rfb_session.specs.HopAreas.{Covers, GoesForAll}
use Rattle.rfb_session.specs.HopEnds.{IsFed, GoesFed}
use Rattle.rfb_session.specs.InFlight.{AreMade, Flight, viewer_reply}
use Rattle.rfb_session.specs.Link.{Ends, Composing, LinkState}
use Rattle.rfb_session.specs.LinkSteps.{calls, flight_to_viewer, MovesToViewer}
use Rattle.rfb_session.specs.Network.{Network, Steps}
use Rattle.rfb_session.specs.ShareViewers.{Requests, fresh_over}
use Rattle.rfb_session.proofs.AnswerLemmas.{to_viewer_stream}
use Rattle.rfb_session.proofs.CalledLemmas.{request_ready}
use Rattle.rfb_session.proofs.DeliveringLemmas.{viewer_steps}
use Rattle.rfb_session.proofs.FlightLemmas.{first_flies, viewer_moved}
use Rattle.rfb_session.proofs.MoveLemmas.{viewer_flight}
use Rattle.rfb_session.proofs.NetworkLemmas.{first_reached, reached_holds}
use Rattle.rfb_session.proofs.SentLemmas.{called_flies}
use Rattle.rfb_session.proofs.WorldLemmas.{reached_step}
use Rattle.rfb_session.proofs.HopEarlyLemmas.{AreSteps, IsEarly, reached_early, last_done}

-- ---- what the viewer is fed

same_session : (e : Ends) (old new : LinkState) (n : ℕ) → MovesToViewer e old n new → new.session ≡ old.session
same_session e old new n moves = ap (λ (l : LinkState). l.session) moves.result

same_latest : (e : Ends) (old new : LinkState) (n : ℕ) → MovesToViewer e old n new → new.latest ≡ old.latest
same_latest e old new n moves = ap (λ (l : LinkState). l.latest) moves.result

pub fed_first : (e : Ends) (screen : Grid Colour) (viewer : Viewer) →
    ViewerStandsFor e.viewing viewer first_viewer [] →
    screen.width ≡ e.serving.hello.width → screen.height ≡ e.serving.hello.height →
    IsFed e viewer [] [] (version_text e.serving.hello.offer) (fresh_over e screen)
fed_first e screen viewer stands wide high = record {
  reached = first_reached e screen wide high;
  has = [];
  stands = stands;
  flies = first_flies e;
}

pub fed_next : (e : Ends) (old new : Viewer) (bytes : List ℕ) (event : Option ViewerTold)
    (has to_server to_viewer later : List ℕ) (n : Network) → AreMade e → to_viewer ≡ bytes ++ later →
    FedBy (viewer_end e.viewing) (ViewerStandsFor e.viewing) old bytes event new →
    IsFed e old has to_server to_viewer n → (g : GoesFed e n new has (to_server ++ viewer_reply event) later)
    × (event ≡ Some UpdateDone → (g.next.link.viewer.outstanding ≡ false) × AnswersSome g.next.link.latest)
    × GoesForAll e n g.next
fed_next e old new bytes event has to_server to_viewer later n made is fed f =
    let l = n.link in
    let flight : Flight =
    record { viewer_has = f.has; viewer_gets = to_viewer; server_has = has; server_gets = to_server } in
    let one = fed l.viewer f.has f.stands in
    let moved = viewer_moved e n.screen l flight bytes later one.1 event one.0 made
    (reached_holds e n f.reached) f.flies is one.3 in
    let all : length to_viewer ≡ length bytes + length later =
    ap (λ (q : List ℕ). length q) is ∙ length-append bytes later in
    let few : length bytes ≤ flight_to_viewer e l = omega (arith, all, viewer_flight e l flight f.flies) in
    let step = viewer_steps e n moved.new (length bytes) few moved.moves in (
      record {
        next = record n { link = moved.new };
        goes = inr (inl (OfViewer (length bytes), step));
        screen = refl;
        session = same_session e l moved.new (length bytes) moved.moves;
        fed = record {
          reached = reached_step e n (record n { link = moved.new }) (OfViewer (length bytes)) f.reached step;
          has = one.1;
          stands = subst (λ (s : ViewerState). ViewerStandsFor e.viewing new s one.1) (sym moved.viewer_is) one.2;
          flies = moved.flies;
        };
      },
      λ done.
          let d = delivered (viewer_end e.viewing) (viewer_machine e.viewing) l.viewer one.0 f.has bytes later one.1
          l.to_viewer event one.3
          (subst (λ (ys : List ℕ). ReadsAll (to_viewer_stream e) l.viewer.point ys l.to_viewer [])
          (ap (λ (q : List ℕ). f.has ++ q) is ∙ sym (append_assoc f.has bytes later)) f.flies.to_viewer) in
          let ends : EndsWith (viewer_end e.viewing) l.viewer d.done (Some UpdateDone) =
          subst (λ (o : Option ViewerTold). EndsWith (viewer_end e.viewing) l.viewer d.done o) done d.ends in
          let last = last_done e l.viewer d.done d.left ends in (
            ap (λ (v : ViewerState). v.outstanding) (moved.viewer_is ∙ d.state) ∙ last.0,
            subst (λ (o : Option Composing). AnswersSome o)
                (sym (same_latest e l moved.new (length bytes) moved.moves))
                (composed (reached_early e n f.reached)
                (λ steps. last.1 (subst (λ (q : List FromServer). AreSteps q) d.queue_is steps))),
          ),
      inr (inl (OfViewer (length bytes), tt, step)),
    )
  where
    composed : IsEarly n.link → (AreSteps n.link.to_viewer → ⊥) → AnswersSome n.link.latest
    composed (inl steps) never = absurd (never steps)
    composed (inr some) never = some

pub fed_requested : (e : Ends) (old new : Viewer) (incremental : Bool) (rect : Rect)
    (bytes has to_server to_viewer : List ℕ) (n : Network) → Requests e rect old new →
    SpellsClientMessage (FramebufferUpdateRequest incremental rect) bytes →
    IsFed e old has to_server to_viewer n →
    (g : GoesFed e n new has (to_server ++ bytes) to_viewer) × (Covers e rect → GoesForAll e n g.next)
fed_requested e old new incremental rect bytes has to_server to_viewer n asks spelled f =
    let l = n.link in
    let none = asks.taken l.viewer f.has f.stands in
    let ready = request_ready l.viewer.point l.viewer.outstanding rect none in
    let message = FramebufferUpdateRequest incremental rect in
    let next : Network = record n { link = calls None l (requested l.viewer) message } in
    let step : Steps e n (OfRequest incremental rect) next =
    (refl, ap (λ (o : Option CallFault). calls o l (requested l.viewer) message) none) in (
      record {
        next = next;
        goes = inr (inl (OfRequest incremental rect, step));
        screen = refl;
        session = refl;
        fed = record {
          reached = reached_step e n next (OfRequest incremental rect) f.reached step;
          has = f.has;
          stands = asks.stands l.viewer f.has f.stands;
          flies = called_flies e l _ ready.0 (requested l.viewer) message bytes
              (reached_holds e n f.reached).phase ready.1 f.flies f.flies.to_viewer spelled;
        };
      },
      λ covers. inr (inl (OfRequest incremental rect, covers, step)),
    )
