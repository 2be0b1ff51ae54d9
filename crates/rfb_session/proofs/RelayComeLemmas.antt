-- What a relay sends its server for bytes that came from it, before its picture is shown.
use Rattle.std.proofs.Common.{◌≡◌, ◌<◌, ◌++◌, ◌∙◌, ℕ, Bool, true, false, List, [], ◌∷◌, Option, Some, None}
use Rattle.std.proofs.Common.{refl, sym, ap, subst, take, append-nil}
use Rattle.rfb_hello.specs.declared.fed.Fed.{Fed}
use Rattle.rfb_hello.specs.ServerHandshake.{ServerPoint}
use Rattle.rfb_picture.specs.Rect.{rect}
use Rattle.rfb_wire.specs.stream.End.{Takes}
use Rattle.rfb_wire.specs.stream.Sequel.{First, Second}
use Rattle.rfb_codec.specs.UpdateStream.{UpdatePoint}
use Rattle.rfb_viewer.specs.declared.event.ViewerEvent.{ViewerEvent}
use Rattle.rfb_viewer.specs.declared.event.ViewerEvent.TheVariants as Said
use Rattle.rfb_viewer.specs.declared.viewer.Viewer.{Viewer}
use Rattle.rfb_viewer.specs.Calls.{requested}
use Rattle.rfb_viewer.specs.Messages.{request_message}
use Rattle.rfb_viewer.specs.ServerBytes.{ServerAt}
use Rattle.rfb_viewer.specs.Model.{StandsFor}
use Rattle.rfb_viewer.specs.Told.{ViewerTold, seen}
use Rattle.rfb_viewer.specs.Viewer.{ViewerState, viewer as viewer_end}
use Rattle.rfb_session.specs.declared.console.Outcome.{Outcome}
use Rattle.rfb_session.specs.declared.console.desk.Desk.{Desk}
use Rattle.rfb_session.specs.declared.relay.Relay.{Relay}
use Rattle.rfb_session.specs.declared.relay.presence.Presence.{Presence}
use Rattle.rfb_session.specs.declared.relay.presence.Presence.TheVariants.{Shown}
use Rattle.rfb_session.specs.declared.share.Share.{Share}
use Rattle.rfb_session.specs.Mirrors.{TakesBytes}
use Rattle.rfb_session.specs.Share.{viewer_of}
use Rattle.rfb_session.specs.relay.Calls.{Queues, Queued, NoRoom}
use Rattle.rfb_session.specs.relay.Doors.{TakesViewer}
use Rattle.rfb_session.specs.relay.History.{Answers, HasViewer, Comes as ComesThere, IsComing, HasGone, Says}
use Rattle.rfb_session.specs.relay.Sent.{Sent, Answer, Ask, Updated, all_bytes, answers_to, IsInOrder}
use Rattle.rfb_session.specs.relay.Presence.{is_gone}
use Rattle.rfb_session.specs.relay.Server.{Stands, Begins, Begun, BadSize, NoRoomToAsk, Opens, Opened, OpenedAgain}
use Rattle.rfb_session.specs.relay.Server.{OpenedOther, NoPicture, NoRoomToShow, OpenedAnew, NoRoomForLines}
use Rattle.rfb_session.specs.relay.Server.{Meets, HearsComing, Met, FailedAt}
use Rattle.rfb_session.specs.relay.Setup.{viewing_by}
use Rattle.rfb_session.proofs.ConsoleMoveLemmas.{none_some}
use Rattle.rfb_session.proofs.RelayOrderLemmas.{order_answered, order_asked, order_waits, order_opens}
use Rattle.rfb_session.proofs.RelayOrderLemmas.{not_gone, loses_gone}
use Rattle.rfb_session.proofs.RelayTakeLemmas.{Shakes, GoesOn, Ends, shakes, GoesFurther, further}
use Rattle.rfb_session.proofs.RelayTakeLemmas.{out_told, outstanding_after}
use Rattle.rfb_session.proofs.RelaySendLemmas.{has_place}

-- where all goes on these bytes wait, after what waited
queued : (old bytes new : List ℕ) (ends : Option Outcome) → ends ≡ None → Queues old bytes new ends → new ≡ old ++ bytes
queued old bytes new ends goes (Queued is) = is
queued old bytes new ends goes (NoRoom same ran) = absurd (none_some ends _ goes ran)

no_answer : (told : ViewerTold) → None ≡ Some told → ⊥
no_answer told is = cc

module _ {S : Type 0} where
  -- after them: what was sent waits, and its viewer stands for what came; or the server has gone away
  pub data AfterBytes (old : Relay S) (sent : List Sent) (part : List ℕ) (new : Relay S) : Type 0 where
    Stays : (more : List Sent) → Answers old part more → new.to_server ≡ old.to_server ++ all_bytes more →
        (viewer : Viewer) (shown : Bool) (state : ViewerState) (prefix : List ℕ) → HasViewer new viewer shown →
        StandsFor (viewing_by old.given.viewer) viewer state prefix →
        IsInOrder old.console.rules.view_only shown state.point state.outstanding (sent ++ more) →
        AfterBytes old sent part new
    Leaves : HasGone new → AfterBytes old sent part new

  module _ (old mid new : Relay S) (sent : List Sent) (part bytes : List ℕ) (goes : new.console.outcome ≡ None)
      (taken : TakesViewer old mid) where
    -- ---- a server that comes

    module _ (was now : Viewer) (fed : Fed ViewerEvent) (here : IsComing old was) (takes : TakesBytes was bytes fed now)
        (part_is : part ≡ take fed.used bytes) (t : ViewerState) (rest : List ℕ)
        (stands : StandsFor (viewing_by old.given.viewer) now t rest) where
      says : (event : Option ViewerEvent) → fed.event ≡ event → Says old false part event
      says event is = record {
        was = was;
        now = now;
        here = here;
        bytes = bytes;
        fed = fed;
        takes = takes;
        part_is = part_is;
        event_is = is;
      }

      -- its viewer stays, and its answer waits
      stays : (event : Option ViewerEvent) (answer : List ℕ) → fed.event ≡ event → Stands mid now answer new →
          all_bytes (answers_to event) ≡ answer →
          IsInOrder old.console.rules.view_only false t.point t.outstanding (sent ++ answers_to event) →
          AfterBytes old sent part new
      stays event answer is so all order =
          Stays (answers_to event) (ComesThere event (says event is) refl)
          (queued mid.to_server answer new.to_server new.console.outcome goes so.waits
          ∙ ap (λ (l : List ℕ). l ++ answer) taken.waits ∙ ap (λ (l : List ℕ). old.to_server ++ l) (sym all))
          now false t rest
          (record { presence = so.presence ∙ taken.presence ∙ here.presence; coming = so.coming }) stands order

      -- its handshake is done
      begins : (event : Option ViewerEvent) (reply : List ℕ) (width height : ℕ) → fed.event ≡ event →
          answers_to event ≡ Answer reply ∷ Ask false width height ∷ [] → Begins mid now reply width height new →
          (p : UpdatePoint) → t.point ≡ Second p →
          (0 < width → 0 < height →
          IsInOrder old.console.rules.view_only false t.point true (sent ++ answers_to event)) →
          AfterBytes old sent part new
      begins event reply width height is answers (Begun asked so asks) p at order =
          let some = has_place t.point p t.outstanding width height at
          (asks.taken (viewing_by old.given.viewer) t rest stands) in
          let message = request_message false (rect 0 0 width height) in
          Stays (answers_to event) (ComesThere event (says event is) refl)
          (queued mid.to_server (reply ++ message) new.to_server new.console.outcome goes so.waits
          ∙ ap (λ (l : List ℕ). l ++ (reply ++ message)) taken.waits
          ∙ ap (λ (l : List ℕ). old.to_server ++ (reply ++ l)) (sym (append-nil message))
          ∙ ap (λ (l : List Sent). old.to_server ++ all_bytes l) (sym answers))
          asked false (requested t) rest
          (record { presence = so.presence ∙ taken.presence ∙ here.presence; coming = so.coming })
          (asks.noted (viewing_by old.given.viewer) t rest stands) (order some.0 some.1)
      begins event reply width height is answers (BadSize size between queues presence keeps loses) p at order =
          Leaves (loses_gone between _ new
          (ap (λ (p : Presence). is_gone p) (presence ∙ taken.presence) ∙ not_gone old was false here) loses)
      begins event reply width height is answers (NoRoomToAsk ran) p at order =
          absurd (none_some new.console.outcome _ goes ran)

      -- its first update is whole, and its picture is shown
      opened : (desk : Desk) → fed.event ≡ Some Said.UpdateDone → new.console.desk ≡ Some desk →
          viewer_of desk.share ≡ Some now → new.presence ≡ Shown → new.coming ≡ mid.coming →
          new.to_server ≡ mid.to_server →
          IsInOrder old.console.rules.view_only true t.point t.outstanding (sent ++ Updated ∷ []) →
          AfterBytes old sent part new
      opened desk is there seen presence coming waits order =
          Stays (Updated ∷ []) (ComesThere (Some Said.UpdateDone) (says (Some Said.UpdateDone) is) refl)
          (waits ∙ taken.waits ∙ sym (append-nil old.to_server)) now true t rest
          (record {
            presence = presence;
            coming = coming ∙ taken.taken;
            desk = desk;
            desk_is = there;
            seen = seen;
          }) stands order

      opens : fed.event ≡ Some Said.UpdateDone → Opens mid now new →
          IsInOrder old.console.rules.view_only true t.point t.outstanding (sent ++ Updated ∷ []) →
          AfterBytes old sent part new
      opens is (Opened desk none there share over presence beside) order =
          opened desk is there share.viewer_is presence beside.noted.coming beside.waits order
      opens is (OpenedAgain a m b there shows tells now_there outcome presence beside) order =
          opened b is now_there (ap (λ (s : Share). viewer_of s) tells.share ∙ shows.share.is_there) presence
          beside.noted.coming beside.waits order
      opens is (OpenedOther share made (OpenedAnew a m b there begins tells now_there outcome presence beside)) order =
          opened b is now_there (ap (λ (s : Share). viewer_of s) (tells.share ∙ begins.share_is) ∙ made.viewer_is)
          presence beside.noted.coming beside.waits order
      opens is (OpenedOther share made (NoRoomForLines ran)) order = absurd (none_some new.console.outcome _ goes ran)
      opens is (NoPicture how between kept loses) order =
          Leaves (loses_gone between how new
          (ap (λ (p : Presence). is_gone p) (kept.server.presence ∙ taken.presence)
          ∙ not_gone old was false here) loses)
      opens is (NoRoomToShow ran) order = absurd (none_some new.console.outcome _ goes ran)

    -- bytes of its viewer's
    pub comes_so : (was : Viewer) (s : ViewerState) (prefix : List ℕ) → IsComing old was →
        StandsFor (viewing_by old.given.viewer) was s prefix →
        IsInOrder old.console.rules.view_only false s.point s.outstanding sent → (used : ℕ) → part ≡ take used bytes →
        HearsComing mid was bytes used new → AfterBytes old sent part new
    comes_so was s prefix here stood order used part_is (FailedAt now fault fails used_is loses) =
        Leaves (loses_gone mid _ new
        (ap (λ (p : Presence). is_gone p) taken.presence ∙ not_gone old was false here) loses)
    comes_so was s prefix here stood order used part_is (Met now fed takes used_is meets named) = by s.point refl
      where
        view : Bool
        view = old.console.rules.view_only

        parts : part ≡ take fed.used bytes
        parts = part_is ∙ ap (λ (n : ℕ). take n bytes) used_is

        one : (t : ViewerState) × (rest : List ℕ) × StandsFor (viewing_by old.given.viewer) now t rest
            × Takes (viewer_end (viewing_by old.given.viewer)) s prefix (take fed.used bytes) (seen fed.event) t rest
        one = takes.fed_by (viewing_by old.given.viewer) s prefix stood

        at_first : (point : ServerPoint) → s.point ≡ First point → (event : Option ViewerEvent) →
            fed.event ≡ event → Shakes one.0.point (seen event) → Meets mid now event new →
            AfterBytes old sent part new
        at_first point at None is (GoesOn next to shaking) so =
            stays was now fed here takes parts one.0 one.1 one.2 None [] is so refl
            (order_answered view s.point one.0.point point next s.outstanding one.0.outstanding sent [] at to tt order)
        at_first point at None is (Ends p b n k to told) so = absurd (no_answer _ told)
        at_first point at (Some (Said.Reply reply)) is (GoesOn next to shaking) so =
            stays was now fed here takes parts one.0 one.1 one.2 (Some (Said.Reply reply)) reply.items is so
            (append-nil reply.items)
            (order_answered view s.point one.0.point point next s.outstanding one.0.outstanding sent
            (Answer reply.items ∷ []) at to tt order)
        at_first point at (Some (Said.Reply reply)) is (Ends p b n k to told) so = absurd (let e = told in cc)
        at_first point at (Some (Said.Ready reply w h name n)) is (GoesOn next to shaking) so = absurd shaking
        at_first point at (Some (Said.Ready reply w h name n)) is (Ends p b m k to told) so =
            let wide : w ≡ p.width = let e = told in cc in
            let high : h ≡ p.height = let e = told in cc in
            begins was now fed here takes parts one.0 one.1 one.2 (Some (Said.Ready reply w h name n)) reply.items
            w h is refl so p to
            (λ columns rows. rw (wide, high)
            (order_asked view s.point one.0.point point p s.outstanding sent reply.items at to (rw (← wide) columns)
            (rw (← high) rows) order))
        at_first point at (Some Said.UpdateDone) is (GoesOn next to shaking) so = absurd shaking
        at_first point at (Some Said.UpdateDone) is (Ends p b n k to told) so = absurd (let e = told in cc)
        at_first point at (Some Said.Bell) is (GoesOn next to shaking) so = absurd shaking
        at_first point at (Some Said.Bell) is (Ends p b n k to told) so = absurd (let e = told in cc)
        at_first point at (Some (Said.CutText kept m)) is (GoesOn next to shaking) so = absurd shaking
        at_first point at (Some (Said.CutText kept m)) is (Ends p b n k to told) so = absurd (let e = told in cc)
        at_first point at (Some Said.ColourMapSkipped) is (GoesOn next to shaking) so = absurd shaking
        at_first point at (Some Said.ColourMapSkipped) is (Ends p b n k to told) so = absurd (let e = told in cc)

        -- whether a request is outstanding
        out_so : (p : UpdatePoint) → s.point ≡ Second p → (event : Option ViewerEvent) → fed.event ≡ event →
            one.0.outstanding ≡ out_told (seen event) s.outstanding
        out_so p at event is =
            outstanding_after (viewing_by old.given.viewer) s p prefix (take fed.used bytes) (seen fed.event) one.0
            one.1 at one.3 ∙ ap (λ (o : Option ViewerEvent). out_told (seen o) s.outstanding) is

        -- it reported no answer
        plain_stays : (p : UpdatePoint) → s.point ≡ Second p → (event : Option ViewerEvent) → fed.event ≡ event →
            answers_to event ≡ [] → one.0.outstanding ≡ s.outstanding → GoesFurther p one.0.point (seen event) →
            Stands mid now [] new → AfterBytes old sent part new
        plain_stays p at event is none same far so =
            stays was now fed here takes parts one.0 one.1 one.2 event [] is so
            (ap (λ (l : List Sent). all_bytes l) none)
            (subst (λ (l : List Sent). IsInOrder view false one.0.point one.0.outstanding (sent ++ l)) (sym none)
            (order_waits view s.point one.0.point p far.to s.outstanding one.0.outstanding sent at far.at_is far.wide
            far.high same order))

        at_second : (p : UpdatePoint) → s.point ≡ Second p → (event : Option ViewerEvent) → fed.event ≡ event →
            GoesFurther p one.0.point (seen event) → Meets mid now event new → AfterBytes old sent part new
        at_second p at None is far so = plain_stays p at None is refl (out_so p at None is) far so
        at_second p at (Some (Said.Reply reply)) is far so = absurd far.plain
        at_second p at (Some (Said.Ready reply w h name n)) is far so = absurd far.plain
        at_second p at (Some Said.UpdateDone) is far so =
            opens was now fed here takes parts one.0 one.1 one.2 is so
            (order_opens view s.point one.0.point p far.to s.outstanding one.0.outstanding sent at far.at_is far.wide
            far.high (out_so p at (Some Said.UpdateDone) is) order)
        at_second p at (Some Said.Bell) is far so =
            plain_stays p at (Some Said.Bell) is refl (out_so p at (Some Said.Bell) is) far so
        at_second p at (Some (Said.CutText kept n)) is far so =
            plain_stays p at (Some (Said.CutText kept n)) is refl (out_so p at (Some (Said.CutText kept n)) is) far so
        at_second p at (Some Said.ColourMapSkipped) is far so =
            plain_stays p at (Some Said.ColourMapSkipped) is refl (out_so p at (Some Said.ColourMapSkipped) is) far so

        by : (at : ServerAt) → s.point ≡ at → AfterBytes old sent part new
        by (First point) at = at_first point at fed.event refl
            (shakes (viewing_by old.given.viewer) s point prefix (take fed.used bytes) (seen fed.event) one.0 one.1 at
            one.3) meets
        by (Second p) at = at_second p at fed.event refl
            (further (viewing_by old.given.viewer) s p prefix (take fed.used bytes) (seen fed.event) one.0 one.1 at
            one.3) meets
