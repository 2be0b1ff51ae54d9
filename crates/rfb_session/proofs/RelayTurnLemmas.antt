-- What a relay sends its server in a turn.
use Rattle.std.proofs.Common.{◌≡◌, ◌++◌, ◌∙◌, ◌⊎◌, ℕ, Bool, true, false, List, [], ◌∷◌}
use Rattle.std.proofs.Common.{Option, Some, None, refl, sym, ap, subst, inl, inr, append-nil}
use Rattle.rfb_wire.specs.stream.Sequel.{Second}
use Rattle.rfb_viewer.specs.declared.viewer.Viewer.{Viewer}
use Rattle.rfb_viewer.specs.Calls.{requested}
use Rattle.rfb_viewer.specs.Messages.{request_message}
use Rattle.rfb_viewer.specs.Model.{StandsFor}
use Rattle.rfb_viewer.specs.Viewer.{Viewing, ViewerState}
use Rattle.rfb_session.specs.declared.console.Outcome.{Outcome}
use Rattle.rfb_session.specs.declared.console.desk.Desk.{Desk}
use Rattle.rfb_session.specs.declared.relay.Relay.{Relay}
use Rattle.rfb_session.specs.declared.relay.presence.Presence.{Presence}
use Rattle.rfb_session.specs.declared.relay.presence.Presence.TheVariants.{Coming, Shown, Gone as Lost}
use Rattle.rfb_session.specs.declared.share.seat.ShareSeat.{ShareSeat}
use Rattle.rfb_session.specs.Share.{screen_of, seat_in, viewer_of}
use Rattle.rfb_session.specs.ShareWaiters.{HasAskedIn, SomeAsked}
use Rattle.rfb_session.specs.relay.Calls.{Asks as AsksNow}
use Rattle.rfb_session.specs.relay.Desk.{whole_of}
use Rattle.rfb_session.specs.relay.History.{IsComing, IsShowing, HasGone, Asks, NotAsked, AskedOnce, SomeWait}
use Rattle.rfb_session.specs.relay.Sent.{Sent, Ask, all_bytes, IsInOrder}
use Rattle.rfb_session.specs.relay.Presence.{is_gone, is_shown}
use Rattle.rfb_session.specs.relay.Relay.{TurnsRelay}
use Rattle.rfb_session.specs.relay.Server.{planned_for}
use Rattle.rfb_session.specs.relay.Setup.{viewing_by}
use Rattle.rfb_session.proofs.ConsoleMoveLemmas.{none_some}
use Rattle.rfb_session.proofs.ConsoleStepLemmas.{went_on}
use Rattle.rfb_session.proofs.HopEndLemmas.{one_viewer}
use Rattle.rfb_session.proofs.RelayKeepLemmas.{one_desk, turns_seen}
use Rattle.rfb_session.proofs.RelayOrderLemmas.{IsPast, order_does, shown_past}
use Rattle.rfb_session.proofs.RelayStepLemmas.{planned_gone}
use Rattle.rfb_session.proofs.RelayPassLemmas.{Waits}
use Rattle.rfb_session.proofs.RelayCallLemmas.{AskedSo, Unasked, Once, asked_so, asks_none}
use Rattle.rfb_session.proofs.RelaySendLemmas.{screen_sized}

-- ---- its server's presence after a turn

planned_coming : (retry : Option ℕ) (ended : Option Outcome) (now : ℕ) → planned_for retry ended now Coming ≡ Coming
planned_coming None ended now = refl
planned_coming (Some pause) (Some o) now = refl
planned_coming (Some pause) None now = refl

planned_shown : (retry : Option ℕ) (ended : Option Outcome) (now : ℕ) → planned_for retry ended now Shown ≡ Shown
planned_shown None ended now = refl
planned_shown (Some pause) (Some o) now = refl
planned_shown (Some pause) None now = refl

hidden_not : (p : Presence) → p ≡ Coming → p ≡ Shown → ⊥
hidden_not p one two = cc

-- where all goes on after it is asked, all went on before it
asks_on : (shown : Bool) (ended : Option Outcome) (x b : Option Desk) (old new : List ℕ) (ends : Option Outcome) →
    AsksNow shown ended x b old new ends → ends ≡ None → ended ≡ None
asks_on false ended x b old new ends asks goes = sym asks.2 ∙ goes
asks_on true None x b old new ends asks goes = refl
asks_on true (Some o) x b old new ends asks goes = absurd (none_some ends o goes asks.2)

-- who waits at the same seats
asked_as : (f g : ℕ → Option ShareSeat) → ((k : ℕ) → f k ≡ g k) → (k : ℕ) × HasAskedIn (g k) →
    (k : ℕ) × HasAskedIn (f k)
asked_as f g same (k, asked) = (k, subst (λ (o : Option ShareSeat). HasAskedIn o) (sym (same k)) asked)

module _ {S : Type 0} where
  -- ---- a turn

  module _ (old : Relay S) (now : ℕ) (new : Relay S) (turns : TurnsRelay old now new)
      (goes : new.console.outcome ≡ None) where
    mid_on : turns.mid.outcome ≡ None
    mid_on = asks_on _ _ _ _ _ _ _ turns.asks goes

    asked_on : turns.asked.console.outcome ≡ None
    asked_on = went_on turns.asked.console turns.mid turns.stays mid_on

    -- where the picture is not shown nothing is asked
    unasked : is_shown old.presence ≡ false → new.to_server ≡ old.to_server
    unasked hidden = (asks_none _ _ _ _ _ _ _ hidden turns.asks).0 ∙ (asks_none _ _ _ _ _ _ _ hidden turns.asks_first).0

    pub turned_coming : (sent : List Sent) (viewer : Viewer) (s : ViewerState) (prefix : List ℕ) →
        IsComing old viewer → StandsFor (viewing_by old.given.viewer) viewer s prefix →
        IsInOrder old.console.rules.view_only false s.point s.outstanding sent → Asks old [] new × Waits old sent [] new
    turned_coming sent viewer s prefix here stood order = (
      NotAsked refl (λ now_seen there waits. absurd (hidden_not new.presence
          (turns.presence
          ∙ ap (λ (p : Presence). planned_for new.console.rules.retry new.console.outcome now p) here.presence
          ∙ planned_coming new.console.rules.retry new.console.outcome now) there.presence)),
      record {
        waits = unasked (ap (λ (p : Presence). is_shown p) here.presence) ∙ sym (append-nil old.to_server);
        viewer = viewer;
        shown = false;
        state = s;
        prefix = prefix;
        here = record {
          presence = turns.presence
              ∙ ap (λ (p : Presence). planned_for new.console.rules.retry new.console.outcome now p) here.presence
              ∙ planned_coming new.console.rules.retry new.console.outcome now;
          coming = turns.coming ∙ here.coming;
        };
        stands = stood;
        order = subst (λ (l : List Sent). IsInOrder old.console.rules.view_only false s.point s.outstanding l)
            (sym (append-nil sent)) order;
      },
    )

    pub turned_gone : HasGone old → HasGone new
    turned_gone gone = record {
      gone = ap (λ (p : Presence). is_gone p) turns.presence
          ∙ planned_gone new.console.rules.retry new.console.outcome now old.presence ∙ gone.gone;
      coming = turns.coming ∙ gone.coming;
      waits = unasked (hidden old.presence gone.gone) ∙ gone.waits;
    }
      where
        hidden : (p : Presence) → is_gone p ≡ true → is_shown p ≡ false
        hidden Coming is = refl
        hidden Shown is = absurd (let e = is in cc)
        hidden (Lost how recall) is = refl

    module _ (sent : List Sent) (viewer : Viewer) (s : ViewerState) (prefix : List ℕ) (here : IsShowing old viewer)
        (going : old.console.outcome ≡ None) (stood : StandsFor (viewing_by old.given.viewer) viewer s prefix)
        (order : IsInOrder old.console.rules.view_only true s.point s.outstanding sent) where
      abbrev viewing : Viewing
      viewing = viewing_by old.given.viewer

      at : IsPast s.point
      at = shown_past old.console.rules.view_only s.point s.outstanding sent order

      up : is_shown old.presence ≡ true
      up = ap (λ (p : Presence). is_shown p) here.presence

      showing : (v : Viewer) (d : Desk) → new.console.desk ≡ Some d → viewer_of d.share ≡ Some v → IsShowing new v
      showing v d is seen = record {
        presence = turns.presence
            ∙ ap (λ (p : Presence). planned_for new.console.rules.retry new.console.outcome now p) here.presence
            ∙ planned_shown new.console.rules.retry new.console.outcome now;
        coming = turns.coming ∙ here.coming;
        desk = d;
        desk_is = is;
        seen = seen;
      }

      -- nothing was asked
      none : (d : Desk) → new.console.desk ≡ Some d → viewer_of d.share ≡ Some viewer →
          new.to_server ≡ old.to_server → (SomeAsked d.share → s.outstanding ≡ true) →
          (more : List Sent) × Asks old more new × Waits old sent more new
      none d is seen same reason = (
        [],
        NotAsked refl (λ now_seen there waits.
            let here_is = one_desk new.console.desk waits.0 d waits.1 is in
            let there_is = one_desk new.console.desk there.desk d there.desk_is is in
            let same_viewer = one_viewer (viewer_of d.share) now_seen viewer
            (subst (λ (x : Desk). viewer_of x.share ≡ Some now_seen) there_is there.seen) seen in
            λ seen_by t has so.
            (subst (λ (v : Viewer). StandsFor seen_by v t has) same_viewer so).outstanding_is
            ∙ sym stood.outstanding_is
            ∙ reason (subst (λ (x : Desk). SomeAsked x.share) here_is waits.2)),
        record {
          waits = same ∙ sym (append-nil old.to_server);
          viewer = viewer;
          shown = true;
          state = s;
          prefix = prefix;
          here = showing viewer d is seen;
          stands = stood;
          order = order_does old.console.rules.view_only s.point s.point at.point at.point s.outstanding s.outstanding
              sent [] at.at_is at.at_is refl refl tt refl order;
        },
      )

      -- or once, of a desk whose viewer stood for this
      once : (a : Desk) (w : Viewer) (d : Desk) → viewer_of a.share ≡ Some viewer → s.outstanding ≡ false →
          SomeWait old ⊎ SomeWait new → new.console.desk ≡ Some d → viewer_of d.share ≡ Some w →
          StandsFor viewing w (requested s) prefix →
          new.to_server
          ≡ old.to_server ++ all_bytes (Ask true (screen_of a.share).width (screen_of a.share).height ∷ []) →
          (more : List Sent) × Asks old more new × Waits old sent more new
      once a w d there quiet wait is seen stands sends =
          let size = screen_sized viewing a.share viewer s prefix at.point there stood at.at_is in
          let more : List Sent = Ask true (screen_of a.share).width (screen_of a.share).height ∷ [] in (
            more,
            AskedOnce (screen_of a.share).width (screen_of a.share).height viewer w here (showing w d is seen)
                (λ seen_by t has so. so.outstanding_is ∙ sym stood.outstanding_is ∙ quiet)
                (λ seen_by t has so. so.outstanding_is ∙ sym stands.outstanding_is) wait refl,
            record {
              waits = sends;
              viewer = w;
              shown = true;
              state = requested s;
              prefix = prefix;
              here = showing w d is seen;
              stands = stands;
              order = order_does old.console.rules.view_only s.point s.point at.point at.point s.outstanding true sent
                  more at.at_is at.at_is refl refl (refl, size.0, size.1, quiet, tt) refl order;
            },
          )

      -- after the desk's turn
      then_so : (v : Viewer) (t : ViewerState) (d : Desk) → turns.asked.console.desk ≡ Some d →
          viewer_of d.share ≡ Some v → StandsFor viewing v t prefix → t.point ≡ Second at.point →
          (e : Desk) × (viewer_of e.share ≡ Some v)
          × AskedSo viewing v t prefix e new.console.desk turns.asked.to_server new.to_server
      then_so v t d is seen stands past =
          let kept = turns_seen turns.asked.console d now turns.mid asked_on mid_on is turns.turns in (
            kept.desk,
            kept.viewer ∙ seen,
            asked_so viewing v t prefix at.point (is_shown old.presence) turns.mid.outcome turns.mid.desk
                new.console.desk kept.desk turns.asked.to_server new.to_server new.console.outcome
                (kept.viewer ∙ seen) stands past at.columns at.rows up mid_on kept.is_there goes turns.asks,
          )

      pub turned_shown : (more : List Sent) × Asks old more new × Waits old sent more new
      turned_shown =
          by (asked_so viewing viewer s prefix at.point (is_shown old.presence) old.console.outcome old.console.desk
          turns.asked.console.desk here.desk old.to_server turns.asked.to_server turns.asked.console.outcome here.seen
          stood at.at_is at.columns at.rows up going here.desk_is asked_on turns.asks_first)
        where
          by : AskedSo viewing viewer s prefix here.desk turns.asked.console.desk old.to_server turns.asked.to_server →
              (more : List Sent) × Asks old more new × Waits old sent more new
          by (Unasked d is seen kept reason) = second (then_so viewer s d is seen stood at.at_is)
            where
              second : (e : Desk) × (viewer_of e.share ≡ Some viewer)
                  × AskedSo viewing viewer s prefix e new.console.desk turns.asked.to_server new.to_server →
                  (more : List Sent) × Asks old more new × Waits old sent more new
              second (e, seen_then, Unasked f now_is seen_now kept_now reason_now) =
                  none f now_is seen_now (kept_now ∙ kept) reason_now
              second (e, seen_then, Once some quiet f now_is w seen_now stands_now seats sends) =
                  once e w f seen_then quiet
                  (inr (f, now_is, asked_as (seat_in f.share) (seat_in e.share) seats some)) now_is seen_now stands_now
                  (sends ∙ ap (λ (l : List ℕ). l ++ request_message true (whole_of e.share)) kept
                  ∙ ap (λ (l : List ℕ). old.to_server ++ l)
                  (sym (append-nil (request_message true (whole_of e.share)))))
          by (Once some quiet d is w seen stands seats sends) =
              second (then_so w (requested s) d is seen stands at.at_is)
            where
              second : (e : Desk) × (viewer_of e.share ≡ Some w)
                  × AskedSo viewing w (requested s) prefix e new.console.desk turns.asked.to_server new.to_server →
                  (more : List Sent) × Asks old more new × Waits old sent more new
              second (e, seen_then, Unasked f now_is seen_now kept_now reason_now) =
                  once here.desk w f here.seen quiet (inl (here.desk, here.desk_is, some)) now_is seen_now stands
                  (kept_now ∙ sends ∙ ap (λ (l : List ℕ). old.to_server ++ l)
                  (sym (append-nil (request_message true (whole_of here.desk.share)))))
              second (e, seen_then, Once again busy f now_is x seen_now stands_now seats_now sends_now) =
                  absurd (let one = busy in cc)
