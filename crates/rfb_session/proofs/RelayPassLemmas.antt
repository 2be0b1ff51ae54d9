-- What a relay sends its server for what its viewers do.
use Rattle.std.proofs.Common.{◌≡◌, ◌++◌, ◌∙◌, ◌||◌, ℕ, Bool, true, false, not, List, []}
use Rattle.std.proofs.Common.{Option, None, refl, sym, ap, subst, inr, take, append-nil}
use Rattle.rfb_viewer.specs.declared.viewer.Viewer.{Viewer}
use Rattle.rfb_viewer.specs.Model.{StandsFor}
use Rattle.rfb_viewer.specs.Viewer.{ViewerState}
use Rattle.rfb_session.specs.declared.relay.Relay.{Relay}
use Rattle.rfb_session.specs.declared.relay.presence.Presence.{Presence}
use Rattle.rfb_session.specs.declared.relay.presence.Presence.TheVariants.{Coming, Shown, Gone as Lost}
use Rattle.rfb_session.specs.relay.Calls.{Passes as PassesNow, passed}
use Rattle.rfb_session.specs.relay.History.{HasViewer, IsComing, IsShowing, HasGone, Passes, is_muted}
use Rattle.rfb_session.specs.relay.Sent.{Sent, all_bytes, passes_of, IsInOrder}
use Rattle.rfb_session.specs.relay.Presence.{is_gone, is_shown}
use Rattle.rfb_session.specs.relay.Relay.{HearsViewer}
use Rattle.rfb_session.specs.relay.Setup.{viewing_by}
use Rattle.rfb_session.proofs.RelayKeepLemmas.{hears_seen}
use Rattle.rfb_session.proofs.RelayOrderLemmas.{after_passed, order_does, shown_past, doings_passed}
use Rattle.rfb_session.proofs.RelayCallLemmas.{passes_on, passed_so}
use Rattle.rfb_session.proofs.RelaySendLemmas.{passes_bytes, muted_none, muted_sends, or_true, or_false}

module _ {S : Type 0} where
  -- what is sent waits, and the viewer of a server that is there stands for what its bytes led to
  pub record Waits (old : Relay S) (sent more : List Sent) (new : Relay S) : Type 0 where
    pub waits : new.to_server ≡ old.to_server ++ all_bytes more
    pub viewer : Viewer
    pub shown : Bool
    pub state : ViewerState
    pub prefix : List ℕ
    pub here : HasViewer new viewer shown
    pub stands : StandsFor (viewing_by old.given.viewer) viewer state prefix
    pub order : IsInOrder old.console.rules.view_only shown state.point state.outstanding (sent ++ more)

  -- ---- bytes of a viewer

  module _ (old new : Relay S) (sent : List Sent) (k : ℕ) (bytes : List ℕ) (used : ℕ)
      (going : old.console.outcome ≡ None) (goes : new.console.outcome ≡ None)
      (hears : HearsViewer old k bytes used new) where
    -- what its session reported of them
    pub reported : (part : List ℕ) → part ≡ take used bytes → Passes old k part (passes_of (is_muted old) k hears.event)
    reported part is = record {
      event = hears.event;
      reports = record {
        bytes = bytes;
        used = used;
        part_is = is;
        heard = hears.mid;
        hears = hears.hears;
        nobody = λ none. hears.ended (inr none);
      };
      sent_is = refl;
    }

    -- nothing is passed on where viewers are muted
    unpassed : is_shown old.presence ≡ false →
        (new.to_server ≡ old.to_server) × (passes_of (is_muted old) k hears.event ≡ [])
    unpassed hidden =
        let all : is_muted old ≡ true =
        ap (λ (b : Bool). old.console.rules.view_only || not b) hidden ∙ or_true old.console.rules.view_only in
        let none : passed (is_muted old) hears.event ≡ None =
        ap (λ (b : Bool). passed b hears.event) all ∙ muted_none hears.event in (
          (subst (λ (o : Option (List ℕ)). PassesNow o hears.mid.desk new.console.desk old.to_server new.to_server
              hears.mid.outcome new.console.outcome) none hears.passes).1,
          ap (λ (b : Bool). passes_of b k hears.event) all ∙ muted_sends k hears.event,
        )

    pub heard_coming : (viewer : Viewer) (s : ViewerState) (prefix : List ℕ) → IsComing old viewer →
        StandsFor (viewing_by old.given.viewer) viewer s prefix →
        IsInOrder old.console.rules.view_only false s.point s.outstanding sent →
        Waits old sent (passes_of (is_muted old) k hears.event) new
    heard_coming viewer s prefix here stood order =
        let none = unpassed (ap (λ (p : Presence). is_shown p) here.presence) in
        record {
          waits = none.0 ∙ sym (append-nil old.to_server)
              ∙ ap (λ (l : List Sent). old.to_server ++ all_bytes l) (sym none.1);
          viewer = viewer;
          shown = false;
          state = s;
          prefix = prefix;
          here = record { presence = hears.presence ∙ here.presence; coming = hears.coming ∙ here.coming };
          stands = stood;
          order = subst (λ (l : List Sent). IsInOrder old.console.rules.view_only false s.point s.outstanding l)
              (sym (append-nil sent) ∙ ap (λ (l : List Sent). sent ++ l) (sym none.1)) order;
        }

    pub heard_shown : (viewer : Viewer) (s : ViewerState) (prefix : List ℕ) → IsShowing old viewer →
        StandsFor (viewing_by old.given.viewer) viewer s prefix →
        IsInOrder old.console.rules.view_only true s.point s.outstanding sent →
        Waits old sent (passes_of (is_muted old) k hears.event) new
    heard_shown viewer s prefix here stood order =
        let view = old.console.rules.view_only in
        let some : is_muted old ≡ view =
        ap (λ (p : Presence). view || not (is_shown p)) here.presence ∙ or_false view in
        let at = shown_past view s.point s.outstanding sent order in
        let kept = hears_seen old.console here.desk k bytes used hears.event hears.mid going
        (passes_on _ _ _ _ _ _ _ hears.passes goes) here.desk_is hears.hears in
        let one = passed_so (viewing_by old.given.viewer) viewer s prefix at.point (passed (is_muted old) hears.event)
        hears.mid.desk new.console.desk kept.desk old.to_server new.to_server hears.mid.outcome new.console.outcome
        (kept.viewer ∙ here.seen) stood at.at_is kept.is_there goes hears.passes in
        record {
          waits = one.3 ∙ ap (λ (l : List ℕ). old.to_server ++ l) (sym (passes_bytes (is_muted old) k hears.event));
          viewer = viewer;
          shown = true;
          state = s;
          prefix = prefix;
          here = record {
            presence = hears.presence ∙ here.presence;
            coming = hears.coming ∙ here.coming;
            desk = one.0;
            desk_is = one.1;
            seen = one.2;
          };
          stands = stood;
          order = order_does view s.point s.point at.point at.point s.outstanding s.outstanding sent
              (passes_of (is_muted old) k hears.event) at.at_is at.at_is refl refl
              (doings_passed view at.point s.outstanding (is_muted old) k hears.event some)
              (sym (after_passed s.outstanding (is_muted old) k hears.event)) order;
        }

    pub heard_gone : HasGone old → HasGone new
    heard_gone gone = record {
      gone = ap (λ (p : Presence). is_gone p) hears.presence ∙ gone.gone;
      coming = hears.coming ∙ gone.coming;
      waits = (unpassed (hidden old.presence gone.gone)).0 ∙ gone.waits;
    }
      where
        hidden : (p : Presence) → is_gone p ≡ true → is_shown p ≡ false
        hidden Coming is = refl
        hidden Shown is = absurd (let e = is in cc)
        hidden (Lost how recall) is = refl
