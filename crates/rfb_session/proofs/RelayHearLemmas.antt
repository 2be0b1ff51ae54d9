-- What a relay sends its server for bytes that came from it.
use Rattle.std.proofs.Common.{◌≡◌, ◌++◌, ◌∙◌, ℕ, Bool, true, false, List, [], Option, Some, None}
use Rattle.std.proofs.Common.{refl, sym, ap, subst, inl, inr, take, append-nil}
use Rattle.rfb_codec.specs.UpdateStream.{UpdatePoint}
use Rattle.rfb_viewer.specs.declared.event.ViewerEvent.{ViewerEvent}
use Rattle.rfb_viewer.specs.declared.event.ViewerEvent.TheVariants as Said
use Rattle.rfb_viewer.specs.declared.viewer.Viewer.{Viewer}
use Rattle.rfb_viewer.specs.Model.{StandsFor}
use Rattle.rfb_viewer.specs.Told.{seen}
use Rattle.rfb_viewer.specs.Viewer.{ViewerState}
use Rattle.rfb_session.specs.declared.console.Console.{Console}
use Rattle.rfb_session.specs.declared.console.desk.Desk.{Desk}
use Rattle.rfb_session.specs.declared.relay.Relay.{Relay}
use Rattle.rfb_session.specs.declared.relay.presence.Presence.{Presence}
use Rattle.rfb_session.specs.declared.share.Share.{Share}
use Rattle.rfb_session.specs.Mirrors.{TakesBytes}
use Rattle.rfb_session.specs.Share.{viewer_of}
use Rattle.rfb_session.specs.relay.Desk.{TellsSome}
use Rattle.rfb_session.specs.relay.Doors.{KeepsServer, TakesViewer}
use Rattle.rfb_session.specs.relay.History.{HasViewer, IsShown, IsShowing, HasGone}
use Rattle.rfb_session.specs.relay.Sent.{Sent, all_bytes, out_after, updates_in, AreDoings, IsInOrder}
use Rattle.rfb_session.specs.relay.Presence.{is_gone}
use Rattle.rfb_session.specs.relay.Server.{HearsComing, HearsShown, NoneShown, NoViewer, Fed_on}
use Rattle.rfb_session.specs.relay.Server.{FailedOn, NoRoomToTell, HearsServer, Ignored, Comes, Shows}
use Rattle.rfb_session.specs.relay.Setup.{viewing_by}
use Rattle.rfb_session.proofs.ConsoleMoveLemmas.{none_some}
use Rattle.rfb_session.proofs.HopEndLemmas.{one_viewer}
use Rattle.rfb_session.proofs.RelayOrderLemmas.{order_does}
use Rattle.rfb_session.proofs.RelayOrderLemmas.{shown_past, not_gone, loses_gone, left_gone}
use Rattle.rfb_session.proofs.RelayTakeLemmas.{IsPlain, further, out_told, outstanding_after}
use Rattle.rfb_session.proofs.RelayComeLemmas.{AfterBytes, Stays, Leaves, comes_so}

-- a whole update is marked, and sends nothing
updates_bytes : (event : Option ViewerEvent) → all_bytes (updates_in event) ≡ []
updates_bytes None = refl
updates_bytes (Some (Said.Reply reply)) = refl
updates_bytes (Some (Said.Ready reply w h name n)) = refl
updates_bytes (Some Said.UpdateDone) = refl
updates_bytes (Some Said.Bell) = refl
updates_bytes (Some (Said.CutText kept n)) = refl
updates_bytes (Some Said.ColourMapSkipped) = refl

updates_do : (view_only : Bool) (p : UpdatePoint) (out : Bool) (event : Option ViewerEvent) →
    AreDoings view_only p out (updates_in event)
updates_do view_only p out None = tt
updates_do view_only p out (Some (Said.Reply reply)) = tt
updates_do view_only p out (Some (Said.Ready reply w h name n)) = tt
updates_do view_only p out (Some Said.UpdateDone) = tt
updates_do view_only p out (Some Said.Bell) = tt
updates_do view_only p out (Some (Said.CutText kept n)) = tt
updates_do view_only p out (Some Said.ColourMapSkipped) = tt

updates_out : (out : Bool) (event : Option ViewerEvent) → IsPlain (seen event) →
    out_told (seen event) out ≡ out_after out (updates_in event)
updates_out out None plain = refl
updates_out out (Some (Said.Reply reply)) plain = absurd plain
updates_out out (Some (Said.Ready reply w h name n)) plain = absurd plain
updates_out out (Some Said.UpdateDone) plain = refl
updates_out out (Some Said.Bell) plain = refl
updates_out out (Some (Said.CutText kept n)) plain = refl
updates_out out (Some Said.ColourMapSkipped) plain = refl

told_share : (old : Desk) (line : Option (List ℕ)) (new : Desk) → TellsSome old line new → new.share ≡ old.share
told_share old None new same = ap (λ (d : Desk). d.share) same
told_share old (Some line) new tells = tells.share

module _ {S : Type 0} where
  module _ (old mid new : Relay S) (sent : List Sent) (part bytes : List ℕ) (goes : new.console.outcome ≡ None)
      (taken : TakesViewer old mid) where
    -- ---- a server whose picture is shown

    pub shows_so : (was : Viewer) (s : ViewerState) (prefix : List ℕ) → IsShowing old was →
        StandsFor (viewing_by old.given.viewer) was s prefix →
        IsInOrder old.console.rules.view_only true s.point s.outstanding sent → (used : ℕ) →
        part ≡ take used bytes → HearsShown mid bytes used new → AfterBytes old sent part new
    shows_so was s prefix here stood order used part_is hears = by hears
      where
        there : mid.console.desk ≡ Some here.desk
        there = ap (λ (c : Console S). c.desk) taken.console ∙ here.desk_is

        the_desk : (a : Desk) → mid.console.desk ≡ Some a → a ≡ here.desk
        the_desk a is = let one = is in let two = there in cc

        by : HearsShown mid bytes used new → AfterBytes old sent part new
        by (NoneShown none used_is same) = absurd (none_some mid.console.desk here.desk none there)
        by (NoViewer a b is none used_is holds now outcome keeps) =
            absurd (none_some (viewer_of here.desk.share) was
            (subst (λ (d : Desk). viewer_of d.share ≡ None) (the_desk a is) none) here.seen)
        by (Fed_on a m b fed is used_is feeds tells now outcome keeps) =
            let viewing = viewing_by old.given.viewer in
            let on = feeds.feeds in
            let same : on.was ≡ was =
            one_viewer (viewer_of a.share) on.was was on.was_there
            (ap (λ (d : Desk). viewer_of d.share) (the_desk a is) ∙ here.seen) in
            let one = on.takes.fed_by viewing s prefix
            (subst (λ (v : Viewer). StandsFor viewing v s prefix) (sym same) stood) in
            let at = shown_past old.console.rules.view_only s.point s.outstanding sent order in
            let far = further viewing s at.point prefix (take fed.used bytes) (seen fed.event) one.0 one.1 at.at_is
            one.3 in
            Stays (updates_in fed.event)
            (IsShown fed.event (record {
              was = was;
              now = on.mid;
              here = here;
              bytes = bytes;
              fed = fed;
              takes = subst (λ (v : Viewer). TakesBytes v bytes fed on.mid) same on.takes;
              part_is = part_is ∙ ap (λ (n : ℕ). take n bytes) used_is;
              event_is = refl;
            }) refl)
            (keeps.beside.waits ∙ taken.waits ∙ sym (append-nil old.to_server)
            ∙ ap (λ (l : List ℕ). old.to_server ++ l) (sym (updates_bytes fed.event)))
            on.relays.now true one.0 one.1
            (record {
              presence = keeps.presence ∙ taken.presence ∙ here.presence;
              coming = keeps.beside.noted.coming ∙ taken.taken;
              desk = b;
              desk_is = now;
              seen = ap (λ (x : Share). viewer_of x) (told_share m _ b tells) ∙ on.relays.is_there;
            })
            (on.relays.asked.keeps.stands viewing one.0 one.1 one.2)
            (order_does old.console.rules.view_only s.point one.0.point at.point far.to s.outstanding one.0.outstanding
            sent (updates_in fed.event) at.at_is far.at_is far.wide far.high
            (updates_do old.console.rules.view_only at.point s.outstanding fed.event)
            (outstanding_after viewing s at.point prefix (take fed.used bytes) (seen fed.event) one.0 one.1 at.at_is
            one.3 ∙ updates_out s.outstanding fed.event far.plain) order)
        by (FailedOn a m b fault is now fails used_is keeps loses) =
            Leaves (loses_gone m _ new (ap (λ (p : Presence). is_gone p) (keeps.presence ∙ taken.presence)
            ∙ not_gone old was true here) loses)
        by (NoRoomToTell ran) = absurd (none_some new.console.outcome _ goes ran)

  -- ---- whichever it is

  pub hears_so : (old new : Relay S) (sent : List Sent) (part bytes : List ℕ) (used : ℕ) (viewer : Viewer)
      (shown : Bool) (s : ViewerState) (prefix : List ℕ) → old.console.outcome ≡ None → new.console.outcome ≡ None →
      part ≡ take used bytes → HasViewer old viewer shown → StandsFor (viewing_by old.given.viewer) viewer s prefix →
      IsInOrder old.console.rules.view_only shown s.point s.outstanding sent → HearsServer old bytes used new →
      AfterBytes old sent part new
  hears_so old new sent part bytes used viewer shown s prefix going goes part_is here stood order
      (Ignored (inl over) used_is same) = absurd (over going)
  hears_so old new sent part bytes used viewer shown s prefix going goes part_is here stood order
      (Ignored (inr gone) used_is same) =
      absurd (let one = not_gone old viewer shown here in let two = gone in cc)
  hears_so old new sent part bytes used viewer false s prefix going goes part_is here stood order
      (Comes was is mid taken hears) =
      let same : was ≡ viewer = one_viewer old.coming was viewer is here.coming in
      comes_so old mid new sent part bytes goes taken viewer s prefix here stood order used part_is
      (subst (λ (v : Viewer). HearsComing mid v bytes used new) same hears)
  hears_so old new sent part bytes used viewer true s prefix going goes part_is here stood order
      (Comes was is mid taken hears) = absurd (none_some old.coming was here.coming is)
  hears_so old new sent part bytes used viewer false s prefix going goes part_is here stood order
      (Shows none mid taken hears) = absurd (none_some old.coming viewer none here.coming)
  hears_so old new sent part bytes used viewer true s prefix going goes part_is here stood order
      (Shows none mid taken hears) =
      shows_so old mid new sent part bytes goes taken viewer s prefix here stood order used part_is hears

  -- a server that has gone stays so
  pub hears_gone : (old new : Relay S) (bytes : List ℕ) (used : ℕ) → new.console.outcome ≡ None → HasGone old →
      HearsServer old bytes used new → HasGone new
  hears_gone old new bytes used goes gone (Ignored why used_is same) =
      subst (λ (r : Relay S). HasGone r) (sym same) gone
  hears_gone old new bytes used goes gone (Comes was is mid taken hears) =
      absurd (none_some old.coming was gone.coming is)
  hears_gone old new bytes used goes gone (Shows none mid taken hears) = by hears
    where
      still : HasGone mid
      still = record {
        gone = ap (λ (p : Presence). is_gone p) taken.presence ∙ gone.gone;
        coming = taken.taken;
        waits = taken.waits ∙ gone.waits;
      }

      keeps_gone : (x : Relay S) → KeepsServer mid x → HasGone x
      keeps_gone x keeps = record {
        gone = ap (λ (p : Presence). is_gone p) keeps.presence ∙ still.gone;
        coming = keeps.beside.noted.coming ∙ still.coming;
        waits = keeps.beside.waits ∙ still.waits;
      }

      by : HearsShown mid bytes used new → HasGone new
      by (NoneShown none used_is same) = subst (λ (r : Relay S). HasGone r) (sym same) still
      by (NoViewer a b is no_viewer used_is holds now outcome keeps) = keeps_gone new keeps
      by (Fed_on a m b fed is used_is feeds tells now outcome keeps) = keeps_gone new keeps
      by (FailedOn a m b fault is now fails used_is keeps loses) = left_gone m _ new (keeps_gone m keeps) loses
      by (NoRoomToTell ran) = absurd (none_some new.console.outcome _ goes ran)
