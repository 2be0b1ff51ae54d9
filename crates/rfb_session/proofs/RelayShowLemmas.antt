-- What a relay does once the first update of a server that was called is whole.
use Rattle.std.proofs.Common.{◌≡◌, ◌≢◌, ◌∙◌, ℕ, List, Some, None, sym, ap, subst, inl, inr}
use Rattle.rfb_hello.specs.declared.version.Version.TheVariants.{V38}
use Rattle.rfb_server.specs.Model.{serving_with}
use Rattle.rfb_viewer.specs.declared.viewer.Viewer.{Viewer}
use Rattle.rfb_session.specs.declared.console.Outcome.TheVariants.{NoMemory}
use Rattle.rfb_session.specs.declared.console.desk.Desk.{Desk}
use Rattle.rfb_session.specs.declared.relay.Relay.{Relay}
use Rattle.rfb_session.specs.declared.share.Share.{Share}
use Rattle.rfb_session.specs.Share.{IsEmptyShare, screen_of, serving_in, viewer_of}
use Rattle.rfb_session.specs.relay.Desk.{IsShareOf, TellsServer, up_of}
use Rattle.rfb_session.specs.declared.console.Console.{Console}
use Rattle.rfb_session.specs.relay.Doors.{KeepsBeside, KeepsHere, KeepsServer}
use Rattle.rfb_session.specs.relay.Server.{NoPicture, NoRoomForLines, NoRoomToShow, Opened, OpenedAgain, OpenedAnew}
use Rattle.rfb_session.specs.relay.Server.{OpenedOther, Opens, OpensAnew, TellsUp}
use Rattle.rfb_session.proofs.RelayStepLemmas.{beside_then, side_same, side_then}

-- a share that is made with a name is one of the viewer's by what that name is
pub share_named : (viewer : Viewer) (name named : List ℕ) (text_limit : ℕ) (share : Share) →
    viewer_of share ≡ Some viewer → IsEmptyShare share →
    serving_in share ≡ serving_with V38 (screen_of share).width (screen_of share).height name text_limit →
    name ≡ named → IsShareOf viewer named text_limit share
share_named viewer name named text_limit share is empty made same = record {
  viewer_is = is;
  empty = empty;
  made = made ∙ ap (λ (n : List ℕ).
      serving_with V38 (screen_of share).width (screen_of share).height n text_limit) same;
}

module _ {S : Type 0} where
  -- what follows of a desk that was told that its server is there, and of no memory for that, follows
  pub ups_so : {X : Type 0} (old mid : Relay S) (m : Desk) (new : Relay S) → mid.console.desk ≡ Some m →
      mid.console.outcome ≡ old.console.outcome → KeepsBeside old mid → TellsUp mid new →
      ((b : Desk) → new.console.desk ≡ Some b → TellsServer m (up_of m.share old.server_name.items) b →
      new.console.outcome ≡ old.console.outcome → KeepsBeside old new → X) →
      (new.console.outcome ≡ Some NoMemory → X) → X
  ups_so old mid m new there outcome beside ups told ran = elim (ups.told m there) [
    | inl one ↦ told one.0 one.1 (rw (sym beside.noted.name) one.2) (one.3 ∙ outcome)
        (beside_then old mid new beside ups.keeps)
    | inr none ↦ ran none
  ]

  -- nothing of it has changed
  pub still_here : (old mid : Relay S) → mid.console ≡ old.console → KeepsServer old mid → KeepsHere old mid
  still_here old mid same server = record {
    desk = ap (λ (c : Console S). c.desk) same;
    outcome = ap (λ (c : Console S). c.outcome) same;
    side = side_same old.console mid.console (ap (λ (c : Console S). c.reader) same)
        (ap (λ (c : Console S). c.has_input_ended) same) (ap (λ (c : Console S). c.rooms) same)
        (ap (λ (c : Console S). c.rules) same) (ap (λ (c : Console S). c.name) same)
        (λ was. subst (λ (c : Console S). c.outcome ≢ None) (sym same) was);
    server = server;
  }

  here_then : (old mid new : Relay S) → KeepsHere old mid → KeepsHere mid new → KeepsHere old new
  here_then old mid new first second = record {
    desk = second.desk ∙ first.desk;
    outcome = second.outcome ∙ first.outcome;
    side = side_then old.console mid.console new.console first.side second.side;
    server = record {
      presence = second.server.presence ∙ first.server.presence;
      beside = beside_then old mid new first.server.beside second.server.beside;
    };
  }

  beside_here : (old mid new : Relay S) → KeepsHere old mid → KeepsBeside mid new → KeepsBeside old new
  beside_here old mid new here beside = beside_then old mid new here.server.beside beside

  -- the same from where nothing had changed yet
  pub anew_kept : (old mid : Relay S) (share : Share) (new : Relay S) → KeepsHere old mid →
      OpensAnew mid share new →
      OpensAnew old share new
  anew_kept old mid share new here (OpenedAnew a m b is begins tells there outcome presence beside) =
      OpenedAnew a m b (sym here.desk ∙ is) begins (rw (← here.server.beside.noted.name) tells) there
      (outcome ∙ here.outcome) presence (beside_here old mid new here beside)
  anew_kept old mid share new here (NoRoomForLines ran) = NoRoomForLines ran

  pub opens_kept : (old mid : Relay S) (now : Viewer) (new : Relay S) → KeepsHere old mid →
      mid.given ≡ old.given →
      Opens mid now new → Opens old now new
  opens_kept old mid now new here given (Opened desk none there share over presence beside) =
      Opened desk (sym here.desk ∙ none) there
      (rw (← given, ← here.server.beside.noted.name, ← here.side.stays.rules) share)
      (rw (← here.server.beside.noted.name, ← here.side.stays.rules) over) presence
      (beside_here old mid new here beside)
  opens_kept old mid now new here given (OpenedAgain a m b is shows tells there outcome presence beside) =
      OpenedAgain a m b (sym here.desk ∙ is) shows (rw (← here.server.beside.noted.name) tells) there
      (outcome ∙ here.outcome) presence (beside_here old mid new here beside)
  opens_kept old mid now new here given (OpenedOther share is opens) =
      OpenedOther share (rw (← given, ← here.server.beside.noted.name, ← here.side.stays.rules) is)
      (anew_kept old mid share new here opens)
  opens_kept old mid now new here given (NoPicture how gone kept loses) =
      NoPicture how gone (here_then old mid gone here kept) loses
  opens_kept old mid now new here given (NoRoomToShow ran) = NoRoomToShow ran
