-- What happens at the seats' side of a relay leaves the viewer of its server as it was.
use Rattle.std.proofs.Common.{◌≡◌, ◌≢◌, ◌∙◌, ℕ, List, Option, Some, None, refl, ap, subst}
use Rattle.rfb_session.specs.declared.console.Console.{Console}
use Rattle.rfb_session.specs.declared.console.Outcome.{Outcome}
use Rattle.rfb_session.specs.declared.console.desk.Desk.{Desk}
use Rattle.rfb_session.specs.declared.share.Share.{Share}
use Rattle.rfb_session.specs.declared.share.event.SeatEvent.{SeatEvent}
use Rattle.rfb_session.specs.declared.share.event.ShareFault.{ShareFault}
use Rattle.rfb_session.specs.doors.Events.{Ended, Failed, Wrote}
use Rattle.rfb_session.specs.Share.{viewer_of}
use Rattle.rfb_session.specs.ShareSteps.{JoinsAs, Full, Joined, RefusesAs, NoneHeard, SeatEmptied, SeatEnded}
use Rattle.rfb_session.specs.console.Viewers.{HearsAt, Took, Refused, Admits, MakesRoom}
use Rattle.rfb_session.specs.console.Console.{OnDesk, NoDesk, Over, Done, RanOut, HearsBytes, TurnsDesk, Steps}
use Rattle.rfb_session.specs.console.Console.{OpensAs, Declines, NotYet, IsFull, WantsMemory, ByDoor, DoesOnDesk}
use Rattle.rfb_session.specs.console.Console.{KeepsDesk}
use Rattle.rfb_session.proofs.ConsoleMoveLemmas.{by_door, none_some}

-- there is a desk as before, of the picture of the same viewer
pub record KeepsSeen (a : Desk) (new : Option Desk) : Type 0 where
  pub desk : Desk
  pub is_there : new ≡ Some desk
  pub viewer : viewer_of desk.share ≡ viewer_of a.share

pub one_desk : (o : Option Desk) (a b : Desk) → o ≡ Some a → o ≡ Some b → a ≡ b
one_desk o a b one two = cc

pub same_seen : (a : Desk) (old new : Option Desk) → old ≡ Some a → new ≡ old → KeepsSeen a new
same_seen a old new there same = record { desk = a; is_there = same ∙ there; viewer = refl }

done_seen : (does : Desk → Desk → Type 0) (a : Desk) (old new : Option Desk) (ended ends : Option Outcome) →
    ended ≡ None → ends ≡ None → old ≡ Some a → OnDesk does old ended new ends →
    ((b : Desk) → does a b → viewer_of b.share ≡ viewer_of a.share) → KeepsSeen a new
done_seen does a old new ended ends going goes there (NoDesk none is) keeps = absurd (none_some old a none there)
done_seen does a old new ended ends going goes there (Over over same) keeps = absurd (over going)
done_seen does a old new ended ends going goes there (Done was b was_is is done) keeps =
    record {
      desk = b;
      is_there = is;
      viewer = keeps b (subst (λ (d : Desk). does d b) (one_desk old was a was_is there) done);
    }
done_seen does a old new ended ends going goes there (RanOut ran) keeps = absurd (none_some ends _ goes ran)

-- ---- bytes of a viewer

refused_seen : (old : Share) (k : ℕ) (bytes : List ℕ) (fault : ShareFault) (new : Share) →
    RefusesAs old k bytes fault new → viewer_of new ≡ viewer_of old
refused_seen old k bytes fault new (NoneHeard is none keeps) = keeps.screen.viewer
refused_seen old k bytes fault new (SeatEmptied is was there gone keeps others) = keeps.viewer
refused_seen old k bytes fault new (SeatEnded of is was now there here ends keeps others) = keeps.viewer

heard_seen : (a : Desk) (k : ℕ) (bytes : List ℕ) (used ended : ℕ) (event : Option SeatEvent) (b : Desk) →
    HearsAt a k bytes used ended event b → viewer_of b.share ≡ viewer_of a.share
heard_seen a k bytes used ended event b (Took heard is gone event_is hears progress told guests lines rules) =
    hears.keeps.viewer
heard_seen a k bytes used ended event b (Refused fault is gone quiet refuses tells progress guests rules) =
    refused_seen a.share k bytes fault b.share refuses

-- ---- who comes

joined_seen : (old : Share) (joined : Option ℕ) (new : Share) → JoinsAs old joined new → viewer_of new ≡ viewer_of old
joined_seen old joined new (Full full none same) = ap (λ (s : Share). viewer_of s) same
joined_seen old joined new (Joined k is low empty first seat there fresh keeps others) = keeps.viewer

room_seen : (left : Option ℕ) (a b : Desk) → MakesRoom a left b → viewer_of b.share ≡ viewer_of a.share
room_seen None a b room = ap (λ (d : Desk). viewer_of d.share) (room.none refl)
room_seen (Some k) a b room = (room.one k refl).2.1.share.keeps.viewer

admitted_seen : (a : Desk) (from : List ℕ) (k : ℕ) (left : Option ℕ) (b : Desk) → Admits a from (Some k) left b →
    viewer_of b.share ≡ viewer_of a.share
admitted_seen a from k left b admits =
    joined_seen admits.mid.share (Some k) b.share admits.admits.joins ∙ room_seen left a admits.mid admits.room

turned_away_seen : (a : Desk) (from : List ℕ) (left : Option ℕ) (b : Desk) → Admits a from None left b →
    viewer_of b.share ≡ viewer_of a.share
turned_away_seen a from left b admits =
    ap (λ (s : Share). viewer_of s) admits.admits.share ∙ room_seen left a admits.mid admits.room

module _ {S : Type 0} where
  pub hears_seen : (old : Console S) (a : Desk) (k : ℕ) (bytes : List ℕ) (used : ℕ) (event : Option SeatEvent)
      (new : Console S) → old.outcome ≡ None → new.outcome ≡ None → old.desk ≡ Some a →
      HearsBytes old k bytes used event new → KeepsSeen a new.desk
  hears_seen old a k bytes used event new going goes there hears =
      done_seen _ a old.desk new.desk old.outcome new.outcome going goes there hears.desk
      (λ b done. heard_seen a k bytes used done.0 event b done.1)

  pub turns_seen : (old : Console S) (a : Desk) (now : ℕ) (new : Console S) → old.outcome ≡ None →
      new.outcome ≡ None → old.desk ≡ Some a → TurnsDesk old now new → KeepsSeen a new.desk
  turns_seen old a now new going goes there turns =
      done_seen _ a old.desk new.desk old.outcome new.outcome going goes there turns.desk
      (λ b done. done.2.screen.viewer)

  pub opens_seen : (old : Console S) (a : Desk) (door : ℕ) (from : List ℕ) (new : Console S) →
      old.desk ≡ Some a → OpensAs old door from new → KeepsSeen a new.desk
  opens_seen old a door from new there opens =
      record {
        desk = opens.now;
        is_there = opens.is_there;
        viewer = admitted_seen opens.was from opens.seat opens.left opens.now opens.admits
            ∙ ap (λ (d : Desk). viewer_of d.share) (one_desk old.desk opens.was a opens.was_there there);
      }

  pub declines_seen : (old : Console S) (a : Desk) (from : List ℕ) (new : Console S) → new.outcome ≡ None →
      old.desk ≡ Some a → Declines old from new → KeepsSeen a new.desk
  declines_seen old a from new goes there (NotYet keeps) = same_seen a old.desk new.desk there keeps.desk
  declines_seen old a from new goes there (IsFull was now was_is is left admits owner) =
      record {
        desk = now;
        is_there = is;
        viewer = turned_away_seen was from left now admits
            ∙ ap (λ (d : Desk). viewer_of d.share) (one_desk old.desk was a was_is there);
      }
  declines_seen old a from new goes there (WantsMemory ran) = absurd (none_some new.outcome _ goes ran)

  -- ---- what ends, fails or leaves at a door that is not the server's

  -- a viewer of a seat's goes, or nothing happens at the desk
  goes_seen : {owner lines : Type 0} {does : ℕ → Desk → Desk → Type 0} (old : Console S) (a : Desk) (door : ℕ)
      (new : Console S) → door ≢ 0 → old.outcome ≡ None → new.outcome ≡ None → old.desk ≡ Some a →
      ByDoor door owner (λ k. DoesOnDesk (does k) old new) lines (KeepsDesk old new) →
      (lines → KeepsDesk old new) →
      ((k : ℕ) (b : Desk) → does k a b → viewer_of b.share ≡ viewer_of a.share) → KeepsSeen a new.desk
  goes_seen old a door new aside going goes there does at_lines leaves =
      by_door does (λ is at_owner. absurd (aside is))
      (λ k one. done_seen _ a old.desk new.desk old.outcome new.outcome going goes there one.desk (leaves k))
      (λ keeps. same_seen a old.desk new.desk there (at_lines keeps).desk)
      (λ keeps. same_seen a old.desk new.desk there keeps.desk)

  pub ended_seen : (old : Console S) (a : Desk) (door : ℕ) (new : Console S) → door ≢ 0 → old.outcome ≡ None →
      new.outcome ≡ None → old.desk ≡ Some a → Steps old (Ended door) new → KeepsSeen a new.desk
  ended_seen old a door new aside going goes there steps =
      goes_seen old a door new aside going goes there steps.does (λ keeps. keeps) (λ k b d. d.1.share.keeps.viewer)

  pub failed_seen : (old : Console S) (a : Desk) (door : ℕ) (new : Console S) → door ≢ 0 → old.outcome ≡ None →
      new.outcome ≡ None → old.desk ≡ Some a → Steps old (Failed door) new → KeepsSeen a new.desk
  failed_seen old a door new aside going goes there steps =
      goes_seen old a door new aside going goes there steps.does (λ fails. fails.0) (λ k b d. d.1.share.keeps.viewer)

  pub wrote_seen : (old : Console S) (a : Desk) (door : ℕ) (bytes : List ℕ) (new : Console S) → door ≢ 0 →
      old.desk ≡ Some a → Steps old (Wrote door bytes) new → KeepsSeen a new.desk
  wrote_seen old a door bytes new aside there steps =
      by_door steps.does (λ is keeps. absurd (aside is))
      (λ k writes. done_seen _ a old.desk new.desk None None refl refl there writes.desk
      (λ b done. done.share.keeps.viewer))
      (λ writes. done_seen _ a old.desk new.desk None None refl refl there writes.desk
      (λ b done. ap (λ (s : Share). viewer_of s) done.share))
      (λ keeps. same_seen a old.desk new.desk there keeps.desk)
