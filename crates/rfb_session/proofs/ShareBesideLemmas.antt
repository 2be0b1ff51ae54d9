-- A share's seat and a viewer of this project's, where another seat is called, or memory is wanting.
use Rattle.std.proofs.Common.{◌≡◌, ℕ, Bool, List, ◌++◌, Option, Some, None, nat_eq, false, refl}
use Rattle.std.proofs.Common.{sym, ap, ◌∙◌, subst}
use Rattle.rfb_pixel.specs.declared.colour.Colour.{Colour}
use Rattle.rfb_picture.specs.Grid.{Grid}
use Rattle.rfb_picture.specs.Places.{has_bit}
use Rattle.rfb_session.specs.declared.share.Share.{Share}
use Rattle.rfb_session.specs.declared.share.event.Composing.{Composing}
use Rattle.rfb_session.specs.declared.share.event.Heard.{Heard}
use Rattle.rfb_session.specs.declared.share.event.ShareFault.{ShareFault}
use Rattle.rfb_session.specs.declared.share.seat.ShareSeat.{ShareSeat}
use Rattle.rfb_session.specs.Share.{seat_in, screen_of}
use Rattle.rfb_session.specs.ShareSeats.{waiting_in, WantsRoom}
use Rattle.rfb_session.specs.ShareSlots.{WantsRoomIn}
use Rattle.rfb_session.specs.ShareSteps.{JoinsAs, Full, Joined, LeavesAs, ReceivesAs, RefusesAs}
use Rattle.rfb_session.specs.ShareSteps.{NoneHeard, SeatEmptied, SeatEnded, WritesAs, ComposesAs, WantsRoomAs}
use Rattle.rfb_session.specs.ShareSteps.{KeepsScreen}
use Rattle.rfb_session.specs.ShareViewers.{StaysWatched}
use Rattle.rfb_session.proofs.SlotLemmas.{not_both, other}
use Rattle.rfb_session.proofs.ShareViewerLemmas.{to_viewer_same, watched_as}

-- ---- a seat that is as it was, over the screen as it was

pub watched_alone : (old new : Share) (k : ℕ) → KeepsScreen old new →
    seat_in new k ≡ seat_in old k → StaysWatched old k new
watched_alone old new k keeps same = λ e viewer to_server on_way n w. record {
  seat = w.seat;
  there = same ∙ w.there;
  screen_is = w.screen_is ∙ sym keeps.screen;
  reached = w.reached;
  carries = w.carries;
}

-- a seat that a viewer joins was empty, so it is another
pub beside_joined : (old new : Share) (joined : Option ℕ) (k : ℕ) → JoinsAs old joined new →
    StaysWatched old k new
beside_joined old new joined k (Full taken none same) = λ e viewer to_server on_way n w. record {
  seat = w.seat;
  there = ap (λ (s : Share). seat_in s k) same ∙ w.there;
  screen_is = w.screen_is ∙ sym (ap (λ (s : Share). screen_of s) same);
  reached = w.reached;
  carries = w.carries;
}
beside_joined old new joined k (Joined j told within free first seat there begins keeps others) =
    λ e viewer to_server on_way n w.
    watched_alone old new k keeps (others k (other k j (λ is. not_both (seat_in old k) w.seat
    w.there (ap (λ (i : ℕ). seat_in old i) is ∙ free)))) e viewer to_server on_way n w

pub beside_left : (old new : Share) (j k : ℕ) (taken : Bool) → nat_eq k j ≡ false →
    LeavesAs old j taken new → StaysWatched old k new
beside_left old new j k taken differ leaves =
    watched_alone old new k leaves.keeps (leaves.others k differ)

pub beside_received : (old new : Share) (j k : ℕ) (bytes : List ℕ) (told : Heard) →
    nat_eq k j ≡ false → has_bit told.ended k ≡ false → ReceivesAs old j bytes told new →
    StaysWatched old k new
beside_received old new j k bytes told differ stays r =
    watched_alone old new k r.keeps ((r.others k differ).1 stays)

pub beside_refused : (old new : Share) (j k : ℕ) (bytes : List ℕ) (fault : ShareFault) →
    nat_eq k j ≡ false → RefusesAs old j bytes fault new → StaysWatched old k new
beside_refused old new j k bytes fault differ (NoneHeard is none all) =
    watched_alone old new k all.screen (all.seats k)
beside_refused old new j k bytes fault differ (SeatEmptied is was there gone keeps others) =
    watched_alone old new k keeps (others k differ)
beside_refused old new j k bytes fault differ
    (SeatEnded of is was now there here ends keeps others) =
    watched_alone old new k keeps (others k differ)

pub beside_written : (old new : Share) (j k count : ℕ) → nat_eq k j ≡ false →
    WritesAs old j count new → StaysWatched old k new
beside_written old new j k count differ writes =
    watched_alone old new k writes.keeps (writes.others k differ)

pub beside_composed : (old new : Share) (j k : ℕ) (told : Composing) → nat_eq k j ≡ false →
    ComposesAs old j told new → StaysWatched old k new
beside_composed old new j k told differ composes =
    watched_alone old new k composes.keeps (composes.others k differ)

pub beside_wanted : (old new : Share) (j k : ℕ) → nat_eq k j ≡ false → WantsRoomAs old j new →
    StaysWatched old k new
beside_wanted old new j k differ wants =
    watched_alone old new k wants.keeps (wants.others k differ)

-- ---- an update for which there was no memory

wanting : (screen : Grid Colour) (a b : Option ShareSeat) (seat : ShareSeat) →
    WantsRoomIn screen a b → a ≡ Some seat →
    (new : ShareSeat) × (b ≡ Some new) × WantsRoom screen seat new
wanting screen None b seat wants there = absurd wants
wanting screen (Some a) None seat wants there = absurd wants
wanting screen (Some a) (Some b) seat wants there =
    (b, refl, subst (λ (s : ShareSeat). WantsRoom screen s b) (one there) wants)
  where
    one : Some a ≡ Some seat → a ≡ seat
    one e = cc

pub watched_wanted : (old new : Share) (k : ℕ) → WantsRoomAs old k new → StaysWatched old k new
watched_wanted old new k wants = λ e viewer to_server on_way n w.
    let one = wanting (screen_of old) (seat_in old k) (seat_in new k) w.seat wants.seat w.there in
    let c = w.carries in
    watched_as e old new k viewer to_server on_way on_way n one.0 w one.1 wants.keeps.screen
    (to_viewer_same e n one.0.session viewer to_server (on_way ++ waiting_in w.seat) (on_way ++ waiting_in one.0)
    (ap (λ (q : List ℕ). on_way ++ q) (one.2.waits ∙ sym one.2.written))
    (record {
      server_has = c.server_has;
      viewer_has = c.viewer_has;
      server_is = one.2.kept.stands e.serving n.screen _ _ c.server_is;
      viewer_is = c.viewer_is;
      flies = c.flies;
    }))
