-- The life of a seat of a share whose screen is a viewer's picture goes on while that changes.
use Rattle.std.proofs.Common.{◌≡◌, ℕ, List, Option, Some, None, Result, refl, sym, subst, ◌∙◌}
use Rattle.rfb_pixel.specs.declared.colour.Colour.{Colour}
use Rattle.rfb_picture.specs.Grid.{Grid}
use Rattle.rfb_server.specs.KnownScreen.{Follows}
use Rattle.rfb_server.specs.Server.{Serving}
use Rattle.rfb_viewer.specs.declared.call.Call.{Call}
use Rattle.rfb_viewer.specs.declared.fault.AppendFault.{AppendFault}
use Rattle.rfb_viewer.specs.declared.fault.ViewerFault.{ViewerFault}
use Rattle.rfb_viewer.specs.declared.viewer.Viewer.{Viewer}
use Rattle.rfb_session.specs.declared.share.Share.{Share}
use Rattle.rfb_session.specs.declared.share.seat.ShareSeat.{ShareSeat}
use Rattle.rfb_session.specs.Share.{seat_in, screen_of}
use Rattle.rfb_session.specs.ShareLives.{Lives, LivesAt}
use Rattle.rfb_session.specs.ShareMirrors.{FailsOn, MakesOn}
use Rattle.rfb_session.specs.ShareSeats.{session_at, KeepsShareSeat}
use Rattle.rfb_session.specs.Slots.{OnSlot}
use Rattle.rfb_session.proofs.HopSeatLemmas.{follows, keeps_copies}
use Rattle.rfb_session.proofs.SlotLemmas.{became}
use Rattle.rfb_session.proofs.ShareLifeLemmas.{lives_drawn}

pub told_lives : (serving : Serving) (old new : Share) (k : ℕ) (heard taken : List ℕ) →
    OnSlot (λ a b. KeepsShareSeat a b) (seat_in old k) (seat_in new k) →
    LivesAt serving old k heard taken → LivesAt serving new k heard taken
told_lives serving old new k heard taken told was =
    let one = became (λ a b. KeepsShareSeat a b) (seat_in old k) (seat_in new k) was.seat told was.there in
    record {
      seat = one.0;
      there = one.1;
      lives = lives_drawn serving (screen_of old) (screen_of new) was.seat one.0 heard taken one.2.session one.2.waits
          was.lives;
    }

pub made_lives : (serving : Serving) (old new : Share) (was : Viewer) (call : Call) (before : List ℕ)
    (result : Result (Unit {0}) AppendFault) (after : List ℕ) (k : ℕ) (heard taken : List ℕ) →
    MakesOn old was call before result after new → LivesAt serving old k heard taken →
    LivesAt serving new k heard taken
made_lives serving old new was call before result after k heard taken makes lives = record {
  seat = lives.seat;
  there = makes.seats k ∙ lives.there;
  lives = subst (λ (g : Grid Colour). Lives serving g lives.seat heard taken) (sym makes.screen) lives.lives;
}

pub fault_keeps : (old new : Share) (bytes : List ℕ) (fault : ViewerFault) (k : ℕ) →
    FailsOn old bytes fault new →
    OnSlot (λ a b. KeepsShareSeat a b × Follows (screen_of new) (session_at b)) (seat_in old k) (seat_in new k)
fault_keeps old new bytes fault k fails =
    by (seat_in old k) (seat_in new k) refl (keeps_copies old fails.mid new k fails.relays)
  where
    by : (a b : Option ShareSeat) → seat_in new k ≡ b → OnSlot (λ x y. KeepsShareSeat x y) a b →
        OnSlot (λ x y. KeepsShareSeat x y × Follows (screen_of new) (session_at y)) a b
    by None None is keeps = tt
    by None (Some b) is keeps = absurd keeps
    by (Some a) None is keeps = absurd keeps
    by (Some a) (Some b) is keeps = (keeps, follows new k b is)
