use Rattle.rfb_server.specs.KnownScreen.{Follows}
use Rattle.rfb_session.specs.ShareScreen.{shown_on}
use Rattle.rfb_session.specs.ShareSeats.{session_at}
use Rattle.rfb_session.proofs.KinLemmas.{alike_shown}
use Rattle.rfb_session.proofs.SlotLemmas.{each_seat}
use Rattle.rfb_session.proofs.share.Share.meet_alike.Goals as goal

pub invariant_of-self : goal.invariant_of-self
invariant_of-self c =
    let s = c.args.self.now in
    record {
      eight = s.eight;
      columns = s.columns;
      rows = s.rows;
      follow = s.follow;
      rest = s.rest;
      alike = alike_shown (shown_on s.screen) c.place-own.result c.alike_in-alike.result s.kin c.meet.new.self s.seats
          c.alike_in-alike.ensures (each_seat (λ seat. Follows (shown_on s.screen) (session_at seat)) s.seats s.follow)
          c.meet.ensures.alike c.meet.ensures.old s.alike;
    }
