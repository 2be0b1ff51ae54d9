use Rattle.std.proofs.Common.{◌∙◌, sym, subst, ℕ}
use Rattle.rfb_pixel.specs.declared.colour.Colour.{Colour}
use Rattle.rfb_picture.specs.Grid.{Grid}
use Rattle.rfb_server.specs.KnownScreen.{Follows}
use Rattle.rfb_session.specs.ShareScreen.{shown_on}
use Rattle.rfb_session.specs.ShareSeats.{session_at}
use Rattle.rfb_session.specs.ShareTwins.{IsGivenTo, IsToBeGiven}
use Rattle.rfb_session.proofs.KinLemmas.{alike_given}
use Rattle.rfb_session.proofs.SlotLemmas.{each_seat, all_seats}
use Rattle.rfb_session.proofs.ShareTwinLemmas.{follow_given, rest_given}
use Rattle.rfb_session.proofs.share.Share.give.Goals as goal

pub give_all-given-requires-clause-twins : goal.give_all-given-requires-clause-twins
give_all-given-requires-clause-twins c = λ k e.
    let s = c.args.self.now in
    subst (λ (g : Grid Colour). IsToBeGiven g s.seats c.place-own.result k) (sym c.picture.ensures)
    (subst (λ (n : ℕ). IsToBeGiven (shown_on s.screen) s.seats n k) (sym c.place-own.ensures.value) (c.requires k e))

pub invariant_of-self : goal.invariant_of-self
invariant_of-self c =
    let s = c.args.self.now in
    let new = c.give_all-given.new.slots in
    let given : IsGivenTo (shown_on s.screen) c.place-own.result s.seats new c.give_all-given.result =
    subst (λ (g : Grid Colour). IsGivenTo g c.place-own.result s.seats new c.give_all-given.result) c.picture.ensures
    c.give_all-given.ensures.given in
    record {
      eight = c.give_all-given.ensures.size ∙ s.eight;
      columns = s.columns;
      rows = s.rows;
      follow = all_seats (λ seat. Follows (shown_on s.screen) (session_at seat)) new
          (follow_given (shown_on s.screen) c.place-own.result c.give_all-given.result s.seats new given
          (each_seat (λ seat. Follows (shown_on s.screen) (session_at seat)) s.seats s.follow));
      rest = rest_given (shown_on s.screen) c.place-own.result c.give_all-given.result
          s.stirred c.or-self.result s.seats new
          given c.or-self.ensures s.rest;
      alike = alike_given (shown_on s.screen) c.place-own.result c.give_all-given.result s.kin c.meet.new.self s.seats
          new given c.meet.ensures.alike c.meet.ensures.old s.alike;
    }
