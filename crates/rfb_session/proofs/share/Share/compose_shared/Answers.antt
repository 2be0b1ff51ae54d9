use Rattle.std.proofs.Common.{sym, subst, ℕ}
use Rattle.rfb_pixel.specs.declared.colour.Colour.{Colour}
use Rattle.rfb_picture.specs.Grid.{Grid}
use Rattle.rfb_server.specs.KnownScreen.{Follows}
use Rattle.rfb_session.specs.Share.{screen_of, seat_in}
use Rattle.rfb_session.specs.ShareScreen.{shown_on}
use Rattle.rfb_session.specs.ShareSeats.{session_at}
use Rattle.rfb_session.specs.ShareSlots.{ComposesIn}
use Rattle.rfb_session.specs.ShareTwins.{IsToBeGiven, IsTwinIn}
use Rattle.rfb_session.specs.declared.share.event.Composing.{Composing}
use Rattle.rfb_session.proofs.SlotLemmas.{each_seat}
use Rattle.rfb_session.proofs.ShareTwinLemmas.{to_give}
use Rattle.rfb_session.proofs.share.Share.compose_shared.Goals as goal

pub twins_in-twins-requires : goal.twins_in-twins-requires
twins_in-twins-requires c = record { own = c.place.ensures.below; alike = c.args.self.now.alike }

pub give-given-requires : goal.give-given-requires
give-given-requires c = λ k e.
    let s = c.args.self.now in
    let composes = c.in_ok-told.ensures.composes in
    let twin : IsTwinIn s.seats c.args.seat k =
    subst (λ (n : ℕ). IsTwinIn s.seats n k) c.place.ensures.value (c.twins_in-twins.ensures.twins k e) in
    subst (λ (g : Grid Colour). IsToBeGiven g c.compose.new.self.seats c.args.seat k) (sym composes.keeps.screen)
    (to_give (screen_of s) s.seats c.compose.new.self.seats c.args.seat k twin
    (each_seat (λ seat. Follows (shown_on s.screen) (session_at seat)) s.seats s.follow)
    (subst (λ (told : Composing). ComposesIn (screen_of s) told (seat_in s c.args.seat)
    (seat_in c.compose.new.self c.args.seat)) c.in-Composed.is composes.seat)
    (composes.others k))
