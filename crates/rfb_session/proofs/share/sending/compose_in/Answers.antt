use Rattle.std.proofs.Common.{sym, subst}
use Rattle.rfb_pixel.specs.declared.colour.Colour.{Colour}
use Rattle.rfb_picture.specs.Grid.{Grid}
use Rattle.rfb_server.specs.KnownScreen.{Follows}
use Rattle.rfb_session.specs.ShareSeats.{session_at}
use Rattle.rfb_session.proofs.share.sending.compose_in.Goals as goal

pub compose-requires : goal.compose-requires
compose-requires c = record {
  follows = subst (λ (g : Grid Colour). Follows g (session_at c.in-Some.seat)) (sym c.picture.ensures)
      (c.requires.follows c.in-Some.seat c.in-Some.is);
}
