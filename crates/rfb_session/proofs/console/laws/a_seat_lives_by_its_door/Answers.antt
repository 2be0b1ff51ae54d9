use Rattle.rfb_session.proofs.SeatHistoryLemmas.{comes_fresh, lives_on}
use Rattle.rfb_session.proofs.console.laws.a_seat_lives_by_its_door.Goals as goal

pub returns : goal.returns
returns g c = record {
  comes = λ old new k from opens. comes_fresh old new k from opens;
  goes_on = λ old new happenings part k serving heard taken within read goes kept lasts lives.
      (lives_on serving k within old new happenings part read goes kept lasts).lives heard taken lives;
}
