use Rattle.rfb_session.proofs.ShareLawLemmas.{joined_lives, drawn_lives, received_lives}
use Rattle.rfb_session.proofs.ShareLawLemmas.{refused_lives, refused_emptied, written_lives, composed_lives}
use Rattle.rfb_session.proofs.ShareLawLemmas.{wanted_lives}
use Rattle.rfb_session.proofs.law.seats.a_seat_lives_as_its_calls_say.Goals as goal

pub returns : goal.returns
returns c = record {
  joined = λ old new joined k joins is. joined_lives old new joined k joins is;
  drawn = λ serving old new drawing k heard taken draws lives.
      drawn_lives serving old new drawing k heard taken draws lives;
  received = λ serving old new k bytes told heard taken receives lives.
      received_lives serving old new k bytes told heard taken receives lives;
  refused = λ serving old new k bytes fault heard taken other refuses lives.
      refused_lives serving old new k bytes fault heard taken other refuses lives;
  emptied = λ old new k bytes refuses. refused_emptied old new k bytes refuses;
  written = λ serving old new k count heard taken writes lives.
      written_lives serving old new k count heard taken writes lives;
  composed = λ serving old new k told heard taken composes lives.
      composed_lives serving old new k told heard taken composes lives;
  wanted = λ serving old new k heard taken wants lives.
      wanted_lives serving old new k heard taken wants lives;
}
