use Rattle.rfb_codec.proofs.UpdateWaitLaws.{past_head, past_rectangle}
use Rattle.rfb_codec.proofs.law.updates.rectangles_are_counted_down.Goals as goal

pub returns-clause-head : goal.returns-clause-head
returns-clause-head c = λ p rectangles. past_head p rectangles

pub returns-clause-rectangle : goal.returns-clause-rectangle
returns-clause-rectangle c = λ p head body. past_rectangle p head body
