use Rattle.rfb_codec.proofs.rre.paint.take_whole.Goals as goal

pub returns-then-eq : goal.returns-then-eq
returns-then-eq c = rw c.by_format-announced.ensures at c.take_each.ensures
