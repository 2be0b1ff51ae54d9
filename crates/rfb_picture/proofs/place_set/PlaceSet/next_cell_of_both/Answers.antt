use Rattle.std.proofs.Common.{arith}
use Rattle.rfb_picture.proofs.place_set.PlaceSet.next_cell_of_both.Goals as goal

pub returns-in_err-next : goal.returns-in_err-next
returns-in_err-next c = grind arith
