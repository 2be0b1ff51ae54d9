use Rattle.std.proofs.Common.{arith}
use Rattle.rfb_codec.proofs.rre.encode.append_pixel.Goals as goal

pub slice_bounds-field-end-2 : goal.slice_bounds-field-end-2
slice_bounds-field-end-2 c = grind arith

pub slice_bounds-append_within-end : goal.slice_bounds-append_within-end
slice_bounds-append_within-end c = grind arith

pub append_within-requires : goal.append_within-requires
append_within-requires c = grind arith

pub returns-clause-items : goal.returns-clause-items
returns-clause-items c = grind arith

pub returns-clause-len : goal.returns-clause-len
returns-clause-len c = grind arith
