use Rattle.std.proofs.Common.{arith}
use Rattle.std.proofs.lemmas.Grind.{common_steps}
use Rattle.rfb_codec.proofs.raw.encode.append_pixels.Goals as goal

pub slice_bounds-put_pixels-end : goal.slice_bounds-put_pixels-end
slice_bounds-put_pixels-end c = grind (arith, common_steps)

pub put_pixels-requires : goal.put_pixels-requires
put_pixels-requires c = grind (arith, common_steps)

pub slice_bounds-bytes-end-2 : goal.slice_bounds-bytes-end-2
slice_bounds-bytes-end-2 c = grind (arith, common_steps)

pub slice_bounds-append_within-end : goal.slice_bounds-append_within-end
slice_bounds-append_within-end c = grind (arith, common_steps)

pub append_within-requires : goal.append_within-requires
append_within-requires c = grind (arith, common_steps)

pub returns-clause-items : goal.returns-clause-items
returns-clause-items c = grind (arith, common_steps)

pub returns-clause-len : goal.returns-clause-len
returns-clause-len c = grind (arith, common_steps)
