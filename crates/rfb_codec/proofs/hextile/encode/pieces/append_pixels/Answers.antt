use Rattle.std.proofs.Common.{arith}
use Rattle.std.proofs.lemmas.Grind.{common_steps}
use Rattle.rfb_codec.proofs.hextile.encode.pieces.append_pixels.Goals as goal

pub put_pixels-requires : goal.put_pixels-requires
put_pixels-requires c = grind (arith, common_steps)

pub append-requires : goal.append-requires
append-requires c = grind (arith, common_steps)
