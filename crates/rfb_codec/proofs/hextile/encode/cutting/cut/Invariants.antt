use Rattle.std.proofs.Common.{◌≡◌, ℕ, ◌+◌, ◌*◌, ◌<◌, get_or}
use Rattle.arrayvec.specs.ArrayVec.{array_vec_len}
use Rattle.rfb_codec.proofs.hextile.encode.cutting.cut.Given as goal

abbrev pub invariant-loop-row : goal.invariant-loop-row
invariant-loop-row l = record {
  size : array_vec_len l.pixels ≡ l.row * l.tile.w;
  value : (x y : ℕ) → x < l.tile.w → y < l.row → get_or l.pixels.items (y * l.tile.w + x) 0
      ≡ get_or l.block.places ((l.tile.y + y) * l.block.width + (l.tile.x + x)) 0;
}
