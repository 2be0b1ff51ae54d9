use Rattle.std.proofs.Common.{◌≡◌, ◌+◌, ◌*◌, ◌++◌, take}
use Rattle.std.specs.List.{flat_map}
use Rattle.arrayvec.specs.ArrayVec.{array_vec_len}
use Rattle.rfb_codec.specs.encoder.TileSpelling.{own_place}
use Rattle.rfb_codec.proofs.hextile.encode.pieces.append_places.Given as goal

abbrev pub invariant-loop-sub : goal.invariant-loop-sub
invariant-loop-sub l = record {
  items : l.tile.items ≡ l.fn.tile.items ++ flat_map own_place (take l.sub-index l.subs.items);
  len : array_vec_len l.tile ≡ array_vec_len l.fn.tile + l.sub-index * 2;
}
