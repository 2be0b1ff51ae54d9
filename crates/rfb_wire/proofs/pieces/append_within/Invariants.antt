use Rattle.std.proofs.Common.{◌≡◌, ◌+◌, ◌++◌, take, vec_len}
use Rattle.std.specs.Vec.{vec_capacity}
use Rattle.rfb_wire.proofs.pieces.append_within.Given as goal

abbrev pub invariant-loop-byte : goal.invariant-loop-byte
invariant-loop-byte l = record {
  items : l.taken.items ≡ l.fn.out.items ++ take l.byte-index l.bytes;
  len : vec_len l.taken ≡ vec_len l.fn.out + l.byte-index;
  room : vec_capacity l.taken ≡ vec_capacity l.fn.out;
}
