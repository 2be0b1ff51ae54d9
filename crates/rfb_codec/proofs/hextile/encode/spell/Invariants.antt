use Rattle.std.proofs.Common.{◌≡◌, ◌<◌, ◌++◌, ℕ, List, vec_len}
use Rattle.std.specs.Vec.{vec_capacity}
use Rattle.rfb_codec.proofs.SpelledTilesLemmas.{SpelledUpTo}
use Rattle.rfb_codec.proofs.hextile.encode.spell.Given as goal

abbrev pub invariant-loop-n : goal.invariant-loop-n
invariant-loop-n l = record {
  spelled : (bytes : List ℕ) × (l.out.items ≡ l.fn.out.items ++ bytes)
      × SpelledUpTo l.format l.block l.n l.carried bytes;
  shorter : vec_len l.out < l.end;
  room : vec_capacity l.out ≡ vec_capacity l.fn.out;
}
