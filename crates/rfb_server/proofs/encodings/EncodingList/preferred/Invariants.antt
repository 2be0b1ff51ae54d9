use Rattle.std.proofs.Common.{◌≡◌, drop}
use Rattle.rfb_server.specs.Encodings.{preferred}
use Rattle.rfb_server.proofs.encodings.EncodingList.preferred.Given as goal

-- those so far bring no pixels
abbrev pub invariant-loop-i : goal.invariant-loop-i
invariant-loop-i l = preferred l.list ≡ preferred (drop l.i l.list)
