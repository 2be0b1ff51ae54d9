use Rattle.std.proofs.Common.{◌≡◌, false, take}
use Rattle.rfb_server.specs.Encodings.{is_listed}
use Rattle.rfb_server.proofs.encodings.EncodingList.has.Given as goal

abbrev pub invariant-loop-i : goal.invariant-loop-i
invariant-loop-i l = is_listed l.encoding (take l.i l.list) ≡ false
