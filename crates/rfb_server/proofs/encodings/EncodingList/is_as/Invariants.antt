use Rattle.std.proofs.Common.{◌≡◌, take}
use Rattle.rfb_server.proofs.encodings.EncodingList.is_as.Given as goal

-- the encodings so far are the same
abbrev pub invariant-loop-i : goal.invariant-loop-i
invariant-loop-i l = take l.i l.list ≡ take l.i l.others
