-- This number of bytes came, and none of them is a newline.
use Rattle.std.proofs.Common.{◌≡◌, take}
use Rattle.rfb_session.specs.owner.Lines.{IsOneLine}
use Rattle.rfb_session.proofs.owner.reader.length_of_line.Given as goal

abbrev pub invariant-loop-byte : goal.invariant-loop-byte
invariant-loop-byte l = record {
  count : l.length ≡ l.byte-index;
  plain : IsOneLine (take l.byte-index l.bytes);
}
