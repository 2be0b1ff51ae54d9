-- What is left of the table has the same keyword under this name.
use Rattle.std.proofs.Common.{◌≡◌, length}
use Rattle.rfb_session.specs.drive.Keywords.{looked_up}
use Rattle.rfb_session.specs.drive.Tables.{entries as names}
use Rattle.rfb_session.proofs.drive.keyword.keyword_in.Given as goal

abbrev pub invariant-loop-table : goal.invariant-loop-table
invariant-loop-table l = looked_up (names l.table) l.word ≡ looked_up (names l.initial.table) l.word

abbrev pub decreases-loop-table : goal.decreases-loop-table
decreases-loop-table l = length l.table
