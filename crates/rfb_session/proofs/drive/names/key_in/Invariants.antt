-- What is left of the table has the same key under this name.
use Rattle.std.proofs.Common.{◌≡◌, length}
use Rattle.rfb_session.specs.drive.KeyNames.{looked_up}
use Rattle.rfb_session.specs.drive.Tables.{entries}
use Rattle.rfb_session.proofs.drive.names.key_in.Given as goal

abbrev pub invariant-loop-table : goal.invariant-loop-table
invariant-loop-table l =
    looked_up (entries l.table) l.name ≡ looked_up (entries l.initial.table) l.name

abbrev pub decreases-loop-table : goal.decreases-loop-table
decreases-loop-table l = length l.table
