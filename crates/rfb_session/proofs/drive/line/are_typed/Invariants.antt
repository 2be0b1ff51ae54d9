-- The characters so far have keys.
use Rattle.std.proofs.Common.{◌≡◌, drop, length}
use Rattle.std.specs.Str.{chars}
use Rattle.rfb_session.specs.drive.DriveLines.{are_typed}
use Rattle.rfb_session.proofs.drive.line.are_typed.Given as goal

abbrev pub invariant-loop-character : goal.invariant-loop-character
invariant-loop-character l =
    are_typed (chars l.text) ≡ are_typed (drop (length l.yielded) (chars l.text))
