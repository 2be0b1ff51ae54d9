-- The characters so far are typed.
use Rattle.std.proofs.Common.{◌≡◌, ◌++◌}
use Rattle.rfb_session.specs.drive.Keyboard.{typed}
use Rattle.rfb_session.proofs.drive.typing.type_text.Given as goal

abbrev pub invariant-loop-character : goal.invariant-loop-character
invariant-loop-character l = l.events.items ≡ l.initial.events.items ++ typed l.yielded
