-- So many clicks so far.
use Rattle.std.proofs.Common.{◌≡◌, ◌++◌}
use Rattle.rfb_session.specs.drive.driver.Acts.{clicks, spelled}
use Rattle.rfb_session.proofs.drive.driver.sending.spell_clicks.Given as goal

abbrev pub invariant-loop-time : goal.invariant-loop-time
invariant-loop-time l = l.out.items ≡ l.initial.out.items ++ spelled (clicks l.buttons l.at l._time)
