-- The lines so far: each leaves less to run.
use Rattle.std.proofs.Common.{length}
use Rattle.rfb_session.specs.drive.driver.LineRun.{RunsLines}
use Rattle.rfb_session.proofs.DriverLineLemmas.{IsFewer}
use Rattle.rfb_session.proofs.drive.driver.Driver.run_lines.Given as goal

abbrev pub invariant-loop-line : goal.invariant-loop-line
invariant-loop-line g l = record {
  runs : RunsLines g.R.Rig.steps l.now l.fn.self l.self;
  fewer : IsFewer l.self l._line (length l.fn.self.input.waiting);
}
