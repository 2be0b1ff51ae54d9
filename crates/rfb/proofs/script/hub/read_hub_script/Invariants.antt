-- The lines so far are empty, or a hub's script.
use Rattle.std.proofs.Common.{◌≡◌, length}
use Rattle.rfb.proofs.HubLineLemmas.{ReadHub}
use Rattle.rfb.specs.HubScript.{line_after}
use Rattle.rfb_session.specs.language.Words.{texts}
use Rattle.rfb.proofs.script.hub.read_hub_script.Given as goal

abbrev pub invariant-loop-line : goal.invariant-loop-line
invariant-loop-line l = record {
  count : l.number ≡ length l.yielded;
  after : l.after ≡ line_after (texts l.yielded);
  so_far : ReadHub (texts l.yielded) l.screen l.steps.items l.shown;
}
