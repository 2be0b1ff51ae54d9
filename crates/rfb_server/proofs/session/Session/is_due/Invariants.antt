use Rattle.std.proofs.Common.{◌≡◌, ◌<◌, ◌≤◌, ◌*◌, ◌-◌, ℕ, false}
use Rattle.std.specs.Int.{div_ceil}
use Rattle.rfb_server.specs.Cells.{cell_of}
use Rattle.rfb_server.specs.update.Needs.{needs_of}
use Rattle.rfb_server.proofs.session.Session.is_due.Given as goal

-- no place of the cells so far needs sending
abbrev pub invariant-loop-index : goal.invariant-loop-index
invariant-loop-index l = record {
  quiet : (x y : ℕ) → x < l.self.known.width → y < l.self.known.height →
      cell_of (div_ceil l.self.known.width 64) x y < l.next → needs_of l.screen l.self x y ≡ false;
  within : l.next ≤ div_ceil l.self.known.width 64 * div_ceil l.self.known.height 64;
  few : l.next ≤ 4096;
}

abbrev pub decreases-loop-index : goal.decreases-loop-index
decreases-loop-index l = div_ceil l.self.known.width 64 * div_ceil l.self.known.height 64 - l.next
