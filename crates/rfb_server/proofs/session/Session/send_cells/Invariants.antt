use Rattle.std.proofs.Common.{◌≡◌, ◌≤◌, ◌*◌, ◌+◌, ◌-◌, ℕ, vec_len}
use Rattle.std.specs.Int.{div_ceil}
use Rattle.std.specs.Vec.{vec_capacity}
use Rattle.rfb_server.specs.update.Needs.{IsQuiet}
use Rattle.rfb_server.specs.KnownScreen.{Follows}
use Rattle.rfb_server.specs.update.Sends.{IsKept, AppendsCells, AreCosts, may_need}
use Rattle.rfb_server.specs.Room.{sum_below}
use Rattle.rfb_server.proofs.session.Session.send_cells.Given as goal

-- the cells so far are taken care of, and there is room for the others
abbrev pub invariant-loop-index : goal.invariant-loop-index
invariant-loop-index l = record {
  kept : IsKept l.initial.self l.self;
  about : Follows l.screen l.self;
  quiet : IsQuiet l.screen l.self l.quiet;
  sent : AppendsCells (div_ceil l.initial.self.known.width 64) l.next l.screen l.initial.self l.self
      l.initial.out.items l.out.items l.count;
  within : l.next ≤ div_ceil l.initial.self.known.width 64 * div_ceil l.initial.self.known.height 64;
  few : l.next ≤ 4096;
  capacity : vec_capacity l.out ≡ vec_capacity l.initial.out;
  space : (cost : ℕ → ℕ) →
      AreCosts l.initial.self.known.width l.initial.self.known.height (div_ceil l.initial.self.known.width 64)
      (may_need l.initial.self.marks l.initial.self.area) l.initial.self.format
      (div_ceil l.initial.self.known.width 64 * div_ceil l.initial.self.known.height 64) cost →
      vec_len l.initial.out + sum_below cost (div_ceil l.initial.self.known.width 64
      * div_ceil l.initial.self.known.height 64) ≤ vec_capacity l.initial.out →
      vec_len l.out + sum_below cost (div_ceil l.initial.self.known.width 64 * div_ceil l.initial.self.known.height 64)
      ≤ vec_capacity l.initial.out + sum_below cost l.next;
}

abbrev pub decreases-loop-index : goal.decreases-loop-index
decreases-loop-index l = div_ceil l.initial.self.known.width 64 * div_ceil l.initial.self.known.height 64 - l.next
