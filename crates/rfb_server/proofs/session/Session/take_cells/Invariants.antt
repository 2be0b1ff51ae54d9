use Rattle.std.proofs.Common.{◌≡◌, ◌<◌, ◌≤◌, ◌*◌, ◌-◌, ℕ, true}
use Rattle.std.specs.Int.{div_ceil}
use Rattle.rfb_picture.specs.Box.{is_in}
use Rattle.rfb_server.specs.Cells.{cell_of}
use Rattle.rfb_server.specs.update.Sends.{IsKept}
use Rattle.rfb_server.specs.session.Twins.{IsKnownAlike, TakesSome}
use Rattle.rfb_server.proofs.session.Session.take_cells.Given as goal

-- what is marked in the cells so far was taken over
abbrev pub invariant-loop-index : goal.invariant-loop-index
invariant-loop-index l = record {
  kept : IsKept l.initial.self l.self;
  wide : l.self.known.width ≡ l.initial.self.known.width;
  high : l.self.known.height ≡ l.initial.self.known.height;
  some : TakesSome l.sent.known l.initial.self.known l.self.known;
  done : (x y : ℕ) → x < l.initial.self.known.width → y < l.initial.self.known.height →
      cell_of (div_ceil l.initial.self.known.width 64) x y < l.next → is_in l.initial.self.marks x y ≡ true →
      IsKnownAlike l.self.known l.sent.known x y;
  within : l.next ≤ div_ceil l.initial.self.known.width 64 * div_ceil l.initial.self.known.height 64;
  few : l.next ≤ 4096;
}

abbrev pub decreases-loop-index : goal.decreases-loop-index
decreases-loop-index l = div_ceil l.initial.self.known.width 64 * div_ceil l.initial.self.known.height 64 - l.next
