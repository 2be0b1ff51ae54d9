-- The seats so far take what they should, the owner's door what it did, and nothing else has changed.
use Rattle.std.proofs.Common.{◌≡◌, ◌<◌, ◌+◌, ℕ}
use Rattle.rfb_session.specs.console.Console.{KeepsButRooms, space_at, room_of_seat}
use Rattle.rfb_session.proofs.console.Console.open_seats.Given as goal

abbrev pub invariant-loop-place : goal.invariant-loop-place
invariant-loop-place g l = record {
  keeps : KeepsButRooms l.fn.self l.self;
  owner : space_at l.self 0 ≡ space_at l.fn.self 0;
  seats : (k : ℕ) → k < l.place → space_at l.self (k + 1) ≡ room_of_seat l.fn.self k;
}
