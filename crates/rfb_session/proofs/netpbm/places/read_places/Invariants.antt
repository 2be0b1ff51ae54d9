-- The places so far came, and the others are left.
use Rattle.std.proofs.Common.{◌≡◌, ◌+◌, ℕ}
use Rattle.rfb_session.specs.netpbm.PlacesRead.{ReadPlaces}
use Rattle.rfb_session.proofs.netpbm.places.read_places.Given as goal

abbrev pub invariant-loop-left : goal.invariant-loop-left
invariant-loop-left g l = record {
  done : ℕ;
  all : done + l.left ≡ l.count;
  came : ReadPlaces l.sample done (g.R.Read.remaining l.initial.input) (g.R.Read.remaining l.input) l.places.items;
}

abbrev pub decreases-loop-left : goal.decreases-loop-left
decreases-loop-left g l = l.left
