use Rattle.std.proofs.Common.{◌≡◌, ℕ, ◌<◌, ◌≤◌, ◌*◌, false}
use Rattle.rfb_picture.specs.layout.Plane.{has_place}
use Rattle.rfb_picture.proofs.words.next_place.Given as goal

-- the words so far have no bit of those places
abbrev pub invariant-loop-column : goal.invariant-loop-column
invariant-loop-column l =
    (x : ℕ) → l.from ≤ x → x < l.to → x < l.column * 64 → has_place l.words l.across x l.row ≡ false
