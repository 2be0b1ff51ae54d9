use Rattle.std.proofs.Common.{◌≡◌, ◌≤◌, ◌-◌, length, replicate}
use Rattle.rfb_picture.proofs.picture.Picture.new.Given as goal

-- the places so far have the value, and are not too many
abbrev pub invariant-loop-value : goal.invariant-loop-value
invariant-loop-value g l =
    (l.places.items ≡ replicate (length l.places.items) l.value)
    × (length l.places.items ≤ l.count)

abbrev pub decreases-loop-value : goal.decreases-loop-value
decreases-loop-value g l = l.count - length l.places.items
