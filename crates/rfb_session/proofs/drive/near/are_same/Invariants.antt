-- While all so far are, the places so far are the same.
use Rattle.std.proofs.Common.{◌≡◌, ℕ, ◌<◌, ◌≤◌, true, slice_index_or}
use Rattle.rfb_pixel.specs.declared.colour.Colour.{Colour}
use Rattle.rfb_session.proofs.drive.near.are_same.Given as goal

abbrev pub invariant-loop-place : goal.invariant-loop-place
invariant-loop-place l =
    l.same ≡ true → (k : ℕ) (d : Colour) → l.at ≤ k → k < l.place → slice_index_or l.a k d ≡ slice_index_or l.b k d
