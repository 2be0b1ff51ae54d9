-- The places so far lie near what was expected.
use Rattle.std.proofs.Common.{◌≡◌, ℕ, ◌<◌, true, slice_index_or}
use Rattle.rfb_pixel.specs.declared.colour.Colour.{Colour}
use Rattle.rfb_session.specs.drive.Near.{is_near}
use Rattle.rfb_session.proofs.drive.near.compare_rows.Given as goal

abbrev pub invariant-loop-place : goal.invariant-loop-place
invariant-loop-place l =
    (k : ℕ) (d : Colour) → k < l.place →
    is_near l.within (slice_index_or l.row k d) (slice_index_or l.expected k d) ≡ true
