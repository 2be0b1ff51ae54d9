-- The rectangle's rows so far have their values, and the other places are as they were.
use Rattle.std.proofs.Common.{◌≡◌, ℕ, ◌+◌, ◌-◌, ◌*◌, ◌<◌, length, slice_index_or}
use Rattle.std.proofs.Common.{if◌then◌else◌}
use Rattle.rfb_picture.specs.Rect.{contains}
use Rattle.rfb_picture.specs.layout.Lines.{place_in}
use Rattle.rfb_picture.proofs.picture.put_lines.Given as goal

abbrev pub invariant-loop-row : goal.invariant-loop-row
invariant-loop-row g l =
    (x y : ℕ) (d : g.row.T.Denot) →
    x < l.width → y < length l.lines →
    slice_index_or l.places (place_in l.lines l.width x y) d
    ≡ (if contains (record l.rect { h = l.row }) x y
    then slice_index_or l.rows ((y - l.rect.y) * l.rect.w + (x - l.rect.x)) d
    else slice_index_or l.initial.places (place_in l.lines l.width x y) d)
