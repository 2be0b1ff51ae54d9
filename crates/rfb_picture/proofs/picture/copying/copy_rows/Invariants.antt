-- The rows so far have what their source had at first, and the other places are as they were.
use Rattle.std.proofs.Common.{◌≡◌, ℕ, ◌+◌, ◌-◌, ◌<◌, length, slice_index_or, if◌then◌else◌}
use Rattle.rfb_picture.specs.Rect.{contains}
use Rattle.rfb_picture.specs.layout.Lines.{place_in}
use Rattle.rfb_picture.proofs.CopyLemmas.{rows_done}
use Rattle.rfb_picture.proofs.picture.copying.copy_rows.Given as goal

abbrev pub invariant-loop-done : goal.invariant-loop-done
invariant-loop-done g l =
    (x y : ℕ) (d : g.row.T.Denot) →
    x < l.width → y < length l.lines →
    slice_index_or l.places (place_in l.lines l.width x y) d
    ≡ (if contains (rows_done l.dst l.sy l.done) x y
    then slice_index_or l.initial.places (place_in l.lines l.width (l.sx + (x - l.dst.x)) (l.sy + (y - l.dst.y))) d
    else slice_index_or l.initial.places (place_in l.lines l.width x y) d)
