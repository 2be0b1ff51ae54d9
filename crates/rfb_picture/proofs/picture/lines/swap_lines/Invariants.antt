-- The columns so far have changed their lines.
use Rattle.std.proofs.Common.{◌≡◌, ℕ, ◌+◌, ◌*◌, ◌<◌, slice_index_or, if◌then◌else◌, nat_lt}
use Rattle.rfb_picture.specs.layout.Lines.{other_of}
use Rattle.rfb_picture.proofs.picture.lines.swap_lines.Given as goal

abbrev pub invariant-loop-x : goal.invariant-loop-x
invariant-loop-x g l =
    (x line : ℕ) (d : g.row.T.Denot) → x < l.width →
    slice_index_or l.places (line * l.width + x) d
    ≡ slice_index_or l.initial.places ((if nat_lt x l.x then other_of l.a l.b line else line) * l.width + x) d
