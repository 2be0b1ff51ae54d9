use Rattle.std.proofs.Common.{◌≡◌, ℕ, ◌+◌, ◌*◌, ◌<◌, ◌&&◌, ◌||◌, nat_lt}
use Rattle.rfb_picture.specs.Rect.{contains}
use Rattle.rfb_picture.specs.layout.Plane.{has_at}
use Rattle.rfb_picture.proofs.words.add_places.Given as goal

-- the columns of words so far have the rectangle's places too
abbrev pub invariant-loop-column : goal.invariant-loop-column
invariant-loop-column l =
    (k y i : ℕ) → k < l.across → i < 64 →
    has_at l.words l.across y k i
    ≡ (has_at l.initial.words l.across y k i
    || (nat_lt k l.column && contains l.fn.rect (k * 64 + i) y))
