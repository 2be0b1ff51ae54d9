use Rattle.std.proofs.Common.{◌≡◌, ℕ, ◌<◌, ◌*◌, true}
use Rattle.rfb_picture.specs.Rect.{contains}
use Rattle.rfb_picture.specs.layout.Plane.{has_place}
use Rattle.rfb_picture.proofs.words.has_places.Given as goal

-- the rectangle's places in the columns of words so far have their bits
abbrev pub invariant-loop-column : goal.invariant-loop-column
invariant-loop-column l =
    (x y : ℕ) → x < l.column * 64 → contains l.fn.rect x y ≡ true →
    has_place l.words l.across x y ≡ true
