-- Rectangles of places, RFC 6143 section 7.6.1: x-position, y-position, width and height.
use Rattle.std.specs.Prelude.{ℕ, ℤ, pos, negsuc, Bool, ◌+◌, ◌-◌, ◌&&◌, nat_le, nat_lt, min, unsigned_abs}
use Rattle.rfb_picture.specs.declared.rect.Rect.{Rect}

-- place (x, y) lies in the rectangle
abbrev pub contains : Rect → ℕ → ℕ → Bool
contains r x y = nat_le r.x x && nat_lt x (r.x + r.w) && nat_le r.y y && nat_lt y (r.y + r.h)

-- the rectangle of this corner and this size
abbrev pub rect : ℕ → ℕ → ℕ → ℕ → Rect
rect x y w h = record { x = x; y = y; w = w; h = h }

-- the rectangle of the same size, x columns further to the right and y rows further down
abbrev pub moved_by : ℕ → ℕ → Rect → Rect
moved_by x y r = rect (x + r.x) (y + r.y) r.w r.h

-- ---- a scroll: all that lies in a rectangle moves, and what leaves the rectangle is lost

-- of `len` places from `start` on that move by a signed number: where the first that stays inside
-- is afterwards
abbrev pub start_after : ℕ → ℕ → ℤ → ℕ
start_after start len (pos n) = start + min n len
start_after start len (negsuc n) = start

-- and where it lay
abbrev pub start_before : ℕ → ℕ → ℤ → ℕ
start_before start len (pos n) = start
start_before start len (negsuc n) = start + min (n + 1) len

-- the rectangle where what stays is afterwards, dx columns to the right and dy rows down
abbrev pub scrolled_to : ℤ → ℤ → Rect → Rect
scrolled_to dx dy r =
    rect (start_after r.x r.w dx) (start_after r.y r.h dy) (r.w - unsigned_abs dx)
    (r.h - unsigned_abs dy)

-- the one of that size where it lay
abbrev pub scrolled_from : ℤ → ℤ → Rect → Rect
scrolled_from dx dy r =
    rect (start_before r.x r.w dx) (start_before r.y r.h dy) (r.w - unsigned_abs dx)
    (r.h - unsigned_abs dy)
