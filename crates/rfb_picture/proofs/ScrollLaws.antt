-- A scroll of a rectangle that lies in a grid reads places of the grid, and writes such.
use Rattle.std.proofs.Common.{ℕ, ℤ, pos, negsuc, ◌+◌, ◌-◌, ◌≤◌, unsigned_abs, arith}
use Rattle.rfb_picture.specs.declared.rect.Rect.{Rect}
use Rattle.rfb_picture.specs.Rect.{start_after, start_before, scrolled_to, scrolled_from}
use Rattle.rfb_picture.specs.Grid.{Grid, Holds}

after_within : (start len : ℕ) (far : ℤ) →
    start_after start len far + (len - unsigned_abs far) ≤ start + len
after_within start len (pos n) = grind arith
after_within start len (negsuc n) = grind arith

before_within : (start len : ℕ) (far : ℤ) →
    start_before start len far + (len - unsigned_abs far) ≤ start + len
before_within start len (pos n) = grind arith
before_within start len (negsuc n) = grind arith

module _ {X : Type 0} where
  -- a grid that a rectangle lies in holds each that ends no further
  holds_within : (g : Grid X) (r part : Rect) → Holds g r → part.x + part.w ≤ r.x + r.w →
      part.y + part.h ≤ r.y + r.h → Holds g part
  holds_within g r part held columns rows =
      (omega (arith, held.0, columns), omega (arith, held.1, rows))

  pub holds_scrolled_to : (g : Grid X) (r : Rect) (dx dy : ℤ) → Holds g r →
      Holds g (scrolled_to dx dy r)
  holds_scrolled_to g r dx dy held =
      holds_within g r (scrolled_to dx dy r) held (after_within r.x r.w dx) (after_within r.y r.h dy)

  pub holds_scrolled_from : (g : Grid X) (r : Rect) (dx dy : ℤ) → Holds g r →
      Holds g (scrolled_from dx dy r)
  holds_scrolled_from g r dx dy held =
      holds_within g r (scrolled_from dx dy r) held (before_within r.x r.w dx) (before_within r.y r.h dy)
