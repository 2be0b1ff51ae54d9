-- Fields of bytes with others before or after them.
use Rattle.std.proofs.Common.{◌≡◌, ℕ, ◌+◌, ◌-◌, ◌≤◌, List, take, drop, sym, ap, ◌∙◌, arith}
use Rattle.std.proofs.lemmas.List.{drop-take}
use Rattle.byteorder.specs.Endian.{big_number}
use Rattle.byteorder.specs.Numbers.{big_from-take}
use Rattle.rfb_picture.specs.declared.rect.Rect.{Rect}
use Rattle.rfb_wire.specs.Fields.{IsRectAt}

-- a number of n bytes is read from those alone
pub number-take : (n at m : ℕ) (bytes : List ℕ) → at + n ≤ m →
    big_number n (drop at (take m bytes)) ≡ big_number n (drop at bytes)
number-take n at m bytes within =
    let rest = m - at in
    let split : at + rest ≡ m = omega arith in
    ap (λ (k : ℕ). big_number n (drop at (take k bytes))) (sym split)
    ∙ ap (big_number n) (drop-take at rest bytes)
    ∙ big_from-take 0 n rest (drop at bytes) (omega arith)

-- and so is a rectangle
pub rect-take : (m : ℕ) (rect : Rect) (bytes : List ℕ) → 8 ≤ m → IsRectAt 0 rect bytes →
    IsRectAt 0 rect (take m bytes)
rect-take m rect bytes within is = record {
  x_position = number-take 2 0 m bytes (omega arith) ∙ is.x_position;
  y_position = number-take 2 2 m bytes (omega arith) ∙ is.y_position;
  width = number-take 2 4 m bytes (omega arith) ∙ is.width;
  height = number-take 2 6 m bytes (omega arith) ∙ is.height;
}
