-- Cells by their numbers.
use Rattle.std.proofs.Common.{◌≡◌, ℕ, ◌+◌, ◌-◌, ◌*◌, ◌/◌, ◌%◌, ◌<◌, ◌≤◌, min, refl, sym, ◌∙◌, arith, ap}
use Rattle.std.specs.Int.{div_ceil}
use Rattle.std.proofs.lemmas.Nat.{div-mul-add, mod-mul-add}
use Rattle.rfb_picture.specs.declared.rect.Rect.{Rect}
use Rattle.rfb_picture.proofs.GridLaws.{contains_true, contains_row}
use Rattle.rfb_server.specs.Cells.{cell_of, IsCell}

-- the cell in that column and row of cells
pub is_cell : (width height across column row index : ℕ) →
    column * 64 < width → row * 64 < height → column < across → width ≤ across * 64 →
    row * across + column ≡ index →
    IsCell width height across index
    (record { x = column * 64; y = row * 64; w = min (width - column * 64) 64; h = min (height - row * 64) 64 })
is_cell width height across column row index p q l wide e =
    let cell : Rect =
    record { x = column * 64; y = row * 64; w = min (width - column * 64) 64; h = min (height - row * 64) 64 } in
    record {
      held = (omega arith, omega arith);
      sides = (omega arith, omega arith);
      inside = λ x y c.
          let (x0, x1, y0, y1) = contains_true cell x y c in
          let there : x / 64 ≡ column = omega arith in
          let high : y / 64 ≡ row = omega arith in
          rw (there, high) e;
      all = λ x y xw yh here.
          let below : x / 64 < across = omega arith in
          let same : y / 64 * across + x / 64 ≡ row * across + column = here ∙ sym e in
          let there : x / 64 ≡ column = sym (mod-mul-add (y / 64) across (x / 64) below)
          ∙ (ap (λ (n : ℕ). n % across) same ∙ mod-mul-add row across column l) in
          let high : y / 64 ≡ row = sym (div-mul-add (y / 64) across (x / 64) below)
          ∙ (ap (λ (n : ℕ). n / across) same ∙ div-mul-add row across column l) in
          contains_row cell x y (omega arith) (omega arith) (omega arith) (omega arith);
    }

-- each place of a screen has a cell
pub place_cell : (width height x y : ℕ) → x < width → y < height →
    (cell : Rect) × IsCell width height (div_ceil width 64) (cell_of (div_ceil width 64) x y) cell
place_cell width height x y p q = (
  record { x = x / 64 * 64; y = y / 64 * 64; w = min (width - x / 64 * 64) 64; h = min (height - y / 64 * 64) 64 },
  is_cell width height (div_ceil width 64) (x / 64) (y / 64) (cell_of (div_ceil width 64) x y) (omega arith)
      (omega arith) (omega arith) (omega arith) refl,
)
