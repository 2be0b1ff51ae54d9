-- Whole rows of pixels, painted one below another.
use Rattle.std.proofs.Common.{◌≡◌, ℕ, ◌+◌, ◌-◌, ◌*◌, List, ◌++◌, length, take, drop, sym, ◌∙◌, ap, arith, append-nil}
use Rattle.std.proofs.Common.{append_assoc, length-append}
use Rattle.rfb_pixel.specs.declared.colour.Colour.{Colour}
use Rattle.rfb_pixel.specs.Format.{PixelFormat, size_of}
use Rattle.rfb_picture.specs.declared.rect.Rect.{Rect}
use Rattle.rfb_picture.specs.Grid.{Grid}
use Rattle.rfb_wire.proofs.stream_laws.FeedLaws.{take_add}
use Rattle.rfb_codec.specs.Front.{pixels_over}
use Rattle.rfb_codec.specs.decoder.Step.{PaintsRun}

-- no pixels are painted
pub runs_none : (f : PixelFormat) (rect : Rect) (from n m : ℕ) (bytes : List ℕ) (g : Grid Colour) → n ≡ 0 → m ≡ 0 →
    PaintsRun f rect from n (take m bytes) g g
runs_none f rect from n m bytes g n_is m_is = λ pixels before size old.
    let more : from ≡ from + n = omega arith in
    let same : pixels ≡ pixels ++ take m bytes = rw m_is (sym (append-nil pixels)) in
    old ∙ ap (λ (k : ℕ). pixels_over f rect k pixels before) more
    ∙ ap (λ (ys : List ℕ). pixels_over f rect (from + n) ys before) same

-- pixels painted after others are painted with them
pub runs_join : (f : PixelFormat) (rect : Rect) (from a b next sum : ℕ) (one two all : List ℕ)
    (old mid new : Grid Colour) → length one ≡ a * size_of f → next ≡ from + a → sum ≡ a + b → all ≡ one ++ two →
    PaintsRun f rect from a one old mid → PaintsRun f rect next b two mid new → PaintsRun f rect from sum all old new
runs_join f rect from a b next sum one two all old mid new one_is next_is sum_is all_is first second =
    λ pixels before size was.
    let products : (from + a) * size_of f ≡ from * size_of f + a * size_of f = omega arith in
    let longer : length (pixels ++ one) ≡ next * size_of f =
    length-append pixels one ∙ rw next_is (omega (arith, products, size, one_is)) in
    let there : mid ≡ pixels_over f rect next (pixels ++ one) before = rw next_is (first pixels before size was) in
    let count : next + b ≡ from + sum = omega arith in
    let bytes : (pixels ++ one) ++ two ≡ pixels ++ all =
    append_assoc pixels one two ∙ ap (λ (ys : List ℕ). pixels ++ ys) (sym all_is) in
    second (pixels ++ one) before longer there
    ∙ ap (λ (k : ℕ). pixels_over f rect k ((pixels ++ one) ++ two) before) count
    ∙ ap (λ (ys : List ℕ). pixels_over f rect (from + sum) ys before) bytes

-- the bytes of rows with those of the next one
pub next_line : (row unit start size : ℕ) (bytes : List ℕ) → start ≡ row * unit → size ≡ unit →
    take ((row + 1) * unit) bytes ≡ take (row * unit) bytes ++ take (start + size - start) (drop start bytes)
next_line row unit start size bytes start_is size_is =
    let last : (row + 1) * unit ≡ row * unit + unit = omega arith in
    let part : start + size - start ≡ unit = omega arith in
    rw (last, part, start_is) (take_add (row * unit) unit bytes)
