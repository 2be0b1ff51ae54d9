-- Fronts of data with some bytes more.
use Rattle.std.proofs.Common.{◌≡◌, ℕ, ◌+◌, ◌*◌, ◌<◌, ◌≤◌, List, [], ◌∷◌, ◌++◌}
use Rattle.std.proofs.Common.{length, take, true, refl, sym, ◌∙◌, ap, arith}
use Rattle.std.proofs.Common.{append-nil, append_assoc, length-append}
use Rattle.std.proofs.Math.Nat.{mul-le-mul_right}
use Rattle.rfb_pixel.specs.Format.{PixelFormat, size_of}
use Rattle.rfb_pixel.specs.declared.colour.Colour.{Colour}
use Rattle.rfb_picture.specs.declared.rect.Rect.{Rect}
use Rattle.rfb_picture.specs.Grid.{Grid}
use Rattle.rfb_codec.specs.declared.painter.rectangle.Rectangle.{Rectangle}
use Rattle.rfb_codec.specs.declared.painter.stage.Place.{Place}
use Rattle.rfb_codec.specs.declared.painter.stage.Stage.{Stage}
use Rattle.rfb_codec.specs.declared.painter.stage.Step.{Step}
use Rattle.rfb_codec.specs.Front.{SpellsPixels}
use Rattle.rfb_codec.specs.Stage.{encoding_at, is_sound, places_before}
use Rattle.rfb_codec.specs.decoder.Step.{GoesOn, PaintsRun, StandsPixels, Takes}

-- ---- pixels

-- places of a row lie in the rectangle
pub run_within : (w h x y n : ℕ) → x + n ≤ w → y < h → y * w + x + n ≤ h * w
run_within w h x y n wide high =
    let rows : (y + 1) * w ≤ h * w = mul-le-mul_right w (omega arith) in
    omega (arith, rows)

-- bytes of a pixel that is not whole yet
pub pixel_waits : (f : PixelFormat) (all count : ℕ) (pixels pending more body : List ℕ) →
    SpellsPixels f all count pixels pending body → count < all → length (pending ++ more) < size_of f →
    SpellsPixels f all count pixels (pending ++ more) (body ++ more)
pixel_waits f all count pixels pending more body s left short = record {
  whole = ap (λ (ys : List ℕ). ys ++ more) s.whole ∙ append_assoc pixels pending more;
  size = s.size;
  few = s.few;
  short = short;
  ended = λ e. absurd (omega arith);
}

-- whole pixels more, whose first bytes were pending
pub pixels_end : (f : PixelFormat) (all count n : ℕ) (pixels pending more body : List ℕ) →
    SpellsPixels f all count pixels pending body → count + n ≤ all → 0 < size_of f → length (pending ++ more)
    ≡ n * size_of f → SpellsPixels f all (count + n) (pixels ++ (pending ++ more)) [] (body ++ more)
pixels_end f all count n pixels pending more body s few some size = record {
  whole = ap (λ (ys : List ℕ). ys ++ more) s.whole ∙ append_assoc pixels pending more
      ∙ sym (append-nil (pixels ++ (pending ++ more)));
  size = let a = s.size in length-append pixels (pending ++ more) ∙ omega (arith, a, size);
  few = few;
  short = some;
  ended = λ e. refl;
}

-- pixels painted after those before a place
pub walked_on : (f : PixelFormat) (rect : Rect) (at next : Place) (n : ℕ) (pending more run rest : List ℕ)
    (old new before : Grid Colour) (body : List ℕ) → StandsPixels f rect at pending old before body →
    places_before rect.w at + n ≤ rect.h * rect.w → 0 < size_of f → run ≡ pending ++ more →
    length run ≡ n * size_of f → rest ≡ [] → places_before rect.w next ≡ places_before rect.w at + n →
    PaintsRun f rect (places_before rect.w at) n run old new → StandsPixels f rect next rest new before (body ++ more)
walked_on f rect at next n pending more run rest old new before body (pixels, s, shows) few some
    run_is size none count paints =
    rw (count, none) (
      pixels ++ run,
      rw run_is (pixels_end f (rect.h * rect.w) (places_before rect.w at) n pixels pending more body s
          few some (rw run_is at size)),
      paints pixels before s.size shows,
    )

-- those of one row
pub walked : (f : PixelFormat) (rect : Rect) (at next : Place) (n : ℕ) (pending more run rest : List ℕ)
    (old new before : Grid Colour) (body : List ℕ) → StandsPixels f rect at pending old before body →
    at.x + n ≤ rect.w → at.y < rect.h → 0 < size_of f → run ≡ pending ++ more → length run ≡ n * size_of f → rest ≡ [] →
    places_before rect.w next ≡ places_before rect.w at + n → PaintsRun f rect (places_before rect.w at) n run old new →
    StandsPixels f rect next rest new before (body ++ more)
walked f rect at next n pending more run rest old new before body stands wide high =
    walked_on f rect at next n pending more run rest old new before body stands
    (run_within rect.w rect.h at.x at.y n wide high)

-- or bytes of the next one
pub walk_waits : (f : PixelFormat) (rect : Rect) (at : Place) (pending more rest : List ℕ) (now before : Grid Colour)
    (body : List ℕ) → StandsPixels f rect at pending now before body → at.x < rect.w → at.y < rect.h →
    rest ≡ pending ++ more → length rest < size_of f → StandsPixels f rect at rest now before (body ++ more)
walk_waits f rect at pending more rest now before body (pixels, s, shows) wide high is short =
    let few = run_within rect.w rect.h at.x at.y 1 (omega arith) high in
    rw is (
      pixels,
      pixel_waits f (rect.h * rect.w) (places_before rect.w at) pixels pending more body s
          (omega (arith, few)) (rw is at short),
      shows,
    )

pub no_items : {A : Type 0} (xs : List A) → length xs ≡ 0 → xs ≡ []
no_items [] e = refl
no_items (x ∷ xs) e = absurd (omega arith)

pub some_places : (h w : ℕ) → 0 < h → 0 < w → 0 < h * w
some_places h w high wide =
    let rows : 1 * w ≤ h * w = mul-le-mul_right w (omega arith) in
    omega (arith, rows)

-- ---- a step

-- some of the bytes are taken to a stage of the same encoding; what stood for data stands for them with
-- these, and the picture keeps its size
pub takes_on : {r : Rectangle} {stage : Stage} {pending : List ℕ} {picture : Grid Colour} {bytes : List ℕ}
    {step : Step} {rest : List ℕ} {now : Grid Colour} → 0 < step.used → step.used ≤ length bytes →
    is_sound r.format r.rect step.stage (length rest) ≡ true → encoding_at step.stage ≡ encoding_at stage →
    GoesOn r.format r.rect stage pending picture (take step.used bytes) step.stage rest now →
    now.width ≡ picture.width → now.height ≡ picture.height → Takes r stage pending picture bytes step rest now
takes_on some used sound same goes_on width height = record {
  some = some;
  used = used;
  reaches = record { sound = sound; same = same; goes_on = goes_on; width = width; height = height };
}
