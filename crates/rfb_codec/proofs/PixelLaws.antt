-- Blocks that are drawn place by place.
pub use Rattle.rfb_codec.proofs.PixelLemmas.{length-pixels}
use Rattle.std.proofs.Common.{◌≡◌, ℕ, ◌<◌, sym, subst, ◌∙◌}
use Rattle.rfb_picture.specs.Grid.{Grid, at_or, uniform}
use Rattle.rfb_picture.proofs.GridLaws.{at-changed, width-changed, height-changed, whole-changed, width-uniform}
use Rattle.rfb_picture.proofs.GridLaws.{height-uniform, whole-uniform, same_grid}
use Rattle.rfb_codec.specs.Pixels.{IsSized, Shows, drawn}

width-drawn : (w h : ℕ) (c : ℕ → ℕ → ℕ) → (drawn w h c).width ≡ w
width-drawn w h c = width-changed (λ x y old. c x y) (uniform w h 0) ∙ width-uniform w h 0

height-drawn : (w h : ℕ) (c : ℕ → ℕ → ℕ) → (drawn w h c).height ≡ h
height-drawn w h c = height-changed (λ x y old. c x y) (uniform w h 0) ∙ height-uniform w h 0

-- a drawn block has its size
pub sized-drawn : (w h : ℕ) (c : ℕ → ℕ → ℕ) → IsSized w h (drawn w h c)
sized-drawn w h c = record {
  width_is = width-drawn w h c;
  height_is = height-drawn w h c;
  whole = whole-changed (λ x y old. c x y) (uniform w h 0) (whole-uniform w h 0);
}

-- the value at a place of it
pub at-drawn : (w h : ℕ) (c : ℕ → ℕ → ℕ) (x y d : ℕ) → x < w → y < h → at_or (drawn w h c) x y d ≡ c x y
at-drawn w h c x y d p q =
    let across : x < (uniform w h 0).width = subst (λ (n : ℕ). x < n) (sym (width-uniform w h 0)) p in
    let down : y < (uniform w h 0).height = subst (λ (n : ℕ). y < n) (sym (height-uniform w h 0)) q in
    at-changed (λ x y old. c x y) (uniform w h 0) x y d (whole-uniform w h 0) across down

-- it shows what it was drawn of
pub shows-drawn : (w h : ℕ) (c : ℕ → ℕ → ℕ) → Shows (drawn w h c) c
shows-drawn w h c x y d p q = at-drawn w h c x y d (subst (λ (n : ℕ). x < n) (width-drawn w h c) p)
    (subst (λ (n : ℕ). y < n) (height-drawn w h c) q)

-- and a block that shows it is the one that is drawn
pub drawn_is : (w h : ℕ) (c : ℕ → ℕ → ℕ) (block : Grid ℕ) → IsSized w h block → Shows block c → block ≡ drawn w h c
drawn_is w h c block sized shows =
    same_grid block (drawn w h c) sized.whole (whole-changed (λ x y old. c x y) (uniform w h 0) (whole-uniform w h 0))
    (sized.width_is ∙ sym (width-drawn w h c)) (sized.height_is ∙ sym (height-drawn w h c))
    (λ x y d p q. shows x y d p q ∙ sym (at-drawn w h c x y d (subst (λ (n : ℕ). x < n) sized.width_is p)
    (subst (λ (n : ℕ). y < n) sized.height_is q)))
