-- What a session knows of its viewer's picture: at each place a pixel, or that it is not known.
use Rattle.std.specs.Prelude.{◌≡◌, ◌≢◌, ℕ, ◌<◌, Bool, true, false, Option, Some, None}
use Rattle.std.specs.Prelude.{if◌then◌else◌}
use Rattle.rfb_picture.specs.declared.rect.Rect.{Rect}
use Rattle.rfb_picture.specs.Rect.{contains}
use Rattle.rfb_picture.specs.Grid.{Grid, IsGrid, at_or, changed, uniform}
use Rattle.rfb_picture.specs.Box.{is_in}
use Rattle.rfb_picture.specs.Area.{Places, IsArea, asked_at}

-- nothing is known of any place of a screen of that size
abbrev pub forgotten : {X : Type 0} → Grid X → Grid (Option ℕ)
forgotten g = uniform g.width g.height None

-- all that is known is kept, or it is forgotten, the first place too
abbrev pub KeepsOrForgets : Grid (Option ℕ) → Grid (Option ℕ) → Type 0
KeepsOrForgets old new = at_or new 0 0 None ≢ None → new ≡ old

-- each place of the rectangle is known
abbrev pub AreKnown : Grid (Option ℕ) → Rect → Type 0
AreKnown known rect =
    (x y : ℕ) → contains rect x y ≡ true → (pixel : ℕ) × (at_or known x y None ≡ Some pixel)

-- a pixel is known
abbrev pub is_known : Option ℕ → Bool
is_known None = false
is_known (Some pixel) = true

-- the picture has each pixel that is known, at its place
abbrev pub ShowsKnown : Grid (Option ℕ) → Grid ℕ → Type 0
ShowsKnown known pixels = (x y pixel : ℕ) → x < known.width → y < known.height →
    at_or known x y None ≡ Some pixel → at_or pixels x y 0 ≡ pixel

-- the area has the places of which a pixel is known, as asked ones
abbrev pub TellsKnown : Grid (Option ℕ) → Places → Type 0
TellsKnown known area = (x y : ℕ) → x < known.width → y < known.height →
    asked_at area x y ≡ is_known (at_or known x y None)

-- ---- how a `Record` holds it: a pixel at every place, and the set of the known places

-- at each place of the set its pixel is known, and at no other
unfoldable pub record_of : Grid ℕ → Grid Bool → Grid (Option ℕ)
record_of pixels known =
    changed (λ x y old. if is_in known x y then Some (at_or pixels x y 0) else None)
    (forgotten pixels)

-- both have one size
pub record IsRecord (pixels : Grid ℕ) (known : Places) : Type 0 where
  pub whole : IsGrid pixels
  pub area : IsArea known
  pub wide : known.asked.width ≡ pixels.width
  pub high : known.asked.height ≡ pixels.height
