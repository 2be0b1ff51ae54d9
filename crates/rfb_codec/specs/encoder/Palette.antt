-- Which pixels a tile has.
-- No public clause reads these words.
use Rattle.std.specs.Prelude.{◌≡◌, ◌≢◌, ℕ, ◌<◌, ◌⊎◌, List, length, slice_index}
use Rattle.rfb_codec.specs.declared.choice.palette.Palette.{Palette}
use Rattle.rfb_codec.specs.declared.choice.palette.Palette.TheVariants.{One, Two, More}
use Rattle.rfb_codec.specs.Choice.{IsPixelOf, places_of}
use Rattle.rfb_codec.specs.HextileRule.{HasThird}

-- more places have the background than the other pixel, or as many and it is the lesser
abbrev pub IsMoreFrequent : ℕ → ℕ → List ℕ → Type 0
IsMoreFrequent background other pixels =
    (places_of other pixels < places_of background pixels) ⊎
    ((places_of other pixels ≡ places_of background pixels) × (background < other))

-- a place has neither of two pixels
abbrev pub HasOther : ℕ → ℕ → List ℕ → Type 0
HasOther first second pixels = (i : ℕ) × (i < length pixels) ×
    (slice_index pixels i ≢ first) × (slice_index pixels i ≢ second)

-- each place has the one pixel, or one of the two, and both are there, or there are three at
-- least
abbrev pub HasPalette : Palette → List ℕ → Type 0
HasPalette (One pixel) pixels = (i : ℕ) → i < length pixels → slice_index pixels i ≡ pixel
HasPalette (Two background foreground) pixels =
    IsPixelOf pixels background × IsPixelOf pixels foreground ×
    ((i : ℕ) → i < length pixels → (slice_index pixels i ≡ background) ⊎
    (slice_index pixels i ≡ foreground)) × IsMoreFrequent background foreground pixels
HasPalette More pixels = HasThird pixels
