-- What an encoder of Hextile remembers of the tiles that it has sent: colours that the next tile
-- may use. No public clause reads these words.
use Rattle.std.specs.Prelude.{◌≡◌, ℕ, ◌+◌, ◌*◌, ◌<◌, List, [], ◌∷◌, ◌++◌, Bool, Option, Some, None, slice_index}
use Rattle.rfb_pixel.specs.Format.{PixelFormat}
use Rattle.rfb_codec.specs.declared.subrect.Subrect.{Subrect}
use Rattle.rfb_codec.specs.declared.hextile.layout.TileLayout.{TileLayout}
use Rattle.rfb_codec.specs.declared.hextile.encode.carried.Carried.{Carried}
use Rattle.rfb_codec.specs.Tile.{Tile, background_of, foreground_of, last_of, tile_pixel, FitsTile, SpellsTile}
use Rattle.rfb_codec.specs.encoder.TileSpelling.{tile_of, tile_bytes}
use Rattle.rfb_codec.specs.HextileRule.{Held}
use Rattle.rfb_codec.specs.Hextile.{after_last, is_raw_tile, is_raw_or_colored, NoneIs, KeepsRule}

-- what is remembered, as the rule has it
abbrev pub held_of : Carried → Held
held_of carried =
    record { background = carried.background; foreground = carried.foreground }

-- the last of the tiles that specify that colour specified this one, and none that stops it comes
-- after
pub record IsCarried (colour : Tile → Option ℕ) (stops : Tile → Bool) (before : List Tile)
    (value : ℕ) : Type 0 where
  pub in_force : last_of colour before ≡ Some value
  pub unbroken : NoneIs stops (after_last colour before)

-- the same, where a colour is remembered
abbrev pub IsCarriedIf : (Tile → Option ℕ) → (Tile → Bool) → List Tile → Option ℕ → Type 0
IsCarriedIf colour stops before None = Unit {0}
IsCarriedIf colour stops before (Some value) = IsCarried colour stops before value

-- both colours are what the tiles leave
pub record Remembers (before : List Tile) (carried : Carried) : Type 0 where
  pub background : IsCarriedIf background_of is_raw_tile before carried.background
  pub foreground : IsCarriedIf foreground_of is_raw_or_colored before carried.foreground

-- the tile names the colour that it needs, or names none and that one is remembered
abbrev pub IsNamed : Option ℕ → Option ℕ → ℕ → Type 0
IsNamed None held value = held ≡ Some value
IsNamed (Some named) held value = named ≡ value

-- the bytes are a tile after those before, which keeps the rule, shows the pixels, and leaves
-- colours
pub record IsSent (f : PixelFormat) (w h : ℕ) (before : List Tile) (tile : Tile)
    (bytes pixels : List ℕ) (leaves : Carried) : Type 0 where
  pub spelled : SpellsTile f w h before tile bytes
  pub fits : FitsTile w h tile
  pub keeps : KeepsRule before tile
  pub shown : (x y : ℕ) → x < w → y < h →
      tile_pixel f w (before ++ tile ∷ []) tile x y ≡ slice_index pixels (y * w + x)
  pub left : Remembers (before ++ tile ∷ []) leaves

-- a tile of that size that is sent so is one, after whichever tiles leave those colours to it
abbrev pub Sends : PixelFormat → ℕ → ℕ → TileLayout → List ℕ → List Subrect → Carried → Carried →
    Type 0
Sends f w h layout pixels subs carried leaves =
    (before : List Tile) → Remembers before carried →
    IsSent f w h before (tile_of f layout pixels subs)
    (tile_bytes f layout pixels subs) pixels leaves
