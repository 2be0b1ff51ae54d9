-- The faults of a tile's mask, RFC 6143 section 7.7.4, each by the bits that are set and the tiles
-- before it. That colours are carried past raw and coloured tiles is this project's choice.
use Rattle.std.specs.Prelude.{◌≡◌, ℕ, List, [], ◌∷◌, Option, None}
use Rattle.std.specs.Int.{bit_at}
use Rattle.rfb_codec.specs.declared.fault.PaintFault.{PaintFault}
use Rattle.rfb_codec.specs.declared.fault.PaintFault.TheVariants.{SubrectOutside, NoBackground, NoForeground}
use Rattle.rfb_codec.specs.declared.fault.PaintFault.TheVariants.{BothColourBits, SourceOutside}
use Rattle.rfb_codec.specs.Tile.{Tile, background_of, foreground_of}

-- the bits of a mask, numbered from the lowest
abbrev pub IsSet : ℕ → ℕ → Type 0
IsSet bit mask = bit_at mask bit ≡ 1

abbrev pub IsClear : ℕ → ℕ → Type 0
IsClear bit mask = bit_at mask bit ≡ 0

abbrev pub raw_bit : ℕ
raw_bit = 0

abbrev pub background_bit : ℕ
background_bit = 1

abbrev pub foreground_bit : ℕ
foreground_bit = 2

abbrev pub subrects_bit : ℕ
subrects_bit = 3

abbrev pub colored_bit : ℕ
colored_bit = 4

-- none of the tiles specifies that colour
abbrev pub NoneSpecifies : (Tile → Option ℕ) → List Tile → Type 0
NoneSpecifies colour [] = Unit {0}
NoneSpecifies colour (t ∷ tiles) = (colour t ≡ None) × NoneSpecifies colour tiles

-- the tile is drawn over a background, which neither it nor one before it specifies
pub record LacksBackground (before : List Tile) (mask : ℕ) : Type 0 where
  pub drawn : IsClear raw_bit mask
  pub unnamed : IsClear background_bit mask
  pub none : NoneSpecifies background_of before

-- it specifies a foreground for its subrectangles, and that they have pixels of their own
pub record HasBothColours (mask : ℕ) : Type 0 where
  pub drawn : IsClear raw_bit mask
  pub foreground : IsSet foreground_bit mask
  pub colored : IsSet colored_bit mask

-- it has subrectangles without pixels of their own, and neither it nor one before it specifies a
-- foreground; how many they are does not matter
pub record LacksForeground (before : List Tile) (mask : ℕ) : Type 0 where
  pub drawn : IsClear raw_bit mask
  pub subrects : IsSet subrects_bit mask
  pub plain : IsClear colored_bit mask
  pub unnamed : IsClear foreground_bit mask
  pub none : NoneSpecifies foreground_of before

-- the mask has this fault after these tiles; a background that is missing comes before the others,
-- which never come together
abbrev pub IsMaskFault : List Tile → ℕ → PaintFault → Type 0
IsMaskFault before mask NoBackground = LacksBackground before mask
IsMaskFault before mask BothColourBits = HasBothColours mask × (LacksBackground before mask → ⊥)
IsMaskFault before mask NoForeground =
    LacksForeground before mask × (LacksBackground before mask → ⊥)
IsMaskFault before mask SubrectOutside = ⊥
IsMaskFault before mask SourceOutside = ⊥
