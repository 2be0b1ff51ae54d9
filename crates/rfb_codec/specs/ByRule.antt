-- What an encoder makes of a block by this project's rules, encoding by encoding. CopyRect brings
-- no pixels.
use Rattle.std.specs.Prelude.{ℕ, List}
use Rattle.rfb_pixel.specs.Format.{PixelFormat}
use Rattle.rfb_picture.specs.Grid.{Grid}
use Rattle.rfb_wire.specs.declared.encoding.Encoding.{Encoding}
use Rattle.rfb_wire.specs.declared.encoding.Encoding.TheVariants.{Raw, CopyRect, Rre, Hextile}
use Rattle.rfb_codec.specs.Raw.{StandsRaw}
use Rattle.rfb_codec.specs.Choice.{StandsRreByRule, IsNoShorter}
use Rattle.rfb_codec.specs.HextileRule.{StandsByRule, AreNoShorter}

-- the bytes stand for the block in that encoding, as its rule has them
abbrev pub StandsIn : Encoding → PixelFormat → Grid ℕ → List ℕ → Type 0
StandsIn Raw f block bytes = StandsRaw f block bytes
StandsIn CopyRect f block bytes = ⊥
StandsIn Rre f block bytes = StandsRreByRule f block bytes
StandsIn Hextile f block bytes = StandsByRule f block bytes

-- the rule of that encoding gives the block up: its data would be no shorter than Raw
abbrev pub GivesUp : Encoding → PixelFormat → Grid ℕ → Type 0
GivesUp Raw f block = ⊥
GivesUp CopyRect f block = Unit {0}
GivesUp Rre f block = IsNoShorter f block
GivesUp Hextile f block = AreNoShorter f block
