-- Fields that a peer's bytes give, before they are judged. No public clause reads these words.
use Rattle.std.specs.Prelude.{◌≤◌}
use Rattle.rfb_pixel.specs.declared.channel.Channel.{Channel}

-- the field has 1 to 16 bits
abbrev pub HasWidth : Channel → Type 0
HasWidth c = (1 ≤ c.width) × (c.width ≤ 16)
