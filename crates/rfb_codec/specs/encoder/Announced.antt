-- The pixel formats that this project announces, by number. No public clause reads these words.
use Rattle.std.specs.Prelude.{ℕ, ◌==◌, if◌then◌else◌}
use Rattle.rfb_pixel.specs.Format.{PixelFormat, rgb888, rgb565, bgr233}

abbrev pub announced : ℕ → PixelFormat
announced number = if number == 0 then rgb888 else (if number == 1 then rgb565 else bgr233)
