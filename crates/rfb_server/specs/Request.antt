-- What a viewer asked for, RFC 6143 section 7.5.3, and which of its places need sending.
use Rattle.std.specs.Prelude.{ℕ, ◌==◌, Bool, true, not, ◌&&◌, ◌||◌, Option, Some, None}
use Rattle.rfb_pixel.specs.declared.colour.Colour.{Colour}
use Rattle.rfb_pixel.specs.Format.{PixelFormat, pixel_of}
use Rattle.rfb_picture.specs.Grid.{Grid, at_or}
use Rattle.rfb_picture.specs.Area.{Places, asked_at, whole_at}
use Rattle.rfb_server.specs.Server.{ServerState, black}

-- the pixel of the screen's colour at a place, which is the one that the viewer is to have
abbrev pub wanted_at : Grid Colour → PixelFormat → ℕ → ℕ → ℕ
wanted_at screen form x y = pixel_of form (at_or screen x y black)

-- what is known of a place is another pixel, or nothing
abbrev pub differs : ℕ → Option ℕ → Bool
differs pixel None = true
differs pixel (Some old) = not (old == pixel)

-- a place needs sending if it is asked, and is whole, unknown or known to have another pixel
abbrev pub needs_at : Grid Colour → Grid (Option ℕ) → Places → PixelFormat → ℕ → ℕ → Bool
needs_at screen known area form x y =
    asked_at area x y &&
    (whole_at area x y || differs (wanted_at screen form x y) (at_or known x y None))

-- ---- the same of a state

abbrev pub wanted : ServerState → ℕ → ℕ → ℕ
wanted s x y = wanted_at s.screen s.form x y

abbrev pub recorded : ServerState → ℕ → ℕ → Option ℕ
recorded s x y = at_or s.known x y None

abbrev pub is_asked : ServerState → ℕ → ℕ → Bool
is_asked s x y = asked_at s.area x y

abbrev pub is_whole : ServerState → ℕ → ℕ → Bool
is_whole s x y = whole_at s.area x y

abbrev pub needs_sending : ServerState → ℕ → ℕ → Bool
needs_sending s x y = needs_at s.screen s.known s.area s.form x y
