-- The test scene: the screen that it begins with, and what a step makes of a screen.
use Rattle.std.specs.Prelude.{ℕ, ◌+◌, ◌-◌, ◌*◌, ◌%◌, List, [], nat_lt, if◌then◌else◌}
use Rattle.rfb_picture.specs.declared.rect.Rect.{Rect}
use Rattle.rfb_picture.specs.Grid.{Grid, changed, copied, filled, uniform}
use Rattle.rfb_picture.specs.Rect.{rect}
use Rattle.rfb_pixel.specs.declared.colour.Colour.{Colour}
use Rattle.rfb_pixel.specs.Format.{colour_of_bytes}
use Rattle.rfb_server.specs.declared.hint.Hint.{Hint}
use Rattle.rfb_server.specs.declared.server.Server.{Server}
use Rattle.rfb_server.specs.Hints.{with_hint}
use Rattle.rfb_server.specs.Server.{black, first_server}
use Rattle.rfb_server.specs.Model.{StandsFor, with_screen}
use Rattle.rfb_session.specs.declared.language.screen.Screen.{Screen as Size}
use Rattle.rfb.specs.ScriptRun.{serving_of}

-- ---- the first screen

-- the colour that place (x, y) begins with
abbrev pub begun_at : ℕ → ℕ → Colour
begun_at x y = colour_of_bytes (4 * x % 256) (4 * y % 256) (2 * (x + y) % 256)

-- a screen of the size of another, with that colour at each place
abbrev pub pattern : Grid Colour → Grid Colour
pattern old = changed (λ x y before. begun_at x y) old

-- a server that was fed nothing, and whose screen shows that
abbrev pub ShowsScene : Size → Server → Type 0
ShowsScene size server =
    StandsFor (serving_of size) server
    (with_screen (pattern (uniform size.width size.height black)) (first_server (serving_of size)))
    []

-- ---- step n

-- all rows but the last, and the last one
abbrev pub upper_rows : Grid Colour → Rect
upper_rows old = rect 0 0 old.width (old.height - 1)

abbrev pub last_row : Grid Colour → Rect
last_row old = rect 0 (old.height - 1) old.width 1

-- the colour that it gives to the last row
abbrev pub step_colour : ℕ → Colour
step_colour n = colour_of_bytes (255 * (n % 2)) 0 (16 * n % 256)

-- where there is more than one row, all move up by one
abbrev pub moved_up : Grid Colour → Grid Colour
moved_up old = if nat_lt 1 old.height then copied (upper_rows old) 0 1 old else old

-- and then the last one gets its colour
abbrev pub stepped : ℕ → Grid Colour → Grid Colour
stepped n old = filled (last_row old) (step_colour n) (moved_up old)

-- the viewer may be sent the move as a copy
abbrev pub hinted : Grid Colour → List Hint → List Hint
hinted old hints =
    if nat_lt 1 old.height then with_hint (record { to = upper_rows old; sx = 0; sy = 1 }) hints
    else hints
