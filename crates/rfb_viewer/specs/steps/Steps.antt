-- What a viewer goes on with after a message's head, after a rectangle, and where a handshake tells
-- the screen.
use Rattle.std.specs.Prelude.{ℕ, zero, suc, ◌+◌, ◌*◌, ◌<◌, [], Option, Some, None}
use Rattle.rfb_pixel.specs.declared.colour.Colour.{Colour}
use Rattle.rfb_picture.specs.Grid.{Grid, uniform}
use Rattle.rfb_wire.specs.declared.server_head.ServerHead.{ServerHead}
use Rattle.rfb_wire.specs.declared.server_head.ServerHead.TheVariants.{Update, ColourMap, Bell as BellHead}
use Rattle.rfb_wire.specs.declared.server_head.ServerHead.TheVariants.{CutText as CutTextHead}
use Rattle.rfb_hello.specs.KeptText.{kept_of}
use Rattle.rfb_hello.specs.declared.step.ViewerStep.{ViewerStep}
use Rattle.rfb_hello.specs.declared.step.ViewerStep.TheVariants.{Reply, Screen, Ready}
use Rattle.rfb_viewer.specs.declared.viewer.progress.Progress.{Progress}
use Rattle.rfb_viewer.specs.declared.viewer.progress.Progress.TheVariants.{Head, RectHead, Colours}
use Rattle.rfb_viewer.specs.declared.viewer.progress.Progress.TheVariants.{CutText as CutTextPart}
use Rattle.rfb_viewer.specs.declared.viewer.progress.Request.{Request}
use Rattle.rfb_viewer.specs.declared.viewer.progress.Request.TheVariants.{Answered}
use Rattle.rfb_viewer.specs.Told.{ViewerTold, UpdateDone, Bell, CutText, ColourMapSkipped}
use Rattle.rfb_viewer.specs.Viewer.{black}

-- a message comes next, of which nothing came
abbrev pub at_message : Progress
at_message = Head (record { items = [] })

-- a rectangle's head comes next, of which nothing came, and `more` rectangles follow it
abbrev pub at_rectangle : ℕ → Progress
at_rectangle more = RectHead more (record { items = [] })

-- by how many rectangles are left: the next one's head, or where none is the end of the update
abbrev pub progress_past : ℕ → Progress
progress_past zero = at_message
progress_past (suc more) = at_rectangle more

abbrev pub told_past : ℕ → Option ViewerTold
told_past zero = Some UpdateDone
told_past (suc more) = None

-- the end of an update answers a request
abbrev pub request_past : ℕ → Request → Request
request_past zero request = Answered
request_past (suc more) request = request

-- after a head: what its message ends with, if it has some
abbrev pub progress_after : ℕ → ServerHead → Progress
progress_after text_limit (Update count) = progress_past count
progress_after text_limit (ColourMap first zero) = at_message
progress_after text_limit (ColourMap first (suc more)) = Colours (more * 6 + 5)
progress_after text_limit BellHead = at_message
progress_after text_limit (CutTextHead zero) = at_message
progress_after text_limit (CutTextHead (suc more)) =
    CutTextPart (suc more) more (kept_of text_limit (suc more) [])

-- a head alone may be all of its message
abbrev pub told_after : ServerHead → Option ViewerTold
told_after (Update count) = told_past count
told_after (ColourMap first zero) = Some ColourMapSkipped
told_after (ColourMap first (suc more)) = None
told_after BellHead = Some Bell
told_after (CutTextHead zero) = Some (CutText [] 0)
told_after (CutTextHead (suc more)) = None

abbrev pub request_after : ServerHead → Request → Request
request_after (Update count) request = request_past count request
request_after (ColourMap first count) request = request
request_after BellHead request = request
request_after (CutTextHead text_length) request = request

-- memory is asked for after the head of a text that has bytes
abbrev pub AsksAfter : ServerHead → Type 0
AsksAfter (Update count) = ⊥
AsksAfter (ColourMap first count) = ⊥
AsksAfter BellHead = ⊥
AsksAfter (CutTextHead text_length) = 0 < text_length

-- the screen, black unless there is one
abbrev pub screen_or : ℕ → ℕ → Option (Grid Colour) → Grid Colour
screen_or width height None = uniform width height black
screen_or width height (Some picture) = picture

-- a step of the handshake tells the screen's size
abbrev pub TellsScreen : ViewerStep → Type 0
TellsScreen (Reply reply) = ⊥
TellsScreen step = Unit {0}

-- the screen after it
abbrev pub screen_past : ViewerStep → Option (Grid Colour) → Option (Grid Colour)
screen_past (Reply reply) picture = picture
screen_past (Screen width height) picture = Some (screen_or width height picture)
screen_past (Ready width height version name name_length) picture =
    Some (screen_or width height picture)
