-- What a viewer is, and what an item of its server's makes of it, RFC 6143 sections 7.3.2 and 7.6.
use Rattle.std.specs.Prelude.{ℕ, ◌<◌, ◌≡◌, Bool, false, List, Option, Some, None, if◌then◌else◌}
use Rattle.rfb_pixel.specs.declared.colour.Colour.{Colour}
use Rattle.rfb_pixel.specs.Format.{PixelFormat}
use Rattle.rfb_picture.specs.Grid.{Grid, uniform}
use Rattle.rfb_wire.specs.declared.encoding.Encoding.{Encoding}
use Rattle.rfb_wire.specs.ServerHead.{SpellsServerCutText}
use Rattle.rfb_wire.specs.stream.Sequel.{First, Second, past_in}
use Rattle.rfb_wire.specs.stream.Both.{event_as}
use Rattle.rfb_wire.specs.stream.End.{Machine}
use Rattle.rfb_codec.specs.UpdateStream.{UpdatePoint, UpdateItem}
use Rattle.rfb_codec.specs.Effect.{effect}
use Rattle.rfb_hello.specs.ServerHandshake.{ServerPoint, AwaitsVersion, AwaitsInit, ServerItem, ProtocolVersion}
use Rattle.rfb_hello.specs.ServerHandshake.{SecurityNone, SecurityTypes, SecurityResult, ServerInit, Name}
use Rattle.rfb_hello.specs.ServerHandshake.{SpellsServerInit, IsAdmitted}
use Rattle.rfb_hello.specs.ViewerEnd.{ViewerSetup, viewer_tells as handshake_tells, AsksForReason}
use Rattle.rfb_viewer.specs.declared.fault.ViewerFault.{ViewerFault}
use Rattle.rfb_viewer.specs.ServerBytes.{ServerAt, FromServer, server_two, server_bytes}
use Rattle.rfb_viewer.specs.Messages.{ready_bytes}
use Rattle.rfb_viewer.specs.Told.{ViewerTold, step_told, is_last, item_told}

-- what a viewer was made with: its end of the handshake, and the format and the encodings that it
-- asks for at its end
pub record Viewing : Type 0 where
  pub hello : ViewerSetup
  pub form : PixelFormat
  pub encodings : List Encoding

-- where the server's bytes are; the picture, once there is a screen; and whether a request is
-- outstanding. The format in force is in the point; before the messages it is the one that the
-- viewer was made with
pub record ViewerState : Type 0 where
  pub point : ServerAt
  pub picture : Option (Grid Colour)
  pub outstanding : Bool

-- ---- what an item makes of it

-- a picture begins black
abbrev pub black : Colour
black = record { r = 0; g = 0; b = 0 }

-- ServerInit makes the screen
abbrev pub screen_after : ServerItem → Option (Grid Colour) → Option (Grid Colour)
screen_after (ProtocolVersion version) picture = picture
screen_after SecurityNone picture = picture
screen_after (SecurityTypes types) picture = picture
screen_after SecurityResult picture = picture
screen_after (ServerInit width height name_length) picture = Some (uniform width height black)
screen_after (Name text) picture = picture

-- an item after the handshake has its effect on the picture, if there is one
abbrev pub effect_on : UpdatePoint → UpdateItem → Option (Grid Colour) → Option (Grid Colour)
effect_on p item None = None
effect_on p item (Some picture) = Some (effect p item picture)

-- an item of the part that the point belongs to changes the picture as that part has it
abbrev pub picture_after : ServerAt → FromServer → Option (Grid Colour) → Option (Grid Colour)
picture_after (First point) (First step) picture = screen_after step picture
picture_after (First point) (Second item) picture = picture
picture_after (Second p) (First step) picture = picture
picture_after (Second p) (Second item) picture = effect_on p item picture

-- the item ends an update
abbrev pub ends_update : ServerAt → FromServer → Bool
ends_update (First point) (First step) = false
ends_update (First point) (Second item) = false
ends_update (Second p) (First step) = false
ends_update (Second p) (Second item) = is_last p item

-- what an item makes of a state: the end of an update answers the request that is outstanding
abbrev pub shows : Viewing → ViewerState → FromServer → ViewerState
shows viewing s item = record {
  point = past_in (server_two viewing.form viewing.hello) s.point item;
  picture = picture_after s.point item s.picture;
  outstanding = if ends_update s.point item then false else s.outstanding;
}

-- ---- what is reported of it

-- an item of the part that the point belongs to is reported as that part has it
abbrev pub told_at : Viewing → ServerAt → FromServer → Option ViewerTold
told_at viewing (First point) (First step) =
    event_as (step_told (ready_bytes viewing.form viewing.encodings))
    (handshake_tells viewing.hello point step)
told_at viewing (First point) (Second item) = None
told_at viewing (Second p) (First step) = None
told_at viewing (Second p) (Second item) = item_told viewing.hello.text_limit p item

abbrev pub viewer_tells : Viewing → ViewerState → FromServer → Option ViewerTold
viewer_tells viewing s item = told_at viewing s.point item

-- ---- the machine

-- a viewer
abbrev pub viewer : Viewing → Machine ViewerState ServerAt FromServer ViewerFault ViewerTold
viewer viewing = record {
  grammar = server_bytes viewing.form viewing.hello;
  point = λ s. s.point;
  act = shows viewing;
  tells = viewer_tells viewing;
}

-- the state of a new viewer: nothing came, there is no screen, nothing is asked
abbrev pub first_viewer : ViewerState
first_viewer = record { point = First AwaitsVersion; picture = None; outstanding = false }

-- ---- where it asks for memory

-- at a good ServerInit for the screen, and for a name that has bytes
abbrev pub AsksForScreen : ℕ → List ℕ → Type 0
AsksForScreen max_places bytes =
    (width height name_length : ℕ) × SpellsServerInit width height name_length bytes
    × IsAdmitted max_places width height

-- in the handshake so, and at the last byte of a reason's length above 0
abbrev pub AsksInHandshake : ViewerSetup → ServerPoint → List ℕ → Type 0
AsksInHandshake setup (AwaitsInit version) bytes = AsksForScreen setup.max_places bytes
AsksInHandshake setup point bytes = AsksForReason point bytes

-- between two messages at the last byte of a text's length above 0
abbrev pub AsksForText : UpdatePoint → List ℕ → Type 0
AsksForText p bytes =
    (p.left ≡ 0) × (text_length : ℕ) × SpellsServerCutText text_length bytes × (0 < text_length)

abbrev pub AsksAt : ViewerSetup → ServerAt → List ℕ → Type 0
AsksAt setup (First point) bytes = AsksInHandshake setup point bytes
AsksAt setup (Second p) bytes = AsksForText p bytes

abbrev pub AsksMemory : Viewing → ViewerState → List ℕ → Type 0
AsksMemory viewing s bytes = AsksAt viewing.hello s.point bytes
