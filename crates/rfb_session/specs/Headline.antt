-- What a viewer shows once all has arrived, RFC 6143 section 7.6.1: what its server knows it to
-- show.
use Rattle.std.specs.Prelude.{◌≡◌, ℕ, ◌<◌, [], true, Option, Some, None}
use Rattle.rfb_pixel.specs.declared.colour.Colour.{Colour}
use Rattle.rfb_pixel.specs.Format.{PixelFormat, seen_through}
use Rattle.rfb_picture.specs.Grid.{Grid, at_or}
use Rattle.rfb_picture.specs.Area.{asked_at}
use Rattle.rfb_wire.specs.stream.End.{acts}
use Rattle.rfb_wire.specs.stream.Sequel.{Second}
use Rattle.rfb_codec.specs.UpdateStream.{UpdatePoint}
use Rattle.rfb_codec.specs.Effect.{Agrees}
use Rattle.rfb_server.specs.Server.{black}
use Rattle.rfb_viewer.specs.Viewer.{viewer}
use Rattle.rfb_session.specs.Link.{Ends, Composing, LinkState}

-- the due picture: what the viewer shows once all that is in flight to it has reached it
abbrev pub due_picture : Ends → LinkState → Option (Grid Colour)
due_picture e l = (acts (viewer e.viewing) l.viewer l.to_viewer).picture

-- nothing is known of any place
abbrev pub IsUnknown : Grid (Option ℕ) → Type 0
IsUnknown known = (x y : ℕ) → at_or known x y None ≡ None

-- wherever it is known what the viewer has, the picture has that; before there is one nothing is
-- known
abbrev pub ShowsKnown : PixelFormat → Grid (Option ℕ) → Option (Grid Colour) → Type 0
ShowsKnown form known None = IsUnknown known
ShowsKnown form known (Some picture) = Agrees form picture known

-- at each place that a composing answered, the picture is the screen of that time, seen through the
-- format of that time
abbrev pub ShowsComposing : Composing → Grid Colour → Type 0
ShowsComposing c picture =
    (x y : ℕ) (d : Colour) → x < c.screen.width → y < c.screen.height →
    asked_at c.area x y ≡ true →
    at_or picture x y d ≡ seen_through c.form (at_or c.screen x y black)

-- the same of the latest one, if there was one; then there is a picture
abbrev pub ShowsLatest : Option Composing → Option (Grid Colour) → Type 0
ShowsLatest None picture = Unit {0}
ShowsLatest (Some c) None = ⊥
ShowsLatest (Some c) (Some picture) = ShowsComposing c picture

-- there is a latest composing, and it answered a place of its screen
abbrev pub AnswersSome : Option Composing → Type 0
AnswersSome None = ⊥
AnswersSome (Some c) =
    (x y : ℕ) × (x < c.screen.width) × (y < c.screen.height) × (asked_at c.area x y ≡ true)

-- what holds of a link at all times
pub record IsHeadline (e : Ends) (l : LinkState) : Type 0 where
  -- known places agree with the due picture
  pub known : ShowsKnown l.session.form l.session.known (due_picture e l)
  -- over the area of the latest update the due picture is the screen at that composing
  pub latest : ShowsLatest l.latest (due_picture e l)
  -- while an update is in flight both ends have one format
  pub agreed : (p : UpdatePoint) → l.viewer.point ≡ Second p → (l.to_viewer ≡ [] → ⊥) →
      p.form ≡ l.session.form
