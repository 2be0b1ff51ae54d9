-- Two hops: a relay has a viewer of a server, and shows the picture of that to a viewer of its own.
-- What becomes of both is said moment by moment.
use Rattle.std.specs.Prelude.{◌≡◌, ◌⊎◌, ℕ, ◌<◌, true, false, List, [], ◌∷◌, ◌++◌, length}
use Rattle.std.specs.Prelude.{Option, Some, None}
use Rattle.rfb_pixel.specs.declared.colour.Colour.{Colour}
use Rattle.rfb_pixel.specs.Format.{seen_through}
use Rattle.rfb_picture.specs.Grid.{Grid, at_or}
use Rattle.rfb_picture.specs.Area.{asked_at}
use Rattle.rfb_wire.specs.stream.Sequel.{Second}
use Rattle.rfb_codec.specs.UpdateStream.{UpdatePoint}
use Rattle.rfb_server.specs.Server.{black}
use Rattle.rfb_viewer.specs.ShownPieces.{Shows}
use Rattle.rfb_session.specs.Headline.{AnswersSome, ShowsComposing}
use Rattle.rfb_session.specs.Link.{Ends, Composing, LinkState}
use Rattle.rfb_session.specs.Network.{Network, Goes, IsFirst, IsReached}

-- the server's screen and its link with the relay's viewer; the relay's screen; and, once the relay
-- has a viewer, that viewer's link over this screen
pub record Moment : Type 0 where
  pub above : Network
  pub screen : Grid Colour
  pub below : Option LinkState

-- the relay's screen with a link over it
abbrev pub over : Grid Colour → LinkState → Network
over screen link = record { screen = screen; link = link }

-- ---- from one moment to the next

-- the relay's screen is what its viewer shows, by the bytes that came of the server's next item
pub record IsSeen (m : Moment) : Type 0 where
  pub has : List ℕ
  pub count : length has ≡ m.above.link.at_viewer
  pub shows : Shows m.above.link.viewer has (Some m.screen)

-- nobody comes, or a viewer does, and its link is fresh; or it leaves, or its link goes on and the
-- screen under it
abbrev pub GoesBelow : Ends → Grid Colour → Option LinkState → Grid Colour → Option LinkState →
    Type 0
GoesBelow e before None after None = Unit {0}
GoesBelow e before None after (Some new) = IsFirst e (over after new)
GoesBelow e before (Some old) after None = Unit {0}
GoesBelow e before (Some old) after (Some new) = Goes e (over before old) (over after new)

-- at most one thing happens on each hop: `e` is of the server and the relay's viewer, `f` of the
-- relay's session and its viewer
pub record GoesTo (e f : Ends) (old new : Moment) : Type 0 where
  pub above : Goes e old.above new.above
  pub seen : IsSeen new
  pub below : GoesBelow f old.screen old.below new.screen new.below

-- an update of a server's has come whole, and no request is out
pub record HasUpdate (e : Ends) (n : Network) : Type 0 where
  pub reached : IsReached e n
  pub quiet : n.link.viewer.outstanding ≡ false
  pub some : AnswersSome n.link.latest

-- so it is when a relay opens; it shows what its viewer does, and nobody has come
pub record Opens (e : Ends) (m : Moment) : Type 0 where
  pub update : HasUpdate e m.above
  pub seen : IsSeen m
  pub none : m.below ≡ None

-- so it is too when the viewer of a server takes the place of another's, whatever became of that
pub record Renews (e f : Ends) (old new : Moment) : Type 0 where
  pub update : HasUpdate e new.above
  pub seen : IsSeen new
  pub below : GoesBelow f old.screen old.below new.screen new.below

-- the moments of a relay since it opened, the latest first; `e` is of its latest server
abbrev pub IsRun : Ends → Ends → List Moment → Type 0
IsRun e f [] = ⊥
IsRun e f (m ∷ []) = Opens e m
IsRun e f (m ∷ before ∷ earlier) =
    (GoesTo e f before m × IsRun e f (before ∷ earlier))
    ⊎ (Renews e f before m × ((other : Ends) × IsRun other f (before ∷ earlier)))

-- ---- what is said of moments

-- at one of these moments it was so, of it and of those before it
pub record Once (moments : List Moment) (P : Moment → List Moment → Type 0) : Type 0 where
  pub moment : Moment
  pub later : List Moment
  pub earlier : List Moment
  pub is_of : moments ≡ later ++ moment ∷ earlier
  pub so : P moment earlier

-- the relay's viewer is between two messages
pub record IsBetween (m : Moment) : Type 0 where
  pub point : UpdatePoint
  pub at : m.above.link.viewer.point ≡ Second point
  pub none_left : point.left ≡ 0
  pub none_came : m.above.link.at_viewer ≡ 0

-- where nothing is on its way to the relay it is the server's latest composing
abbrev pub IsFresh : Moment → Composing → Type 0
IsFresh m c = m.above.link.to_viewer ≡ [] → m.above.link.latest ≡ Some c

-- the server had composed an update, its latest then, and the relay now shows its screen of that
-- time over the area that it answered, through its format
abbrev pub ShowsServers : Moment → Moment → List Moment → Type 0
ShowsServers now m earlier =
    (c : Composing) × (m.above.link.latest ≡ Some c) × ShowsComposing c now.screen × IsFresh now c

-- a place that a composing answered
abbrev pub IsAnswered : Composing → ℕ → ℕ → Type 0
IsAnswered c x y = (x < c.screen.width) × (y < c.screen.height) × (asked_at c.area x y ≡ true)

-- at each place that both answered, the picture is the server's screen at its composing, seen
-- through the format of the first hop and then through that of the second
abbrev pub ShowsTwice : Composing → Composing → Option (Grid Colour) → Type 0
ShowsTwice first second None = ⊥
ShowsTwice first second (Some picture) =
    (x y : ℕ) (d : Colour) → IsAnswered first x y → IsAnswered second x y →
    at_or picture x y d
    ≡ seen_through second.form (seen_through first.form (at_or first.screen x y black))

-- the server had composed an update, its latest then. Of it, of one that the relay composes now and
-- of the picture that is due this is so
abbrev pub ShowsBy : (Composing → Composing → Option (Grid Colour) → Type 0) → Composing →
    Option (Grid Colour) → Moment → Moment → List Moment → Type 0
ShowsBy twice second due now m earlier =
    (first : Composing) × (m.above.link.latest ≡ Some first) × twice first second due
    × IsFresh now first

-- an update was composed of the relay's screen at that moment. Where the relay's viewer was between
-- two messages then, the server had composed one before; and `twice` holds of both, and of the
-- picture that is due
pub record PassesOnBy (twice : Composing → Composing → Option (Grid Colour) → Type 0)
    (second : Composing) (due : Option (Grid Colour)) (m : Moment) (earlier : List Moment)
    : Type 0 where
  pub screen : second.screen ≡ m.screen
  pub shows : IsBetween m → Once (m ∷ earlier) (λ at before. ShowsBy twice second due m at before)

-- the picture shows both, over the area that both answered
abbrev pub ShowsThrough : Composing → Option (Grid Colour) → Moment → Moment → List Moment → Type 0
ShowsThrough second due now m earlier = ShowsBy ShowsTwice second due now m earlier

abbrev pub IsPassedOn : Composing → Option (Grid Colour) → Moment → List Moment → Type 0
IsPassedOn second due m earlier = PassesOnBy ShowsTwice second due m earlier
