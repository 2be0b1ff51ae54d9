-- A relay that asks for its whole screen each time: what an update answered is all of it.
use Rattle.std.specs.Prelude.{◌≡◌, ◌⊎◌, ℕ, ◌<◌, true, List, [], ◌∷◌, Option, Some, None}
use Rattle.rfb_pixel.specs.declared.colour.Colour.{Colour}
use Rattle.rfb_pixel.specs.Format.{seen_through}
use Rattle.rfb_picture.specs.declared.rect.Rect.{Rect}
use Rattle.rfb_picture.specs.Rect.{contains}
use Rattle.rfb_picture.specs.Grid.{Grid, IsGrid, at_or}
use Rattle.rfb_picture.specs.Area.{asked_at}
use Rattle.rfb_wire.specs.ClientMessage.{SetPixelFormat, SetEncodings, FramebufferUpdateRequest}
use Rattle.rfb_wire.specs.ClientMessage.{KeyEvent, PointerEvent, ClientCutText}
use Rattle.rfb_wire.specs.stream.Sequel.{First, Second}
use Rattle.rfb_server.specs.ClientBytes.{FromClient}
use Rattle.rfb_server.specs.Strokes.{Stroke}
use Rattle.rfb_server.specs.Server.{black}
use Rattle.rfb_session.specs.declared.event.Event.{Event}
use Rattle.rfb_session.specs.declared.event.Event.TheVariants.{Request}
use Rattle.rfb_viewer.specs.declared.viewer.Viewer.{Viewer}
use Rattle.rfb_session.specs.declared.relay.Relay.{Relay}
use Rattle.rfb_session.specs.declared.share.Share.{Share}
use Rattle.rfb_session.specs.HopEnds.{GoesFed, OpensAs, RenewsAs, Becomes}
use Rattle.rfb_session.specs.Hops.{Moment, IsFresh, IsAnswered, ShowsBy, PassesOnBy}
use Rattle.rfb_session.specs.Link.{Ends, Composing, LinkState}
use Rattle.rfb_session.specs.Network.{Network, Steps, Strokes}

-- the rectangle has each place of the server's screen
abbrev pub Covers : Ends → Rect → Type 0
Covers e rect =
    (x y : ℕ) → x < e.serving.hello.width → y < e.serving.hello.height → contains rect x y ≡ true

-- an event is no request, or it asks for all
abbrev pub AsksAll : Ends → Event → Type 0
AsksAll e (Request incremental rect) = Covers e rect
AsksAll e event = Unit {0}

-- at most one thing happens to a network, and none that asks for less
abbrev pub GoesForAll : Ends → Network → Network → Type 0
GoesForAll e old new =
    (new ≡ old) ⊎ ((event : Event) × AsksAll e event × Steps e old event new)
    ⊎ ((s : Stroke) × Strokes s old new)

-- so it is of what a relay does on its first hop: as its viewer is fed, as its share opens, as another server's viewer
-- is shown there, and from one moment to the next
pub record FedForAll (e : Ends) (old : Network) (viewer : Viewer) (has to_server to_viewer : List ℕ)
    : Type 0 where
  pub goes : GoesFed e old viewer has to_server to_viewer
  pub for_all : GoesForAll e old goes.next

pub record OpensForAll (e : Ends) (old : Network) (share : Share) (has to_server to_viewer : List ℕ)
    : Type 0 where
  pub opens : OpensAs e old share has to_server to_viewer
  pub for_all : GoesForAll e old opens.next

pub record RenewsForAll (e f : Ends) (m : Moment) (n : Network) (share : Share)
    (has to_server to_viewer : List ℕ) (k : ℕ) (viewer : Viewer) (sends gets : List ℕ)
    : Type 0 where
  pub renews : RenewsAs e f m n share has to_server to_viewer k viewer sends gets
  pub for_all : GoesForAll e n renews.next.above

pub record BecomesForAll (e f : Ends) (m : Moment) (share : Share) (has to_server to_viewer : List ℕ)
    (k : ℕ) (viewer : Viewer) (sends gets : List ℕ) : Type 0 where
  pub becomes : Becomes e f m share has to_server to_viewer k viewer sends gets
  pub for_all : GoesForAll e m.above becomes.next.above

module _ {S : Type 0} where
  -- the handshake of a relay's viewer is done, and it has asked
  pub record BeginsForAll (e : Ends) (old : Network) (relay : Relay S) (has to_server to_viewer : List ℕ)
      : Type 0 where
    pub asked : Viewer
    pub coming : relay.coming ≡ Some asked
    pub mid : Network
    pub hears : GoesForAll e old mid
    pub goes : GoesFed e mid asked has to_server to_viewer
    pub asks : GoesForAll e mid goes.next

-- the requests among these items ask for all
abbrev pub AreForAll : Ends → List FromClient → Type 0
AreForAll e [] = Unit {0}
AreForAll e (First step ∷ items) = AreForAll e items
AreForAll e (Second (SetPixelFormat form) ∷ items) = AreForAll e items
AreForAll e (Second (SetEncodings numbers) ∷ items) = AreForAll e items
AreForAll e (Second (FramebufferUpdateRequest incremental rect) ∷ items) =
    Covers e rect × AreForAll e items
AreForAll e (Second (KeyEvent down key) ∷ items) = AreForAll e items
AreForAll e (Second (PointerEvent buttons x y) ∷ items) = AreForAll e items
AreForAll e (Second (ClientCutText text) ∷ items) = AreForAll e items

-- the latest update answered each place of its screen
abbrev pub AnswersAll : LinkState → Type 0
AnswersAll l =
    (c : Composing) → l.latest ≡ Some c →
    (x y : ℕ) → x < c.screen.width → y < c.screen.height → asked_at c.area x y ≡ true

-- so it is of those on their way; the server was asked for all since its latest update, or for
-- nothing; and that update answered all
pub record HasAskedAll (e : Ends) (l : LinkState) : Type 0 where
  pub requests : AreForAll e l.to_server
  pub whole : IsGrid l.session.area.asked
  pub wide : l.session.area.asked.width ≡ e.serving.hello.width
  pub high : l.session.area.asked.height ≡ e.serving.hello.height
  pub some : (x y u v : ℕ) → asked_at l.session.area u v ≡ true →
      x < e.serving.hello.width → y < e.serving.hello.height → asked_at l.session.area x y ≡ true
  pub latest : AnswersAll l

-- so did the latest one at each of these moments
abbrev pub AllAnswerAll : List Moment → Type 0
AllAnswerAll [] = Unit {0}
AllAnswerAll (m ∷ earlier) = AnswersAll m.above.link × AllAnswerAll earlier

-- the server had composed an update, its latest then, and the relay now shows all of its screen of
-- that time, through its format
abbrev pub ShowsAll : Moment → Moment → List Moment → Type 0
ShowsAll now m earlier =
    (c : Composing) × (m.above.link.latest ≡ Some c) × IsFresh now c
    × ((x y : ℕ) (d : Colour) → x < c.screen.width → y < c.screen.height →
    at_or now.screen x y d ≡ seen_through c.form (at_or c.screen x y black))

-- at each place of the server's screen that the second answered, the picture is that screen, seen
-- through both formats
abbrev pub ShowsAllTwice : Composing → Composing → Option (Grid Colour) → Type 0
ShowsAllTwice first second None = ⊥
ShowsAllTwice first second (Some picture) =
    (x y : ℕ) (d : Colour) → x < first.screen.width → y < first.screen.height →
    IsAnswered second x y →
    at_or picture x y d
    ≡ seen_through second.form (seen_through first.form (at_or first.screen x y black))

-- the same as `ShowsThrough` and `IsPassedOn` say, of all of the server's screen
abbrev pub ShowsAllThrough : Composing → Option (Grid Colour) → Moment → Moment → List Moment →
    Type 0
ShowsAllThrough second due now m earlier = ShowsBy ShowsAllTwice second due now m earlier

abbrev pub IsAllPassedOn : Composing → Option (Grid Colour) → Moment → List Moment → Type 0
IsAllPassedOn second due m earlier = PassesOnBy ShowsAllTwice second due m earlier
