-- A world: one screen, and one link over it.
use Rattle.std.specs.Prelude.{◌≡◌, List, [], ◌∷◌, length, ◌⊎◌}
use Rattle.rfb_pixel.specs.declared.colour.Colour.{Colour}
use Rattle.rfb_picture.specs.Grid.{Grid, Holds, filled, copied, with_row}
use Rattle.rfb_server.specs.Strokes.{Stroke, IsInside, drawn_by}
use Rattle.rfb_server.specs.Model.{row_from, HoldsBoth}
use Rattle.rfb_session.specs.declared.event.Event.{Event}
use Rattle.rfb_session.specs.declared.event.Event.TheVariants.{Fill, Put, Copy, Hint, Request}
use Rattle.rfb_session.specs.declared.event.Event.TheVariants.{SetFormat, SetEncodings, Key}
use Rattle.rfb_session.specs.declared.event.Event.TheVariants.{Pointer, CutText, Compose, ToServer}
use Rattle.rfb_session.specs.declared.event.Event.TheVariants.{ToViewer}
use Rattle.rfb_session.specs.Link.{Ends, LinkState, first_link}
use Rattle.rfb_session.specs.LinkSteps.{LinkEvent, Request as OfRequest, SetFormat as OfFormat}
use Rattle.rfb_session.specs.LinkSteps.{SetEncodings as OfEncodings, Key as OfKey}
use Rattle.rfb_session.specs.LinkSteps.{Pointer as OfPointer, CutText as OfText}
use Rattle.rfb_session.specs.LinkSteps.{Compose as OfComposing, ToServer as OfServer}
use Rattle.rfb_session.specs.LinkSteps.{ToViewer as OfViewer, LinkSteps}

pub record Network : Type 0 where
  pub screen : Grid Colour
  pub link : LinkState

-- ---- one step

-- a drawing changes the screen where all that it needs lies on it, and else nothing
abbrev pub Draws : Type 0 → Grid Colour → Network → Network → Type 0
Draws Inside screen old new =
    (Inside × (new ≡ record old { screen = screen })) ⊎ ((Inside → ⊥) × (new ≡ old))

-- the link does a step over the screen, which stays
abbrev pub OnLink : Ends → LinkEvent → Network → Network → Type 0
OnLink e event old new = (new.screen ≡ old.screen) × LinkSteps e old.screen old.link event new.link

-- a hint changes nothing: what is made of it is a composing's choice
abbrev pub Steps : Ends → Network → Event → Network → Type 0
Steps e old (Fill rect colour) new =
    Draws (Holds old.screen rect) (filled rect colour old.screen) old new
Steps e old (Put x y row) new =
    Draws (Holds old.screen (row_from x y (length row.items)))
    (with_row x y row.items old.screen) old new
Steps e old (Copy rect sx sy) new =
    Draws (HoldsBoth old.screen rect sx sy) (copied rect sx sy old.screen) old new
Steps e old (Hint rect sx sy) new = new ≡ old
Steps e old (Request incremental rect) new = OnLink e (OfRequest incremental rect) old new
Steps e old (SetFormat form) new = OnLink e (OfFormat form) old new
Steps e old (SetEncodings encodings) new = OnLink e (OfEncodings encodings.items) old new
Steps e old (Key down key) new = OnLink e (OfKey down key) old new
Steps e old (Pointer buttons x y) new = OnLink e (OfPointer buttons x y) old new
Steps e old (CutText text) new = OnLink e (OfText text.items) old new
Steps e old Compose new = OnLink e OfComposing old new
Steps e old (ToServer count) new = OnLink e (OfServer count) old new
Steps e old (ToViewer count) new = OnLink e (OfViewer count) old new

-- a drawing of the owner's that is no event; a hint changes nothing
abbrev pub Strokes : Stroke → Network → Network → Type 0
Strokes s old new = Draws (IsInside old.screen s) (drawn_by s old.screen) old new

-- ---- runs

-- the steps of events one after another
abbrev pub StepsAll : Ends → Network → List Event → Network → Type 0
StepsAll e old [] new = new ≡ old
StepsAll e old (event ∷ events) new =
    (mid : Network) × Steps e old event mid × StepsAll e mid events new

-- a fresh world: a screen of the size that the server gives, whatever was drawn on it, and a fresh
-- link
pub record IsFirst (e : Ends) (n : Network) : Type 0 where
  pub width : n.screen.width ≡ e.serving.hello.width
  pub height : n.screen.height ≡ e.serving.hello.height
  pub link : n.link ≡ first_link e

-- one thing happens: an event, or a drawing
abbrev pub Moves : Ends → Network → Network → Type 0
Moves e old new = ((event : Event) × Steps e old event new) ⊎ ((s : Stroke) × Strokes s old new)

-- at most one thing happens
abbrev pub Goes : Ends → Network → Network → Type 0
Goes e old new = (new ≡ old) ⊎ Moves e old new

-- such things lead from one network to another
pub data Leads (e : Ends) (old : Network) : Network → Type 0 where
  Still : Leads e old old
  Then : (mid new : Network) → Leads e old mid → Moves e mid new → Leads e old new

-- some events and drawings lead there from a fresh world
pub record IsReached (e : Ends) (n : Network) : Type 0 where
  pub first : Network
  pub is_first : IsFirst e first
  pub leads : Leads e first n
