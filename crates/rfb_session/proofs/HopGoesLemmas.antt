-- At most one thing happens to a network: what is reached, and the latest composing.
use Rattle.std.proofs.Common.{◌≡◌, ◌⊎◌, Option, Some, None, inl, inr, refl, sym, ap, subst}
use Rattle.rfb_pixel.specs.declared.colour.Colour.{Colour}
use Rattle.rfb_picture.specs.Grid.{Grid}
use Rattle.rfb_wire.specs.ClientMessage.{ClientMessage}
use Rattle.rfb_viewer.specs.declared.fault.CallFault.{CallFault}
use Rattle.rfb_viewer.specs.Viewer.{ViewerState}
use Rattle.rfb_session.specs.declared.event.Event.{Event}
use Rattle.rfb_session.specs.declared.event.Event.TheVariants.{Fill, Put, Copy, Hint, Request, SetFormat, SetEncodings}
use Rattle.rfb_session.specs.declared.event.Event.TheVariants.{Key, Pointer, CutText, Compose, ToServer, ToViewer}
use Rattle.rfb_session.specs.Link.{Ends, Composing, LinkState}
use Rattle.rfb_session.specs.LinkSteps.{LinkEvent, Request as OfRequest, SetFormat as OfFormat}
use Rattle.rfb_session.specs.LinkSteps.{SetEncodings as OfEncodings, Key as OfKey, Pointer as OfPointer}
use Rattle.rfb_session.specs.LinkSteps.{CutText as OfText, Compose as OfComposing, ToServer as OfServer}
use Rattle.rfb_session.specs.LinkSteps.{ToViewer as OfViewer, LinkSteps, calls}
use Rattle.rfb_session.specs.Network.{Network, Draws, Steps, Goes, IsReached}
use Rattle.rfb_session.proofs.WorldLemmas.{reached_step, reached_stroke}

-- ---- at most one thing happens to a network

pub goes_reached : (e : Ends) (old new : Network) → Goes e old new → IsReached e old → IsReached e new
goes_reached e old new (inl same) r = subst (λ (n : Network). IsReached e n) (sym same) r
goes_reached e old new (inr (inl (event, step))) r = reached_step e old new event r step
goes_reached e old new (inr (inr (s, step))) r = reached_stroke e old new s r step

-- the link stays, or does a step of its own over the screen
pub data Links (e : Ends) (old new : Network) : Type 0 where
  Same : new.link ≡ old.link → Links e old new
  Does : (event : LinkEvent) → LinkSteps e old.screen old.link event new.link → Links e old new

drawn_links : (e : Ends) (Inside : Type 0) (screen : Grid Colour) (old new : Network) →
    Draws Inside screen old new →
    Links e old new
drawn_links e Inside screen old new (inl (inside, is)) = Same (ap (λ (n : Network). n.link) is)
drawn_links e Inside screen old new (inr (outside, is)) = Same (ap (λ (n : Network). n.link) is)

step_links : (e : Ends) (old new : Network) (event : Event) → Steps e old event new → Links e old new
step_links e old new (Fill rect colour) step = drawn_links e _ _ old new step
step_links e old new (Put x y row) step = drawn_links e _ _ old new step
step_links e old new (Copy rect sx sy) step = drawn_links e _ _ old new step
step_links e old new (Hint rect sx sy) step = Same (ap (λ (n : Network). n.link) step)
step_links e old new (Request incremental rect) step = Does (OfRequest incremental rect) step.1
step_links e old new (SetFormat form) step = Does (OfFormat form) step.1
step_links e old new (SetEncodings encodings) step = Does (OfEncodings encodings.items) step.1
step_links e old new (Key down key) step = Does (OfKey down key) step.1
step_links e old new (Pointer buttons x y) step = Does (OfPointer buttons x y) step.1
step_links e old new (CutText text) step = Does (OfText text.items) step.1
step_links e old new Compose step = Does OfComposing step.1
step_links e old new (ToServer count) step = Does (OfServer count) step.1
step_links e old new (ToViewer count) step = Does (OfViewer count) step.1

pub goes_links : (e : Ends) (old new : Network) → Goes e old new → Links e old new
goes_links e old new (inl same) = Same (ap (λ (n : Network). n.link) same)
goes_links e old new (inr (inl (event, step))) = step_links e old new event step
goes_links e old new (inr (inr (s, step))) = drawn_links e _ _ old new step

-- ---- the latest composing

-- it is the one before, or one of the screen
abbrev pub IsNext : Grid Colour → Option Composing → Option Composing → Type 0
IsNext screen before after = (after ≡ before) ⊎ ((c : Composing) × (after ≡ Some c) × (c.screen ≡ screen))

latest_called : (o : Option CallFault) (old new : LinkState) (v : ViewerState) (message : ClientMessage) →
    new ≡ calls o old v message → new.latest ≡ old.latest
latest_called (Some fault) old new v message is = ap (λ (l : LinkState). l.latest) is
latest_called None old new v message is = ap (λ (l : LinkState). l.latest) is

latest_link : (e : Ends) (screen : Grid Colour) (old new : LinkState) (event : LinkEvent) →
    LinkSteps e screen old event new → IsNext screen old.latest new.latest
latest_link e screen old new (OfRequest incremental rect) step = inl (latest_called _ old new _ _ step)
latest_link e screen old new (OfFormat form) step = inl (latest_called _ old new _ _ step)
latest_link e screen old new (OfEncodings encodings) step = inl (latest_called _ old new _ _ step)
latest_link e screen old new (OfKey down key) step = inl (latest_called _ old new _ _ step)
latest_link e screen old new (OfPointer buttons x y) step = inl (latest_called _ old new _ _ step)
latest_link e screen old new (OfText text) step = inl (latest_called _ old new _ _ step)
latest_link e screen old new OfComposing (inl composed) =
    inr (
      record { screen = screen; area = old.session.area; form = old.session.form },
      ap (λ (l : LinkState). l.latest) composed.result,
      refl,
    )
latest_link e screen old new OfComposing (inr idle) = inl (ap (λ (l : LinkState). l.latest) idle.1)
latest_link e screen old new (OfServer count) moves = inl (ap (λ (l : LinkState). l.latest) moves.result)
latest_link e screen old new (OfViewer count) moves = inl (ap (λ (l : LinkState). l.latest) moves.result)

pub goes_latest : (e : Ends) (old new : Network) → Goes e old new →
    IsNext old.screen old.link.latest new.link.latest
goes_latest e old new goes = by (goes_links e old new goes)
  where
    by : Links e old new → IsNext old.screen old.link.latest new.link.latest
    by (Same same) = inl (ap (λ (l : LinkState). l.latest) same)
    by (Does event step) = latest_link e old.screen old.link new.link event step
