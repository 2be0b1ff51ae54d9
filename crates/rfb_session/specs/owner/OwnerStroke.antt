-- What is drawn on a share for its owner's lines.
use Rattle.std.specs.Prelude.{◌≡◌, Bool, true, false, Option, Some, None}
use Rattle.rfb_server.specs.Strokes.{Stroke}
use Rattle.rfb_server.specs.Strokes.{Fill as OneFill, Copy as OneCopy, Hint as OneHint}
use Rattle.rfb_server.specs.Strokes.{Scroll as OneScroll}
use Rattle.rfb_session.specs.declared.share.Share.{Share}
use Rattle.rfb_session.specs.Share.{canvas_of}
use Rattle.rfb_session.specs.ShareScreen.{IsOnCanvas}
use Rattle.rfb_session.specs.ShareSteps.{DrawsOn}
use Rattle.rfb_session.specs.declared.owner.order.OwnerLine.{OwnerLine}
use Rattle.rfb_session.specs.declared.owner.order.OwnerLine.TheVariants.{Screen, Fill, Copy, Hint}
use Rattle.rfb_session.specs.declared.owner.order.OwnerLine.TheVariants.{Scroll, Pixels, End, Hold, Show, Quit}

-- the drawing or the hint that a line with no pixels is, if it is one
abbrev pub stroke_of : OwnerLine → Option Stroke
stroke_of (Fill rect colour) = Some (OneFill rect colour)
stroke_of (Copy rect sx sy) = Some (OneCopy rect sx sy)
stroke_of (Hint rect sx sy) = Some (OneHint rect sx sy)
stroke_of (Scroll rect dx dy) = Some (OneScroll rect dx dy)
stroke_of (Screen size) = None
stroke_of (Pixels rect) = None
stroke_of (End seat) = None
stroke_of Hold = None
stroke_of Show = None
stroke_of Quit = None

-- a drawing is done; or it leaves the canvas, or there is none, or it has not one colour for each of its places, and
-- nothing has changed
pub data DrawsOne (old : Share) (s : Stroke) (new : Share) : Bool → Type 0 where
  Drawn : DrawsOn old s new → DrawsOne old s new true
  Outside : (IsOnCanvas (canvas_of old) s → ⊥) → new ≡ old → DrawsOne old s new false
