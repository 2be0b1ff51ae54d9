-- When a session has been notified of all that was drawn on the screen that it borrows.
use Rattle.std.specs.Prelude.{◌≡◌, ℕ, ◌<◌, Bool, false, Option, Some, None}
use Rattle.std.specs.Option.{ForSome}
use Rattle.rfb_pixel.specs.declared.colour.Colour.{Colour}
use Rattle.rfb_pixel.specs.Format.{PixelFormat}
use Rattle.rfb_picture.specs.declared.rect.Rect.{Rect}
use Rattle.rfb_picture.specs.Rect.{contains}
use Rattle.rfb_picture.specs.Grid.{Grid, IsGrid, at_or, copied}
use Rattle.rfb_picture.specs.Box.{is_in}
use Rattle.rfb_picture.specs.Area.{Places, whole_at}
use Rattle.rfb_codec.specs.Effect.{IsAlike}
use Rattle.rfb_server.specs.declared.session.Session.{Session}
use Rattle.rfb_server.specs.Server.{black}
use Rattle.rfb_server.specs.Request.{wanted_at}
use Rattle.rfb_server.specs.Claims.{IsClaimed}
use Rattle.rfb_server.specs.declared.hint.Hint.{Hint}
use Rattle.rfb_server.specs.declared.drawing.notice.Notice.{Notice}

-- a place that is not marked is known to have the wanted pixel, and is not whole
pub record IsCaughtUp (screen : Grid Colour) (known : Grid (Option ℕ)) (area : Places)
    (form : PixelFormat) (marks : Grid Bool) : Type 0 where
  pub right : (x y : ℕ) → x < marks.width → y < marks.height → is_in marks x y ≡ false →
      at_or known x y None ≡ Some (wanted_at screen form x y)
  pub not_whole : (x y : ℕ) → x < marks.width → y < marks.height → is_in marks x y ≡ false →
      whole_at area x y ≡ false

-- a session follows a screen: it is about places of that size, and wherever the screen may differ
-- from what its viewer was last sent, it was notified
pub record Follows (screen : Grid Colour) (session : Session) : Type 0 where
  pub whole : IsGrid screen
  pub alike : IsAlike screen session.known
  pub caught_up : IsCaughtUp screen session.known session.area session.format session.marks
  pub claimed : IsClaimed screen session.known session.format session.claim

-- both pictures have the same colours outside the rectangle
pub record IsSameOutside (rect : Rect) (before after : Grid Colour) : Type 0 where
  pub columns : after.width ≡ before.width
  pub rows : after.height ≡ before.height
  pub same : (x y : ℕ) → x < before.width → y < before.height → contains rect x y ≡ false →
      at_or after x y black ≡ at_or before x y black

-- where a drawing is told as a copy, it is that
abbrev pub IsCopied : Option Hint → Grid Colour → Grid Colour → Type 0
IsCopied told before after =
    ForSome told (λ copy. after ≡ copied copy.to copy.sx copy.sy before)

-- a screen becomes another as a notice says of it
pub record IsTold (notice : Notice) (before after : Grid Colour) : Type 0 where
  pub whole : IsGrid after
  pub outside : IsSameOutside notice.area before after
  pub copied : IsCopied notice.copy before after
