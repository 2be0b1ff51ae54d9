-- A copy of what a copy brought: what was claimed of its source is claimed of it.
use Rattle.std.proofs.Common.{◌≡◌, ℕ, ◌+◌, ◌-◌, ◌<◌, ◌≤◌, true, false, Some, None, arith}
use Rattle.rfb_pixel.specs.declared.colour.Colour.{Colour}
use Rattle.rfb_picture.specs.Rect.{contains}
use Rattle.rfb_picture.specs.Grid.{Grid, Holds, at_or, copied}
use Rattle.rfb_codec.specs.RectData.{moved_to}
use Rattle.rfb_picture.proofs.GridLaws.{contains_row}
use Rattle.rfb_server.specs.declared.claim.Claim.{Claim}
use Rattle.rfb_server.specs.declared.session.Session.{Session}
use Rattle.rfb_server.specs.declared.hint.Hint.{Hint}
use Rattle.rfb_server.specs.Claims.{IsTrue, IsCopiedOn, is_stale, is_claimed}
use Rattle.rfb_server.specs.Request.{wanted_at}
use Rattle.rfb_server.specs.KnownScreen.{Follows}
use Rattle.rfb_server.proofs.ClaimLemmas.{claimed_row, row_claimed, drawn_there}

module _ (session : Session) (before after : Grid Colour) (copy : Hint) (claim next : Claim)
    (follows : Follows before session) (is : after ≡ copied copy.to copy.sx copy.sy before)
    (target : Holds session.known copy.to) (source : Holds session.known (moved_to copy.sx copy.sy copy.to))
    (claimed : IsTrue before session.known session.format claim) (on : IsCopiedOn copy claim next) where
  -- a place whose row counts shows what its source did; the claim says where that is
  shown : (x y : ℕ) → next.to.x ≤ x → x < next.to.x + next.to.w → is_claimed next y ≡ true →
      at_or session.known (next.sx + (x - next.to.x)) (next.sy + (y - next.to.y)) None
      ≡ Some (wanted_at after session.format x y)
  shown x y left right counts =
      let (above, below, fresh) = claimed_row next y counts in
      let wide = on.columns in
      let high = on.rows in
      let far : copy.to.x ≤ x = omega (arith, wide) in
      let near : x < copy.to.x + copy.to.w = omega (arith, wide) in
      let top : copy.to.y ≤ y = omega (arith, high) in
      let bottom : y < copy.to.y + copy.to.h = omega (arith, high) in
      let u = copy.sx + (x - copy.to.x) in
      let v = copy.sy + (y - copy.to.y) in
      let inside : contains copy.to x y ≡ true = contains_row copy.to x y far near top bottom in
      let drawn = drawn_there session before after copy x y follows is target source inside in
      let low : y < 65535 = omega (arith, target.1, bottom, session.alike.rows) in
      let was : is_stale claim.stale v ≡ false = on.fresh v y (omega (arith, top)) low fresh in
      let a : claim.to.x ≤ u = omega (arith, on.left) in
      let b : u < claim.to.x + claim.to.w = omega (arith, on.right, near, far) in
      let c : claim.to.y ≤ v = omega (arith, on.top, above, top) in
      let d : v < claim.to.y + claim.to.h = omega (arith, on.bottom, below, top) in
      let known : at_or session.known (claim.sx + (u - claim.to.x)) (claim.sy + (v - claim.to.y)) None
      ≡ Some (wanted_at before session.format u v) = claimed.shown u v a b (row_claimed claim v c d was) in
      let column : next.sx + (x - next.to.x) ≡ claim.sx + (u - claim.to.x) = omega (arith, on.column, wide, a, far) in
      let row : next.sy + (y - next.to.y) ≡ claim.sy + (v - claim.to.y) = omega (arith, on.row, above, c, top) in
      rw (column, row, drawn) known

  -- so what a claim says of a copy's source is true of the copy
  pub copied_on_claimed : IsTrue after session.known session.format next
  copied_on_claimed = record {
    target = (omega (arith, on.columns, target.0), omega (arith, on.rows, target.1));
    source = (
      omega (arith, on.columns, on.column, on.left, on.right, claimed.source.0),
      omega (arith, on.row, on.top, on.bottom, on.rows, claimed.source.1),
    );
    shown = shown;
  }
