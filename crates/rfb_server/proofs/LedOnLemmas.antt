-- A copy that the viewer made: what was claimed of what it copied is claimed of where that lies now.
use Rattle.std.proofs.Common.{◌≡◌, ℕ, ◌+◌, ◌-◌, ◌<◌, ◌≤◌, Bool, true, false, Option, Some, None}
use Rattle.std.proofs.Common.{◌∙◌, inl, inr, refl, arith}
use Rattle.std.specs.Option.{ForSome}
use Rattle.std.proofs.lemmas.Bool.{both_ways}
use Rattle.rfb_pixel.specs.declared.colour.Colour.{Colour}
use Rattle.rfb_pixel.specs.Format.{PixelFormat}
use Rattle.rfb_picture.specs.Rect.{contains}
use Rattle.rfb_picture.specs.Grid.{Grid, IsGrid, Holds, at_or, copied}
use Rattle.rfb_codec.specs.RectData.{moved_to}
use Rattle.rfb_picture.proofs.CopyLaws.{at-copied}
use Rattle.rfb_picture.proofs.GridLaws.{contains_row, width-changed, height-changed}
use Rattle.rfb_server.specs.declared.claim.Claim.{Claim}
use Rattle.rfb_server.specs.declared.hint.Hint.{Hint}
use Rattle.rfb_server.specs.declared.session.Session.{Session}
use Rattle.rfb_server.specs.KnownScreen.{Follows}
use Rattle.rfb_server.specs.update.Copies.{FollowsHint}
use Rattle.rfb_server.specs.Claims.{IsTrue, IsClaimed, IsLedBy, IsLedOn, IsApartFrom, is_stale, is_claimed}
use Rattle.rfb_server.specs.Request.{wanted_at}
use Rattle.rfb_server.proofs.ClaimLemmas.{claimed_row, row_claimed}

module _ (screen : Grid Colour) (known now : Grid (Option ℕ)) (form : PixelFormat) (hint : Hint) (claim : Claim)
    (whole : IsGrid known) (is : now ≡ copied hint.to hint.sx hint.sy known)
    (target : Holds known hint.to) (source : Holds known (moved_to hint.sx hint.sy hint.to))
    (claimed : IsTrue screen known form claim) where
  columns : now.width ≡ known.width
  columns = rw is (width-changed _ known)

  rows : now.height ≡ known.height
  rows = rw is (height-changed _ known)

  -- its sources lie where the hint copies to
  by_led : (next : Claim) → IsLedBy hint claim next → IsTrue screen now form next
  by_led next led = record {
    target = (
      rw columns (omega (arith, led.columns, claimed.target.0)),
      rw rows (omega (arith, led.rows, claimed.target.1)),
    );
    source = (
      rw columns (omega (arith, led.columns, led.column, led.left, led.right, target.0)),
      rw rows (omega (arith, led.row, led.top, led.bottom, led.rows, target.1)),
    );
    shown = shown;
  }
    where
      shown : (x y : ℕ) → next.to.x ≤ x → x < next.to.x + next.to.w → is_claimed next y ≡ true →
          at_or now (next.sx + (x - next.to.x)) (next.sy + (y - next.to.y)) None ≡ Some (wanted_at screen form x y)
      shown x y left right counts =
          let (above, below, fresh) = claimed_row next y counts in
          let wide = led.columns in
          let high = led.rows in
          let a : claim.to.x ≤ x = omega (arith, wide) in
          let b : x < claim.to.x + claim.to.w = omega (arith, wide) in
          let c : claim.to.y ≤ y = omega (arith, high) in
          let d : y < claim.to.y + claim.to.h = omega (arith, high) in
          let was : is_stale claim.stale y ≡ false = rw (led.stale) at fresh in
          let u = next.sx + (x - next.to.x) in
          let v = next.sy + (y - next.to.y) in
          let e : hint.to.x ≤ u = omega (arith, led.column, led.left, wide) in
          let f : u < hint.to.x + hint.to.w = omega (arith, led.column, led.left, led.right, wide) in
          let g : hint.to.y ≤ v = omega (arith, led.row, led.top) in
          let h : v < hint.to.y + hint.to.h = omega (arith, led.row, led.top, led.bottom, below) in
          let inside : contains hint.to u v ≡ true = contains_row hint.to u v e f g h in
          let moved : at_or now u v None ≡ at_or known (hint.sx + (u - hint.to.x)) (hint.sy + (v - hint.to.y)) None =
          rw is
          (at-copied hint.to hint.sx hint.sy known u v None whole source
          (omega (arith, target.0, f)) (omega (arith, target.1, h))
          ∙ (rw inside refl)) in
          let column : hint.sx + (u - hint.to.x) ≡ claim.sx + (x - claim.to.x) =
          omega (arith, led.column, led.left, wide, a, left) in
          let row : hint.sy + (v - hint.to.y) ≡ claim.sy + (y - claim.to.y) =
          omega (arith, led.row, led.top, c, above) in
          rw (moved, column, row) (claimed.shown x y a b (row_claimed claim y c d was))

  -- the hint copies to none of its sources
  by_apart : IsApartFrom hint claim → IsTrue screen now form claim
  by_apart apart = record {
    target = (rw columns claimed.target.0, rw rows claimed.target.1);
    source = (rw columns claimed.source.0, rw rows claimed.source.1);
    shown = shown;
  }
    where
      shown : (x y : ℕ) → claim.to.x ≤ x → x < claim.to.x + claim.to.w → is_claimed claim y ≡ true →
          at_or now (claim.sx + (x - claim.to.x)) (claim.sy + (y - claim.to.y)) None
          ≡ Some (wanted_at screen form x y)
      shown x y left right counts =
          let (above, below, fresh) = claimed_row claim y counts in
          let u = claim.sx + (x - claim.to.x) in
          let v = claim.sy + (y - claim.to.y) in
          let from = moved_to claim.sx claim.sy claim.to in
          let read : contains from u v ≡ true =
          contains_row from u v (omega arith) (omega arith) (omega arith) (omega arith) in
          let outside : contains hint.to u v ≡ false = apart u v read in
          let same : at_or now u v None ≡ at_or known u v None =
          rw is
          (at-copied hint.to hint.sx hint.sy known u v None whole source
          (omega (arith, claimed.source.0, right)) (omega (arith, claimed.source.1, below))
          ∙ (rw outside refl)) in
          rw same (claimed.shown x y left right counts)

  -- so what is left of a claim once a hint has copied is true of what is known then
  pub led_on_claimed : (next : Claim) → IsLedOn hint claim next → IsTrue screen now form next
  led_on_claimed next (inl led) = by_led next led
  led_on_claimed next (inr (same, apart)) = rw same (by_apart apart)

-- the same of a session's, once it has used a hint
pub used_claimed : (screen : Grid Colour) (hint : Hint) (old new : Session) (did : Bool)
    (claim next : Option Claim) → did ≡ true → Follows screen old → FollowsHint did screen hint old new →
    new.format ≡ old.format → IsClaimed screen old.known old.format claim →
    ForSome next (λ n. (was : Claim) × (claim ≡ Some was) × IsLedOn hint was n) →
    IsClaimed screen new.known new.format next
used_claimed screen hint old new false claim next used follows taken form claimed left =
    absurd (both_ways false refl used)
used_claimed screen hint old new true claim next used follows taken form claimed left = λ n some.
    let (useful, known) = taken in
    let (was, this, led) = left n some in
    let size = follows.alike in
    let to = useful.gain.on_screen in
    let from = useful.gain.source_on_screen in
    rw form
    (led_on_claimed screen old.known new.known old.format hint was old.alike.known_whole known
    (rw (← size.columns) to.0, rw (← size.rows) to.1) (rw (← size.columns) from.0, rw (← size.rows) from.1)
    (claimed was this) n led)
