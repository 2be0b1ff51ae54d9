-- What a session claims of its screen.
use Rattle.std.proofs.Common.{◌≡◌, ℕ, ◌+◌, ◌-◌, ◌<◌, ◌≤◌, ◌&&◌, Bool, true, false, not, nat_le, nat_lt, Option, Some}
use Rattle.std.proofs.Common.{None, refl, ◌∙◌, ◌*◌, arith, if◌then◌else◌}
use Rattle.std.proofs.lemmas.Bool.{both_ways}
use Rattle.std.proofs.lemmas.Bool.Decides.{nat_tests}
use Rattle.std.proofs.lemmas.List.{get_or_default}
use Rattle.rfb_pixel.specs.declared.colour.Colour.{Colour}
use Rattle.rfb_pixel.specs.Format.{PixelFormat}
use Rattle.rfb_picture.specs.declared.rect.Rect.{Rect}
use Rattle.rfb_picture.specs.Rect.{contains}
use Rattle.rfb_picture.specs.Box.{is_in, IsBox, IsClear}
use Rattle.rfb_picture.specs.Grid.{Grid, IsGrid, Holds, at_or, copied}
use Rattle.rfb_codec.specs.RectData.{moved_to}
use Rattle.rfb_picture.proofs.CopyLaws.{at-copied}
use Rattle.rfb_picture.proofs.GridLaws.{at-changed, contains_true, contains_row, place_below}
use Rattle.rfb_server.specs.declared.claim.Claim.{Claim}
use Rattle.rfb_server.specs.declared.session.Session.{Session}
use Rattle.rfb_server.specs.declared.hint.Hint.{Hint}
use Rattle.rfb_server.specs.Claims.{IsTrue, IsClaimed, IsOfCopy, has_row, is_stale, is_claimed}
use Rattle.rfb_server.specs.Request.{wanted_at}
use Rattle.rfb_server.specs.Server.{black}
use Rattle.rfb_server.specs.KnownScreen.{Follows, IsSameOutside}

-- nothing is claimed
pub nothing_claimed : (screen : Grid Colour) (known : Grid (Option ℕ)) (form : PixelFormat)
    (claim : Option Claim) → claim ≡ None → IsClaimed screen known form claim
nothing_claimed screen known form claim none = λ c some. absurd (apart claim c none some)
  where
    apart : (claim : Option Claim) (c : Claim) → claim ≡ None → claim ≡ Some c → ⊥
    apart None c none some = let both : None ≡ Some c = some in cc
    apart (Some d) c none some = let both : Some d ≡ None = none in cc

-- ---- a copy that is drawn

module _ (p : ℕ → ℕ → Bool) (copy : Hint) (row h x y : ℕ)
    (inside : contains copy.to x y ≡ true) (top : copy.to.y + row ≤ y) (bottom : y < copy.to.y + (row + h)) where
  abbrev band : Rect
  band = record { x = copy.sx; y = copy.sy + row; w = copy.to.w; h = h }

  -- the source lies in the band of that row
  in_band : contains band (copy.sx + (x - copy.to.x)) (copy.sy + (y - copy.to.y)) ≡ true
  in_band =
      let (a, b, c, d) = contains_true copy.to x y inside in
      contains_row band (copy.sx + (x - copy.to.x)) (copy.sy + (y - copy.to.y)) (omega arith)
      (omega arith) (omega arith) (omega arith)

  -- a band without a mark
  pub clear_band : IsClear p band.x (band.x + band.w) band.y (band.y + band.h) →
      p (copy.sx + (x - copy.to.x)) (copy.sy + (y - copy.to.y)) ≡ false
  clear_band clear =
      let (a, b, c, d) = contains_true copy.to x y inside in
      clear (copy.sx + (x - copy.to.x)) (copy.sy + (y - copy.to.y)) (omega arith)
      (omega arith) (omega arith) (omega arith)

  -- a band whose marks lie in a rectangle: the rows of that one are stale
  pub boxed_band : (r : Rect) → IsBox p band r →
      has_row (record { first = copy.to.y + (r.y - copy.sy); end = copy.to.y + (r.y - copy.sy) + r.h }) y ≡ false →
      p (copy.sx + (x - copy.to.x)) (copy.sy + (y - copy.to.y)) ≡ false
  boxed_band r box fresh = by (p (copy.sx + (x - copy.to.x)) (copy.sy + (y - copy.to.y))) refl
    where
      by : (marked : Bool) → p (copy.sx + (x - copy.to.x)) (copy.sy + (y - copy.to.y)) ≡ marked → marked ≡ false
      by false e = refl
      by true e =
          let held = box.holds (copy.sx + (x - copy.to.x)) (copy.sy + (y - copy.to.y)) in_band e in
          let (a, b, c, d) = contains_true r (copy.sx + (x - copy.to.x)) (copy.sy + (y - copy.to.y)) held in
          let top_of = box.within in
          absurd (row_of (copy.to.y + (r.y - copy.sy)) r.h (omega (arith, a, b, c, d, box.within.2))
          (omega (arith, a, b, c, d, box.within.2)) fresh)
        where
          row_of : (first n : ℕ) → first ≤ y → y < first + n →
              has_row (record { first = first; end = first + n }) y ≡ false → ⊥
          row_of first n above below none =
              let some : has_row (record { first = first; end = first + n }) y ≡ true = grind (arith, nat_tests) in
              both_ways (has_row (record { first = first; end = first + n }) y) none some

claimed_by : (a b stale : Bool) → (a && b && not stale) ≡ true → (a ≡ true) × (b ≡ true) × (stale ≡ false)
claimed_by true true true e = absurd (both_ways false refl e)
claimed_by true true false e = (refl, refl, refl)
claimed_by true false stale e = absurd (both_ways false refl e)
claimed_by false b stale e = absurd (both_ways false refl e)

-- a row that is claimed is one of the rectangle's, and is not stale
pub claimed_row : (claim : Claim) (y : ℕ) → is_claimed claim y ≡ true →
    (claim.to.y ≤ y) × (y < claim.to.y + claim.to.h) × (is_stale claim.stale y ≡ false)
claimed_row claim y e =
    let (a, b, c) = claimed_by (nat_le claim.to.y y) (nat_lt y (claim.to.y + claim.to.h)) (is_stale claim.stale y) e in
    (grind (arith, nat_tests), grind (arith, nat_tests), c)

pub row_claimed : (claim : Claim) (y : ℕ) → claim.to.y ≤ y → y < claim.to.y + claim.to.h →
    is_stale claim.stale y ≡ false → is_claimed claim y ≡ true
row_claimed claim y above below fresh =
    let a : nat_le claim.to.y y ≡ true = grind (arith, nat_tests) in
    let b : nat_lt y (claim.to.y + claim.to.h) ≡ true = grind (arith, nat_tests) in
    rw (a, b, fresh) refl

-- the places of a rectangle in rows that are not stale show what is known of those as far from (sx, sy)
abbrev ShowsIn : Grid Colour → Grid (Option ℕ) → PixelFormat → Rect → ℕ → ℕ → Claim → Type 0
ShowsIn screen known form to sx sy claim = (x y : ℕ) → to.x ≤ x → x < to.x + to.w → to.y ≤ y → y < to.y + to.h →
    is_stale claim.stale y ≡ false →
    at_or known (sx + (x - to.x)) (sy + (y - to.y)) None ≡ Some (wanted_at screen form x y)

-- what is true of a rectangle and its source is true of a claim that names these
told_claim : (screen : Grid Colour) (known : Grid (Option ℕ)) (form : PixelFormat) (to : Rect) (sx sy : ℕ)
    (claim : Claim) → claim.to ≡ to → claim.sx ≡ sx → claim.sy ≡ sy → Holds known to →
    Holds known (moved_to sx sy to) → ShowsIn screen known form to sx sy claim → IsTrue screen known form claim
told_claim screen known form to sx sy claim same column row target source shown = record {
  target = rw same target;
  source = rw (same, column, row) source;
  shown = λ x y left right is.
      let (above, below, fresh) = claimed_row claim y is in
      rw (same, column, row)
      (shown x y (rw same at left) (rw same at right) (rw same at above) (rw same at below) fresh);
}

-- where a copy was drawn the screen shows what its source showed
pub drawn_there : (session : Session) (before after : Grid Colour) (copy : Hint) (x y : ℕ) →
    Follows before session →
    after ≡ copied copy.to copy.sx copy.sy before → Holds session.known copy.to →
    Holds session.known (moved_to copy.sx copy.sy copy.to) → contains copy.to x y ≡ true →
    at_or after x y black ≡ at_or before (copy.sx + (x - copy.to.x)) (copy.sy + (y - copy.to.y)) black
drawn_there session before after copy x y follows is target source inside =
    let size = follows.alike in
    let (left, right, top, bottom) = contains_true copy.to x y inside in
    rw is
    (at-copied copy.to copy.sx copy.sy before x y black follows.whole
    (rw (size.columns) source.0, rw (size.rows) source.1)
    (omega (arith, target.0, right, size.columns)) (omega (arith, target.1, bottom, size.rows))
    ∙ (rw inside refl))

-- what lies in a copy's source was known, where it has no mark: so the copy's place shows that
pub copy_claimed : (session : Session) (before after : Grid Colour) (copy : Hint) (claim : Claim) →
    Follows before session → after ≡ copied copy.to copy.sx copy.sy before →
    Holds session.known copy.to → Holds session.known (moved_to copy.sx copy.sy copy.to) →
    IsOfCopy copy claim →
    ((x y : ℕ) → contains copy.to x y ≡ true → is_stale claim.stale y ≡ false →
    is_in session.marks (copy.sx + (x - copy.to.x)) (copy.sy + (y - copy.to.y)) ≡ false) →
    IsTrue after session.known session.format claim
copy_claimed session before after copy claim follows is target source of unmarked =
    told_claim after session.known session.format copy.to copy.sx copy.sy claim of.to of.column of.row target source
    shown
  where
    shown : ShowsIn after session.known session.format copy.to copy.sx copy.sy claim
    shown x y left right top bottom fresh =
        let inside : contains copy.to x y ≡ true = contains_row copy.to x y left right top bottom in
        let u = copy.sx + (x - copy.to.x) in
        let v = copy.sy + (y - copy.to.y) in
        let wide : u < session.known.width = omega (arith, source.0, left, right) in
        let high : v < session.known.height = omega (arith, source.1, top, bottom) in
        let known : at_or session.known u v None ≡ Some (wanted_at before session.format u v) =
        follows.caught_up.right u v (rw session.alike.marks_wide wide) (rw session.alike.marks_high high)
        (unmarked x y inside fresh) in
        rw (drawn_there session before after copy x y follows is target source inside) known

-- what is drawn elsewhere, or makes its rows stale, leaves a claim true
pub hit_claimed : (session : Session) (before after : Grid Colour) (area : Rect) (old new : Claim) →
    Follows before session → IsSameOutside area before after → IsTrue before session.known session.format old →
    new.to ≡ old.to → new.sx ≡ old.sx → new.sy ≡ old.sy →
    ((x y : ℕ) → contains old.to x y ≡ true → is_stale new.stale y ≡ false →
    (is_stale old.stale y ≡ false) × (contains area x y ≡ false)) →
    IsTrue after session.known session.format new
hit_claimed session before after area old new follows outside claimed to column row fresh =
    told_claim after session.known session.format old.to old.sx old.sy new to column row claimed.target claimed.source
    shown
  where
    shown : ShowsIn after session.known session.format old.to old.sx old.sy new
    shown x y left right top bottom clear =
        let both = fresh x y (contains_row old.to x y left right top bottom) clear in
        let was : is_claimed old y ≡ true = row_claimed old y top bottom both.0 in
        let size = follows.alike in
        let wide : x < before.width = omega (arith, claimed.target.0, right, size.columns) in
        let high : y < before.height = omega (arith, claimed.target.1, bottom, size.rows) in
        rw (outside.same x y wide high both.1) (claimed.shown x y left right was)

-- a copy from its own place leaves each place as it was
at_itself : (copy : Hint) (before : Grid Colour) (x y : ℕ) → IsGrid before →
    copy.sx ≡ copy.to.x → copy.sy ≡ copy.to.y → x < before.width → y < before.height →
    at_or (copied copy.to copy.sx copy.sy before) x y black ≡ at_or before x y black
at_itself copy before x y whole column row wide high =
    by (contains copy.to x y) refl (at-changed _ before x y black whole wide high)
  where
    by : (inside : Bool) → contains copy.to x y ≡ inside →
        at_or (copied copy.to copy.sx copy.sy before) x y black
        ≡ (if inside
        then at_or before (copy.sx + (x - copy.to.x)) (copy.sy + (y - copy.to.y)) (at_or before x y black)
        else at_or before x y black) →
        at_or (copied copy.to copy.sx copy.sy before) x y black ≡ at_or before x y black
    by false e there = there
    by true e there =
        let (a, b, c, d) = contains_true copy.to x y e in
        let left : copy.sx + (x - copy.to.x) ≡ x = omega (arith, column, a) in
        let top : copy.sy + (y - copy.to.y) ≡ y = omega (arith, row, c) in
        let below = place_below before.width before.height x y wide high in
        rw (left, top) at there
        ∙ get_or_default before.places (y * before.width + x) (at_or before x y black) black (omega arith)

-- so what is claimed stays true
pub still_claimed : (session : Session) (before after : Grid Colour) (copy : Hint) (claim : Claim) →
    Follows before session → after ≡ copied copy.to copy.sx copy.sy before →
    copy.sx ≡ copy.to.x → copy.sy ≡ copy.to.y → IsTrue before session.known session.format claim →
    IsTrue after session.known session.format claim
still_claimed session before after copy claim follows is column row claimed =
    told_claim after session.known session.format claim.to claim.sx claim.sy claim refl refl refl claimed.target
    claimed.source shown
  where
    shown : ShowsIn after session.known session.format claim.to claim.sx claim.sy claim
    shown x y left right top bottom fresh =
        let size = follows.alike in
        let wide : x < before.width = omega (arith, claimed.target.0, right, size.columns) in
        let high : y < before.height = omega (arith, claimed.target.1, bottom, size.rows) in
        rw (is, at_itself copy before x y follows.whole column row wide high)
        (claimed.shown x y left right (row_claimed claim y top bottom fresh))
