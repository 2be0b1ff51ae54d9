-- What a session remembers of a copy on its screen: where its viewer has that already.
use Rattle.std.specs.Prelude.{◌≡◌, ℕ, ◌+◌, ◌-◌, ◌<◌, ◌≤◌, ◌&&◌, ◌⊎◌, not, nat_le, nat_lt, Bool, true, false}
use Rattle.std.specs.Prelude.{Option, Some, None}
use Rattle.std.specs.List.{list_any}
use Rattle.std.specs.Option.{ForSome}
use Rattle.rfb_pixel.specs.declared.colour.Colour.{Colour}
use Rattle.rfb_pixel.specs.Format.{PixelFormat}
use Rattle.rfb_picture.specs.declared.rect.Rect.{Rect}
use Rattle.rfb_picture.specs.Rect.{contains}
use Rattle.rfb_picture.specs.Grid.{Grid, Holds, at_or}
use Rattle.rfb_codec.specs.RectData.{moved_to}
use Rattle.rfb_server.specs.declared.claim.Claim.{Claim}
use Rattle.rfb_server.specs.declared.claim.stale.Rows.{Rows}
use Rattle.rfb_server.specs.declared.claim.stale.Stale.{Stale}
use Rattle.rfb_server.specs.declared.hint.Hint.{Hint}
use Rattle.rfb_server.specs.Request.{wanted_at}

-- a row is one of these
abbrev pub has_row : Rows → ℕ → Bool
has_row rows y = nat_le rows.first y && nat_lt y rows.end

-- a row no longer counts
abbrev pub is_stale : Stale → ℕ → Bool
is_stale stale y = list_any (λ (rows : Rows). has_row rows y) stale.runs

-- the claim has that row, and it counts
abbrev pub is_claimed : Claim → ℕ → Bool
is_claimed claim y =
    nat_le claim.to.y y && nat_lt y (claim.to.y + claim.to.h) && not (is_stale claim.stale y)

-- the claim is of that copy
pub record IsOfCopy (copy : Hint) (claim : Claim) : Type 0 where
  pub to : claim.to ≡ copy.to
  pub column : claim.sx ≡ copy.sx
  pub row : claim.sy ≡ copy.sy

-- it is of a hint's columns, and its sources are as far from their places as that one's
pub record IsAsFar (claim : Claim) (hint : Hint) : Type 0 where
  pub left : claim.to.x ≡ hint.to.x
  pub wide : claim.to.w ≡ hint.to.w
  pub column : claim.sx ≡ hint.sx
  pub row : claim.sy + hint.to.y ≡ hint.sy + claim.to.y

-- it has a row that counts, and all columns of it; its sources begin at that place
pub record IsSourceOf (claim : Claim) (row : Rect) (from : ℕ × ℕ) : Type 0 where
  pub counts : is_claimed claim row.y ≡ true
  pub left : claim.to.x ≤ row.x
  pub right : row.x + row.w ≤ claim.to.x + claim.to.w
  pub column : from.0 ≡ claim.sx + (row.x - claim.to.x)
  pub row_is : from.1 ≡ claim.sy + (row.y - claim.to.y)

-- of a copy's places it says what another claim says of their sources. It has all columns of the
-- copy, and rows of it whose sources are rows of that other one. Where such a row counts its source
-- does; a screen has no row 65,535
pub record IsCopiedOn (copy : Hint) (claim next : Claim) : Type 0 where
  pub columns : (next.to.x ≡ copy.to.x) × (next.to.w ≡ copy.to.w)
  pub rows : (copy.to.y ≤ next.to.y) × (next.to.y + next.to.h ≤ copy.to.y + copy.to.h)
  pub left : claim.to.x ≤ copy.sx
  pub right : copy.sx + copy.to.w ≤ claim.to.x + claim.to.w
  pub top : claim.to.y + copy.to.y ≤ copy.sy + next.to.y
  pub bottom : copy.sy + next.to.y + next.to.h ≤ claim.to.y + claim.to.h + copy.to.y
  pub column : next.sx + claim.to.x ≡ claim.sx + copy.sx
  pub row : next.sy + claim.to.y + copy.to.y ≡ claim.sy + copy.sy + next.to.y
  pub fresh : (s y : ℕ) → y + copy.sy ≡ s + copy.to.y → y < 65535 →
      is_stale next.stale y ≡ false → is_stale claim.stale s ≡ false

-- it has rows of another claim, whose sources are places from which a hint copies: now the sources
-- are where the hint copies these to
pub record IsLedBy (hint : Hint) (claim next : Claim) : Type 0 where
  pub columns : (next.to.x ≡ claim.to.x) × (next.to.w ≡ claim.to.w)
  pub rows : (claim.to.y ≤ next.to.y) × (next.to.y + next.to.h ≤ claim.to.y + claim.to.h)
  pub left : hint.sx ≤ claim.sx
  pub right : claim.sx + claim.to.w ≤ hint.sx + hint.to.w
  pub top : hint.sy + claim.to.y ≤ claim.sy + next.to.y
  pub bottom : claim.sy + next.to.y + next.to.h ≤ hint.sy + hint.to.h + claim.to.y
  pub column : next.sx + hint.sx ≡ hint.to.x + claim.sx
  pub row : next.sy + hint.sy + claim.to.y ≡ hint.to.y + claim.sy + next.to.y
  pub stale : next.stale ≡ claim.stale

-- a hint does not copy to any of its sources
abbrev pub IsApartFrom : Hint → Claim → Type 0
IsApartFrom hint claim = (x y : ℕ) → contains (moved_to claim.sx claim.sy claim.to) x y ≡ true →
    contains hint.to x y ≡ false

-- what is left of a claim once a hint has copied
abbrev pub IsLedOn : Hint → Claim → Claim → Type 0
IsLedOn hint claim next =
    IsLedBy hint claim next ⊎ ((next ≡ claim) × IsApartFrom hint claim)

-- it is true: its rectangle and its source lie on the screen, and the wanted pixel of each place of
-- a row that counts is what is known of its source
pub record IsTrue (screen : Grid Colour) (known : Grid (Option ℕ)) (form : PixelFormat)
    (claim : Claim) : Type 0 where
  pub target : Holds known claim.to
  pub source : Holds known (moved_to claim.sx claim.sy claim.to)
  pub shown : (x y : ℕ) → claim.to.x ≤ x → x < claim.to.x + claim.to.w →
      is_claimed claim y ≡ true →
      at_or known (claim.sx + (x - claim.to.x)) (claim.sy + (y - claim.to.y)) None
      ≡ Some (wanted_at screen form x y)

-- what a session claims of a screen is true
abbrev pub IsClaimed : Grid Colour → Grid (Option ℕ) → PixelFormat → Option Claim → Type 0
IsClaimed screen known form claim = ForSome claim (λ c. IsTrue screen known form c)
