-- How many places of a rectangle have the wanted pixel, before it is copied and after the copy.
use Rattle.std.specs.Prelude.{◌≡◌, ℕ, zero, suc, ◌+◌, ◌-◌, ◌<◌, ◌≤◌, Bool, true, false, Option, Some, None}
use Rattle.std.specs.Prelude.{if◌then◌else◌}
use Rattle.rfb_pixel.specs.declared.colour.Colour.{Colour}
use Rattle.rfb_picture.specs.declared.rect.Rect.{Rect}
use Rattle.rfb_picture.specs.Rect.{contains}
use Rattle.rfb_picture.specs.Area.{whole_at}
use Rattle.rfb_picture.specs.Grid.{Grid, Holds, at_or}
use Rattle.rfb_codec.specs.RectData.{moved_to}
use Rattle.rfb_server.specs.declared.hint.Hint.{Hint}
use Rattle.rfb_server.specs.declared.session.Session.{Session}
use Rattle.rfb_server.specs.Record.{AreKnown}
use Rattle.rfb_server.specs.declared.claim.Claim.{Claim}
use Rattle.rfb_server.specs.declared.session.update.gains.Judged.{Judged}
use Rattle.rfb_server.specs.Claims.{is_claimed}
use Rattle.rfb_server.specs.Request.{wanted_at}
use Rattle.rfb_server.specs.Composition.{count_in, count_row}
use Rattle.rfb_server.specs.update.Needs.{is_quiet}
use Rattle.rfb_server.specs.update.Copies.{is_right_from}

-- a copy's rectangle and its source lie on the screen, and each place of the source is known
pub record MayCopy (known : Grid (Option ℕ)) (copy : Hint) : Type 0 where
  pub target : Holds known copy.to
  pub source : Holds known (moved_to copy.sx copy.sy copy.to)
  pub source_known : AreKnown known (moved_to copy.sx copy.sy copy.to)

-- a place of the rectangle has the wanted pixel as it is
abbrev pub right_before : Grid Colour → Session → Hint → ℕ → ℕ → Bool
right_before screen session copy =
    is_right_from screen session.known session.format copy.to copy.to.x copy.to.y

-- it would have it after the copy
abbrev pub right_after : Grid Colour → Session → Hint → ℕ → ℕ → Bool
right_after screen session copy =
    is_right_from screen session.known session.format copy.to copy.sx copy.sy

-- more places of the rectangle would have it than have it
abbrev pub HasMoreRight : Grid Colour → Session → Hint → Type 0
HasMoreRight screen session copy =
    count_in (right_before screen session copy) copy.to
    < count_in (right_after screen session copy) copy.to

-- each of these places lies in the copy's rectangle, is not whole, and has the wanted pixel: after
-- the copy if that is a gain, else as it is
abbrev pub IsJudged : Grid Colour → Session → Hint → Judged → Type 0
IsJudged screen session copy judged = (x y : ℕ) → is_quiet judged.right x y ≡ true →
    (contains copy.to x y ≡ true) × (whole_at session.area x y ≡ false) ×
    ((if judged.gain then right_after screen session copy x y
    else right_before screen session copy x y) ≡ true)

-- the copy of one of its rows
abbrev pub line : Hint → ℕ → Hint
line copy row =
    record { to = record copy.to { y = copy.to.y + row; h = 1 }; sx = copy.sx; sy = copy.sy + row }

-- the copy of its columns from one up to another
abbrev pub part : Hint → ℕ → ℕ → Hint
part copy from to =
    record {
      to = record copy.to { x = from; w = to - from };
      sx = copy.sx + (from - copy.to.x);
      sy = copy.sy;
    }

-- ---- where some rows are claimed

-- row `row` of the copy's rectangle is claimed
abbrev pub claims_row : Claim → Hint → ℕ → Bool
claims_row claim copy row = is_claimed claim (copy.to.y + row)

-- the sum over those of the first rows that are chosen
abbrev pub sum_where : (ℕ → Bool) → (ℕ → ℕ) → ℕ → ℕ
sum_where chosen value zero = 0
sum_where chosen value (suc n) =
    sum_where chosen value n + (if chosen n then value n else 0)

-- how many places of a row of the rectangle are marked
abbrev pub counts : (ℕ → ℕ → Bool) → Rect → ℕ → ℕ
counts p rect row = count_row p rect.x (rect.y + row) rect.w

-- how many are not
abbrev pub won_by : (ℕ → ℕ → Bool) → Rect → ℕ → ℕ
won_by p rect row = rect.w - counts p rect row

-- what is known of the sources of a row is the wanted pixels
abbrev pub IsKnownRow : Grid Colour → Session → Hint → Type 0
IsKnownRow screen session row = (x : ℕ) → row.to.x ≤ x → x < row.to.x + row.to.w →
    at_or session.known (row.sx + (x - row.to.x)) row.sy None
    ≡ Some (wanted_at screen session.format x row.to.y)
