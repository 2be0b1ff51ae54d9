-- Rows that are copied over others by at most their count: their lines go round, and few places are
-- left to be copied. No public clause reads these words.
use Rattle.std.specs.Prelude.{ℕ, List, ◌≡◌, ◌+◌, ◌-◌, ◌<◌, ◌&&◌, Bool, nat_le, nat_lt, length}
use Rattle.std.specs.Prelude.{slice_index_or}
use Rattle.std.specs.Prelude.{if◌then◌else◌}
use Rattle.rfb_picture.specs.declared.picture.lines.Rows.{Rows}

-- a row is one of count rows from the first on
abbrev pub is_among : ℕ → ℕ → ℕ → Bool
is_among first count y = nat_le first y && nat_lt y (first + count)

-- the rows that are read and not written, if any are, are left to be copied
abbrev pub rest_of : Rows → Rows
rest_of rows =
    if nat_le rows.to rows.from
    then record {
      to = rows.to + rows.count;
      from = rows.to + rows.count - (rows.from - rows.to);
      count = rows.from - rows.to;
    }
    else record { to = rows.from; from = rows.to; count = rows.to - rows.from }

-- the row whose line a row has after that: a row that is written has its source's, and the rows that
-- are left have the other lines
abbrev pub line_from : Rows → ℕ → ℕ
line_from rows y =
    if is_among rows.to rows.count y then rows.from + (y - rows.to)
    else (if is_among (rest_of rows).to (rest_of rows).count y
    then (if nat_le rows.to rows.from then y - rows.count else y + rows.count) else y)

-- so the lines are
pub record Turned (rows : Rows) (old new : List ℕ) : Type 0 where
  pub long : length new ≡ length old
  pub lines : (y : ℕ) → y < length old → slice_index_or new y 0 ≡ slice_index_or old (line_from rows y) 0
