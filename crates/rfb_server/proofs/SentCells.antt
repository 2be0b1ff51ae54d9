-- A cell more that is taken care of, for the session that does it.
use Rattle.std.proofs.Common.{◌≡◌, ℕ, ◌+◌, ◌<◌, ◌≤◌, ◌&&◌, ◌||◌, Bool, None, true, false, List, [], ◌∷◌, ◌++◌, refl}
use Rattle.std.proofs.Common.{sym, ◌∙◌, arith, append_assoc, append-nil, length-append}
use Rattle.std.specs.Int.{div_ceil}
use mir.Val.{bool_byte}
use Rattle.rfb_pixel.specs.declared.colour.Colour.{Colour}
use Rattle.rfb_picture.specs.declared.rect.Rect.{Rect}
use Rattle.rfb_picture.specs.Grid.{Grid, at_or}
use Rattle.rfb_picture.specs.Box.{is_in, IsClear, IsBox}
use Rattle.rfb_picture.specs.Area.{asked_at, whole_at}
use Rattle.rfb_server.specs.declared.session.Session.{Session}
use Rattle.rfb_server.specs.Request.{wanted_at, differs, needs_at}
use Rattle.rfb_server.specs.Cells.{IsCell}
use Rattle.rfb_server.specs.update.Needs.{needs_of}
use Rattle.rfb_server.specs.KnownScreen.{Follows}
use Rattle.rfb_server.specs.Composition.{Part}
use Rattle.rfb_server.specs.update.Sends.{IsKept, SendsPixels, SendsCell, state_of, AppendsCells, NoneMayNeed}
use Rattle.rfb_server.specs.update.Sends.{AreLimits, may_need}
use Rattle.rfb_server.proofs.NeedingLemmas.{unmarked_quiet}
use Rattle.rfb_server.proofs.SendsLemmas.{part_of, sends_start, sends_none, sends_skip, sends_some}

-- before the first cell
pub cells_start : (across : ℕ) (screen : Grid Colour) (session : Session) (bytes : List ℕ) →
    AppendsCells across 0 screen session session bytes bytes 0
cells_start across screen session bytes = record {
  parts = [];
  bytes = [];
  appended = sym (append-nil bytes);
  count_is = refl;
  sent = sends_start across (state_of screen session) session.alike.known_whole;
}

module _ (across n : ℕ) (screen : Grid Colour) (first old new : Session)
    (start before after : List ℕ) (count : ℕ) (cell : Rect)
    (about : Follows screen first) (kept : IsKept first old)
    (is : IsCell first.known.width first.known.height across n
    cell) (cells : AppendsCells across n screen first old start before count) where
  cell_is : IsCell screen.width screen.height across n cell
  cell_is = rw (about.alike.columns, about.alike.rows) is

  area_wide : first.area.asked.width ≡ screen.width
  area_wide = first.alike.area_wide ∙ sym about.alike.columns

  area_high : first.area.asked.height ≡ screen.height
  area_high = first.alike.area_high ∙ sym about.alike.rows

  pub cells_more : (did : Bool) → SendsCell did screen cell old new before after →
      AppendsCells across (n + 1) screen first new start after (count + bool_byte did)
  cells_more false (none, known, same) =
      let clear : IsClear (needs_at screen old.known first.area first.format) cell.x (cell.x + cell.w) cell.y
      (cell.y + cell.h) = rw (← kept.area, ← kept.setting.format) none in
      record {
        parts = cells.parts;
        bytes = cells.bytes;
        appended = same ∙ cells.appended;
        count_is = omega (arith, cells.count_is);
        sent = rw known
            (sends_none across (state_of screen first) n old.known cells.parts cells.bytes cell first.alike.area_is
            area_wide area_high cell_is clear cells.sent);
      }
  cells_more true (rect, box, appends) =
      let least : IsBox (needs_at screen old.known first.area first.format) cell rect =
      rw (← kept.area, ← kept.setting.format) box in
      let sent : SendsPixels screen first.format first.encodings rect old.known new.known appends.bytes =
      rw (← kept.setting.format, ← kept.setting.encodings) appends.sent in
      let part : Part = part_of rect screen (state_of screen first) old.known new.known appends.bytes sent in
      record {
        parts = cells.parts ++ part ∷ [];
        bytes = cells.bytes ++ appends.bytes;
        appended = appends.appended ∙ (rw (cells.appended) (append_assoc start cells.bytes appends.bytes));
        count_is = rw (length-append cells.parts (part ∷ [])) (omega (arith, cells.count_is));
        sent = sends_some across (state_of screen first) n old.known new.known cells.parts cells.bytes appends.bytes
            cell rect about.alike first.alike.area_is area_wide area_high cell_is least sent cells.sent;
      }

-- where no place is marked and asked, nothing needs sending
quiet_by : (marked asked need whole : Bool) → (marked && asked) ≡ false →
    (marked ≡ false → (asked && need) ≡ false) → (asked && need) ≡ false
quiet_by true true need whole e unmarked = absurd cc
quiet_by true false need whole e unmarked = refl
quiet_by false asked need whole e unmarked = unmarked refl

pub quiet_unless : (screen : Grid Colour) (session : Session) (x y : ℕ) → Follows screen session →
    x < session.known.width → y < session.known.height →
    may_need session.marks session.area x y ≡ false → needs_of screen session x y ≡ false
quiet_unless screen session x y about p q e =
    quiet_by (is_in session.marks x y) (asked_at session.area x y) (whole_at session.area x y
    || differs (wanted_at screen session.format x y) (at_or session.known x y None)) true e
    (unmarked_quiet screen session x y about p q)

-- both are about one screen
pub same_wide : (screen : Grid Colour) (first old : Session) → Follows screen first → Follows screen old →
    old.known.width ≡ first.known.width
same_wide screen first old about aware = sym aware.alike.columns ∙ about.alike.columns

pub same_high : (screen : Grid Colour) (first old : Session) → Follows screen first → Follows screen old →
    old.known.height ≡ first.known.height
same_high screen first old about aware = sym aware.alike.rows ∙ about.alike.rows

pub cells_skip : (n m : ℕ) (screen : Grid Colour) (first old : Session) (start before : List ℕ) (count : ℕ) →
    Follows screen first → Follows screen old → IsKept first old → n ≤ m → NoneMayNeed old n m →
    AppendsCells (div_ceil first.known.width 64) n screen first old start before count →
    AppendsCells (div_ceil first.known.width 64) m screen first old start before count
cells_skip n m screen first old start before count about aware kept order none cells = record {
  parts = cells.parts;
  bytes = cells.bytes;
  appended = cells.appended;
  count_is = cells.count_is;
  sent = sends_skip (div_ceil first.known.width 64) (state_of screen first) n m old.known cells.parts
      cells.bytes first.alike.area_is
      (first.alike.area_wide ∙ sym about.alike.columns) (first.alike.area_high ∙ sym about.alike.rows) order
      (λ x y p l u.
      let wide : x < old.known.width = rw (← aware.alike.columns) p.0 in
      let high : y < old.known.height = rw (← aware.alike.rows) p.1 in
      rw (← kept.area, ← kept.setting.format) (quiet_unless screen old x y aware wide high (none x y wide high
      (rw (same_wide screen first old about aware) l) (rw (same_wide screen first old about aware) u))))
      cells.sent;
}

-- which cells may have such places stays where no mark changes and nothing more is asked
pub limits_kept : (old new : Session) (first end : ℕ) → IsKept old new → new.known.width ≡ old.known.width →
    new.known.height ≡ old.known.height →
    AreLimits old first end → AreLimits new first end
limits_kept old new first end kept wide high limits = record {
  some = limits.some;
  within = rw (wide, high) limits.within;
  before = rw (wide, high, kept.marks, kept.area) limits.before;
  after = rw (wide, high, kept.marks, kept.area) limits.after;
}
