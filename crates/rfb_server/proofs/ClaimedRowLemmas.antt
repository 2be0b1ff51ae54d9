-- Rows of a hint's rectangle that are claimed: what is known of their sources is the wanted pixels.
use Rattle.std.proofs.Common.{◌≡◌, ◌∙◌, ℕ, ◌+◌, ◌-◌, ◌<◌, ◌≤◌, ◌&&◌, Bool, true, false, not}
use Rattle.std.proofs.Common.{nat_le, nat_lt, List, length, map, slice_index, Some}
use Rattle.std.proofs.Common.{ap, sym, refl, arith}
use Rattle.std.proofs.lemmas.Bool.Decides.{nat_tests}
use Rattle.std.proofs.lemmas.List.{ext_get_or, get_or-map, length-map}
use Rattle.rfb_pixel.specs.declared.colour.Colour.{Colour}
use Rattle.rfb_pixel.specs.Format.{pixel_of}
use Rattle.rfb_picture.specs.Grid.{Grid, Holds, row_of}
use Rattle.rfb_picture.specs.Rect.{contains}
use Rattle.rfb_picture.proofs.GridLaws.{contains_true, length-row_of, slice_index_or-row_of}
use Rattle.rfb_codec.specs.RectData.{moved_to}
use Rattle.rfb_server.specs.declared.claim.Claim.{Claim}
use Rattle.rfb_server.specs.declared.hint.Hint.{Hint}
use Rattle.rfb_server.specs.declared.session.Session.{Session}
use Rattle.rfb_server.specs.Claims.{IsTrue, IsAsFar, is_claimed, is_stale}
use Rattle.rfb_server.specs.Composition.{count_row}
use Rattle.rfb_server.specs.KnownScreen.{Follows}
use Rattle.rfb_server.specs.Record.{ShowsKnown}
use Rattle.rfb_server.specs.Request.{wanted_at, differs}
use Rattle.rfb_server.specs.Server.{black}
use Rattle.rfb_server.specs.update.Gains.{IsKnownRow, line, claims_row, counts}
use Rattle.rfb_server.specs.update.Gains.{right_before, right_after, sum_where, won_by}
use Rattle.rfb_server.proofs.RightRowsLemmas.{line_same}
use Rattle.rfb_server.proofs.ClaimedCountLemmas.{row_full, each_in_row, none_missing}

-- ---- the places of one row are counted in the copy of it alone

module _ (screen : Grid Colour) (s : Session) (copy : Hint) (row : ℕ) where
  pub before_line :
      count_row (right_before screen s (line copy row)) copy.to.x (copy.to.y + row) copy.to.w
      ≡ counts (right_before screen s copy) copy.to row
  before_line = line_same screen s copy.to copy.to.x copy.to.y row

  pub after_line :
      count_row (right_after screen s (line copy row)) copy.to.x (copy.to.y + row) copy.to.w
      ≡ counts (right_after screen s copy) copy.to row
  after_line = line_same screen s copy.to copy.sx copy.sy row

-- ---- a row that is claimed

has_first : (first y end : ℕ) (stale : Bool) →
    (nat_le first y && nat_lt y end && not stale) ≡ true → first ≤ y
has_first first y end stale e = grind (arith, nat_tests)

right_pixel : (wanted : ℕ) → not (differs wanted (Some wanted)) ≡ true
right_pixel wanted = grind (arith, nat_tests)

module _ (screen : Grid Colour) (s : Session) (hint : Hint) (claim : Claim) (row : ℕ)
    (far : IsAsFar claim hint) (claimed : IsTrue screen s.known s.format claim)
    (here : claims_row claim hint row ≡ true) where
  -- what is known of its sources is the wanted pixels
  line_known : IsKnownRow screen s (line hint row)
  line_known x from to =
      let y = hint.to.y + row in
      let below : claim.to.y ≤ hint.to.y + row =
      has_first claim.to.y y (claim.to.y + claim.to.h) (is_stale claim.stale y) here in
      let column : claim.sx + (x - claim.to.x) ≡ hint.sx + (x - hint.to.x) =
      rw (far.left, far.column) refl in
      let source : claim.sy + (hint.to.y + row - claim.to.y) ≡ hint.sy + row =
      omega (arith, far.row) in
      rw (column, source)
      at (claimed.shown x y (omega (arith, far.left)) (omega (arith, far.left, far.wide)) here)

  -- so each of its places has the wanted pixel after the copy
  claimed_right : (x : ℕ) → hint.to.x ≤ x → x < hint.to.x + hint.to.w →
      right_after screen s hint x (hint.to.y + row) ≡ true
  claimed_right x from to =
      let source : hint.sy + (hint.to.y + row - hint.to.y) ≡ hint.sy + row = omega arith in
      rw (source, line_known x from to)
      (right_pixel (wanted_at screen s.format x (hint.to.y + row)))

  pub claimed_full : counts (right_after screen s hint) hint.to row ≡ hint.to.w
  claimed_full =
      row_full (right_after screen s hint) hint.to.x (hint.to.y + row) hint.to.w
      (λ i l. claimed_right (hint.to.x + i) (omega arith) (omega arith))

-- ---- the source's row in a picture that shows what is known

module _ (screen : Grid Colour) (s : Session) (part : Hint) (pixels : Grid ℕ)
    (about : Follows screen s) (target : Holds s.known part.to) (single : part.to.h ≡ 1) where
  -- a place of the row of the wanted pixels
  wanted_in : (i : ℕ) → i < part.to.w →
      slice_index (map (pixel_of s.format) (row_of screen part.to.x part.to.y part.to.w)) i
      ≡ wanted_at screen s.format (part.to.x + i) part.to.y
  wanted_in i l =
      let long : length (row_of screen part.to.x part.to.y part.to.w) ≡ part.to.w =
      length-row_of screen part.to.x part.to.y part.to.w about.whole
      (omega (arith, target, about.alike)) (omega (arith, target, about.alike)) in
      get_or-map (pixel_of s.format) (row_of screen part.to.x part.to.y part.to.w) i black 0
      (omega arith)
      ∙ ap (pixel_of s.format)
      (slice_index_or-row_of screen part.to.x part.to.y part.to.w i black l)

  -- and one of the source's, where what is known of it is that
  source_in : Holds s.known (moved_to part.sx part.sy part.to) → ShowsKnown s.known pixels →
      IsKnownRow screen s part → (i : ℕ) → i < part.to.w →
      slice_index (row_of pixels part.sx part.sy part.to.w) i
      ≡ wanted_at screen s.format (part.to.x + i) part.to.y
  source_in from shown known i l =
      let column : part.sx + (part.to.x + i - part.to.x) ≡ part.sx + i = omega arith in
      let there = rw column at (known (part.to.x + i) (omega arith) (omega arith)) in
      slice_index_or-row_of pixels part.sx part.sy part.to.w i 0 l
      ∙ shown (part.sx + i) part.sy (wanted_at screen s.format (part.to.x + i) part.to.y)
      (omega (arith, from)) (omega (arith, from)) there

  -- so both are one row
  pub source_is : (source : List ℕ) → Holds s.known (moved_to part.sx part.sy part.to) →
      ShowsKnown s.known pixels → IsKnownRow screen s part →
      source ≡ row_of pixels part.sx part.sy part.to.w → length source ≡ part.to.w →
      source ≡ map (pixel_of s.format) (row_of screen part.to.x part.to.y part.to.w)
  source_is source from shown known read long =
      let row = row_of screen part.to.x part.to.y part.to.w in
      let wide = length-map row (pixel_of s.format)
      ∙ length-row_of screen part.to.x part.to.y part.to.w about.whole
      (omega (arith, target, about.alike)) (omega (arith, target, about.alike)) in
      ext_get_or 0 source (map (pixel_of s.format) row) (long ∙ sym wide)
      (λ i l.
      let low : i < part.to.w = omega arith in
      ap (λ (xs : List ℕ). slice_index xs i) read ∙ source_in from shown known i low
      ∙ sym (wanted_in i low))

-- ---- places that are said to be right

pub first_holds : (a b : Bool) → (a && b) ≡ true → a ≡ true
first_holds true b e = refl
first_holds false b e = e

module _ (screen : Grid Colour) (s : Session) (hint : Hint) (claim : Claim) (x y : ℕ)
    (inside : contains hint.to x y ≡ true) (claimed : is_claimed claim y ≡ true) where
  -- a place of a claimed row is right after the copy
  pub place_after : IsAsFar claim hint → IsTrue screen s.known s.format claim →
      right_after screen s hint x y ≡ true
  place_after far true_of =
      let (left, right, first, end) = contains_true hint.to x y inside in
      let row : hint.to.y + (y - hint.to.y) ≡ y = omega arith in
      let here : is_claimed claim (hint.to.y + (y - hint.to.y)) ≡ true = rw row claimed in
      rw row at (claimed_right screen s hint claim (y - hint.to.y) far true_of here x left right)

  -- and as it is, if no place of such rows is missing
  pub place_before :
      sum_where (claims_row claim hint) (won_by (right_before screen s hint) hint.to) hint.to.h
      ≡ 0 → right_before screen s hint x y ≡ true
  place_before none =
      let (left, right, first, end) = contains_true hint.to x y inside in
      let row : hint.to.y + (y - hint.to.y) ≡ y = omega arith in
      let column : hint.to.x + (x - hint.to.x) ≡ x = omega arith in
      let here : is_claimed claim (hint.to.y + (y - hint.to.y)) ≡ true = rw row claimed in
      let all = none_missing (right_before screen s hint) (claims_row claim hint) hint.to hint.to.h
      (y - hint.to.y) none (omega arith) here in
      rw (column, row)
      at (each_in_row (right_before screen s hint) hint.to.x (hint.to.y + (y - hint.to.y)) hint.to.w
      (x - hint.to.x) all (omega arith))
