-- Places of a copy of one row that have the wanted pixel, given by bits and by rows of pixels.
use Rattle.std.proofs.Common.{sym, ◌≡◌, ◌∙◌, ℕ, zero, suc, ◌+◌, ◌-◌, ◌*◌, ◌/◌, ◌%◌, ◌^◌, ◌<◌, ◌≤◌, ◌==◌, ◌&&◌, Bool}
use Rattle.std.proofs.Common.{true, false, cond, not, nat_le, nat_lt, List, [], ◌∷◌, length, map, slice_index, bit_and}
use Rattle.std.proofs.Common.{Option, Some, None, ap, refl, arith}
use Rattle.std.specs.Int.{w64, bit_not}
use Rattle.std.proofs.Math.Nat.{mod-lt}
use Rattle.std.proofs.lemmas.Bool.Decides.{nat_tests}
use Rattle.std.proofs.lemmas.List.{get_or-map}
use Rattle.std.proofs.lemmas.Nat.{pow_pos}
use Rattle.rfb_pixel.specs.declared.colour.Colour.{Colour}
use Rattle.rfb_pixel.specs.Format.{pixel_of}
use Rattle.rfb_pixel.specs.Rows.{equal_places, TellsDifferences}
use Rattle.rfb_picture.specs.Grid.{Grid, at_or, row_of}
use Rattle.rfb_picture.specs.Box.{is_in}
use Rattle.rfb_picture.specs.Area.{Places}
use Rattle.rfb_picture.specs.Places.{has_bit, HasBitsBetween}
use Rattle.rfb_picture.proofs.GridLaws.{contains_row, length-row_of, slice_index_or-row_of}
use Rattle.rfb_picture.proofs.TakenWordLaws.{has_bit-without}
use Rattle.rfb_codec.specs.RectData.{moved_to}
use Rattle.rfb_server.specs.declared.hint.Hint.{Hint}
use Rattle.rfb_server.specs.declared.session.Session.{Session}
use Rattle.rfb_server.specs.Record.{ShowsKnown, TellsKnown, is_known}
use Rattle.rfb_server.specs.Request.{wanted_at, differs}
use Rattle.rfb_server.specs.Server.{black}
use Rattle.rfb_server.specs.Composition.{count_row}
use Rattle.rfb_server.specs.KnownScreen.{Follows}
use Rattle.rfb_server.specs.update.Gains.{MayCopy, right_before, right_after}
use Rattle.rfb_server.proofs.BitCountLemmas.{row_split}
use Rattle.rfb_server.proofs.NeedingBits.{has_bit-up}

-- two rows are the same at as many places as are marked, if those are that they are the same at
equal_row : (a b : List ℕ) (p : ℕ → ℕ → Bool) (x y n : ℕ) → length a ≡ n → length b ≡ n →
    ((i : ℕ) → i < n → (slice_index a i == slice_index b i) ≡ p (x + i) y) → equal_places a b ≡ count_row p x y n
unfolding equal_places
equal_row [] b p x y zero long_a long_b same = refl
equal_row [] b p x y (suc n) long_a long_b same = absurd (omega arith)
equal_row (v ∷ a) [] p x y n long_a long_b same = absurd (omega arith)
equal_row (v ∷ a) (w ∷ b) p x y zero long_a long_b same = absurd (omega arith)
equal_row (v ∷ a) (w ∷ b) p x y (suc n) long_a long_b same =
    let next : suc n ≡ 1 + n = omega arith in
    let first : x + 0 ≡ x = omega arith in
    let rest = equal_row a b p (x + 1) y n (omega arith) (omega arith)
    (λ i l. let place : x + suc i ≡ x + 1 + i = omega arith in same (suc i) (omega arith) ∙ ap (λ k. p k y) place) in
    let here : ◌≡◌ {A = ℕ} (cond (v == w) 1 0) (cond (p (x + 0) y) 1 0) = ap (λ b. cond b 1 0) (same 0 (omega arith)) in
    let split : count_row p x y (suc n) ≡ count_row p x y 1 + count_row p (x + 1) y n =
    ap (count_row p x y) next ∙ row_split p x y 1 n in
    let one : count_row p x y 1 ≡ cond (p (x + 0) y) 1 0 = omega arith in
    omega (arith, rest, here, split, one)

-- rows that are the same are so at each place
with_itself : (a : List ℕ) → equal_places a a ≡ length a
unfolding equal_places
with_itself [] = refl
with_itself (v ∷ a) =
    let same : (v == v) ≡ true = grind (arith, nat_tests) in
    rw same (omega (arith, with_itself a))

pub all_equal : (a b : List ℕ) → a ≡ b → equal_places a b ≡ length a
all_equal a b e = ap (equal_places a) (sym e) ∙ with_itself a

-- ---- one place

-- it has the wanted pixel if that is known of it
pub same_pixel : (wanted pixel : ℕ) → (wanted == pixel) ≡ not (differs wanted (Some pixel))
same_pixel wanted pixel = grind (arith, nat_tests)

-- it has it if it is known and does not differ
pub known_right : (wanted pixel : ℕ) (old : Option ℕ) → ((known : ℕ) → old ≡ Some known → pixel ≡ known) →
    (is_known old && not (not (wanted == pixel))) ≡ not (differs wanted old)
known_right wanted pixel None shown = refl
known_right wanted pixel (Some known) shown = rw (shown known refl) (grind (arith, nat_tests))

gated : (a b c d : Bool) → (a ≡ true → (b && c) ≡ d) → ((a && b) && c) ≡ (a && d)
gated true b c d e = e refl
gated false b c d e = refl

within : (x from to : ℕ) → (nat_le from x && nat_lt x to) ≡ true → (from ≤ x) × (x < to)
within x from to e = (grind (arith, nat_tests), grind (arith, nat_tests))

-- ---- a copy of one row

module _ (screen : Grid Colour) (session : Session) (part : Hint) (pixels : Grid ℕ) (wanted : List ℕ)
    (about : Follows screen session) (may : MayCopy session.known part) (single : part.to.h ≡ 1)
    (shown : ShowsKnown session.known pixels) (wide : pixels.width ≡ session.known.width)
    (high : pixels.height ≡ session.known.height)
    (packed : wanted ≡ map (pixel_of session.format) (row_of screen part.to.x part.to.y part.to.w)) where
  wanted_is : (i : ℕ) → i < part.to.w → slice_index wanted i ≡ wanted_at screen session.format (part.to.x + i) part.to.y
  wanted_is i l =
      let row = row_of screen part.to.x part.to.y part.to.w in
      let long : length row ≡ part.to.w =
      length-row_of screen part.to.x part.to.y part.to.w about.whole (omega (arith, may.target, about.alike))
      (omega (arith, may.target, about.alike)) in
      rw packed
      (get_or-map (pixel_of session.format) row i black 0 (omega arith)
      ∙ ap (pixel_of session.format) (slice_index_or-row_of screen part.to.x part.to.y part.to.w i black l))

  -- what is right after the copy
  after_right : (i : ℕ) → i < part.to.w →
      (slice_index wanted i == slice_index (row_of pixels part.sx part.sy part.to.w) i)
      ≡ right_after screen session part (part.to.x + i) part.to.y
  after_right i l =
      let column : part.sx + (part.to.x + i - part.to.x) ≡ part.sx + i = omega arith in
      let row : part.sy + (part.to.y - part.to.y) ≡ part.sy = omega arith in
      let source = moved_to part.sx part.sy part.to in
      let (pixel, known) = may.source_known (part.sx + i) part.sy
      (contains_row source (part.sx + i) part.sy (omega arith) (omega arith) (omega arith) (omega arith)) in
      let read = slice_index_or-row_of pixels part.sx part.sy part.to.w i 0 l in
      let there : at_or pixels (part.sx + i) part.sy 0 ≡ pixel =
      shown (part.sx + i) part.sy pixel (omega (arith, may.source)) (omega (arith, may.source)) known in
      rw (column, row, wanted_is i l, read, there, known)
      (same_pixel (wanted_at screen session.format (part.to.x + i) part.to.y) pixel)

  -- so as many places are the same in the source's row
  pub after_counted : (source : List ℕ) → source ≡ row_of pixels part.sx part.sy part.to.w →
      length source ≡ part.to.w → length wanted ≡ part.to.w →
      equal_places wanted source ≡ count_row (right_after screen session part) part.to.x part.to.y part.to.w
  after_counted source is long len =
      ap (equal_places wanted) is
      ∙ equal_row wanted (row_of pixels part.sx part.sy part.to.w) (right_after screen session part) part.to.x
      part.to.y part.to.w len (sym (ap length is) ∙ long) after_right

  -- what is right as it is
  before_right : (area : Places) (j : ℕ) → TellsKnown session.known area → j < part.to.w →
      (is_in area.asked (part.to.x + j) part.to.y
      && not (not (slice_index wanted j == slice_index (row_of pixels part.to.x part.to.y part.to.w) j)))
      ≡ right_before screen session part (part.to.x + j) part.to.y
  before_right area j told l =
      let x = part.to.x + j in
      let y = part.to.y in
      let column : part.to.x + (part.to.x + j - part.to.x) ≡ part.to.x + j = omega arith in
      let row : part.to.y + (part.to.y - part.to.y) ≡ part.to.y = omega arith in
      let read = slice_index_or-row_of pixels part.to.x part.to.y part.to.w j 0 l in
      let known : is_in area.asked x y ≡ is_known (at_or session.known x y None) =
      told x y (omega (arith, may.target)) (omega (arith, may.target)) in
      rw (column, row, wanted_is j l, read, known)
      (known_right (wanted_at screen session.format x y) (at_or pixels x y 0) (at_or session.known x y None)
      (λ pixel e. shown x y pixel (omega (arith, may.target)) (omega (arith, may.target)) e))

  -- so say the bits of the known places without those of the others
  pub before_bits : (area : Places) (known other : ℕ) → TellsKnown session.known area →
      HasBitsBetween (is_in area.asked) part.to.y part.to.x (part.to.x + part.to.w) known →
      TellsDifferences wanted (row_of pixels part.to.x part.to.y part.to.w) other → length wanted ≡ part.to.w →
      part.to.x + part.to.w ≤ part.to.x / 64 * 64 + 64 →
      HasBitsBetween (right_before screen session part) part.to.y part.to.x (part.to.x + part.to.w)
      (bit_and known (bit_not w64 (other * 2 ^ (part.to.x % 64) % 2 ^ 64)))
  before_bits area known other told bits differ long cell = λ i low.
      let x = part.to.x / 64 * 64 + i in
      let y = part.to.y in
      let moved = other * 2 ^ (part.to.x % 64) % 2 ^ 64 in
      has_bit-without known moved i (mod-lt (other * 2 ^ (part.to.x % 64)) (pow_pos 64)) low
      ∙ (rw (bits i low)
      (gated (nat_le part.to.x x && nat_lt x (part.to.x + part.to.w)) (is_in area.asked x y) (not (has_bit moved i))
      (right_before screen session part x y)
      (λ e.
      let (from, to) = within x part.to.x (part.to.x + part.to.w) e in
      let j = i - part.to.x % 64 in
      let place : part.to.x + j ≡ x = omega arith in
      let inside : nat_lt j (length wanted) ≡ true = grind (arith, nat_tests) in
      let told_bit : has_bit other j ≡ (nat_lt j (length wanted)
      && not (slice_index wanted j == slice_index (row_of pixels part.to.x part.to.y part.to.w) j)) =
      differ j (omega arith) in
      let bit : has_bit moved i
      ≡ not (slice_index wanted j == slice_index (row_of pixels part.to.x part.to.y part.to.w) j) =
      has_bit-up other (part.to.x % 64) i low (omega arith) ∙ told_bit ∙ ap (λ b. b
      && not (slice_index wanted j == slice_index (row_of pixels part.to.x part.to.y part.to.w) j)) inside in
      rw bit (rw place at (before_right area j told (omega arith))))))
