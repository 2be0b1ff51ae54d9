-- Laws of rows that are lent for writing: what the grid ends as.
use Rattle.std.proofs.Common.{ℕ, List, ◌++◌, ◌≡◌, ◌+◌, ◌-◌, ◌*◌, ◌<◌, ◌≤◌, length}
use Rattle.std.proofs.Common.{take, drop, get_or, slice_index_or}
use Rattle.std.proofs.Common.{refl, ap, sym, ◌∙◌, arith, if◌then◌else◌, nat_le, nat_lt, ◌&&◌, Bool, Vec}
use Rattle.std.proofs.Common.{length-append}
use Rattle.std.proofs.Common.{length-drop}
use Rattle.std.proofs.lemmas.List.{get_or-take, get_or-append_right, get_or-drop, get_or_default, length-take-le}
use Rattle.std.proofs.Math.ListN.{get_or-append}
use Rattle.std.proofs.Math.Nat.{mul-le-mul_right}
use Rattle.std.proofs.lemmas.Bool.Decides.{nat_tests}
use Rattle.std.specs.Vec.{with_items_from}
use Rattle.rfb_picture.specs.Grid.{Grid, grid, IsGrid, at_or, changed, row_of, with_row, with_run}
use Rattle.rfb_picture.proofs.GridLemmas.{place_below, changed_is, row_written, same_changes, width-changed}
use Rattle.rfb_picture.proofs.GridLemmas.{height-changed, same_parts}
use Rattle.rfb_picture.specs.layout.Lines.{AreInOrder, IsKept, IsPicture, place_in, shown}
use Rattle.rfb_picture.proofs.ShownLemmas.{ordered_lines, shown_is}

module _ {X : Type 0} where
  -- values written over a list from index n on
  abbrev pub written_over : List X → ℕ → List X → List X
  written_over xs n ws = take n xs ++ (ws ++ drop (length ws) (drop n xs))

  length-written_over : (xs : List X) (n : ℕ) (ws : List X) → n ≤ length xs →
      length xs ≤ length (written_over xs n ws)
  length-written_over xs n ws l =
      let front : length (take n xs) ≡ n = length-take-le n xs l in
      simp (length-append, length-drop) (omega arith)

  pub before_run : (xs : List X) (n : ℕ) (ws : List X) (k : ℕ) (d : X) →
      n ≤ length xs → k < n → get_or (written_over xs n ws) k d ≡ get_or xs k d
  before_run xs n ws k d l p =
      let front : length (take n xs) ≡ n = length-take-le n xs l in
      get_or-append (take n xs) _ d k (omega arith) ∙ get_or-take n xs k d p

  pub in_run : (xs : List X) (n : ℕ) (ws : List X) (k : ℕ) (d other : X) →
      n ≤ length xs → n ≤ k → k < n + length ws →
      get_or (written_over xs n ws) k d ≡ get_or ws (k - n) other
  in_run xs n ws k d other l p q =
      get_or-append_right (take n xs) _ n k d (length-take-le n xs l) p
      ∙ (get_or-append ws _ d (k - n) (omega arith)
      ∙ get_or_default ws (k - n) d other (omega arith))

  pub after_run : (xs : List X) (n : ℕ) (ws : List X) (k : ℕ) (d : X) →
      n ≤ length xs → n + length ws ≤ k → get_or (written_over xs n ws) k d ≡ get_or xs k d
  after_run xs n ws k d l p =
      let there : n + (length ws + (k - n - length ws)) ≡ k = omega arith in
      get_or-append_right (take n xs) _ n k d (length-take-le n xs l) (omega arith)
      ∙ (get_or-append_right ws _ (length ws) (k - n) d refl (omega arith)
      ∙ (get_or-drop (length ws) (drop n xs) (k - n - length ws) d
      ∙ (get_or-drop n xs (length ws + (k - n - length ws)) d ∙ ap (λ m. get_or xs m d) there)))

  get_or-written_over : (xs : List X) (n : ℕ) (ws : List X) (k : ℕ) (d other : X) →
      n ≤ length xs →
      get_or (written_over xs n ws) k d
      ≡ (if nat_le n k && nat_lt k (n + length ws) then get_or ws (k - n) other
      else get_or xs k d)
  get_or-written_over xs n ws k d other l =
      grind (
        arith,
        nat_tests,
        before_run xs n ws k d l,
        in_run xs n ws k d other l,
        after_run xs n ws k d l,
      )

  -- the value at a place after those that a loan of a vector's places left
  pub run_written : {Z : Type 0} (v : Vec X Z) (n : ℕ) (ws : List X) (k : ℕ) (d other : X) →
      n ≤ length v.items →
      k < length v.items →
      get_or (with_items_from v n ws).items k d
      ≡ (if nat_le n k && nat_lt k (n + length ws) then get_or ws (k - n) other
      else get_or v.items k d)
  run_written v n ws k d other l below =
      let whole : v.len ≡ length v.items = v.ok.0 in
      let long = length-written_over v.items n ws l in
      get_or-take v.len
      (written_over v.items n ws ++ drop (length (written_over v.items n ws)) v.items) k d
      (omega arith)
      ∙ (get_or-append (written_over v.items n ws) _ d k (omega arith)
      ∙ get_or-written_over v.items n ws k d other l)

  -- and they are as many as before
  pub length-run_written : {Z : Type 0} (v : Vec X Z) (n : ℕ) (ws : List X) →
      length (with_items_from v n ws).items ≡ length v.items
  length-run_written v n ws = sym (with_items_from v n ws).ok.0 ∙ v.ok.0

  -- so the grid has them as a run of its places
  pub run_left : {Z : Type 0} (v : Vec X Z) (x y w h : ℕ) (run : List X) →
      IsGrid (grid w h v.items) →
      x ≤ w →
      y < h →
      grid w h (with_items_from v (y * w + x) run).items ≡ with_run x y run (grid w h v.items)
  run_left v x y w h run whole column row =
      let g : Grid X = grid w h v.items in
      let over = mul-le-mul_right w row in
      ap (λ (k : Grid X). grid w h k.places)
      (changed_is
      (λ i j old. if nat_le (y * w + x) (j * w + i) && nat_lt (j * w + i) (y * w + x + length run)
      then slice_index_or run (j * w + i - (y * w + x)) old else old)
      g (with_items_from v (y * w + x) run).items whole (length-run_written v (y * w + x) run)
      (λ i j d p q.
      let below = place_below w h i j p q in
      run_written v (y * w + x) run (j * w + i) d (get_or v.items (j * w + i) d) (omega arith)
      (omega arith)))

  -- within a row a run is a part of that row
  pub run_in_row : (x y : ℕ) (row : List X) (g : Grid X) → IsGrid g → x + length row ≤ g.width →
      with_run x y row g ≡ with_row x y row g
  run_in_row x y row g whole fits =
      let same : changed _ g ≡ with_row x y row g = same_changes
      (λ i j old. if nat_le (y * g.width + x) (j * g.width + i)
      && nat_lt (j * g.width + i) (y * g.width + x + length row)
      then slice_index_or row (j * g.width + i - (y * g.width + x)) old else old)
      _ g whole
      (λ i j d p q.
      row_written x y g.width i j row (at_or g i j d) _ (at_or g i j d) fits p refl) in
      ap (λ (k : Grid X). grid g.width g.height k.places) same
      ∙ same_parts _ _ (sym (width-changed _ g)) (sym (height-changed _ g)) refl

  -- ---- where the lines are in order

  -- what is shown is the places as they are
  ordered_shown : (w h : ℕ) (lines : List ℕ) (places : List X) → AreInOrder h lines →
      IsGrid (grid w h places) →
      shown w h lines places ≡ grid w h places
  ordered_shown w h lines places order whole =
      shown_is w h lines places (grid w h places)
      (record { whole = whole; lines_are = ordered_lines h lines order }) whole refl refl
      (λ x y d p q. ap (λ k. slice_index_or places (k * w + x) d) (order.same y q))

  -- places that have been put in their order are what was shown
  module _ {Z : Type 0} (v : Vec X Z) (w h : ℕ) (lines ordered : List ℕ) (places : List X)
      (kept : IsKept w h lines places) (order : AreInOrder h ordered) (same : length v.items ≡ length places)
      (each : (i j : ℕ) (d : X) → i < w → j < h →
      slice_index_or v.items (j * w + i) d ≡ slice_index_or places (place_in lines w i j) d) where
    pub are_shown : shown w h lines places ≡ grid w h v.items
    are_shown =
        shown_is w h lines places (grid w h v.items) kept (same ∙ kept.whole) refl refl
        (λ i j d p q. sym (each i j d p q))

    pub row_lent : (x y n : ℕ) → take n (drop (y * w + x) v.items) ≡ row_of (shown w h lines places) x y n
    row_lent x y n = ap (λ (g : Grid X). take n (drop (y * w + x) g.places)) (sym are_shown)

    -- a run that is written over them is one of what was shown
    pub run_lent : (x y : ℕ) (run : List X) → x ≤ w → y < h →
        shown w h ordered (with_items_from v (y * w + x) run).items ≡ with_run x y run (shown w h lines places)
    run_lent x y run column row =
        ordered_shown w h ordered (with_items_from v (y * w + x) run).items order
        (length-run_written v (y * w + x) run ∙ same ∙ kept.whole)
        ∙ run_left v x y w h run (same ∙ kept.whole) column row
        ∙ ap (with_run x y run) (sym are_shown)

    pub still_picture : (n : ℕ) (run : List X) (turned : Bool) →
        IsPicture w h turned ordered (with_items_from v n run).items
    still_picture n run turned = record {
      kept = record {
        whole = length-run_written v n run ∙ same ∙ kept.whole;
        lines_are = ordered_lines h ordered order;
      };
      order = λ no. order;
    }
