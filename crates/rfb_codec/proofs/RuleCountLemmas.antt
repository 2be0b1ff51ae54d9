-- The rule has one choice for a block, and no fewer subrectangles than the block has pixels beside
-- its background.
use Rattle.std.proofs.Common.{◌≡◌, ◌≢◌, ℕ, zero, suc, ◌+◌, ◌-◌, ◌*◌, ◌/◌, ◌%◌}
use Rattle.std.proofs.Common.{◌<◌, ◌≤◌, List, [], ◌∷◌, ◌++◌, Bool, true}
use Rattle.std.proofs.Common.{false, ◌||◌, length, map, take, slice_index, get_or, arith, refl, sym, ap, subst}
use Rattle.std.proofs.Common.{◌∙◌, inl, inr}
use Rattle.std.proofs.Common.{◌⊎◌, append_assoc, append-nil, All}
use Rattle.std.proofs.lemmas.Bool.{cases_eq, cases_order, both_ways}
use Rattle.std.proofs.lemmas.List.Elements.{All-head, All-tail, All-weaker, All-get_or, All-from_get_or}
use Rattle.std.proofs.lemmas.List.{length-map, take_all}
use Rattle.std.proofs.lemmas.Nat.{div-add-mod', div_below, div-mul-add, mod-mul-add}
use Rattle.std.proofs.Math.Nat.{mod-lt, mul-le-mul_right}
use Rattle.rfb_picture.specs.Rect.{contains}
use Rattle.rfb_picture.proofs.GridLaws.{contains_true, contains_row, place_below}
use Rattle.rfb_codec.specs.declared.subrect.Subrect.{Subrect}
use Rattle.rfb_codec.specs.Choice.{IsPixelOf, IsBackground, is_in_any, IsLeft, IsBefore, IsNextSub, AreNextSubs}
use Rattle.rfb_codec.specs.Choice.{AreRuleSubs, places_of}
use Rattle.rfb_codec.specs.encoder.Background.{HasMore, AllDiffer}
use Rattle.rfb_codec.proofs.PlacesLemmas.{more_yes, more_no}
use Rattle.rfb_codec.proofs.RuleLemmas.{in_push}

-- ---- one background

pub same_background : (pixels : List ℕ) (a b : ℕ) → IsBackground pixels a → IsBackground pixels b → a ≡ b
same_background pixels a b first second =
    let up = first.most b second.there in
    let down = second.most a first.there in
    let low = first.least b second.there (omega (arith, up, down)) in
    let high = second.least a first.there (omega (arith, up, down)) in
    omega (arith, low, high)

-- ---- one list of subrectangles

module _ (width height : ℕ) (pixels : List ℕ) (background : ℕ) where
  module _ (before : List Subrect) (s t : Subrect) (one : IsNextSub width height pixels background before s)
      (other : IsNextSub width height pixels background before t) where
    -- the corner of one is no place before that of the other
    not_before : IsBefore s.rect.x s.rect.y t.rect.x t.rect.y → ⊥
    not_before is = other.first s.rect.x s.rect.y (omega (arith, one.inside, one.wide))
        (omega (arith, one.inside, one.high)) is one.left

    not_wider : s.rect.x ≡ t.rect.x → s.rect.y ≡ t.rect.y → s.pixel ≡ t.pixel → s.rect.w < t.rect.w → ⊥
    not_wider x y pixel less =
        let free = other.rows s.rect.y (omega (arith, y)) (omega (arith, y, other.high)) (s.rect.x + s.rect.w)
        (omega (arith, x)) (omega (arith, x, less)) in
        one.longest (omega (arith, other.inside, x, less)) (rw pixel free)

    not_higher : s.rect.x ≡ t.rect.x → s.rect.y ≡ t.rect.y → s.rect.w ≡ t.rect.w →
        s.pixel ≡ t.pixel → s.rect.h < t.rect.h → ⊥
    not_higher x y w pixel less =
        one.lowest (omega (arith, other.inside, y, less))
        (λ i from below. rw pixel (other.rows (s.rect.y + s.rect.h) (omega (arith, y)) (omega (arith, y, less)) i
        (omega (arith, x, from)) (omega (arith, x, w, below))))

  next_same : (before : List Subrect) (s t : Subrect) → IsNextSub width height pixels background before s →
      IsNextSub width height pixels background before t → s ≡ t
  next_same before s t one other =
      let y : s.rect.y ≡ t.rect.y = elim (cases_order s.rect.y t.rect.y) [
        | inl same ↦ same
        | inr apart ↦ elim apart [
          | inl less ↦ absurd (not_before before s t one other (inl less))
          | inr more ↦ absurd (not_before before t s other one (inl more))
        ]
      ] in
      let x : s.rect.x ≡ t.rect.x = elim (cases_order s.rect.x t.rect.x) [
        | inl same ↦ same
        | inr apart ↦ elim apart [
          | inl less ↦ absurd (not_before before s t one other (inr (y, less)))
          | inr more ↦ absurd (not_before before t s other one (inr (sym y, more)))
        ]
      ] in
      let pixel : s.pixel ≡ t.pixel = one.pixel ∙ (rw (x, y) (sym other.pixel)) in
      let w : s.rect.w ≡ t.rect.w = elim (cases_order s.rect.w t.rect.w) [
        | inl same ↦ same
        | inr apart ↦ elim apart [
          | inl less ↦ absurd (not_wider before s t one other x y pixel less)
          | inr more ↦ absurd (not_wider before t s other one (sym x) (sym y) (sym pixel) more)
        ]
      ] in
      let h : s.rect.h ≡ t.rect.h = elim (cases_order s.rect.h t.rect.h) [
        | inl same ↦ same
        | inr apart ↦ elim apart [
          | inl less ↦ absurd (not_higher before s t one other x y w pixel less)
          | inr more ↦ absurd (not_higher before t s other one (sym x) (sym y) (sym w) (sym pixel) more)
        ]
      ] in
      λ i. record { pixel = pixel i; rect = record { x = x i; y = y i; w = w i; h = h i } }

  -- some of the rule's are no more than all of them
  pub no_more : (before some all : List Subrect) → AreNextSubs width height pixels background before some →
      AreNextSubs width height pixels background before all →
      ((x y : ℕ) → x < width → y < height → IsLeft width pixels background (before ++ all) x y → ⊥) →
      length some ≤ length all
  no_more before [] all each other none = omega arith
  no_more before (s ∷ some) [] (next, each) other none =
      absurd (none s.rect.x s.rect.y (omega (arith, next.inside, next.wide)) (omega (arith, next.inside, next.high))
      (subst (λ (l : List Subrect). IsLeft width pixels background l s.rect.x s.rect.y)
      (sym (append-nil before)) next.left))
  no_more before (s ∷ some) (t ∷ all) (next, each) (next', other) none =
      let same = next_same before s t next next' in
      let rest =
      subst (λ (u : Subrect). AreNextSubs width height pixels background (before ++ u ∷ []) some) same each in
      let after : (x y : ℕ) → x < width → y < height → IsLeft width pixels background ((before ++ t ∷ []) ++ all) x y →
      ⊥ = λ x y p q. subst (λ (l : List Subrect). IsLeft width pixels background l x y → ⊥)
      (sym (append_assoc before (t ∷ []) all)) (none x y p q) in
      let less = no_more (before ++ t ∷ []) some all rest other after in
      omega (arith, less)

  -- and fewer, where they leave a place
  pub fewer : (before some all : List Subrect) (x y : ℕ) → x < width → y < height →
      AreNextSubs width height pixels background before some → AreNextSubs width height pixels background before all →
      IsLeft width pixels background (before ++ some) x y →
      ((x y : ℕ) → x < width → y < height → IsLeft width pixels background (before ++ all) x y → ⊥) →
      length some < length all
  fewer before [] [] x y p q each other left none = absurd (none x y p q left)
  fewer before [] (t ∷ all) x y p q each other left none = omega arith
  fewer before (s ∷ some) [] x y p q each other left none =
      let no = no_more before (s ∷ some) [] each other none in
      absurd (omega (arith, no))
  fewer before (s ∷ some) (t ∷ all) x y p q (next, each) (next', other) left none =
      let same = next_same before s t next next' in
      let rest =
      subst (λ (u : Subrect). AreNextSubs width height pixels background (before ++ u ∷ []) some) same each in
      let left_over =
      subst (λ (l : List Subrect). IsLeft width pixels background l x y) (sym (append_assoc before (t ∷ []) some))
      (subst (λ (u : Subrect). IsLeft width pixels background (before ++ u ∷ some) x y) same left) in
      let after : (x y : ℕ) → x < width → y < height → IsLeft width pixels background ((before ++ t ∷ []) ++ all) x y →
      ⊥ = λ x y p q. subst (λ (l : List Subrect). IsLeft width pixels background l x y → ⊥)
      (sym (append_assoc before (t ∷ []) all)) (none x y p q) in
      let less = fewer (before ++ t ∷ []) some all x y p q rest other left_over after in
      omega (arith, less)

  -- two lists that leave no place are one
  all_same : (before a b : List Subrect) → AreNextSubs width height pixels background before a →
      AreNextSubs width height pixels background before b →
      ((x y : ℕ) → x < width → y < height → IsLeft width pixels background (before ++ a) x y → ⊥) →
      ((x y : ℕ) → x < width → y < height → IsLeft width pixels background (before ++ b) x y → ⊥) → a ≡ b
  all_same before [] [] first second none_first none_second = refl
  all_same before [] (t ∷ b) first (next, second) none_first none_second =
      absurd (none_first t.rect.x t.rect.y (omega (arith, next.inside, next.wide))
      (omega (arith, next.inside, next.high)) (subst (λ (l : List Subrect). IsLeft width pixels background l
      t.rect.x t.rect.y) (sym (append-nil before)) next.left))
  all_same before (s ∷ a) [] (next, first) second none_first none_second =
      absurd (none_second s.rect.x s.rect.y (omega (arith, next.inside, next.wide))
      (omega (arith, next.inside, next.high)) (subst (λ (l : List Subrect). IsLeft width pixels background l
      s.rect.x s.rect.y) (sym (append-nil before)) next.left))
  all_same before (s ∷ a) (t ∷ b) (next, first) (next', second) none_first none_second =
      let same = next_same before s t next next' in
      let moved = subst (λ (u : Subrect). AreNextSubs width height pixels background (before ++ u ∷ []) a) same first in
      let none_a : (x y : ℕ) → x < width → y < height → IsLeft width pixels background ((before ++ t ∷ []) ++ a) x y →
      ⊥ = λ x y p q. subst (λ (l : List Subrect). IsLeft width pixels background l x y → ⊥)
      (sym (append_assoc before (t ∷ []) a)) (subst
      (λ (u : Subrect). IsLeft width pixels background (before ++ u ∷ a) x y → ⊥) same (none_first x y p q)) in
      let none_b : (x y : ℕ) → x < width → y < height → IsLeft width pixels background ((before ++ t ∷ []) ++ b) x y →
      ⊥ = λ x y p q. subst (λ (l : List Subrect). IsLeft width pixels background l x y → ⊥)
      (sym (append_assoc before (t ∷ []) b)) (none_second x y p q) in
      let rest = all_same (before ++ t ∷ []) a b moved second none_a none_b in
      λ i. same i ∷ rest i

  pub same_subs : (a b : List Subrect) → AreRuleSubs width height pixels background a →
      AreRuleSubs width height pixels background b → a ≡ b
  same_subs a b first second = all_same [] a b first.each second.each first.none second.none

  -- ---- no more than there are places

  -- the places before (x, y), row by row
  before_is : (i j x y : ℕ) → i < width → x < width → j * width + i < y * width + x → IsBefore i j x y
  before_is i j x y p q less = elim (cases_order j y) [
    | inl same ↦
        inr (same, let rows : j * width ≡ y * width = ap (λ (n : ℕ). n * width) same in omega (arith, less, rows))
    | inr apart ↦ elim apart [
      | inl above ↦ inl above
      | inr below ↦
          let rows : (y + 1) * width ≤ j * width = mul-le-mul_right width (omega (arith, below)) in
          absurd (omega (arith, less, rows, q))
    ]
  ]

  -- a place that is left after one more was left, and is not its corner
  left_after : (before : List Subrect) (s : Subrect) (x y : ℕ) → IsLeft width pixels background (before ++ s ∷ []) x y →
      IsLeft width pixels background before x y × (contains s.rect x y ≡ false)
  left_after before s x y left =
      let parts = neither (is_in_any before x y) (contains s.rect x y) (sym (in_push before s x y) ∙ left.1) in
      ((left.0, parts.0), parts.1)
    where
      neither : (a b : Bool) → (a || b) ≡ false → (a ≡ false) × (b ≡ false)
      neither true b e = absurd cc
      neither false b e = (refl, e)

  -- n more places have at most n of the background
  few_more : (from n : ℕ) → from + n ≤ length pixels →
      places_of background (take (from + n) pixels) ≤ places_of background (take from pixels) + n
  few_more from zero within = let none : from + 0 ≡ from = omega arith in rw none (omega arith)
  few_more from (suc n) within =
      let before = few_more from n (omega arith) in
      let next : from + suc n ≡ from + n + 1 = omega arith in
      rw next (elim (cases_eq (get_or pixels (from + n) 0) background) [
        | inl is ↦
            let one = more_yes background pixels (from + n) (omega arith) is in
            omega (arith, before, one)
        | inr not ↦
            let none = more_no background pixels (from + n) (omega arith) not in
            omega (arith, before, none)
      ])

  -- where each place that is left comes from a number on: no more than there are others from there on
  in_order : (before subs : List Subrect) (from : ℕ) →
      AreNextSubs width height pixels background before subs → length pixels ≡ height * width →
      from ≤ height * width →
      ((x y : ℕ) → x < width → y < height → IsLeft width pixels background before x y → from ≤ y * width + x) →
      length subs + (from + places_of background pixels)
      ≤ height * width + places_of background (take from pixels)
  in_order before [] from each whole within low =
      let rest : ℕ = height * width - from in
      let all : take (from + rest) pixels ≡ pixels = take_all (from + rest) pixels (omega (arith, whole, within)) in
      let more = rw all at (few_more from rest (omega (arith, whole, within))) in
      omega (arith, more, within)
  in_order before (s ∷ subs) from (next, each) whole within low =
      let x = s.rect.x in
      let y = s.rect.y in
      let column : x < width = omega (arith, next.inside, next.wide) in
      let row : y < height = omega (arith, next.inside, next.high) in
      let at : from ≤ y * width + x = low x y column row next.left in
      let inside : y * width + x < height * width = place_below width height x y column row in
      let rest = in_order (before ++ s ∷ []) subs (y * width + x + 1) each whole (omega (arith, inside))
      (λ i j p q left.
      let (old, apart) = left_after before s i j left in
      elim (cases_order (y * width + x) (j * width + i)) [
        | inl same ↦ absurd (both_ways (contains s.rect i j) apart (corner i j p column same))
        | inr apart ↦ elim apart [
          | inl less ↦ omega (arith, less)
          | inr more ↦ absurd (next.first i j p q (before_is i j x y p column more) old)
        ]
      ]) in
      let none = more_no background pixels (y * width + x) (omega (arith, inside, whole)) next.left.0 in
      let here : from + (y * width + x - from) ≡ y * width + x = omega (arith, at) in
      let few = rw here at (few_more from (y * width + x - from) (omega (arith, at, inside, whole))) in
      omega (arith, rest, none, few, at)
    where
      -- the corner's number is its own
      corner : (i j : ℕ) → i < width → s.rect.x < width → s.rect.y * width + s.rect.x ≡ j * width + i →
          contains s.rect i j ≡ true
      corner i j p q same =
          let row : j ≡ s.rect.y = sym (div-mul-add j width i p)
          ∙ (ap (λ (n : ℕ). n / width) (sym same) ∙ div-mul-add s.rect.y width s.rect.x q) in
          let column : i ≡ s.rect.x = sym (mod-mul-add j width i p)
          ∙ (ap (λ (n : ℕ). n % width) (sym same) ∙ mod-mul-add s.rect.y width s.rect.x q) in
          contains_row s.rect i j (omega (arith, column)) (omega (arith, column, next.wide)) (omega (arith, row))
          (omega (arith, row, next.high))

  -- no more than there are places of other pixels
  pub few_of : (subs : List Subrect) → AreNextSubs width height pixels background [] subs →
      length pixels ≡ height * width → length subs + places_of background pixels ≤ height * width
  few_of subs each whole =
      let few = in_order [] subs 0 each whole (omega arith) (λ x y p q left. omega arith) in
      omega (arith, few)

-- ---- as many as there are pixels

-- the pixel is one of these
abbrev Among : ℕ → List ℕ → Type 0
Among p [] = ⊥
Among p (q ∷ others) = (p ≡ q) ⊎ Among p others

-- the others, once it is taken out
taken_out : (p : ℕ) (xs : List ℕ) → Among p xs →
    (ys : List ℕ) × (length xs ≡ suc (length ys)) × ((q : ℕ) → q ≢ p → Among q xs → Among q ys)
taken_out p [] is = absurd is
taken_out p (x ∷ xs) (inl same) =
    (xs, refl, λ q other is. elim is [ inl e ↦ absurd (other (e ∙ sym same)) | inr there ↦ there ])
taken_out p (x ∷ xs) (inr there) =
    let (ys, size, kept) = taken_out p xs there in
    (x ∷ ys, ap suc size, λ q other is. elim is [ inl e ↦ inl e | inr deeper ↦ inr (kept q other deeper) ])

-- different ones are among no fewer
different_among : (some all : List ℕ) → AllDiffer some → All (λ p. Among p all) some → length some ≤ length all
different_among [] all differ there = omega arith
different_among (p ∷ some) all (apart, differ) there =
    let (others, size, kept) = taken_out p all (All-head (λ q. Among q all) p some there) in
    let more = All-tail (λ q. Among q all) p some there in
    let rest = All-from_get_or (λ q. Among q others) some 0 (λ i below. kept (get_or some i 0)
    (All-get_or (λ q. q ≢ p) some i 0 below apart) (All-get_or (λ q. Among q all) some i 0 below more)) in
    let less = different_among some others differ rest in
    omega (arith, size, less)

abbrev pixels_of : List Subrect → List ℕ
pixels_of subs = map (λ (s : Subrect). s.pixel) subs

module _ (width height : ℕ) (pixels : List ℕ) (background : ℕ) where
  -- a place of a subrectangle has its pixel
  among_subs : (before subs : List Subrect) → AreNextSubs width height pixels background before subs → (x y : ℕ) →
      is_in_any subs x y ≡ true → Among (slice_index pixels (y * width + x)) (pixels_of subs)
  among_subs before [] each x y e = cc
  among_subs before (s ∷ subs) (next, each) x y e =
      by (contains s.rect x y) refl e (among_subs (before ++ s ∷ []) subs each x y)
    where
      by : (here : Bool) → contains s.rect x y ≡ here → (here || is_in_any subs x y) ≡ true →
          (is_in_any subs x y ≡ true → Among (slice_index pixels (y * width + x)) (pixels_of subs)) →
          Among (slice_index pixels (y * width + x)) (s.pixel ∷ pixels_of subs)
      by true is any rest = let (a, b, c, d) = contains_true s.rect x y is in inl (next.rows y c d x a b).0
      by false is any rest = inr (rest any)

  pixel_among : (subs : List Subrect) → length pixels ≡ height * width →
      AreRuleSubs width height pixels background subs → (p : ℕ) → IsPixelOf pixels p →
      Among p (background ∷ pixels_of subs)
  pixel_among subs whole rule p (i, below, is) =
      let some : 0 < width = positive width (rw whole at below) in
      let x : i % width < width = mod-lt i some in
      let y : i / width < height = div_below i width height some (omega (arith, below, whole)) in
      let place : i / width * width + i % width ≡ i = div-add-mod' i width in
      elim (cases_eq p background) [
        | inl plain ↦ inl plain
        | inr other ↦ inr (by (is_in_any subs (i % width) (i / width)) refl x y place other)
      ]
    where
      positive : (w : ℕ) → i < height * w → 0 < w
      positive zero l = absurd (omega arith)
      positive (suc w) l = omega arith

      by : (any : Bool) → is_in_any subs (i % width) (i / width) ≡ any → i % width < width → i / width < height →
          i / width * width + i % width ≡ i → p ≢ background → Among p (pixels_of subs)
      by true e x y place other = subst (λ (q : ℕ). Among q (pixels_of subs))
          (ap (λ (n : ℕ). slice_index pixels n) place ∙ sym is) (among_subs [] subs rule.each (i % width) (i / width) e)
      by false e x y place other = absurd (rule.none (i % width) (i / width) x y
          ((λ same. other (is ∙ (ap (λ (n : ℕ). slice_index pixels n) (sym place) ∙ same))), e))

  -- each pixel but the background needs one
  pub enough_subs : (subs : List Subrect) (most : ℕ) → length pixels ≡ height * width →
      AreRuleSubs width height pixels background subs → HasMore most pixels → most ≤ length subs
  enough_subs subs most whole rule more =
      let among = All-weaker (λ p. IsPixelOf pixels p) (λ p. Among p (background ∷ pixels_of subs))
      (pixel_among subs whole rule) more.some more.there in
      let less = different_among more.some (background ∷ pixels_of subs) more.differ among in
      let size : length (pixels_of subs) ≡ length subs = length-map subs (λ (s : Subrect). s.pixel) in
      let many = more.many in
      omega (arith, less, size, many)

-- ---- no shorter than Raw

-- more subrectangles than that have as many bytes by themselves
pub over_limit : (raw each limit n : ℕ) → 0 < each → limit ≡ raw / each → limit + 1 ≤ n → raw ≤ n * each
over_limit raw each limit n some is more =
    let parts : raw / each * each + raw % each ≡ raw = div-add-mod' raw each in
    let rest : raw % each < each = mod-lt raw some in
    let many : (limit + 1) * each ≤ n * each = mul-le-mul_right each more in
    let next : (limit + 1) * each ≡ raw / each * each + each = rw is (omega arith) in
    omega (arith, parts, rest, many, next)
