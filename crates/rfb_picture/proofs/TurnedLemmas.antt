-- Laws of lines that went round: each is still one row's.
use Rattle.std.proofs.Common.{ℕ, List, ◌≡◌, ◌+◌, ◌-◌, ◌<◌, ◌≤◌, ◌∙◌, ap, sym, refl}
use Rattle.std.proofs.Common.{arith}
use Rattle.std.proofs.Common.{nat_le, true, false, inl, inr, ◌⊎◌}
use Rattle.std.proofs.lemmas.Bool.Decides.{nat_tests}
use Rattle.rfb_picture.specs.declared.picture.lines.Rows.{Rows}
use Rattle.rfb_picture.specs.layout.Lines.{AreLines}
use Rattle.rfb_picture.specs.layout.Turn.{Turned, line_from, rest_of}
use Rattle.rfb_picture.proofs.SettleLemmas.{chosen, left}
use Rattle.rfb_picture.proofs.TurnLemmas.{Where, below_or_not, down}
use Rattle.rfb_picture.proofs.TurnLemmas.{of_others, of_rest}
use Rattle.rfb_picture.proofs.TurnLemmas.{of_target, up, where_is}

-- the rows the other way round
abbrev pub back : Rows → Rows
back rows = record { to = rows.from; from = rows.to; count = rows.count }

pub before_rest : (rows : Rows) (y : ℕ) → y < rows.to → y < rows.from → y < (rest_of rows).to
before_rest rows y p q =
    elim (below_or_not rows.from rows.to) [
      | inl below ↦ rw (down rows below) q
      | inr above ↦ let first : y < rows.to + rows.count = omega (arith, p) in rw (up rows above) first
    ]

pub after_rest : (rows : Rows) (y : ℕ) → rows.to + rows.count ≤ y → rows.from + rows.count ≤ y →
    (rest_of rows).to + (rest_of rows).count ≤ y
after_rest rows y p q =
    elim (below_or_not rows.from rows.to) [
      | inl below ↦
          let last : rows.from + (rows.to - rows.from) ≤ y = omega (arith, below, p) in rw (down rows below) last
      | inr above ↦
          let last : rows.to + rows.count + (rows.from - rows.to) ≤ y =
          omega (arith, above, q) in rw (up rows above) last
    ]

pub beyond_down : (rows : Rows) (y : ℕ) → rows.from < rows.to → (y < rows.to) ⊎ (rows.to + rows.count ≤ y) →
    (y < (rest_of rows).to) ⊎ ((rest_of rows).to + (rest_of rows).count ≤ y) →
    ((y < rows.to) × (y < rows.from)) ⊎ ((rows.to + rows.count ≤ y) × (rows.from + rows.count ≤ y))
beyond_down rows y below (inl k) (inl m) = let first : y < rows.from = rw (down rows below) at m in inl (k, first)
beyond_down rows y below (inl k) (inr m) =
    let last : rows.from + (rows.to - rows.from) ≤ y =
    rw (down rows below) at m in absurd (omega (arith, below, k, last))
beyond_down rows y below (inr k) outside = inr (k, omega (arith, below, k))

pub beyond_up : (rows : Rows) (y : ℕ) → rows.to ≤ rows.from → (y < rows.to) ⊎ (rows.to + rows.count ≤ y) →
    (y < (rest_of rows).to) ⊎ ((rest_of rows).to + (rest_of rows).count ≤ y) →
    ((y < rows.to) × (y < rows.from)) ⊎ ((rows.to + rows.count ≤ y) × (rows.from + rows.count ≤ y))
beyond_up rows y above (inl k) outside = inl (k, omega (arith, above, k))
beyond_up rows y above (inr k) (inl m) =
    let first : y < rows.to + rows.count = rw (up rows above) at m in absurd (omega (arith, k, first))
beyond_up rows y above (inr k) (inr m) =
    let last : rows.to + rows.count + (rows.from - rows.to) ≤ y = rw (up rows above) at m in
    inr (k, omega (arith, above, last))

-- a row that is neither written nor left lies before both or after both
pub beyond : (rows : Rows) (y : ℕ) → rows.to ≤ rows.from + rows.count → rows.from ≤ rows.to + rows.count →
    (y < rows.to) ⊎ (rows.to + rows.count ≤ y) →
    (y < (rest_of rows).to) ⊎ ((rest_of rows).to + (rest_of rows).count ≤ y) →
    ((y < rows.to) × (y < rows.from)) ⊎ ((rows.to + rows.count ≤ y) × (rows.from + rows.count ≤ y))
beyond rows y down_near up_near other outside =
    elim (below_or_not rows.from rows.to) [
      | inl below ↦ beyond_down rows y below other outside
      | inr above ↦ beyond_up rows y above other outside
    ]

pub others_back : (rows : Rows) (y : ℕ) →
    ((y < rows.to) × (y < rows.from)) ⊎ ((rows.to + rows.count ≤ y) × (rows.from + rows.count ≤ y)) →
    line_from (back rows) y ≡ y
others_back rows y (inl (p, q)) = of_others (back rows) y (inl q) (inl (before_rest (back rows) y q p))
others_back rows y (inr (p, q)) = of_others (back rows) y (inr q) (inr (after_rest (back rows) y q p))

-- the line that a row gets is one of them
pub line_within : (h : ℕ) (rows : Rows) (y : ℕ) → rows.to + rows.count ≤ h → rows.from + rows.count ≤ h →
    y < h →
    Where rows y → line_from rows y < h
line_within h rows y to_fits from_fits l (inl (p, q)) = rw (of_target rows y p q) (omega (arith, p, q, from_fits))
line_within h rows y to_fits from_fits l (inr (inl (other, p, q))) =
    rw (of_rest rows y other p q)
    (elim (below_or_not rows.from rows.to) [
      | inl below ↦
          let last : y < rows.from + (rows.to - rows.from) = rw (down rows below) at q in
          let test : nat_le rows.to rows.from ≡ false = grind (arith, nat_tests) in
          rw (left (nat_le rows.to rows.from) (y - rows.count) (y + rows.count) test) (omega (arith, last, to_fits))
      | inr above ↦
          let test : nat_le rows.to rows.from ≡ true = grind (arith, nat_tests) in
          rw (chosen (nat_le rows.to rows.from) (y - rows.count) (y + rows.count) test) (omega (arith, l))
    ])
line_within h rows y to_fits from_fits l (inr (inr (other, outside))) = rw (of_others rows y other outside) l

-- going back a row is where it was
pub there_and_back : (rows : Rows) (y : ℕ) → rows.to ≤ rows.from + rows.count →
    rows.from ≤ rows.to + rows.count →
    Where rows y → line_from (back rows) (line_from rows y) ≡ y
there_and_back rows y down_near up_near (inl (p, q)) =
    ap (line_from (back rows)) (of_target rows y p q)
    ∙ of_target (back rows) (rows.from + (y - rows.to)) (omega arith) (omega (arith, p, q))
    ∙ (let at : rows.to + (rows.from + (y - rows.to) - rows.from) ≡ y = omega (arith, p) in at)
there_and_back rows y down_near up_near (inr (inl (other, p, q))) =
    elim (below_or_not rows.from rows.to) [
      | inl below ↦
          let rest = down rows below in
          let first : rows.from ≤ y = rw rest at p in
          let last : y < rows.from + (rows.to - rows.from) = rw rest at q in
          let test : nat_le rows.to rows.from ≡ false = grind (arith, nat_tests) in
          let test_back : nat_le rows.from rows.to ≡ true = grind (arith, nat_tests) in
          let rest_back = up (back rows) (omega (arith, below)) in
          let is : line_from rows y ≡ y + rows.count =
          of_rest rows y other p q ∙ left (nat_le rows.to rows.from) _ _ test in
          let to : (rest_of (back rows)).to ≡ rows.from + rows.count = rw rest_back refl in
          let size : (rest_of (back rows)).count ≡ rows.to - rows.from = rw rest_back refl in
          ap (line_from (back rows)) is
          ∙ of_rest (back rows) (y + rows.count) (inr (omega (arith, first))) (omega (arith, first, to))
          (omega (arith, last, to, size))
          ∙ chosen (nat_le rows.from rows.to) _ _ test_back
          ∙ (let at : y + rows.count - rows.count ≡ y = omega arith in at)
      | inr above ↦
          let rest = up rows above in
          let first : rows.to + rows.count ≤ y = rw rest at p in
          let last : y < rows.to + rows.count + (rows.from - rows.to) = rw rest at q in
          let strictly : rows.to < rows.from = omega (arith, first, last) in
          let test : nat_le rows.to rows.from ≡ true = grind (arith, nat_tests) in
          let test_back : nat_le rows.from rows.to ≡ false = grind (arith, nat_tests) in
          let rest_back = down (back rows) strictly in
          let is : line_from rows y ≡ y - rows.count =
          of_rest rows y other p q ∙ chosen (nat_le rows.to rows.from) _ _ test in
          let to : (rest_of (back rows)).to ≡ rows.to = rw rest_back refl in
          let size : (rest_of (back rows)).count ≡ rows.from - rows.to = rw rest_back refl in
          ap (line_from (back rows)) is
          ∙ of_rest (back rows) (y - rows.count) (inl (omega (arith, first, last))) (omega (arith, first, to))
          (omega (arith, first, last, to, size))
          ∙ left (nat_le rows.from rows.to) _ _ test_back
          ∙ (let at : y - rows.count + rows.count ≡ y = omega (arith, first) in at)
    ]
there_and_back rows y down_near up_near (inr (inr (other, outside))) =
    ap (line_from (back rows)) (of_others rows y other outside)
    ∙ others_back rows y (beyond rows y down_near up_near other outside)

-- each row has a line of its own after the lines went round
pub lines_turned : (h : ℕ) (rows : Rows) (old new : List ℕ) → rows.to + rows.count ≤ h →
    rows.from + rows.count ≤ h →
    rows.to ≤ rows.from + rows.count → rows.from ≤ rows.to + rows.count →
    AreLines h old → Turned rows old new → AreLines h new
lines_turned h rows old new to_fits from_fits down_near up_near are turned = record {
  each = turned.long ∙ are.each;
  there = λ y q. rw (turned.lines y (rw are.each q)) (are.there (line_from rows y)
      (line_within h rows y to_fits from_fits q (where_is rows y)));
  apart = λ i j p q e.
      let same : line_from rows i ≡ line_from rows j =
      are.apart (line_from rows i) (line_from rows j) (line_within h rows i to_fits from_fits p (where_is rows i))
      (line_within h rows j to_fits from_fits q (where_is rows j))
      (sym (turned.lines i (rw are.each p)) ∙ e ∙ turned.lines j (rw are.each q)) in
      sym (there_and_back rows i down_near up_near (where_is rows i))
      ∙ ap (line_from (back rows)) same
      ∙ there_and_back rows j down_near up_near (where_is rows j);
}
