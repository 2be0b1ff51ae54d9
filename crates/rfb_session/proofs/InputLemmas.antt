-- The lines of a rig, as they come.
use Rattle.std.proofs.Common.{◌≡◌, ◌≢◌, ◌==◌, ◌∙◌, ◌<◌, ◌≤◌, ℕ, zero, suc, List, [], ◌∷◌, Bool, true, false}
use Rattle.std.proofs.Common.{refl, sym, ap, subst, min, length, take, drop, get_or, length-drop, arith, inl, inr}
use Rattle.std.proofs.Common.{◌&&◌, ◌||◌, not, nat_le}
use Rattle.std.proofs.lemmas.Bool.Decides.{nat_tests}
use Rattle.std.proofs.lemmas.List.Folds.{list_any_none}
use Rattle.std.proofs.lemmas.Bool.{cases_lt}
use Rattle.std.proofs.lemmas.List.{drop_all, take_all, take-take}
use Rattle.std.proofs.lemmas.List.Elements.{All-take}
use Rattle.std.specs.List.{list_any}
use Rattle.rfb_session.specs.declared.drive.driver.input.Upcoming.{Upcoming}
use Rattle.rfb_session.specs.declared.drive.driver.input.Upcoming.TheVariants.{Partial, Line, TooLong, Over}
use Rattle.rfb_session.specs.drive.driver.Input.{IsPart, IsTooLong, IsUpcoming, is_over, is_partial, part_only}
use Rattle.rfb_session.specs.owner.Lines.{IsOneLine}

-- the bytes before a newline are one line, and so are the first of them
pub begins_one : (few many : ℕ) (bytes : List ℕ) → few ≤ many → IsOneLine (take many bytes) →
    IsOneLine (take few bytes)
begins_one few many bytes less one =
    subst (λ (l : List ℕ). IsOneLine l) (take-take few many bytes less)
    (All-take (λ byte. byte ≢ 10) few (take many bytes) one)

-- all of them are
pub all_one : (count : ℕ) (bytes : List ℕ) → length bytes ≤ count → IsOneLine (take count bytes) → IsOneLine bytes
all_one count bytes all one = subst (λ (l : List ℕ). IsOneLine l) (take_all count bytes all) one

-- what is left after as many as there are, or fewer
pub drop_min : (all count : ℕ) (bytes : List ℕ) → all ≡ min (length bytes) count → drop all bytes ≡ drop count bytes
drop_min all count bytes is = elim (cases_lt count (length bytes)) [
  | inl low ↦ ap (λ (k : ℕ). drop k bytes) (omega (arith, is, low))
  | inr high ↦ drop_all all bytes (omega (arith, is, high)) ∙ sym (drop_all count bytes high)
]

-- all that came, as it is shown
lent : (bytes shown : List ℕ) (n : ℕ) → shown ≡ take n bytes → n ≡ length bytes → shown ≡ bytes
lent bytes shown n is all = is ∙ take_all n bytes (omega (arith, all))

pub too_long : (bytes shown : List ℕ) (n count : ℕ) → shown ≡ take n bytes → n ≡ length bytes →
    count ≤ length shown → IsOneLine (take count shown) → 65536 < count → IsTooLong bytes
too_long bytes shown n count is all within one long =
    let same = lent bytes shown n is all in
    record {
      long = omega (arith, within, long, ap (λ (l : List ℕ). length l) same);
      one = begins_one 65537 count bytes (omega (arith, long))
          (subst (λ (l : List ℕ). IsOneLine (take count l)) same one);
    }

pub part_so : (bytes shown : List ℕ) (n count : ℕ) (ended : Bool) → shown ≡ take n bytes → n ≡ length bytes →
    length shown ≤ count → IsOneLine (take count shown) → count ≤ 65536 → ended ≡ false → IsPart bytes ended
part_so bytes shown n count ended is all within one short more =
    let same = lent bytes shown n is all in
    let lengths = ap (λ (l : List ℕ). length l) same in
    record {
      one = all_one count bytes (omega (arith, within, lengths))
          (subst (λ (l : List ℕ). IsOneLine (take count l)) same one);
      short = omega (arith, within, short, lengths);
      more = more;
    }

-- ---- whether a line comes

not_ten : (byte : ℕ) → byte ≢ 10 → (byte == 10) ≡ false
not_ten byte other = grind (arith, nat_tests)

or_true : (b : Bool) → (b || true) ≡ true
or_true true = refl
or_true false = refl

no_newline : (bytes : List ℕ) → IsOneLine bytes → list_any (λ byte. byte == 10) bytes ≡ false
no_newline bytes one = list_any_none (λ byte. byte == 10) bytes (λ k d low. not_ten _ (one k d low))

a_newline : (bytes rest : List ℕ) (n : ℕ) → drop n bytes ≡ 10 ∷ rest → list_any (λ byte. byte == 10) bytes ≡ true
a_newline [] rest n is = absurd (omega (arith, length-drop {A = ℕ} n [], ap (λ (l : List ℕ). length l) is))
a_newline (x ∷ bytes) rest zero is =
    let ten : x ≡ 10 = ap (λ (l : List ℕ). get_or l 0 0) is in rw ten refl
a_newline (x ∷ bytes) rest (suc n) is = rw (a_newline bytes rest n is) (or_true (x == 10))

not_true : (b : Bool) → b ≡ true → (not b) ≡ false
not_true b is = rw is refl

few_is : (n : ℕ) → n ≤ 65536 → nat_le n 65536 ≡ true
few_is n few = grind (arith, nat_tests)

many_is : (n : ℕ) → 65536 < n → nat_le n 65536 ≡ false
many_is n many = grind (arith, nat_tests)

-- a part of a line comes where no newline has come, and no more than a line has
pub heard_when : (bytes : List ℕ) (ended : Bool) (u : Upcoming) → IsUpcoming bytes ended u →
    is_partial u ≡ part_only bytes ended
heard_when bytes ended Partial part =
    rw (part.more, few_is (length bytes) part.short, no_newline bytes part.one) refl
heard_when bytes ended (Line count) line = elim line.ends [
  | inl newline ↦
      rw (a_newline bytes newline.0 count newline.1) (sym (no_part ended (nat_le (length bytes) 65536)))
  | inr last ↦ rw last.2 refl
]
  where
    no_part : (a b : Bool) → (not a && (b && false)) ≡ false
    no_part true b = refl
    no_part false true = refl
    no_part false false = refl
heard_when bytes ended TooLong long = rw (many_is (length bytes) long.long) (sym (no_few ended))
  where
    no_few : (a : Bool) → (not a && false) ≡ false
    no_few true = refl
    no_few false = refl
heard_when bytes ended Over over = rw over.1 refl

-- nothing comes where all was read, and the input has ended
pub over_then : (bytes : List ℕ) (ended : Bool) (u : Upcoming) → IsUpcoming bytes ended u → is_over u ≡ true →
    (bytes ≡ []) × (ended ≡ true)
over_then bytes ended Partial part is = absurd (cc is)
over_then bytes ended (Line count) line is = absurd (cc is)
over_then bytes ended TooLong long is = absurd (cc is)
over_then bytes ended Over over is = over

pub over_when : (bytes : List ℕ) (ended : Bool) (u : Upcoming) → IsUpcoming bytes ended u → bytes ≡ [] → ended ≡ true →
    is_over u ≡ true
over_when bytes ended Partial part none is = let e = part.more in absurd (cc (e, is))
over_when bytes ended (Line count) line none is = elim line.ends [
  | inl newline ↦
      absurd (omega (
        arith,
        length-drop count bytes,
        ap (λ (l : List ℕ). length l) newline.1,
        ap (λ (l : List ℕ). length l) none,
      ))
  | inr last ↦ absurd (omega (arith, last.0, last.1, ap (λ (l : List ℕ). length l) none))
]
over_when bytes ended TooLong long none is = absurd (omega (arith, long.long, ap (λ (l : List ℕ). length l) none))
over_when bytes ended Over over none is = refl
