-- Numbers after gaps: what is read from the left is what is there, and nothing else is.
use Rattle.std.proofs.Common.{◌≡◌, ◌∙◌, ◌==◌, ◌<◌, ◌≤◌, ◌+◌, ◌-◌, ◌*◌, ◌++◌, if◌then◌else◌, ℕ, zero, suc, Bool, true}
use Rattle.std.proofs.Common.{false, not, List, [], ◌∷◌, length, get_or, ap, ap₂, sym, refl, subst, inl, inr, arith}
use Rattle.std.proofs.Common.{length-append, eq-eqb, ne_eqb, eqb-true, true≢false}
use Rattle.std.proofs.lemmas.Bool.{cases_eq}
use Rattle.rfb_session.specs.netpbm.Number.{AreDigits, BeginsNoDigit, IsDigit, IsGap, NextNumber, NoNumberNext}
use Rattle.rfb_session.specs.netpbm.Number.{ends_line, is_blank, value_after, value_of}
use Rattle.rfb_session.specs.netpbm.Gaps.{FirstDigits, after_gap}

-- ---- digits

pub digits_more : (ds : List ℕ) (c : ℕ) → AreDigits ds → IsDigit c → AreDigits (ds ++ c ∷ [])
digits_more [] c all is = (is, tt)
digits_more (d ∷ ds) c all is = (all.0, digits_more ds c all.1 is)

pub digit_at : (ds : List ℕ) (i : ℕ) → AreDigits ds → i < length ds → IsDigit (get_or ds i 0)
digit_at [] i all inside = absurd (omega arith)
digit_at (d ∷ ds) zero all inside = all.0
digit_at (d ∷ ds) (suc i) all inside = digit_at ds i all.1 (omega arith)

-- the value with one digit more
after_more : (n : ℕ) (ds : List ℕ) (c : ℕ) → value_after n (ds ++ c ∷ []) ≡ 10 * value_after n ds + (c - 48)
after_more n [] c = refl
after_more n (d ∷ ds) c = after_more (10 * n + (d - 48)) ds c

pub value_more : (ds more : List ℕ) (c : ℕ) → more ≡ ds ++ c ∷ [] → value_of more ≡ 10 * value_of ds + (c - 48)
value_more ds more c is = ap value_of is ∙ after_more 0 ds c

pub no_more_digits : (more : List ℕ) (c : ℕ) (rest : List ℕ) → more ≡ c ∷ rest → ¬ (IsDigit c) → BeginsNoDigit more
no_more_digits more c rest is no_digit = subst BeginsNoDigit (sym is) no_digit

-- ---- gaps

-- bytes are a gap, or the rest of one, and these
abbrev Passed : Bool → List ℕ → List ℕ → Type 0
Passed within bytes rest = (gap : List ℕ) × (bytes ≡ gap ++ rest) × IsGap within gap

more_passed : (c : ℕ) (cs gap rest : List ℕ) → cs ≡ gap ++ rest → c ∷ cs ≡ (c ∷ gap) ++ rest
more_passed c cs gap rest is = ap (λ (l : List ℕ). c ∷ l) is

passed_step : (c : ℕ) (cs : List ℕ) (hash blank : Bool) → (c == 35) ≡ hash → is_blank c ≡ blank →
    (1 ≤ length (after_gap true cs) → Passed true cs (after_gap true cs)) →
    (1 ≤ length (after_gap false cs) → Passed false cs (after_gap false cs)) →
    1 ≤ length (if hash then after_gap true cs else (if blank then after_gap false cs else c ∷ cs)) →
    Passed false (c ∷ cs) (if hash then after_gap true cs else (if blank then after_gap false cs else c ∷ cs))
passed_step c cs true blank is_hash is_not comment later some =
    let p = comment some in
    (c ∷ p.0, more_passed c cs p.0 (after_gap true cs) p.1, inr (eqb-true c 35 is_hash, p.2))
passed_step c cs false true no_hash is later some_comment some =
    let p = some_comment some in
    (c ∷ p.0, more_passed c cs p.0 (after_gap false cs) p.1, inl (is, p.2))
passed_step c cs false false no_hash no_blank comment later some = ([], refl, tt)

-- what comes after a gap, if anything does, comes after a whole one
pub passed : (within : Bool) (bytes : List ℕ) → 1 ≤ length (after_gap within bytes) →
    Passed within bytes (after_gap within bytes)
passed false [] some = absurd (omega arith)
passed true [] some = absurd (omega arith)
passed false (c ∷ cs) some =
    passed_step c cs (c == 35) (is_blank c) refl refl (passed true cs) (passed false cs) some
passed true (c ∷ cs) some =
    let p = passed (not (ends_line c)) cs some in
    (c ∷ p.0, more_passed c cs p.0 (after_gap (not (ends_line c)) cs) p.1, p.2)

blank_no_hash : (c : ℕ) → is_blank c ≡ true → (c == 35) ≡ false
blank_no_hash c is =
    elim (cases_eq c 35) [
      | inl same ↦
          let blank : is_blank 35 ≡ true = subst (λ (k : ℕ). is_blank k ≡ true) same is in
          absurd (true≢false (sym blank))
      | inr other ↦ ne_eqb c 35 other
    ]

digit_no_gap : (d : ℕ) → IsDigit d → ((d == 35) ≡ false) × (is_blank d ≡ false)
digit_no_gap d is =
    let a : (d == 35) ≡ false = ne_eqb d 35 (λ e. omega (arith, is.0, is.1)) in
    let b : (d == 32) ≡ false = ne_eqb d 32 (λ e. omega (arith, is.0, is.1)) in
    let t : (d == 9) ≡ false = ne_eqb d 9 (λ e. omega (arith, is.0, is.1)) in
    let n : (d == 10) ≡ false = ne_eqb d 10 (λ e. omega (arith, is.0, is.1)) in
    let r : (d == 13) ≡ false = ne_eqb d 13 (λ e. omega (arith, is.0, is.1)) in
    (a, rw (b, t, n, r) refl)

-- a gap before a digit is passed over, and no more
skipped : (within : Bool) (gap : List ℕ) (d : ℕ) (ds : List ℕ) → IsGap within gap → IsDigit d →
    after_gap within (gap ++ d ∷ ds) ≡ d ∷ ds
skipped false [] d ds is digit =
    let no = digit_no_gap d digit in
    rw (no.0, no.1) refl
skipped true [] d ds is digit = absurd is
skipped false (c ∷ cs) d ds (inl blank) digit =
    rw (blank_no_hash c blank.0, blank.0) (skipped false cs d ds blank.1 digit)
skipped false (c ∷ cs) d ds (inr hash) digit =
    rw (eq-eqb c 35 hash.0) (skipped true cs d ds hash.1 digit)
skipped true (c ∷ cs) d ds is digit = skipped (not (ends_line c)) cs d ds is digit

-- ---- a number

-- a text is parted into the digits at its front and what follows in one way
pub parted_once : (a b r s : List ℕ) → AreDigits a → AreDigits b → BeginsNoDigit r → BeginsNoDigit s →
    a ++ r ≡ b ++ s → (a ≡ b) × (r ≡ s)
parted_once [] [] r s das dbs rs ss e = (refl, e)
parted_once [] (d ∷ ds) r s das dbs rs ss e = absurd (subst BeginsNoDigit e rs dbs.0)
parted_once (c ∷ cs) [] r s das dbs rs ss e = absurd (subst BeginsNoDigit (sym e) ss das.0)
parted_once (c ∷ cs) (d ∷ ds) r s das dbs rs ss e =
    let head : c ≡ d = cc in
    let tail : cs ++ r ≡ ds ++ s = cc in
    let p = parted_once cs ds r s das.1 dbs.1 rs ss tail in
    (ap₂ (λ (x : ℕ) (xs : List ℕ). x ∷ xs) head p.0, p.1)

after_of : (bytes digits rest : List ℕ) → NextNumber bytes digits rest → after_gap false bytes ≡ digits ++ rest
after_of bytes [] rest next = absurd (omega (arith, next.some))
after_of bytes (d ∷ ds) rest next =
    ap (after_gap false) next.parts ∙ skipped false next.gap d (ds ++ rest) next.is_gap next.are_digits.0

-- the next number is one
pub next_once : (bytes a r b s : List ℕ) → NextNumber bytes a r → NextNumber bytes b s → (a ≡ b) × (r ≡ s)
next_once bytes a r b s one other =
    parted_once a b r s one.are_digits other.are_digits one.whole other.whole
    (sym (after_of bytes a r one) ∙ after_of bytes b s other)

pub next_found : (bytes start digits rest : List ℕ) → start ≡ after_gap false bytes → FirstDigits start digits rest →
    1 ≤ length digits → NextNumber bytes digits rest
next_found bytes start digits rest after first some =
    let parts = sym after ∙ first.parts in
    let long : 1 ≤ length (after_gap false bytes) = omega (arith, ap length parts, length-append digits rest, some) in
    let p = passed false bytes long in
    record {
      gap = p.0;
      parts = p.1 ∙ ap (λ (l : List ℕ). p.0 ++ l) parts;
      is_gap = p.2;
      are_digits = first.are_digits;
      some = some;
      whole = first.whole;
    }

pub next_missing : (bytes start digits rest : List ℕ) → start ≡ after_gap false bytes → FirstDigits start digits rest →
    length digits ≡ 0 → NoNumberNext bytes
next_missing bytes start digits rest after first none ds r next =
    let e = sym first.parts ∙ after ∙ after_of bytes ds r next in
    let p = parted_once digits ds rest r first.are_digits next.are_digits first.whole next.whole e in
    omega (arith, ap length p.0, none, next.some)

-- whether a text is empty
pub none_there : (n : ℕ) (b : Bool) → b ≡ (n == 0) → b ≡ true → n ≡ 0
none_there n b is empty = eqb-true n 0 (sym is ∙ empty)

pub some_there : (n : ℕ) (b : Bool) → b ≡ (n == 0) → b ≡ false → 1 ≤ n
some_there zero b is some = absurd (true≢false (sym is ∙ some))
some_there (suc n) b is some = omega arith
