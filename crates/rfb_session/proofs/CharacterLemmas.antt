-- The one character that a word is.
use Rattle.std.proofs.Common.{◌≡◌, ◌∙◌, ◌<◌, ℕ, List, [], ◌∷◌, Bool, true, false, refl, sym, ap, length, arith}
use Rattle.std.proofs.Common.{Option, None, Some, MatchOption, Result, Ok, Err, MatchResult, Bor, subst}
use Rattle.std.specs.Result.{is_ok, result_ok}
use Rattle.std.proofs.lemmas.Str.{IsUtf8-from_is_utf8, is_utf8-from_IsUtf8}
use Rattle.std.specs.Option.{is_some}
use Rattle.std.specs.Str.{IsUtf8, chars, is_utf8}
use Rattle.rfb_session.specs.drive.Characters.{alone, only_char}

unless : (b : Bool) → (b ≡ true → ⊥) → b ≡ false
unless true h = absurd (h refl)
unless false h = refl

pub no_utf8 : (word : List ℕ) → ¬ (IsUtf8 word) → None ≡ only_char word
no_utf8 word bad = let e : is_utf8 word ≡ false = unless _ (λ yes. bad (IsUtf8-from_is_utf8 word yes)) in rw e refl

of_text : (word : List ℕ) → IsUtf8 word → only_char word ≡ alone (chars word)
of_text word good = let e : is_utf8 word ≡ true = is_utf8-from_IsUtf8 word good in rw e refl

pub all_came : (word came : List ℕ) (only : Option ℕ) → IsUtf8 word →
    MatchOption only (came ≡ []) (λ c. came ≡ c ∷ []) → came ≡ chars word → only ≡ only_char word
all_came word came None good is all =
    sym (of_text word good ∙ ap (λ (l : List ℕ). alone l) (sym all ∙ is))
all_came word came (Some c) good is all =
    sym (of_text word good ∙ ap (λ (l : List ℕ). alone l) (sym all ∙ is))

two_or_more : (text : List ℕ) → 1 < length text → alone text ≡ None
two_or_more [] many = absurd (omega arith)
two_or_more (c ∷ []) many = absurd (omega arith)
two_or_more (c ∷ d ∷ rest) many = refl

pub one_more_came : (word came : List ℕ) (only : Option ℕ) → IsUtf8 word →
    MatchOption only (came ≡ []) (λ c. came ≡ c ∷ []) → is_some only ≡ true → length came < length (chars word) →
    None ≡ only_char word
one_more_came word came None good is some within = absurd (cc)
one_more_came word came (Some c) good is some within =
    let one = ap (λ (l : List ℕ). length l) is in
    sym (of_text word good ∙ two_or_more (chars word) (omega (arith, one, within)))

-- ---- what a check of UTF-8 answered

pub text_of : {E : Type 0} (r : Result (Bor (List ℕ)) E) (text : Bor (List ℕ)) (word : List ℕ) (Bad : E → Type 0) →
    MatchResult r (λ s. (s.now ≡ word) × IsUtf8 word) Bad → Some text ≡ result_ok r → (text.now ≡ word) × IsUtf8 word
text_of (Ok s) text word Bad read e =
    let same : Some text ≡ Some s = e in let is : text ≡ s = cc in
    (ap (λ (t : Bor (List ℕ)). t.now) is ∙ read.0, read.1)
text_of (Err x) text word Bad read e = let bad : Some text ≡ None = e in absurd (cc)

pub no_text_of : {E : Type 0} (r : Result (Bor (List ℕ)) E) (word : List ℕ) (Good : Bor (List ℕ) → Type 0)
    (Where : E → Type 0) → MatchResult r Good (λ error. ¬ (IsUtf8 word) × Where error) → false ≡ is_ok r →
    ¬ (IsUtf8 word)
no_text_of (Ok s) word Good Where read e = absurd (cc)
no_text_of (Err x) word Good Where read e = read.0

pub utf8_too : (text word : List ℕ) → text ≡ word → IsUtf8 word → IsUtf8 text
utf8_too text word is good = subst (λ (l : List ℕ). IsUtf8 l) (sym is) good
