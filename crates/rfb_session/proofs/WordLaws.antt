-- Words of a line, one by one.
use Rattle.std.proofs.Common.{◌==◌, zero, suc, ◌≡◌, ◌≢◌, ◌<◌, ◌≤◌, ◌↔◌, ◌∙◌, ap, sym, refl, Bool, true}
use Rattle.std.proofs.Common.{false, inl, inr, length, ℕ, List, [], ◌∷◌, Bor, arith}
use Rattle.std.specs.Str.{bytes_eq}
use Rattle.std.proofs.lemmas.Bool.{cases_lt}
use Rattle.std.proofs.lemmas.Bool.Decides.{nat_tests}
use Rattle.std.proofs.lemmas.Slice.Eq.{bytes_eq-Decides}
use Rattle.rfb_session.specs.language.Words.{Begins, texts}

pub same_word : (a b : List ℕ) → bytes_eq a b ≡ true → a ≡ b
same_word a b same = (bytes_eq-Decides a b).0 same

pub other_word : (a b : List ℕ) → bytes_eq a b ≡ false → a ≢ b
other_word a b other e = let same : bytes_eq a b ≡ true = (bytes_eq-Decides a b).1 e in cc

pub texts_length : (words : List (Bor (List ℕ))) → length (texts words) ≡ length words
texts_length [] = refl
texts_length (w ∷ words) = omega (arith, texts_length words)

pub no_texts : (words : List (Bor (List ℕ))) → length words ≡ 0 → texts words ≡ []
no_texts [] none = refl
no_texts (w ∷ words) none = absurd (omega arith)

pub empty_of : (n : ℕ) (b : Bool) → b ≡ (n == 0) → b ≡ true → n ≡ 0
empty_of n b is holds = grind (arith, nat_tests)

pub some_of : (n : ℕ) (b : Bool) → b ≡ (n == 0) → b ≡ false → n ≡ 0 → ⊥
some_of zero b is fails none = let e : true ≡ false = sym is ∙ fails in cc
some_of (suc n) b is fails none = absurd (omega arith)

pub heads : (a b : List ℕ) (x y : List (List ℕ)) → a ∷ x ≡ b ∷ y → a ≡ b
heads a b x y e = cc

pub tails : (a b : List ℕ) (x y : List (List ℕ)) → a ∷ x ≡ b ∷ y → y ≡ x
tails a b x y e = cc

pub nothing : (a : List ℕ) (x : List (List ℕ)) → [] ≡ a ∷ x → ⊥
nothing a x e = cc

-- a word that is a keyword, and what is after it
pub begins_with : (key word : List ℕ) (rest : List (List ℕ)) (Holds : List (List ℕ) → Type 0) →
    bytes_eq key word ≡ true → Holds rest → Begins word (key ∷ rest) Holds
begins_with key word rest Holds same holds = (rest, ap (λ (k : List ℕ). k ∷ rest) (same_word key word same), holds)

pub words_are : (words : List (Bor (List ℕ))) (first : Bor (List ℕ)) (rest : List (Bor (List ℕ))) (key : List ℕ) →
    words ≡ first ∷ rest → bytes_eq first.now key ≡ true → texts words ≡ key ∷ texts rest
words_are words first rest key e same =
    ap (λ (ws : List (Bor (List ℕ))). texts ws) e ∙ ap (λ (k : List ℕ). k ∷ texts rest) (same_word first.now key same)

-- a push is refused where there are eight already
pub eight_already : (n : ℕ) (pushed : Bool) → ((pushed ≡ true) ↔ (n < 8)) → false ≡ pushed → 8 ≤ n
eight_already n pushed fits refused = elim (cases_lt n 8) [
  | inl under ↦ let yes = fits.1 under in absurd (cc)
  | inr over ↦ over
]
