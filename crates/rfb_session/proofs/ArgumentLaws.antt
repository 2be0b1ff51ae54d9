-- The words after a keyword: as many as they have to be, each for its value.
use Rattle.std.proofs.Common.{◌↔◌, false, true}
use Rattle.std.proofs.Common.{◌≡◌, ◌≢◌, ◌∙◌, ap, sym, refl, length, ℕ, List, [], ◌∷◌, Bor, slice_index_or, arith}
use Rattle.rfb_picture.specs.declared.rect.Rect.{Rect}
use Rattle.rfb_pixel.specs.declared.colour.Colour.{Colour}
use Rattle.rfb_session.specs.declared.language.screen.Screen.{Screen as Size}
use Rattle.rfb_session.specs.language.Number.{IsNumber}
use Rattle.rfb_session.specs.language.Words.{AreFill, AreMove, AreNumbers, AreRect, AreSize, IsColourText}
use Rattle.rfb_session.specs.language.Words.{IsColourWord, IsNumberOf, IsSide, SaysColour, texts}
use Rattle.rfb_session.proofs.WordLaws.{texts_length}

-- the word at an index
abbrev pub word : List (Bor (List ℕ)) → ℕ → Bor (List ℕ) → List ℕ
word words i d = (slice_index_or words i d).now

pub one_words : (words : List (Bor (List ℕ))) (d : Bor (List ℕ)) → length words ≡ 1 → texts words ≡ word words 0 d ∷ []
one_words [] d len = absurd (omega arith)
one_words (a ∷ []) d len = refl
one_words (a ∷ x ∷ rest) d len = absurd (omega arith)

pub two_words : (words : List (Bor (List ℕ))) (d : Bor (List ℕ)) → length words ≡ 2 →
    texts words ≡ word words 0 d ∷ word words 1 d ∷ []
two_words [] d len = absurd (omega arith)
two_words (a ∷ []) d len = absurd (omega arith)
two_words (a ∷ b ∷ []) d len = refl
two_words (a ∷ b ∷ x ∷ rest) d len = absurd (omega arith)

pub three_words : (words : List (Bor (List ℕ))) (d : Bor (List ℕ)) → length words ≡ 3 →
    texts words ≡ word words 0 d ∷ word words 1 d ∷ word words 2 d ∷ []
three_words [] d len = absurd (omega arith)
three_words (a ∷ []) d len = absurd (omega arith)
three_words (a ∷ b ∷ []) d len = absurd (omega arith)
three_words (a ∷ b ∷ c ∷ []) d len = refl
three_words (a ∷ b ∷ c ∷ x ∷ rest) d len = absurd (omega arith)

pub five_words : (words : List (Bor (List ℕ))) (d : Bor (List ℕ)) → length words ≡ 5 →
    texts words ≡ word words 0 d ∷ word words 1 d ∷ word words 2 d ∷ word words 3 d ∷ word words 4 d ∷ []
five_words [] d len = absurd (omega arith)
five_words (a ∷ []) d len = absurd (omega arith)
five_words (a ∷ b ∷ []) d len = absurd (omega arith)
five_words (a ∷ b ∷ c ∷ []) d len = absurd (omega arith)
five_words (a ∷ b ∷ c ∷ e ∷ []) d len = absurd (omega arith)
five_words (a ∷ b ∷ c ∷ e ∷ f ∷ []) d len = refl
five_words (a ∷ b ∷ c ∷ e ∷ f ∷ x ∷ rest) d len = absurd (omega arith)

pub six_words : (words : List (Bor (List ℕ))) (d : Bor (List ℕ)) → length words ≡ 6 →
    texts words ≡ word words 0 d ∷ word words 1 d ∷ word words 2 d ∷ word words 3 d ∷ word words 4 d ∷ word words 5 d
    ∷ []
six_words [] d len = absurd (omega arith)
six_words (a ∷ []) d len = absurd (omega arith)
six_words (a ∷ b ∷ []) d len = absurd (omega arith)
six_words (a ∷ b ∷ c ∷ []) d len = absurd (omega arith)
six_words (a ∷ b ∷ c ∷ e ∷ []) d len = absurd (omega arith)
six_words (a ∷ b ∷ c ∷ e ∷ f ∷ []) d len = absurd (omega arith)
six_words (a ∷ b ∷ c ∷ e ∷ f ∷ g ∷ []) d len = refl
six_words (a ∷ b ∷ c ∷ e ∷ f ∷ g ∷ x ∷ rest) d len = absurd (omega arith)

-- six words that are a rectangle, and two words more for what else is said
abbrev pub AreSix : (List ℕ → Type 0) → (List ℕ → Type 0) → List (List ℕ) → Rect → Type 0
AreSix P Q words rect =
    (x y w h u v : List ℕ) × (words ≡ x ∷ y ∷ w ∷ h ∷ u ∷ v ∷ []) × AreRect x y w h rect × P u × Q v

-- they are, where each is read
pub are_six : (P Q : List ℕ → Type 0) (words : List (Bor (List ℕ))) (d : Bor (List ℕ)) →
    length words ≡ 6 → (rect : Rect) →
    AreRect (word words 0 d) (word words 1 d) (word words 2 d) (word words 3 d) rect →
    P (word words 4 d) → Q (word words 5 d) → AreSix P Q (texts words) rect
are_six P Q words d len rect are p q = (
  word words 0 d,
  word words 1 d,
  word words 2 d,
  word words 3 d,
  word words 4 d,
  word words 5 d,
  six_words words d len,
  are,
  p,
  q,
)

-- and they are not, where one is not
pub none_six : (P Q : List ℕ → Type 0) (words : List (Bor (List ℕ))) (d : Bor (List ℕ)) →
    length words ≡ 6 → (rect : Rect) →
    (AreRect (word words 0 d) (word words 1 d) (word words 2 d) (word words 3 d) rect →
    P (word words 4 d) → Q (word words 5 d) → ⊥) → ¬ (AreSix P Q (texts words) rect)
none_six P Q words d len rect none said =
    let f = sym (six_words words d len) ∙ said.6 in
    let e0 : word words 0 d ≡ said.0 = cc in let e1 : word words 1 d ≡ said.1 = cc in
    let e2 : word words 2 d ≡ said.2 = cc in let e3 : word words 3 d ≡ said.3 = cc in
    let e4 : word words 4 d ≡ said.4 = cc in let e5 : word words 5 d ≡ said.5 = cc in
    none (rw (e0, e1, e2, e3) said.7) (rw e4 said.8) (rw e5 said.9)

pub no_size : (words : List (Bor (List ℕ))) (d : Bor (List ℕ)) → length words ≡ 2 →
    (IsSide (word words 0 d) → IsSide (word words 1 d) → ⊥) → (size : Size) → ¬ (AreSize (texts words) size)
no_size words d len none size said =
    let f = sym (two_words words d len) ∙ said.2 in
    let e0 : word words 0 d ≡ said.0 = cc in let e1 : word words 1 d ≡ said.1 = cc in
    none (rw e0 said.3.0) (rw e1 said.3.1)

pub not_size : (words : List (Bor (List ℕ))) → length words ≢ 2 → (size : Size) → ¬ (AreSize (texts words) size)
not_size words other size said =
    let s : length (texts words) ≡ 2 = ap (λ (l : List (List ℕ)). length l) said.2 in
    other (sym (texts_length words) ∙ s)

-- words that are not all numbers are no rectangle
pub no_rect : {x y w h : List ℕ} {rect : Rect} → (false ≡ true) ↔ AreNumbers x y w h →
    ¬ (AreRect x y w h rect)
no_rect found are = let bad = found.1 are.numbers in cc

pub no_fill : (words : List (Bor (List ℕ))) (d : Bor (List ℕ)) → length words ≡ 5 →
    ((rect : Rect) (colour : Colour) → AreRect (word words 0 d) (word words 1 d) (word words 2 d) (word words 3 d)
    rect → IsColourWord (word words 4 d) colour → ⊥) → (rect : Rect) (colour : Colour) →
    ¬ (AreFill (texts words) rect colour)
no_fill words d len none rect colour said =
    let f = sym (five_words words d len) ∙ said.5 in
    let e0 : word words 0 d ≡ said.0 = cc in let e1 : word words 1 d ≡ said.1 = cc in
    let e2 : word words 2 d ≡ said.2 = cc in let e3 : word words 3 d ≡ said.3 = cc in
    let e4 : word words 4 d ≡ said.4 = cc in
    none rect colour (rw (e0, e1, e2, e3) said.6) (rw e4 said.7)

pub not_fill : (words : List (Bor (List ℕ))) → length words ≢ 5 → (rect : Rect) (colour : Colour) →
    ¬ (AreFill (texts words) rect colour)
not_fill words other rect colour said =
    let s : length (texts words) ≡ 5 = ap (λ (l : List (List ℕ)). length l) said.5 in
    other (sym (texts_length words) ∙ s)

pub no_move : (words : List (Bor (List ℕ))) (d : Bor (List ℕ)) → length words ≡ 6 →
    ((rect : Rect) → AreRect (word words 0 d) (word words 1 d) (word words 2 d) (word words 3 d) rect →
    IsNumber (word words 4 d) → IsNumber (word words 5 d) → ⊥) → (rect : Rect) (sx sy : ℕ) →
    ¬ (AreMove (texts words) rect sx sy)
no_move words d len none rect sx sy =
    none_six (λ u. IsNumberOf u sx) (λ v. IsNumberOf v sy) words d len rect
    (λ are column row. none rect are column.0 row.0)

pub not_move : (words : List (Bor (List ℕ))) → length words ≢ 6 → (rect : Rect) (sx sy : ℕ) →
    ¬ (AreMove (texts words) rect sx sy)
not_move words other rect sx sy said =
    let s : length (texts words) ≡ 6 = ap (λ (l : List (List ℕ)). length l) said.6 in
    other (sym (texts_length words) ∙ s)

pub is_move : (words : List (Bor (List ℕ))) (d : Bor (List ℕ)) → length words ≡ 6 → (rect : Rect) (sx sy : ℕ) →
    AreRect (word words 0 d) (word words 1 d) (word words 2 d) (word words 3 d) rect → IsNumberOf (word words 4 d) sx →
    IsNumberOf (word words 5 d) sy → AreMove (texts words) rect sx sy
is_move words d len rect sx sy are column row =
    are_six (λ u. IsNumberOf u sx) (λ v. IsNumberOf v sy) words d len rect are column row

pub is_fill : (words : List (Bor (List ℕ))) (d : Bor (List ℕ)) → length words ≡ 5 → (rect : Rect) (colour : Colour) →
    AreRect (word words 0 d) (word words 1 d) (word words 2 d) (word words 3 d) rect → IsColourText (word words 4 d) →
    SaysColour (word words 4 d) colour → AreFill (texts words) rect colour
is_fill words d len rect colour are is says = (
  word words 0 d,
  word words 1 d,
  word words 2 d,
  word words 3 d,
  word words 4 d,
  five_words words d len,
  are,
  (is, says),
)
