-- A line at its first space, and the characters of a text one by one.
use Rattle.std.proofs.Common.{◌≡◌, ◌∙◌, ◌+◌, ◌<◌, ◌≤◌, ℕ, List, [], ◌∷◌, ◌++◌, Bool, true, false, cond, sym, ap}
use Rattle.std.proofs.Common.{Some, length, take, drop, get_or, arith, append-nil, append_assoc}
use Rattle.std.proofs.Common.{eq-eqb, length-drop, ◌==◌, ◌-◌}
use Rattle.std.proofs.lemmas.Bool.Decides.{nat_tests}
use Rattle.std.specs.Prelude.{◌&&◌}
use Rattle.std.specs.Option.{is_some}
use Rattle.std.proofs.lemmas.List.{at_drop_all, at_drop_more, drop_more, take_more, take_all}
use Rattle.rfb_session.specs.drive.DriveLines.{after_word, are_typed, first_word}
use Rattle.rfb_session.specs.drive.Characters.{key_of_char}

-- what there is from a place on, by the byte there
word_from : (line : List ℕ) (i : ℕ) (b : Bool) → i < length line → (get_or line i 0 == 32) ≡ b →
    first_word (drop i line) ≡ cond b [] (get_or line i 0 ∷ first_word (drop (i + 1) line))
word_from line i b low is = ap (λ (l : List ℕ). first_word l) (drop_more line i 0 low)
    ∙ ap (λ (space : Bool). cond space [] (get_or line i 0 ∷ first_word (drop (i + 1) line))) is

rest_from : (line : List ℕ) (i : ℕ) (b : Bool) → i < length line → (get_or line i 0 == 32) ≡ b →
    after_word (drop i line) ≡ cond b (Some (drop (i + 1) line)) (after_word (drop (i + 1) line))
rest_from line i b low is = ap (λ (l : List ℕ). after_word l) (drop_more line i 0 low)
    ∙ ap (λ (space : Bool). cond space (Some (drop (i + 1) line)) (after_word (drop (i + 1) line))) is

pub word_here : (line : List ℕ) (i : ℕ) → i < length line → (get_or line i 0 == 32) ≡ true →
    first_word line ≡ take i line ++ first_word (drop i line) → take i line ≡ first_word line
word_here line i low space so_far =
    sym (so_far ∙ ap (λ (l : List ℕ). take i line ++ l) (word_from line i true low space) ∙ append-nil (take i line))

pub rest_here : (line : List ℕ) (i : ℕ) → i < length line → (get_or line i 0 == 32) ≡ true →
    after_word line ≡ after_word (drop i line) → Some (drop (i + 1) line) ≡ after_word line
rest_here line i low space so_far = sym (so_far ∙ rest_from line i true low space)

pub word_more : (line : List ℕ) (i : ℕ) → i < length line → (get_or line i 0 == 32) ≡ false →
    first_word line ≡ take i line ++ first_word (drop i line) →
    first_word line ≡ take (i + 1) line ++ first_word (drop (i + 1) line)
word_more line i low other so_far =
    so_far ∙ ap (λ (l : List ℕ). take i line ++ l) (word_from line i false low other)
    ∙ sym (append_assoc (take i line) (get_or line i 0 ∷ []) (first_word (drop (i + 1) line)))
    ∙ ap (λ (l : List ℕ). l ++ first_word (drop (i + 1) line)) (sym (take_more line i 0 low))

pub rest_more : (line : List ℕ) (i : ℕ) → i < length line → (get_or line i 0 == 32) ≡ false →
    after_word line ≡ after_word (drop i line) → after_word line ≡ after_word (drop (i + 1) line)
rest_more line i low other so_far = so_far ∙ rest_from line i false low other

-- ---- characters

typed_from : (text : List ℕ) (n c : ℕ) → (n < length text) × (c ≡ get_or text n c) →
    are_typed (drop n text) ≡ (is_some (key_of_char c) && are_typed (drop (n + 1) text))
typed_from text n c h = at_drop_more are_typed text n c h.0
    ∙ ap (λ (x : ℕ). is_some (key_of_char x) && are_typed (drop (n + 1) text)) (sym h.1)

-- a character that has no key
pub not_typed : (text : List ℕ) (n c : ℕ) → (n < length text) × (c ≡ get_or text n c) →
    is_some (key_of_char c) ≡ false →
    are_typed text ≡ are_typed (drop n text) → false ≡ are_typed text
not_typed text n c at none so_far =
    sym (so_far ∙ typed_from text n c at ∙ ap (λ (b : Bool). b && are_typed (drop (n + 1) text)) none)

-- one that has
pub typed_next : (text : List ℕ) (n m c : ℕ) → (n < length text) × (c ≡ get_or text n c) →
    is_some (key_of_char c) ≡ true →
    are_typed text ≡ are_typed (drop n text) → m ≡ n + 1 → are_typed text ≡ are_typed (drop m text)
typed_next text n m c at some so_far is =
    so_far ∙ typed_from text n c at ∙ ap (λ (b : Bool). b && are_typed (drop (n + 1) text)) some
    ∙ ap (λ (k : ℕ). are_typed (drop k text)) (sym is)

pub all_typed : (text : List ℕ) (n : ℕ) → length text ≤ n → are_typed text ≡ are_typed (drop n text) →
    true ≡ are_typed text
all_typed text n over so_far = sym (so_far ∙ at_drop_all are_typed text n over)

pub is_space : (x : ℕ) → x ≡ 32 → (x == 32) ≡ true
is_space x is = eq-eqb x 32 is

pub no_space : (x : ℕ) → (x ≡ 32 → ⊥) → (x == 32) ≡ false
no_space x other = grind (arith, nat_tests)

pub tail_is : (line : List ℕ) (i : ℕ) → i < length line →
    take (length line - (i + 1)) (drop (i + 1) line) ≡ drop (i + 1) line
tail_is line i low = take_all (length line - (i + 1)) (drop (i + 1) line) (omega (arith, length-drop (i + 1) line))
