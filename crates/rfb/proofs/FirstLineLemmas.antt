-- The first line of a text.
use Rattle.std.proofs.Common.{◌==◌, ◌≡◌, ◌≤◌, ◌<◌, ◌∷◌, ◌++◌, ◌+◌, ◌-◌, ◌∙◌, ℕ, List, [], false, suc, ap, sym, arith}
use Rattle.std.proofs.Common.{length, take, drop, get_or, take-append-drop, drop-cons, length-drop}
use Rattle.std.proofs.lemmas.Bool.{false_from_ne_true}
use Rattle.std.proofs.lemmas.Grind.{common_steps}
use Rattle.std.proofs.lemmas.List.{take_all}
use Rattle.std.proofs.lemmas.List.Splits.{slice_split_at, slice_split_none}
use Rattle.memchr.specs.Find.{NoneBefore, Nowhere, Passes, is_byte}
use Rattle.rfb.specs.Script.{lines_of}

-- no byte before a place is a newline
none_in : (text : List ℕ) (k : ℕ) → k ≤ length text → Nowhere (Passes (is_byte 10) text) 0 k → (j d : ℕ) →
    j < length (take k text) → (get_or (take k text) j d == 10) ≡ false
none_in text k within none j d l =
    let low : j < k = grind (arith, common_steps) in
    let same : get_or (take k text) j d ≡ get_or text j 0 = grind (arith, common_steps) in
    false_from_ne_true _ (λ yes. none j (omega arith) low (ap (λ b. b == 10) (sym same) ∙ yes))

-- a text up to its first newline, and what follows that
pub line_first : (text : List ℕ) (k : ℕ) →
    NoneBefore (Passes (is_byte 10) text) 0 (length text) k → Passes (is_byte 10) text k →
    lines_of text ≡ take k text ∷ lines_of (take (length text - (k + 1)) (drop (k + 1) text))
line_first text k none newline =
    let within = none.high in
    let rest = drop (k + 1) text in
    let next : suc k ≡ k + 1 = omega arith in
    let all : take (length text - (k + 1)) rest ≡ rest = take_all _ rest (omega (arith, length-drop (k + 1) text)) in
    let cut : text ≡ take k text ++ get_or text k 0 ∷ rest = sym (take-append-drop k text)
    ∙ ap (λ (l : List ℕ). take k text ++ l)
    (drop-cons text k 0 within ∙ ap (λ (n : ℕ). get_or text k 0 ∷ drop n text) next) in
    ap lines_of cut ∙ slice_split_at (λ byte. byte == 10) (take k text) (get_or text k 0) rest
    (none_in text k (omega arith) none.before) newline
    ∙ ap (λ (l : List ℕ). take k text ∷ lines_of l) (sym all)

-- a text without a newline is one line
pub line_last : (text : List ℕ) → Nowhere (Passes (is_byte 10) text) 0 (length text) → lines_of text ≡ text ∷ []
line_last text none =
    slice_split_none (λ byte. byte == 10) text
    (λ j d l. let same : get_or text j d ≡ get_or text j 0 = grind (arith, common_steps) in
    false_from_ne_true _ (λ yes. none j (omega arith) l (ap (λ b. b == 10) (sym same) ∙ yes)))
