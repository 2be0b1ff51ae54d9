-- What happens to the keys where a text is typed, a character after another.
use Rattle.std.proofs.Common.{◌≡◌, ◌∙◌, ℕ, List, [], ◌∷◌, ◌++◌, refl, sym, ap, map, append_assoc, append-nil}
use Rattle.std.proofs.Common.{Result, Ok, Err, length, take}
use Rattle.std.specs.Prelude.{IfErr}
use Rattle.std.specs.declared.alloc.AllocError.{AllocError}
use Rattle.rfb_session.specs.declared.drive.key_event.KeyEvent.{KeyEvent}
use Rattle.rfb_session.specs.drive.Keyboard.{typed, typed_char}

typed-append : (a b : List ℕ) → typed (a ++ b) ≡ typed a ++ typed b
typed-append [] b = refl
typed-append (c ∷ a) b = ap (λ (l : List KeyEvent). typed_char c ++ l) (typed-append a b)
    ∙ sym (append_assoc (typed_char c) (typed a) (typed b))

-- one character more
pub typed_more : (old events new : List KeyEvent) (text : List ℕ) (c : ℕ) → events ≡ old ++ typed text →
    new ≡ events ++ typed_char c → new ≡ old ++ typed (text ++ c ∷ [])
typed_more old events new text c so_far more =
    let one : typed (c ∷ []) ≡ typed_char c = append-nil (typed_char c) in
    let e : typed (text ++ c ∷ []) ≡ typed text ++ typed_char c =
    typed-append text (c ∷ []) ∙ ap (λ (l : List KeyEvent). typed text ++ l) one in
    more ∙ ap (λ (l : List KeyEvent). l ++ typed_char c) so_far
    ∙ append_assoc old (typed text) (typed_char c) ∙ sym (ap (λ (l : List KeyEvent). old ++ l) e)

pub read_as_is : (text : List ℕ) → map (λ c. c) text ≡ text
read_as_is [] = refl
read_as_is (c ∷ text) = ap (λ (l : List ℕ). c ∷ l) (read_as_is text)

-- where the memory ends, the characters so far are a beginning of the text
pub begun : (r : Result (Unit {0}) AllocError) (old events new : List KeyEvent) (text all : List ℕ) →
    map (λ c. c) text ≡ take (length text) all → events ≡ old ++ typed text → new ≡ events →
    IfErr r (λ error. (n : ℕ) × (new ≡ old ++ typed (take n all)))
begun (Ok done) old events new text all so_far is same = tt
begun (Err error) old events new text all so_far is same = (
  length text,
  same ∙ is ∙ ap (λ (l : List ℕ). old ++ typed l) (sym (read_as_is text) ∙ so_far),
)
