-- Bytes that spell messages, one after another.
use Rattle.std.proofs.Common.{◌≡◌, ◌∙◌, ℕ, ◌+◌, List, [], ◌∷◌, ◌++◌, refl, sym, ap, map, append_assoc}
use Rattle.std.proofs.Common.{Result, Ok, Err, add-one, get_or, length, take, ◌<◌}
use Rattle.std.proofs.lemmas.List.{map-append, take_more}
use Rattle.std.specs.Prelude.{IfOk, is_ok, if◌then◌else◌}
use Rattle.std.specs.declared.alloc.AllocError.{AllocError}
use Rattle.rfb_session.specs.declared.drive.key_event.KeyEvent.{KeyEvent}
use Rattle.rfb_session.specs.declared.drive.words.Place.{Place}
use Rattle.rfb_session.specs.drive.driver.Acts.{Act, OfKey, OfPointer, act_bytes, clicks, spelled}

-- bytes were appended, if there was memory for them
pub grown : (r : Result (Unit {0}) AllocError) (old new bytes want : List ℕ) →
    new ≡ (if is_ok r then old ++ bytes else old) → bytes ≡ want → IfOk r (λ done. new ≡ old ++ want)
grown (Ok done) old new bytes want items same = items ∙ ap (λ (l : List ℕ). old ++ l) same
grown (Err error) old new bytes want items same = tt

-- others were before
pub grown_on : (r : Result (Unit {0}) AllocError) (old mid new a b want : List ℕ) → mid ≡ old ++ a →
    new ≡ (if is_ok r then mid ++ b else mid) → a ++ b ≡ want → IfOk r (λ done. new ≡ old ++ want)
grown_on (Ok done) old mid new a b want is items same =
    items ∙ ap (λ (l : List ℕ). l ++ b) is ∙ append_assoc old a b ∙ ap (λ (l : List ℕ). old ++ l) same
grown_on (Err error) old mid new a b want is items same = tt

-- messages after messages
pub spelled_append : (a b : List Act) → spelled (a ++ b) ≡ spelled a ++ spelled b
spelled_append [] b = refl
spelled_append (act ∷ a) b = ap (λ (l : List ℕ). act_bytes act ++ l) (spelled_append a b)
    ∙ sym (append_assoc (act_bytes act) (spelled a) (spelled b))

-- some more
pub spelled_more : (old mid new : List ℕ) (a b : List Act) → mid ≡ old ++ spelled a → new ≡ mid ++ spelled b →
    new ≡ old ++ spelled (a ++ b)
spelled_more old mid new a b so_far more =
    more ∙ ap (λ (l : List ℕ). l ++ spelled b) so_far ∙ append_assoc old (spelled a) (spelled b)
    ∙ ap (λ (l : List ℕ). old ++ l) (sym (spelled_append a b))

-- the same where the last of them may lack memory
pub spelled_then : (r : Result (Unit {0}) AllocError) (old mid new : List ℕ) (a b : List Act) → mid ≡ old ++ spelled a →
    IfOk r (λ done. new ≡ mid ++ spelled b) → IfOk r (λ done. new ≡ old ++ spelled (a ++ b))
spelled_then (Ok done) old mid new a b so_far more = spelled_more old mid new a b so_far more
spelled_then (Err error) old mid new a b so_far more = tt

-- two more, one after the other
pub clicked_more : (old so_far mid new : List ℕ) (buttons : ℕ) (at : Place) (n : ℕ) →
    so_far ≡ old ++ spelled (clicks buttons at n) → mid ≡ so_far ++ spelled (OfPointer buttons at ∷ []) →
    new ≡ mid ++ spelled (OfPointer 0 at ∷ []) → new ≡ old ++ spelled (clicks buttons at (n + 1))
clicked_more old so_far mid new buttons at n is down up =
    let two = spelled_more so_far mid new (OfPointer buttons at ∷ []) (OfPointer 0 at ∷ []) down up in
    rw add-one (spelled_more old so_far new (clicks buttons at n) (OfPointer buttons at ∷ OfPointer 0 at ∷ []) is two)

abbrev pub keyed : List KeyEvent → List Act
keyed events = map (λ event. OfKey event) events

-- one key more
pub keyed_more : (old mid new : List ℕ) (events : List KeyEvent) (i : ℕ) (d : KeyEvent) → i < length events →
    mid ≡ old ++ spelled (keyed (take i events)) → new ≡ mid ++ spelled (OfKey (get_or events i d) ∷ []) →
    new ≡ old ++ spelled (keyed (take (i + 1) events))
keyed_more old mid new events i d low so_far more =
    let all = spelled_more old mid new (keyed (take i events)) (OfKey (get_or events i d) ∷ []) so_far more in
    let e : keyed (take (i + 1) events) ≡ keyed (take i events) ++ OfKey (get_or events i d) ∷ [] =
    ap (λ (l : List KeyEvent). keyed l) (take_more events i d low)
    ∙ map-append (λ event. OfKey event) (take i events) (get_or events i d ∷ []) in
    all ∙ sym (ap (λ (l : List Act). old ++ spelled l) e)
