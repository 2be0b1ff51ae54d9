-- The words after the first of a line, by how many there are.
use Rattle.std.proofs.Common.{◌≡◌, ◌∙◌, ◌+◌, ◌≤◌, ◌<◌, ℕ, zero, suc, List, [], ◌∷◌, ◌++◌, Option, None, Some}
use Rattle.std.proofs.Common.{MatchOption, ◌⊎◌, inl, inr}
use Rattle.std.proofs.lemmas.List.{length-map, length-reverse, take_all, take_more}
use Rattle.std.proofs.lemmas.Bool.{lt-ltb}
use Rattle.std.specs.Prelude.{OnOk, nat_lt, not, reverse}
use Rattle.std.specs.Result.{result_ok}
use Rattle.std.proofs.Common.{Result, Ok, Err, ◌*◌}
use Rattle.std.proofs.Common.{append-nil, append_assoc, length-append, map, ◌↔◌, Bool, true, false}
use Rattle.std.proofs.Common.{Bor, length, take, refl, sym, ap, subst, arith}
use Rattle.rfb_session.specs.declared.drive.words.Place.{Place}
use Rattle.rfb_session.specs.declared.drive.key_event.KeyEvent.{KeyEvent}
use Rattle.rfb_session.specs.declared.drive.words.Likeness.{Likeness}
use Rattle.rfb_session.specs.declared.drive.words.Press.{Press}
use Rattle.std.proofs.Common.{codes}
use Rattle.rfb_session.specs.drive.Arguments.{ArePresses, GoInTurn, IsAt, IsAfterAt, IsAtSome, IsLikeness}
use Rattle.rfb_session.specs.drive.Arguments.{IsPlace, IsPress, IsWithin}
use Rattle.rfb_session.specs.drive.Keys.{IsCombination, down, pressing, up}
use Rattle.rfb_session.specs.language.Words.{texts}
use Rattle.rfb_session.proofs.ArgumentLaws.{five_words, three_words, two_words, word}
use Rattle.rfb_session.proofs.WordLaws.{texts_length}

pub place_words : (words : List (Bor (List ℕ))) (d : Bor (List ℕ)) (r : Option Place) → length words ≡ 2 →
    MatchOption r ((place : Place) → ¬ (IsAt (word words 0 d) (word words 1 d) place))
    (IsAt (word words 0 d) (word words 1 d)) →
    MatchOption r ((place : Place) → ¬ (IsPlace (texts words) place)) (IsPlace (texts words))
place_words [] d r len read = absurd (omega arith)
place_words (a ∷ []) d r len read = absurd (omega arith)
place_words (a ∷ b ∷ []) d r len read = read
place_words (a ∷ b ∷ c ∷ rest) d r len read = absurd (omega arith)

-- ---- the pointer

no_place : (x y : List ℕ) → ((place : Place) → ¬ (IsAt x y place)) → (at : Option Place) → ¬ (IsAtSome x y at)
no_place x y none None is = is
no_place x y none (Some place) is = none place is

pub no_press_two : (words : List (Bor (List ℕ))) (d : Bor (List ℕ)) → length words ≡ 2 →
    ((place : Place) → ¬ (IsAt (word words 0 d) (word words 1 d) place)) → (press : Press) →
    ¬ (IsPress (texts words) press)
no_press_two words d len none press is =
    no_place _ _ none press.at (subst (λ (l : List (List ℕ)). IsPress l press) (two_words words d len) is).1

pub no_press_three : (words : List (Bor (List ℕ))) (d : Bor (List ℕ)) → length words ≡ 3 →
    ((place : Place) → ¬ (IsAt (word words 1 d) (word words 2 d) place)) → (press : Press) →
    ¬ (IsPress (texts words) press)
no_press_three words d len none press is =
    no_place _ _ none press.at (subst (λ (l : List (List ℕ)). IsPress l press) (three_words words d len) is).1

-- ---- keys, a word after another

turn_more : (words : List (List ℕ)) (word : List ℕ) (events : List KeyEvent) (keys : List ℕ) → GoInTurn words events →
    IsCombination word keys → GoInTurn (words ++ word ∷ []) (events ++ pressing keys)
turn_more [] word events keys turn is = (
  keys,
  [],
  is,
  refl,
  ap (λ (l : List KeyEvent). l ++ pressing keys) turn ∙ sym (append-nil (pressing keys)),
)
turn_more (first ∷ words) word events keys turn is = (
  turn.0,
  turn.1 ++ pressing keys,
  turn.2,
  turn_more words word turn.1 keys turn.3 is,
  ap (λ (l : List KeyEvent). l ++ pressing keys) turn.4 ∙ append_assoc (pressing turn.0) turn.1 (pressing keys),
)

texts-append : (a b : List (Bor (List ℕ))) → texts (a ++ b) ≡ texts a ++ texts b
texts-append [] b = refl
texts-append (w ∷ a) b = ap (λ (l : List (List ℕ)). w.now ∷ l) (texts-append a b)

pub presses_more : (words : List (Bor (List ℕ))) (i : ℕ) (d : Bor (List ℕ)) (events new : List KeyEvent)
    (keys : List ℕ) →
    i < length words → GoInTurn (texts (take i words)) events → IsCombination (word words i d) keys →
    new ≡ events ++ pressing keys → GoInTurn (texts (take (i + 1) words)) new
presses_more words i d events new keys within turn is more =
    let e : texts (take (i + 1) words) ≡ texts (take i words) ++ word words i d ∷ [] =
    ap (λ (l : List (Bor (List ℕ))). texts l) (take_more words i d within) ∙ texts-append (take i words) _ in
    rw (e, more) (turn_more (texts (take i words)) (word words i d) events keys turn is)

pub no_presses : (words : List (Bor (List ℕ))) (i : ℕ) (d : Bor (List ℕ)) → i < length words →
    ((keys : List ℕ) → ¬ (IsCombination (word words i d) keys)) → (events : List KeyEvent) →
    ¬ (GoInTurn (texts words) events)
no_presses [] i d within none events turn = absurd (omega arith)
no_presses (w ∷ words) zero d within none events turn = none turn.0 turn.2
no_presses (w ∷ words) (suc i) d within none events turn = no_presses words i d (omega arith) none turn.1 turn.3

pub no_such_presses : (words : List (Bor (List ℕ))) (i : ℕ) (d : Bor (List ℕ)) → i < length words →
    ((keys : List ℕ) → ¬ (IsCombination (word words i d) keys)) → (events : List KeyEvent) →
    ¬ (ArePresses (texts words) events)
no_such_presses words i d within none events are = no_presses words i d within none events are.0

pub pressing_length : (keys : List ℕ) → length (pressing keys) ≡ length keys + length keys
pressing_length keys = omega (
  arith,
  length-append (map down keys) (map up (reverse keys)),
  length-map keys down,
  length-map (reverse keys) up,
  length-reverse keys,
)

pub fit : (n : ℕ) (b : Bool) → ((b ≡ true) ↔ (n ≤ 128)) → false ≡ b → n ≤ 128 → ⊥
fit n b fits refused few = let yes = fits.1 few in absurd (cc)

pub keys_length : (keys slice : List ℕ) (events sent : List KeyEvent) → length keys ≤ 8 → slice ≡ keys →
    events ≡ pressing slice → sent ≡ events → length sent ≤ 16
keys_length keys slice events sent few is pressed same =
    let a = ap (λ (l : List ℕ). length l) is in let b = ap (λ (l : List KeyEvent). length l) pressed in
    let c = ap (λ (l : List KeyEvent). length l) same in omega (arith, few, a, b, c, pressing_length slice)

pub no_words : (words : List (Bor (List ℕ))) → length words ≡ 0 → (events : List KeyEvent) →
    ¬ (ArePresses (texts words) events)
no_words words none events are = omega (arith, are.1, texts_length words, none)

pub many_words : (words : List (Bor (List ℕ))) → 8 < length words → (events : List KeyEvent) →
    ¬ (ArePresses (texts words) events)
many_words words many events are = omega (arith, are.2, texts_length words, many)

pub all_presses : (words : List (Bor (List ℕ))) (i : ℕ) (events : List KeyEvent) → length words ≤ i → 1 ≤ length words →
    length words ≤ 8 → GoInTurn (texts (take i words)) events → ArePresses (texts words) events
all_presses words i events over some few turn = (
  subst (λ (ws : List (Bor (List ℕ))). GoInTurn (texts ws) events) (take_all i words over) turn,
  omega (arith, texts_length words, some),
  omega (arith, texts_length words, few),
)

pub took : {E : Type 0} (r : Result (Unit {0}) E) (u : Unit {0}) (P : Type 0) → OnOk r P → Some u ≡ result_ok r → P
took (Ok x) u P done e = done
took (Err x) u P done e = let bad : Some u ≡ None = e in absurd (cc)

pub extended : (events new : List KeyEvent) (keys slice : List ℕ) (pressed sent : List KeyEvent) → slice ≡ keys →
    pressed ≡ pressing slice → sent ≡ pressed → new ≡ events ++ sent → new ≡ events ++ pressing keys
extended events new keys slice pressed sent is down same more = rw (more, same, down, is) refl

pub few_more : (events new sent : List KeyEvent) (i : ℕ) → length events ≤ 16 * i → length sent ≤ 16 →
    new ≡ events ++ sent →
    length new ≤ 16 * (i + 1)
few_more events new sent i few less more =
    let e = ap (λ (l : List KeyEvent). length l) more in omega (arith, few, less, e, length-append events sent)

-- ---- pictures

pub after_at : (at x y : List ℕ) (r : Option Place) → at ≡ codes "at" →
    MatchOption r ((place : Place) → ¬ (IsAt x y place)) (IsAt x y) →
    MatchOption r ((place : Place) → ¬ (IsAfterAt at x y place)) (IsAfterAt at x y)
after_at at x y None is read = λ place said. read place said.1
after_at at x y (Some place) is read = (is, read)

-- words are no likeness where the first three give no place, be they three or five
pub no_likeness : (words : List (Bor (List ℕ))) (d : Bor (List ℕ)) → ((length words ≡ 3) ⊎ (length words ≡ 5)) →
    ((place : Place) → ¬ (IsAfterAt (word words 0 d) (word words 1 d) (word words 2 d) place)) → (likeness : Likeness) →
    ¬ (IsLikeness (texts words) likeness)
no_likeness words d (inl three) none likeness is =
    none likeness.at (subst (λ (l : List (List ℕ)). IsLikeness l likeness) (three_words words d three) is).0
no_likeness words d (inr five) none likeness is =
    none likeness.at (subst (λ (l : List (List ℕ)). IsLikeness l likeness) (five_words words d five) is).0

pub none_within_five : (words : List (Bor (List ℕ))) (d : Bor (List ℕ)) → length words ≡ 5 →
    ((within : ℕ) → ¬ (IsWithin (word words 3 d) (word words 4 d) within)) → (likeness : Likeness) →
    ¬ (IsLikeness (texts words) likeness)
none_within_five words d len none likeness is =
    none likeness.within (subst (λ (l : List (List ℕ)). IsLikeness l likeness) (five_words words d len) is).1

pub unnot : (b : Bool) → false ≡ not b → b ≡ true
unnot true e = refl
unnot false e = absurd (cc)

pub no_digit : (x : ℕ) → false ≡ nat_lt x 16 → ¬ (x < 16)
no_digit x e low = let yes : nat_lt x 16 ≡ true = lt-ltb _ _ low in absurd (cc)
