-- Lists of encodings, each once: what one more makes of them, and that there is room for it.
use Rattle.std.proofs.Common.{Bool, List, [], ap, arith, false, get_or, if◌then◌else◌, length, refl, suc, take, true}
use Rattle.std.proofs.Common.{zero, ℕ, ◌++◌, ◌+◌, ◌<◌, ◌||◌, ◌∙◌, ◌∷◌, ◌≡◌, ◌≤◌}
use Rattle.std.proofs.lemmas.List.{take_more}
use Rattle.rfb_wire.specs.declared.encoding.Encoding.{Encoding}
use Rattle.rfb_wire.specs.declared.encoding.Encoding.TheVariants.{Raw, CopyRect, Rre, Hextile}
use Rattle.rfb_server.specs.Composition.{may_send}
use Rattle.rfb_server.specs.Encodings.{is_same, is_listed, times_listed, IsEachOnce}

-- encodings that are told to be the same are
pub same_is : (a b : Encoding) → is_same a b ≡ true → a ≡ b
same_is Raw Raw h = refl
same_is CopyRect CopyRect h = refl
same_is Rre Rre h = refl
same_is Hextile Hextile h = refl
same_is Raw CopyRect h = cc
same_is Raw Rre h = cc
same_is Raw Hextile h = cc
same_is CopyRect Raw h = cc
same_is CopyRect Rre h = cc
same_is CopyRect Hextile h = cc
same_is Rre Raw h = cc
same_is Rre CopyRect h = cc
same_is Rre Hextile h = cc
same_is Hextile Raw h = cc
same_is Hextile CopyRect h = cc
same_is Hextile Rre h = cc

or_false : (b : Bool) → (b || false) ≡ b
or_false true = refl
or_false false = refl

or_assoc : (a b c : Bool) → (a || (b || c)) ≡ ((a || b) || c)
or_assoc true b c = refl
or_assoc false b c = refl

neither : (a b : Bool) → (a || b) ≡ false → (a ≡ false) × (b ≡ false)
neither true b h = cc
neither false b h = (refl, h)

-- one encoding more at the end
pub listed_more : (e : Encoding) (xs : List Encoding) (y : Encoding) →
    is_listed e (xs ++ y ∷ []) ≡ (is_listed e xs || is_same e y)
listed_more e [] y = or_false (is_same e y)
listed_more e (x ∷ xs) y =
    ap (λ (b : Bool). is_same e x || b) (listed_more e xs y) ∙ or_assoc (is_same e x) (is_listed e xs) (is_same e y)

times_more : (e : Encoding) (xs : List Encoding) (y : Encoding) →
    times_listed e (xs ++ y ∷ []) ≡ times_listed e xs + (if is_same e y then 1 else 0)
times_more e [] y = omega arith
times_more e (x ∷ xs) y = omega (arith, times_more e xs y)

-- an encoding that is not listed is there no time
none_listed : (e : Encoding) (xs : List Encoding) → is_listed e xs ≡ false → times_listed e xs ≡ 0
none_listed e [] h = refl
none_listed e (x ∷ xs) h =
    let both = neither (is_same e x) (is_listed e xs) h in
    rw both.0 (omega (arith, none_listed e xs both.1))

pub once_more : (e : Encoding) (xs : List Encoding) → IsEachOnce xs → is_listed e xs ≡ false → IsEachOnce (xs ++ e ∷ [])
once_more e xs once h = λ a. rw (times_more a xs e) (by_same a (is_same a e) refl)
  where
    by_same : (a : Encoding) (b : Bool) → is_same a e ≡ b → times_listed a xs + (if b then 1 else 0) ≤ 1
    by_same a true s = let none : times_listed a xs ≡ 0 = rw (same_is a e s) (none_listed e xs h) in omega (arith, none)
    by_same a false s = omega (arith, once a)

-- a list has each encoding as often as it has it
counted : (xs : List Encoding) →
    length xs ≡ times_listed Raw xs + times_listed CopyRect xs + times_listed Rre xs + times_listed Hextile xs
counted [] = refl
counted (Raw ∷ xs) = omega (arith, counted xs)
counted (CopyRect ∷ xs) = omega (arith, counted xs)
counted (Rre ∷ xs) = omega (arith, counted xs)
counted (Hextile ∷ xs) = omega (arith, counted xs)

-- so there is room for one that it has not
pub has_room : (e : Encoding) (xs : List Encoding) → IsEachOnce xs → is_listed e xs ≡ false → length xs < 4
has_room Raw xs once h = omega (arith, counted xs, none_listed Raw xs h, once CopyRect, once Rre, once Hextile)
has_room CopyRect xs once h = omega (arith, counted xs, none_listed CopyRect xs h, once Raw, once Rre, once Hextile)
has_room Rre xs once h = omega (arith, counted xs, none_listed Rre xs h, once Raw, once CopyRect, once Hextile)
has_room Hextile xs once h = omega (arith, counted xs, none_listed Hextile xs h, once Raw, once CopyRect, once Rre)

or_true : (b : Bool) → (b || true) ≡ true
or_true true = refl
or_true false = refl

-- an encoding at an index is listed
pub listed_at : (e : Encoding) (xs : List Encoding) (i : ℕ) (d : Encoding) → i < length xs →
    is_same e (get_or xs i d) ≡ true → is_listed e xs ≡ true
listed_at e [] i d l s = absurd (omega arith)
listed_at e (x ∷ xs) zero d l s = rw s refl
listed_at e (x ∷ xs) (suc i) d l s = rw (listed_at e xs i d (omega arith) s) (or_true (is_same e x))

-- if none of the first is it, and the next is not, none of these is
pub none_more : (e : Encoding) (xs : List Encoding) (i : ℕ) (d : Encoding) → i < length xs →
    is_listed e (take i xs) ≡ false →
    is_same e (get_or xs i d) ≡ false → is_listed e (take (i + 1) xs) ≡ false
none_more e xs i d l before s =
    ap (λ (zs : List Encoding). is_listed e zs) (take_more xs i d l)
    ∙ (listed_more e (take i xs) (get_or xs i d) ∙ (rw (before, s) refl))

same_self : (e : Encoding) → is_same e e ≡ true
same_self Raw = refl
same_self CopyRect = refl
same_self Rre = refl
same_self Hextile = refl

-- one of a list may be sent
pub may_send_at : (xs : List Encoding) (i : ℕ) (d : Encoding) → i < length xs → may_send xs (get_or xs i d) ≡ true
may_send_at xs i d l =
    rw (listed_at (get_or xs i d) xs i d l (same_self (get_or xs i d))) (or_true (is_same (get_or xs i d) Raw))
