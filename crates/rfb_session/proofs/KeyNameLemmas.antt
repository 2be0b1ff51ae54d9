-- The tables of names of keys: one after the other, and each name once.
use Rattle.std.proofs.Common.{◌≡◌, ℕ, Bool, true, false, List, [], ◌∷◌, ◌++◌, Option, Some, refl}
use Rattle.std.proofs.Common.{map, cond, All, arith}
use Rattle.std.proofs.lemmas.List.Elements.{All-cons, All-nil}
use Rattle.std.proofs.lemmas.List.Kept.{AllPairs-cons}
use Rattle.std.specs.Prelude.{not, ◌&&◌}
use Rattle.std.specs.Option.{option_or}
use Rattle.std.specs.Str.{bytes_eq, str_eq_ignore_ascii_case, str_to_ascii_lowercase}
use Rattle.rfb_session.specs.drive.KeyNames.{StandOnce, looked_up, key_names, editing_keys, moving_keys, function_keys}
use Rattle.rfb_session.specs.drive.KeyNames.{holding_keys, keypad_keys, marks_keys}

-- ---- one table after another

pub looked_up-append : (a b : List (List ℕ × ℕ)) (name : List ℕ) →
    looked_up (a ++ b) name ≡ option_or (looked_up a name) (looked_up b name)
looked_up-append [] b name = refl
looked_up-append (entry ∷ a) b name =
    elim (str_eq_ignore_ascii_case entry.0 name) as (λ same. cond same (Some entry.1) (looked_up (a ++ b) name)
    ≡ option_or (cond same (Some entry.1) (looked_up a name)) (looked_up b name)) [
      | true ↦ refl
      | false ↦ looked_up-append a b name
    ]

pub named : (name : List ℕ) (a b c d e f : Option ℕ) → a ≡ looked_up editing_keys name →
    b ≡ looked_up moving_keys name → c ≡ looked_up function_keys name → d ≡ looked_up holding_keys name →
    e ≡ looked_up keypad_keys name → f ≡ looked_up marks_keys name →
    option_or (option_or (option_or (option_or (option_or a b) c) d) e) f ≡ looked_up key_names name
unfolding key_names
named name a b c d e f is_a is_b is_c is_d is_e is_f = simp (looked_up-append, is_a, is_b, is_c, is_d, is_e, is_f)

-- ---- each name once

apart : List ℕ → List (List ℕ) → Bool
apart name [] = true
apart name (other ∷ others) = not (bytes_eq name other) && apart name others

all_apart : List (List ℕ) → Bool
all_apart [] = true
all_apart (name ∷ others) = apart name others && all_apart others

-- the names in lower case
lowered : List (List ℕ × ℕ) → List (List ℕ)
lowered table = map (λ entry. str_to_ascii_lowercase entry.0) table

both : (a b : Bool) → (a && b) ≡ true → (a ≡ true) × (b ≡ true)
both true true e = (refl, refl)
both true false e = absurd (cc)
both false true e = absurd (cc)
both false false e = absurd (cc)

denied : (b : Bool) → not b ≡ true → b ≡ false
denied true e = absurd (cc)
denied false e = refl

others_differ : (name : List ℕ) (table : List (List ℕ × ℕ)) →
    apart (str_to_ascii_lowercase name) (lowered table) ≡ true →
    All (λ (other : List ℕ × ℕ). str_eq_ignore_ascii_case name other.0 ≡ false) table
unfolding apart lowered
others_differ name [] e = All-nil _
others_differ name (other ∷ table) e =
    let p = both (not (str_eq_ignore_ascii_case name other.0))
    (apart (str_to_ascii_lowercase name) (lowered table)) e in
    All-cons (λ (x : List ℕ × ℕ). str_eq_ignore_ascii_case name x.0 ≡ false) other table (denied _ p.0)
    (others_differ name table p.1)

once : (table : List (List ℕ × ℕ)) → all_apart (lowered table) ≡ true → StandOnce table
unfolding all_apart lowered
once [] e = λ i j d before within. absurd (omega arith)
once (entry ∷ table) e =
    let p = both (apart (str_to_ascii_lowercase entry.0) (lowered table)) (all_apart (lowered table)) e in
    AllPairs-cons (λ (x y : List ℕ × ℕ). str_eq_ignore_ascii_case x.0 y.0 ≡ false) entry table
    (others_differ entry.0 table p.0) (once table p.1)

all_are_apart : all_apart (lowered key_names) ≡ true
unfolding all_apart apart lowered key_names editing_keys moving_keys function_keys holding_keys keypad_keys marks_keys
all_are_apart = refl

pub names_stand_once : StandOnce key_names
names_stand_once = once key_names all_are_apart
