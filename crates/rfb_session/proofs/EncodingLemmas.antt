-- Words that are the names of encodings.
use Rattle.std.proofs.Common.{◌<◌, ◌≤◌, zero, suc, take, ◌≡◌, ◌≢◌, ◌∙◌, ap, sym, refl, subst, length, ℕ}
use Rattle.std.proofs.Common.{List, [], ◌∷◌, Bor, arith, map}
use Rattle.std.proofs.lemmas.List.{take_all}
use Rattle.rfb_wire.specs.declared.encoding.Encoding.{Encoding}
use Rattle.rfb_session.specs.language.Words.{AreEncodings, name_of, texts}
use Rattle.rfb_session.proofs.ArgumentLaws.{word}
use Rattle.rfb_session.proofs.WordLaws.{heads, nothing, tails}

map_length : (items : List Encoding) → length (map name_of items) ≡ length items
map_length [] = refl
map_length (x ∷ items) = omega (arith, map_length items)

-- a word that is no name of an encoding
no_names : (words : List (Bor (List ℕ))) (k : ℕ) (d : Bor (List ℕ)) → k < length words →
    ((encoding : Encoding) → word words k d ≢ name_of encoding) → (encodings : List Encoding) →
    texts words ≡ map name_of encodings → ⊥
no_names [] k d within none encodings e = absurd (omega arith)
no_names (w ∷ words) k d within none [] e = nothing w.now (texts words) (sym e)
no_names (w ∷ words) zero d within none (x ∷ xs) e = none x (heads w.now (name_of x) (texts words) (map name_of xs) e)
no_names (w ∷ words) (suc k) d within none (x ∷ xs) e = no_names words k d (omega arith) none xs
    (sym (tails w.now (name_of x) (texts words) (map name_of xs) e))

pub unknown_word : (words : List (Bor (List ℕ))) (k : ℕ) (d : Bor (List ℕ)) → k < length words →
    ((encoding : Encoding) → word words k d ≢ name_of encoding) → (encodings : List Encoding) →
    ¬ (AreEncodings (texts words) encodings)
unknown_word words k d within none encodings said = no_names words k d within none encodings said.0

pub all_named : (words : List (Bor (List ℕ))) (k : ℕ) (items : List Encoding) → length words ≤ k →
    texts (take k words) ≡ map name_of items → texts words ≡ map name_of items
all_named words k items over named = subst (λ (ws : List (Bor (List ℕ))). texts ws ≡ map name_of items)
    (take_all k words over) named

pub are_encodings : (words : List (Bor (List ℕ))) (items : List Encoding) → texts words ≡ map name_of items →
    (length items ≡ 0 → ⊥) → length items ≤ 4 → AreEncodings (texts words) items
are_encodings words items named some few =
    let s : length (texts words) ≡ length items = ap (λ (l : List (List ℕ)). length l) named ∙ map_length items in
    (named, omega (arith, s, some), omega (arith, s))

pub none_named : (words : List (Bor (List ℕ))) (items : List Encoding) → texts words ≡ map name_of items →
    length items ≡ 0 → (encodings : List Encoding) → ¬ (AreEncodings (texts words) encodings)
none_named words items named none encodings said =
    let s : length (texts words) ≡ length items = ap (λ (l : List (List ℕ)). length l) named ∙ map_length items in
    omega (arith, s, said.1)

-- five parts and more are no encodings
pub too_many_parts : (parts : List (List ℕ)) → 4 < length parts → (encodings : List Encoding) →
    ¬ (AreEncodings parts encodings)
too_many_parts parts many encodings are = omega (arith, are.2, many)
