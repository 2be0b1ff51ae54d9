-- Texts whose first bytes are kept.
use Rattle.std.proofs.Common.{◌≡◌, ℕ, ◌≤◌, ◌+◌, ◌-◌, List, [], ◌++◌, length, take, min, nat_le, Bool, true, false, refl}
use Rattle.std.proofs.Common.{sym, ◌∙◌, ap, arith}
use Rattle.std.proofs.lemmas.Bool.Decides.{nat_tests}
use Rattle.std.proofs.lemmas.List.{take_all}
use Rattle.rfb_hello.specs.KeptText.{no_text, kept_of}
use Rattle.std.proofs.Math.Seq.{take-append-add, take-length}

-- no more bytes than there are
take_min : (n : ℕ) (xs : List ℕ) → take (min (length xs) n) xs ≡ take n xs
take_min n xs = by (nat_le (length xs) n) refl
  where
    by : (b : Bool) → nat_le (length xs) n ≡ b → take (min (length xs) n) xs ≡ take n xs
    by true e =
        let few : length xs ≤ n = grind (arith, nat_tests) in
        let all : min (length xs) n ≡ length xs = omega (arith, few) in
        rw all (take-length xs ∙ sym (take_all n xs few))
    by false e =
        let many : n ≤ length xs = grind (arith, nat_tests) in
        let some : min (length xs) n ≡ n = omega (arith, many) in
        rw some refl

-- bytes after those that are kept, as many as there is room for
pub kept_more : (room : ℕ) (old bytes : List ℕ) → length old ≤ room →
    old ++ take (min (length bytes) (room - length old)) bytes ≡ take room (old ++ bytes)
kept_more room old bytes within =
    let parts : room ≡ length old + (room - length old) = omega (arith, within) in
    ap (λ (ys : List ℕ). old ++ ys) (take_min (room - length old) bytes)
    ∙ sym (take-append-add old bytes (room - length old)) ∙ ap (λ (k : ℕ). take k (old ++ bytes)) (sym parts)

-- of a text without bytes nothing is kept
pub kept_none : (limit : ℕ) → kept_of limit 0 [] ≡ no_text
kept_none limit = let room : min 0 limit ≡ 0 = omega arith in rw (room, take_all {A = ℕ} limit [] (omega arith)) refl
