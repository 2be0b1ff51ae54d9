-- What is kept of a text that comes in slices.
use Rattle.std.proofs.Common.{◌≡◌, ℕ, ◌≤◌, List, ◌++◌, length, take, min, nat_le, Bool, true, false, refl, sym, ◌∙◌}
use Rattle.std.proofs.Common.{length-append, arith}
use Rattle.std.proofs.lemmas.Bool.Decides.{nat_tests}
use Rattle.std.proofs.lemmas.List.{take-append-le, take_all, length-take-le}

-- what is kept of a text, when more of it has come
pub kept_on : (limit n : ℕ) (text unit : List ℕ) → length (text ++ unit) ≤ n →
    take (min n limit) (take limit text ++ unit) ≡ take limit (text ++ unit)
kept_on limit n text unit within = by (nat_le limit (length text)) (nat_le limit n) refl refl
  where
    some : length text ≤ n
    some = let size = length-append text unit in omega (arith, size, within)

    by : (a b : Bool) → nat_le limit (length text) ≡ a → nat_le limit n ≡ b →
        take (min n limit) (take limit text ++ unit) ≡ take limit (text ++ unit)
    by true b e f =
        let full : limit ≤ length text = grind (arith, nat_tests) in
        let least : min n limit ≡ limit = omega (arith, full, some) in
        let size : length (take limit text) ≡ limit = length-take-le limit text full in
        rw least (take-append-le limit (take limit text) unit (omega (arith, size))
        ∙ take_all limit (take limit text) (omega (arith, size)) ∙ sym (take-append-le limit text unit full))
    by false true e f =
        let short : length text ≤ limit = grind (arith, nat_tests) in
        let small : limit ≤ n = grind (arith, nat_tests) in
        let least : min n limit ≡ limit = omega (arith, small) in
        rw (least, take_all limit text short) refl
    by false false e f =
        let short : length text ≤ limit = grind (arith, nat_tests) in
        let large : n ≤ limit = grind (arith, nat_tests) in
        let least : min n limit ≡ n = omega (arith, large) in
        rw (least, take_all limit text short) (take_all n (text ++ unit) within
        ∙ sym (take_all limit (text ++ unit) (omega (arith, within, large))))
