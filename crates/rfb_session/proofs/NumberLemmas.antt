-- Words of a line that are numbers.
use Rattle.std.proofs.Common.{◌≡◌, ◌∙◌, ◌==◌, Bool, true, false, sym, ap, zero, suc, length, ℕ, ◌+◌}
use Rattle.std.proofs.Common.{◌*◌, ◌-◌, ◌<◌, ◌≤◌, List, [], ◌∷◌, ◌++◌, refl, take, arith, get_or, subst}
use Rattle.std.proofs.Common.{Some, None, Ok, Err, Result, ◌↔◌, is_ok}
use Rattle.std.proofs.lemmas.Str.{digit_value_digit}
use Rattle.std.proofs.lemmas.Str.Parse.{IsNumeralModel, digits_value_short, numerals_by_value}
use Rattle.std.proofs.lemmas.Str.Parse.{tells_by_index, tells_digits}
use Rattle.std.specs.Char.{digit_value}
use Rattle.std.specs.Int.{IsInRange}
use Rattle.std.specs.Str.Parse.{AllDigits, digits_value, digits_value_after}
use Rattle.std.specs.Result.{result_ok}
use Rattle.std.specs.List.{AllPass}
use Rattle.hex.specs.Hex.{decode_of, decode_sized, is_hex_digit}
use Rattle.hex.specs.declared.error.FromHexError.{FromHexError}
use Rattle.hex.proofs.HexLemmas.{IsOk-decode_sized, decode_of-ok, decode_sized-ok, decode_sized-twice}
use Rattle.rfb_pixel.specs.declared.colour.Colour.{Colour}
use Rattle.rfb_session.specs.language.Number.{IsDigits}
use Rattle.rfb_session.specs.language.Words.{SaysComponents}

-- bytes are decoded exactly where there are two digits for each
pub found_decoded : (word : List ℕ) (n : ℕ) (bytes : Result (List ℕ) FromHexError) (found : Bool) →
    bytes ≡ decode_sized word n → found ≡ is_ok bytes →
    (found ≡ true) ↔ ((length word ≡ 2 * n) × AllPass is_hex_digit word)
found_decoded word n bytes found is same =
    let digits = IsOk-decode_sized word n in
    let decoded = ap (λ (r : Result (List ℕ) FromHexError). is_ok r) is in
    (λ some. digits.0 (sym decoded ∙ sym same ∙ some), λ are. same ∙ decoded ∙ digits.1 are)

pub digits : IsNumeralModel IsDigits (digits_value 10)
digits = numerals_by_value _ tells_by_index

all_digits : IsNumeralModel (AllDigits 10) (digits_value 10)
all_digits = numerals_by_value _ tells_digits

-- one digit more
pub all_more : (ds : List ℕ) (c : ℕ) → AllDigits 10 ds → IsInRange 48 57 c → AllDigits 10 (ds ++ c ∷ [])
all_more [] c all range = (omega (arith, digit_value_digit c range, range), tt)
all_more (d ∷ ds) c all range = (all.0, all_more ds c all.1 range)

after_more : (n : ℕ) (ds : List ℕ) (c : ℕ) → digits_value_after 10 n (ds ++ c ∷ []) ≡ digits_value_after 10 n ds * 10 +
    digit_value c
after_more n [] c = refl
after_more n (d ∷ ds) c = after_more (n * 10 + digit_value d) ds c

pub value_more : (word ds : List ℕ) (i c v r : ℕ) → take (i + 1) word ≡ ds ++ c ∷ [] → v ≡ digits_value 10 ds →
    IsInRange 48 57 c → r ≡ c - 48 → 10 * v + r ≡ digits_value 10 (take (i + 1) word)
value_more word ds i c v r more is range digit =
    omega (arith, ap (λ (l : List ℕ). digits_value 10 l) more, after_more 0 ds c, digit_value_digit c range, is, digit)

take_short : (i : ℕ) (xs : List ℕ) → length (take i xs) ≤ i
take_short zero xs = omega arith
take_short (suc i) [] = omega arith
take_short (suc i) (x ∷ xs) = omega (arith, take_short i xs)

-- nine digits have a value below 10 to the ninth
pub below : (word : List ℕ) (i : ℕ) → AllDigits 10 (take i word) → i ≤ 9 → digits_value 10 (take i word) < 1000000000
below word i all few = omega (
  arith,
  digits_value_short all_digits (take i word) 9 all
      (omega (arith, take_short i word, few)),
)

pub not_none : (n : ℕ) (b : Bool) → b ≡ (n == 0) → b ≡ false → 1 ≤ n
not_none zero b is fails = let e : true ≡ false = sym is ∙ fails in absurd (cc)
not_none (suc n) b is fails = omega arith

-- ---- a colour

ok_of : (bytes : List ℕ) (r : Result (List ℕ) FromHexError) → Some bytes ≡ result_ok r → r ≡ Ok bytes
ok_of bytes (Ok b) some = let same : Some bytes ≡ Some b = some in cc
ok_of bytes (Err e) some = let bad : Some bytes ≡ None = some in absurd (cc)

six_bytes : (b : List ℕ) → length b ≡ 6 → b ≡ get_or b 0 0 ∷ get_or b 1 0 ∷ get_or b 2 0 ∷ get_or b 3 0 ∷ get_or b 4 0
    ∷ get_or b 5 0 ∷ []
six_bytes [] len = absurd (omega arith)
six_bytes (a ∷ []) len = absurd (omega arith)
six_bytes (a ∷ b ∷ []) len = absurd (omega arith)
six_bytes (a ∷ b ∷ c ∷ []) len = absurd (omega arith)
six_bytes (a ∷ b ∷ c ∷ d ∷ []) len = absurd (omega arith)
six_bytes (a ∷ b ∷ c ∷ d ∷ e ∷ []) len = absurd (omega arith)
six_bytes (a ∷ b ∷ c ∷ d ∷ e ∷ f ∷ []) len = refl
six_bytes (a ∷ b ∷ c ∷ d ∷ e ∷ f ∷ x ∷ rest) len = absurd (omega arith)

-- six bytes that a word decodes to are its components
pub are_components : (word bytes : List ℕ) (r : Result (List ℕ) FromHexError) (colour : Colour) →
    r ≡ decode_sized word 6 → Some bytes ≡ result_ok r → colour.r ≡ get_or bytes 0 0 * 256 + get_or bytes 1 0 →
    colour.g ≡ get_or bytes 2 0 * 256 + get_or bytes 3 0 → colour.b ≡ get_or bytes 4 0 * 256 + get_or bytes 5 0 →
    SaysComponents word colour
are_components word bytes r colour sized some red green blue =
    let decoded : decode_sized word 6 ≡ Ok bytes = sym sized ∙ ok_of bytes r some in
    let len = decode_sized-ok word 6 bytes decoded in
    let whole : decode_of word ≡ Ok bytes = sym (decode_sized-twice word 6 len) ∙ decoded in
    let six : length bytes ≡ 6 = omega (arith, (decode_of-ok word bytes whole).2, len) in (
      get_or bytes 0 0,
      get_or bytes 1 0,
      get_or bytes 2 0,
      get_or bytes 3 0,
      get_or bytes 4 0,
      get_or bytes 5 0,
      subst (λ (b : List ℕ). decode_of word ≡ Ok b) (six_bytes bytes six) whole,
      red,
      green,
      blue,
    )
