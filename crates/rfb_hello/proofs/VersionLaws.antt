-- Texts of versions.
use Rattle.std.proofs.Common.{◌≡◌, ℕ, ◌+◌, ◌==◌, ◌&&◌, nat_le, Bool, true, false, List, length, refl, arith}
use Rattle.std.proofs.lemmas.Bool.Decides.{nat_tests}
use Rattle.rfb_wire.specs.Fields.{u8_at}
use Rattle.rfb_hello.specs.Version.{IsDigit, IsVersionText, is_digit, are_digits, has_letters, is_version_text}

pub both : (a b : Bool) → (a && b) ≡ true → (a ≡ true) × (b ≡ true)
both true b e = (refl, e)
both false b e = cc

pub and_true : (a b : Bool) → a ≡ true → b ≡ true → (a && b) ≡ true
and_true true b e f = f
and_true false b e f = cc

digit_true : (byte : ℕ) → is_digit byte ≡ true → IsDigit byte
digit_true byte e =
    let parts = both (nat_le 48 byte) (nat_le byte 57) e in
    let low = parts.0 in
    let high = parts.1 in
    (grind (arith, nat_tests), grind (arith, nat_tests))

digit_test : (byte : ℕ) → IsDigit byte → is_digit byte ≡ true
digit_test byte d =
    let low = d.0 in
    let high = d.1 in
    and_true (nat_le 48 byte) (nat_le byte 57) (grind (arith, nat_tests)) (grind (arith, nat_tests))

same_true : (a b : ℕ) → (a == b) ≡ true → a ≡ b
same_true a b e = grind (arith, nat_tests)

same_test : (a b : ℕ) → a ≡ b → (a == b) ≡ true
same_test a b e = grind (arith, nat_tests)

digits_true : (i : ℕ) (bytes : List ℕ) → are_digits i bytes ≡ true →
    IsDigit (u8_at i bytes) × IsDigit (u8_at (i + 1) bytes) × IsDigit (u8_at (i + 2) bytes)
digits_true i bytes e =
    let last = both (is_digit (u8_at i bytes) && is_digit (u8_at (i + 1) bytes)) (is_digit (u8_at (i + 2) bytes)) e in
    let first = both (is_digit (u8_at i bytes)) (is_digit (u8_at (i + 1) bytes)) last.0 in (
      digit_true (u8_at i bytes) first.0,
      digit_true (u8_at (i + 1) bytes) first.1,
      digit_true (u8_at (i + 2) bytes) last.1,
    )

digits_test : (i : ℕ) (bytes : List ℕ) →
    IsDigit (u8_at i bytes) × IsDigit (u8_at (i + 1) bytes) × IsDigit (u8_at (i + 2) bytes) → are_digits i bytes ≡ true
digits_test i bytes (a, b, c) =
    and_true (is_digit (u8_at i bytes) && is_digit (u8_at (i + 1) bytes)) (is_digit (u8_at (i + 2) bytes))
    (and_true (is_digit (u8_at i bytes)) (is_digit (u8_at (i + 1) bytes)) (digit_test (u8_at i bytes) a)
    (digit_test (u8_at (i + 1) bytes) b)) (digit_test (u8_at (i + 2) bytes) c)

letters_true : (bytes : List ℕ) → has_letters bytes ≡ true →
    (u8_at 0 bytes ≡ 82) × (u8_at 1 bytes ≡ 70) × (u8_at 2 bytes ≡ 66) × (u8_at 3 bytes ≡ 32)
letters_true bytes e =
    let d = both (u8_at 0 bytes == 82 && u8_at 1 bytes == 70 && u8_at 2 bytes == 66) (u8_at 3 bytes == 32) e in
    let c = both (u8_at 0 bytes == 82 && u8_at 1 bytes == 70) (u8_at 2 bytes == 66) d.0 in
    let b = both (u8_at 0 bytes == 82) (u8_at 1 bytes == 70) c.0 in (
      same_true (u8_at 0 bytes) 82 b.0,
      same_true (u8_at 1 bytes) 70 b.1,
      same_true (u8_at 2 bytes) 66 c.1,
      same_true (u8_at 3 bytes) 32 d.1,
    )

letters_test : (bytes : List ℕ) →
    (u8_at 0 bytes ≡ 82) × (u8_at 1 bytes ≡ 70) × (u8_at 2 bytes ≡ 66) × (u8_at 3 bytes ≡ 32) → has_letters bytes ≡ true
letters_test bytes (a, b, c, d) = rw (a, b, c, d) refl

-- the test decides whether twelve bytes are a text
pub text_true : (bytes : List ℕ) → length bytes ≡ 12 → is_version_text bytes ≡ true → IsVersionText bytes
text_true bytes size e =
    let last = both (has_letters bytes && are_digits 4 bytes && u8_at 7 bytes == 46 && are_digits 8 bytes)
    (u8_at 11 bytes == 10) e in
    let minor = both (has_letters bytes && are_digits 4 bytes && u8_at 7 bytes == 46) (are_digits 8 bytes) last.0 in
    let point = both (has_letters bytes && are_digits 4 bytes) (u8_at 7 bytes == 46) minor.0 in
    let major = both (has_letters bytes) (are_digits 4 bytes) point.0 in
    record {
      size = size;
      letters = letters_true bytes major.0;
      major = digits_true 4 bytes major.1;
      point = same_true (u8_at 7 bytes) 46 point.1;
      minor = digits_true 8 bytes minor.1;
      end = same_true (u8_at 11 bytes) 10 last.1;
    }

pub text_test : (bytes : List ℕ) → IsVersionText bytes → is_version_text bytes ≡ true
text_test bytes t =
    and_true (has_letters bytes && are_digits 4 bytes && u8_at 7 bytes == 46 && are_digits 8 bytes)
    (u8_at 11 bytes == 10)
    (and_true (has_letters bytes && are_digits 4 bytes && u8_at 7 bytes == 46) (are_digits 8 bytes)
    (and_true (has_letters bytes && are_digits 4 bytes) (u8_at 7 bytes == 46)
    (and_true (has_letters bytes) (are_digits 4 bytes) (letters_test bytes t.letters) (digits_test 4 bytes t.major))
    (same_test (u8_at 7 bytes) 46 t.point)) (digits_test 8 bytes t.minor)) (same_test (u8_at 11 bytes) 10 t.end)

-- bytes that are no text of a version are told apart
pub text_false : (bytes : List ℕ) → length bytes ≡ 12 → (IsVersionText bytes → ⊥) →
    is_version_text bytes ≡ false
text_false bytes size not = by (is_version_text bytes) refl
  where
    by : (b : Bool) → is_version_text bytes ≡ b → b ≡ false
    by true e = absurd (not (text_true bytes size e))
    by false e = refl
