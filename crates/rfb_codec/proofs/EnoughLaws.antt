-- How many bytes are enough for a reading: where that many are there it waits for no more.
use Rattle.std.proofs.Common.{◌≡◌, ℕ, zero, suc, ◌+◌, ◌*◌, ◌≤◌, ◌<◌, nat_le, Bool, true, false, List, [], ◌∷◌, ◌++◌}
use Rattle.std.proofs.Common.{Some, None, length, take, drop, refl, sym, subst, arith, length-drop}
use Rattle.std.proofs.lemmas.List.{get_or-append-add, get_or-drop}
use Rattle.std.proofs.Math.Nat.{mul-le-mul_right}
use Rattle.std.proofs.lemmas.Bool.Decides.{nat_tests}
use Rattle.rfb_pixel.specs.FormatBytes.{AreBytes}
use Rattle.rfb_wire.specs.stream.Prefix.{Next, Got, Reading}
use Rattle.rfb_wire.specs.stream.Parts.{done, and_then, valued, optional, each, many}
use Rattle.rfb_codec.specs.declared.fault.PaintFault.{PaintFault}
use Rattle.rfb_codec.specs.Tile.{counted}

-- bytes after others are bytes
pub bytes_after : (front rest : List ℕ) → AreBytes (front ++ rest) → AreBytes rest
bytes_after front rest bytes =
    λ i. subst (λ (n : ℕ). n < 256) (get_or-append-add front rest i 0) (bytes (length front + i))

pub bytes_dropped : (n : ℕ) (xs : List ℕ) → AreBytes xs → AreBytes (drop n xs)
bytes_dropped n xs bytes = λ i. subst (λ (k : ℕ). k < 256) (sym (get_or-drop n xs i 0)) (bytes (n + i))

module _ {A F : Type 0} where
  -- an item was read of at most `n` bytes, and what is left are bytes
  pub record IsRead (n : ℕ) (bytes : List ℕ) (next : Next A F) : Type 0 where
    pub item : A
    pub rest : List ℕ
    pub got : next ≡ Got item rest
    pub few : length bytes ≤ n + length rest
    pub are_bytes : AreBytes rest

  -- `n` bytes are enough
  abbrev pub Suffices : ℕ → Reading A F → Type 0
  Suffices n p = (bytes : List ℕ) → AreBytes bytes → n ≤ length bytes → IsRead n bytes (p bytes)

  pub done_suffices : (a : A) → Suffices 0 (done a)
  done_suffices a bytes are enough = record { item = a; rest = bytes; got = refl; few = omega arith; are_bytes = are }

  pub valued_suffices : (n : ℕ) (value : List ℕ → A) → Suffices n (valued n value)
  valued_suffices n value bytes are enough =
      let long = length-drop n bytes in
      record {
        item = value (take n bytes);
        rest = drop n bytes;
        got = let test : nat_le n (length bytes) ≡ true = grind (arith, nat_tests) in rw test refl;
        few = omega (arith, long);
        are_bytes = bytes_dropped n bytes are;
      }

module _ {A B F : Type 0} where
  -- one part and another after it
  pub then_suffices : (n m : ℕ) (p : Reading A F) (k : A → Reading B F) → Suffices n p → ((a : A) → Suffices m (k a)) →
      Suffices (n + m) (and_then p k)
  then_suffices n m p k first second bytes are enough =
      let one = first bytes are (omega (arith, enough)) in
      let two = second one.item one.rest one.are_bytes (omega (arith, enough, one.few)) in
      record {
        item = two.item;
        rest = two.rest;
        got = rw one.got two.got;
        few = omega (arith, one.few, two.few);
        are_bytes = two.are_bytes;
      }

module _ {A F : Type 0} where
  pub optional_suffices : (n : ℕ) (flag : Bool) (p : Reading A F) → Suffices n p → Suffices n (optional flag p)
  optional_suffices n false p one bytes are enough =
      record { item = None; rest = bytes; got = refl; few = omega arith; are_bytes = are }
  optional_suffices n true p one bytes are enough =
      let r = one bytes are enough in
      record { item = Some r.item; rest = r.rest; got = rw r.got refl; few = r.few; are_bytes = r.are_bytes }

  each_of : (n count : ℕ) (p : List A → Reading A F) (before : List A) (bytes : List ℕ)
      (r : IsRead n bytes (p before bytes)) → IsRead (count * n) r.rest (each count p (before ++ r.item ∷ []) r.rest) →
      IsRead (suc count * n) bytes (each (suc count) p before bytes)
  each_of n count p before bytes r more =
      record {
        item = r.item ∷ more.item;
        rest = more.rest;
        got = rw (r.got, more.got) refl;
        few = omega (arith, r.few, more.few);
        are_bytes = more.are_bytes;
      }

  each_suffices : (n count : ℕ) (p : List A → Reading A F) → ((before : List A) → Suffices n (p before)) →
      (before : List A) → Suffices (count * n) (each count p before)
  each_suffices n zero p one before bytes are enough =
      record { item = []; rest = bytes; got = refl; few = omega arith; are_bytes = are }
  each_suffices n (suc count) p one before bytes are enough =
      let r = one before bytes are (omega (arith, enough)) in
      each_of n count p before bytes r
      (each_suffices n count p one (before ++ r.item ∷ []) r.rest r.are_bytes (omega (arith, enough, r.few)))

  pub many_suffices : (n count : ℕ) (p : Reading A F) → Suffices n p → Suffices (count * n) (many count p)
  many_suffices n count p one = each_suffices n count (λ _. p) (λ _. one) []

module _ {A : Type 0} where
  counted_of : (n : ℕ) (p : Reading A PaintFault) (count : ℕ) (rest : List ℕ) → count * n ≤ 255 * n →
      IsRead (count * n) rest (many count p rest) → IsRead (1 + 255 * n) (count ∷ rest) (counted true p (count ∷ rest))
  counted_of n p count rest all more =
      let some : nat_le 1 (length (count ∷ rest)) ≡ true = grind (arith, nat_tests) in
      record {
        item = more.item;
        rest = more.rest;
        got = rw some more.got;
        few = omega (arith, more.few, all);
        are_bytes = more.are_bytes;
      }

  -- a byte counts at most 255 parts
  pub counted_suffices : (n : ℕ) (flag : Bool) (p : Reading A PaintFault) → Suffices n p →
      Suffices (1 + 255 * n) (counted flag p)
  counted_suffices n false p one bytes are enough =
      record { item = []; rest = bytes; got = refl; few = omega arith; are_bytes = are }
  counted_suffices n true p one [] are enough = absurd (omega (arith, enough))
  counted_suffices n true p one (count ∷ rest) are enough =
      let small : count < 256 = are 0 in
      let all : count * n ≤ 255 * n = mul-le-mul_right n (omega (arith, small)) in
      counted_of n p count rest all
      (many_suffices n count p one rest (bytes_after (count ∷ []) rest are) (omega (arith, enough, all)))
