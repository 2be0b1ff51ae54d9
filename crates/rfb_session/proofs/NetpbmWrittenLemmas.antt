-- A file that is written of a picture spells it.
use Rattle.std.proofs.Common.{◌≡◌, ◌∙◌, ◌<◌, ◌≤◌, ◌*◌, ◌^◌, ◌++◌, ℕ, true, List, [], ◌∷◌, length, take, drop, ap, sym}
use Rattle.std.proofs.Common.{refl, subst, inl, zero, suc, ◌-◌, arith, append_assoc, length-append, take-append-drop}
use Rattle.std.proofs.lemmas.Fmt.{decimal_nonempty, digits_decimal, digits_value-decimal, length-decimal-le}
use Rattle.std.proofs.lemmas.Str.Parse.{IsNumeralModel, numerals_by_fold}
use Rattle.std.specs.Fmt.{decimal}
use Rattle.std.specs.Int.{byte_at}
use Rattle.rfb_pixel.specs.declared.colour.Colour.{Colour}
use Rattle.rfb_picture.specs.Grid.{Grid}
use Rattle.rfb_session.specs.Pixmap.{components, header, header_of, pixmap}
use Rattle.rfb_session.specs.declared.netpbm.head.Sample.TheVariants.{Word}
use Rattle.rfb_session.specs.netpbm.File.{Spells, front_of, tail_of}
use Rattle.rfb_session.specs.netpbm.Head.{IsHead}
use Rattle.rfb_session.specs.netpbm.Number.{AreDigits, BeginsNoDigit, NextNumber, is_blank, value_after, value_of}
use Rattle.rfb_session.specs.netpbm.Places.{ArePlaces, AreColours, colours_of_words, word_of}
use Rattle.rfb_session.specs.netpbm.Side.{IsSide}

-- ---- a number

numerals : IsNumeralModel AreDigits value_of
numerals = numerals_by_fold AreDigits (record { empty = tt; parts = λ c cs d. d; more = λ c cs k d. (k, d) })
    value_after (record { empty = λ n. refl; more = λ n c cs k. ap (λ (m : ℕ). value_after m cs) (omega arith) })

-- a number's digits, after a blank
number_next : (n blank : ℕ) (rest : List ℕ) → n < 2 ^ 64 → is_blank blank ≡ true → BeginsNoDigit rest →
    NextNumber (blank ∷ (decimal n ++ rest)) (decimal n) rest
number_next n blank rest small is whole = record {
  gap = blank ∷ [];
  parts = refl;
  is_gap = inl (is, tt);
  are_digits = digits_decimal numerals n small;
  some = decimal_nonempty n small;
  whole = whole;
}

-- ---- the head

abbrev largest : List ℕ
largest = 54 ∷ 53 ∷ 53 ∷ 51 ∷ 53 ∷ []

head_text : (w h : ℕ) (rest : List ℕ) →
    header_of w h ++ rest ≡ 80 ∷ 54 ∷ 10 ∷ (decimal w ++ (32 ∷ (decimal h ++ (10 ∷ (largest ++ (10 ∷ rest))))))
head_text w h rest =
    let end : List ℕ = 10 ∷ (largest ++ (10 ∷ [])) in
    ap (λ (l : List ℕ). 80 ∷ 54 ∷ 10 ∷ l)
    (append_assoc (decimal w) (32 ∷ (decimal h ++ end)) rest
    ∙ ap (λ (l : List ℕ). decimal w ++ (32 ∷ l)) (append_assoc (decimal h) end rest))

written_head : (w h : ℕ) (rest : List ℕ) → IsSide w → IsSide h → IsHead (header_of w h ++ rest) w h Word rest
written_head w h rest wide high =
    let three : List ℕ = 10 ∷ rest in
    let two : List ℕ = 10 ∷ (largest ++ three) in
    let one : List ℕ = 32 ∷ (decimal h ++ two) in
    let few : w < 2 ^ 64 = omega arith in
    let low : h < 2 ^ 64 = omega arith in
    record {
      magic = 10 ∷ (decimal w ++ one);
      one = one;
      two = two;
      three = three;
      is_magic = (head_text w h rest, λ digit. omega (arith, digit));
      is_width = (
        decimal w,
        number_next w 10 one few refl (λ digit. omega (arith, digit)),
        sym (digits_value-decimal numerals w few),
        wide,
      );
      is_height = (
        decimal h,
        number_next h 32 two low refl (λ digit. omega (arith, digit)),
        sym (digits_value-decimal numerals h low),
        high,
      );
      is_maximum = (
        largest,
        record {
          gap = 10 ∷ [];
          parts = refl;
          is_gap = inl (refl, tt);
          are_digits = (
            (omega arith, omega arith),
            (
              (omega arith, omega arith),
              ((omega arith, omega arith), ((omega arith, omega arith), ((omega arith, omega arith), tt))),
            ),
          );
          some = omega arith;
          whole = λ digit. omega (arith, digit);
        },
        refl,
      );
      is_blank = (10, refl, refl);
    }

-- ---- the places

word_back : (n : ℕ) → n < 65536 → word_of (byte_at 1 n) (byte_at 0 n) ≡ n
word_back n small = omega arith

colour_back : (c : Colour) (r g b : ℕ) → r ≡ c.r → g ≡ c.g → b ≡ c.b → c ≡ record { r = r; g = g; b = b }
colour_back c r g b red green blue = sym (λ i. record { r = red i; g = green i; b = blue i })

one_more : (x y : Colour) (xs ys : List Colour) → x ≡ y → xs ≡ ys → x ∷ xs ≡ y ∷ ys
one_more x y xs ys same more = cc

places_back : (cs : List Colour) → AreColours cs →
    (length (components cs) ≡ 6 * length cs) × (cs ≡ colours_of_words (components cs))
unfolding components
places_back [] are = (refl, refl)
places_back (c ∷ cs) are =
    let more = places_back cs are.1 in
    let same = colour_back c _ _ _ (word_back c.r are.0.red) (word_back c.g are.0.green) (word_back c.b are.0.blue) in
    (omega (arith, more.0), one_more c _ cs _ same more.1)

-- ---- the whole

-- a header is short, so it ends in the front
header_few : (w h : ℕ) → IsSide w → IsSide h → length (header_of w h) ≤ 8192
header_few w h wide high =
    let end : List ℕ = 10 ∷ (largest ++ (10 ∷ [])) in
    let few = length-decimal-le 4 w (omega arith) (omega arith) (omega arith) in
    let low = length-decimal-le 4 h (omega arith) (omega arith) (omega arith) in
    omega (arith, few, low, length-append (decimal w) (32 ∷ (decimal h ++ end)), length-append (decimal h) end)

past : (n : ℕ) (xs ys : List ℕ) → length xs ≤ n →
    (take n (xs ++ ys) ≡ xs ++ take (n - length xs) ys) × (drop n (xs ++ ys) ≡ drop (n - length xs) ys)
past n [] ys few = let all : n ≡ n - 0 = omega arith in (ap (λ (m : ℕ). take m ys) all, ap (λ (m : ℕ). drop m ys) all)
past zero (x ∷ xs) ys few = absurd (omega arith)
past (suc n) (x ∷ xs) ys few =
    let k = past n xs ys (omega arith) in
    let all : n - length xs ≡ suc n - length (x ∷ xs) = omega arith in
    (ap (λ (l : List ℕ). x ∷ l) (k.0 ∙ ap (λ (m : ℕ). xs ++ take m ys) all), k.1 ∙ ap (λ (m : ℕ). drop m ys) all)

front_seam : (head all : List ℕ) → length head ≤ 8192 →
    (rest : List ℕ) × (front_of (head ++ all) ≡ head ++ rest) × (rest ++ tail_of (head ++ all) ≡ all)
front_seam head all few =
    let k = past 8192 head all few in
    let n : ℕ = 8192 - length head in
    (take n all, k.0, ap (λ (l : List ℕ). take n all ++ l) k.1 ∙ take-append-drop n all)

pub written_spells : (g : Grid Colour) → IsSide g.width → IsSide g.height → length g.places ≡ g.height * g.width →
    AreColours g.places → Spells (pixmap g) g
written_spells g wide high whole are =
    let front = front_seam (header g) (components g.places) (header_few g.width g.height wide high) in
    let places = places_back g.places are in
    record {
      sample = Word;
      rest = front.0;
      is_head = subst (λ (l : List ℕ). IsHead l g.width g.height Word front.0) (sym front.1)
          (written_head g.width g.height front.0 wide high);
      are_places = subst (λ (l : List ℕ). ArePlaces Word (g.height * g.width) l g.places) (sym front.2)
          (omega (arith, places.0, whole), places.1);
    }
