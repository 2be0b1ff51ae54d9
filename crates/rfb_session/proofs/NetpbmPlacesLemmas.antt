-- The colours of places, piece by piece.
use Rattle.std.proofs.Common.{◌≡◌, ◌∙◌, ◌≤◌, ◌+◌, ◌*◌, ◌++◌, ℕ, zero, suc, List, [], ◌∷◌, Option, Some, None, IfSome}
use Rattle.std.proofs.Common.{length, get_or, take, drop, ap, sym, refl, subst, inl, inr, arith, append-nil}
use Rattle.std.proofs.Common.{append_assoc, length-append, take_all}
use Rattle.std.proofs.KnownBytes.{Consumes-trans}
use Rattle.std.specs.Io.KnownBytes.{Consumes, IsAtEnd}
use Rattle.rfb_pixel.specs.declared.colour.Colour.{Colour}
use Rattle.rfb_pixel.specs.Format.{colour_of_bytes}
use Rattle.rfb_session.specs.declared.netpbm.fault.Flaw.{Flaw}
use Rattle.rfb_session.specs.declared.netpbm.fault.PixmapError.{PixmapError}
use Rattle.rfb_session.specs.declared.netpbm.fault.PixmapError.TheVariants.{Flaw as FlawError, Input, NoMemory}
use Rattle.rfb_session.specs.declared.netpbm.head.Sample.{Sample}
use Rattle.rfb_session.specs.declared.netpbm.head.Sample.TheVariants.{Byte, Word}
use Rattle.rfb_session.specs.netpbm.Places.{ArePlaces, colours_of, colours_of_words, size_of, word_of}
use Rattle.rfb_session.specs.netpbm.PlacesRead.{FailsEnd, FailsPiece, FailsToFill, ReadPlaces}

-- ---- whole places

-- the first place of some, and the others
first_place : (s : Sample) (n : ℕ) (a : List ℕ) → length a ≡ size_of s * suc n →
    (c : Colour) × (rest : List ℕ) × (length rest ≡ size_of s * n)
    × ((b : List ℕ) → colours_of s (a ++ b) ≡ c ∷ colours_of s (rest ++ b))
    × (colours_of s a ≡ c ∷ colours_of s rest)
first_place Byte n [] size = absurd (omega arith)
first_place Byte n (r ∷ []) size = absurd (omega arith)
first_place Byte n (r ∷ g ∷ []) size = absurd (omega arith)
first_place Byte n (r ∷ g ∷ u ∷ rest) size = (colour_of_bytes r g u, rest, omega arith, λ b. refl, refl)
first_place Word n [] size = absurd (omega arith)
first_place Word n (r ∷ []) size = absurd (omega arith)
first_place Word n (r ∷ r0 ∷ []) size = absurd (omega arith)
first_place Word n (r ∷ r0 ∷ g ∷ []) size = absurd (omega arith)
first_place Word n (r ∷ r0 ∷ g ∷ g0 ∷ []) size = absurd (omega arith)
first_place Word n (r ∷ r0 ∷ g ∷ g0 ∷ u ∷ []) size = absurd (omega arith)
first_place Word n (r ∷ r0 ∷ g ∷ g0 ∷ u ∷ u0 ∷ rest) size =
    (record { r = word_of r r0; g = word_of g g0; b = word_of u u0 }, rest, omega arith, λ b. refl, refl)

pub places_more : (s : Sample) (n : ℕ) (a b : List ℕ) → length a ≡ size_of s * n →
    colours_of s (a ++ b) ≡ colours_of s a ++ colours_of s b
places_more Byte zero [] b size = refl
places_more Word zero [] b size = refl
places_more s zero (r ∷ a) b size = absurd (omega arith)
places_more s (suc n) a b size =
    let first = first_place s n a size in
    first.3 b ∙ ap (λ (l : List Colour). first.0 ∷ l) (places_more s n first.1 b first.2)
    ∙ ap (λ (l : List Colour). l ++ colours_of s b) (sym first.4)

places_count : (s : Sample) (n : ℕ) (a : List ℕ) → length a ≡ size_of s * n → length (colours_of s a) ≡ n
places_count Byte zero [] size = refl
places_count Word zero [] size = refl
places_count s zero (r ∷ a) size = absurd (omega arith)
places_count s (suc n) a size =
    let first = first_place s n a size in
    ap (λ (l : List Colour). length l) first.4 ∙ ap suc (places_count s n first.1 first.2)

-- the same where its samples are known
words_step : (xs : List ℕ) (c : Colour) → 6 ≤ length xs → c.r ≡ word_of (get_or xs 0 0) (get_or xs 1 0) →
    c.g ≡ word_of (get_or xs 2 0) (get_or xs 3 0) → c.b ≡ word_of (get_or xs 4 0) (get_or xs 5 0) →
    colours_of_words xs ≡ c ∷ colours_of_words (drop 6 xs)
words_step [] c long r g b = absurd (omega arith)
words_step (r ∷ []) c long red green blue = absurd (omega arith)
words_step (r ∷ r0 ∷ []) c long red green blue = absurd (omega arith)
words_step (r ∷ r0 ∷ g ∷ []) c long red green blue = absurd (omega arith)
words_step (r ∷ r0 ∷ g ∷ g0 ∷ []) c long red green blue = absurd (omega arith)
words_step (r ∷ r0 ∷ g ∷ g0 ∷ u ∷ []) c long red green blue = absurd (omega arith)
words_step (r ∷ r0 ∷ g ∷ g0 ∷ u ∷ u0 ∷ xs) c long red green blue =
    let same : record { r = word_of r r0; g = word_of g g0; b = word_of u u0 } ≡ c = rw (← red, ← green, ← blue) refl in
    ap (λ (d : Colour). d ∷ colours_of_words xs) same

pub words_pushed : (places new all : List Colour) (xs : List ℕ) (n : ℕ) (c : Colour) →
    6 ≤ length xs → length (drop 6 xs) ≤ n →
    c.r ≡ word_of (get_or xs 0 0) (get_or xs 1 0) → c.g ≡ word_of (get_or xs 2 0) (get_or xs 3 0) →
    c.b ≡ word_of (get_or xs 4 0) (get_or xs 5 0) → new ≡ places ++ c ∷ [] → places ++ colours_of_words xs ≡ all →
    new ++ colours_of_words (take n (drop 6 xs)) ≡ all
words_pushed places new all xs n c long fits r g b pushed so =
    let rest = take_all n (drop 6 xs) fits in
    let step = words_step xs c long r g b in
    rw (rest, pushed, append_assoc) (ap (λ (l : List Colour). places ++ l) (sym step) ∙ so)

-- ---- pieces

pub none_read : (s : Sample) (old : Option (List ℕ)) (places : List Colour) → Consumes old old [] → places ≡ [] →
    ReadPlaces s 0 old old places
none_read Byte old places none empty = record { seen = []; came = none; size = refl; are = empty }
none_read Word old places none empty = record { seen = []; came = none; size = refl; are = empty }

pub more_read : (s : Sample) (m n : ℕ) (old mid new : Option (List ℕ)) (before more after : List Colour) →
    ReadPlaces s m old mid before → ReadPlaces s n mid new more → after ≡ before ++ more →
    ReadPlaces s (m + n) old new after
more_read s m n old mid new before more after one two is = record {
  seen = one.seen ++ two.seen;
  came = Consumes-trans old mid new one.seen two.seen one.came two.came;
  size = length-append one.seen two.seen ∙ omega (arith, one.size, two.size);
  are = is ∙ rw (one.are, two.are) (sym (places_more s m one.seen two.seen one.size));
}

pub count_read : (s : Sample) (n : ℕ) (old new : Option (List ℕ)) (places : List Colour) →
    ReadPlaces s n old new places →
    length places ≡ n
count_read s n old new places read = ap length read.are ∙ places_count s n read.seen read.size

-- ---- the end

pub all_read : (s : Sample) (n : ℕ) (old new : Option (List ℕ)) (places : List Colour) → ReadPlaces s n old new places →
    IsAtEnd new → IfSome old (λ bytes. ArePlaces s n bytes places)
all_read s n None new places read end = tt
all_read s n (Some bytes) None places read end = absurd read.came
all_read s n (Some bytes) (Some rest) places read end =
    let whole = read.came ∙ ap (λ (l : List ℕ). read.seen ++ l) end ∙ append-nil read.seen in
    subst (λ (l : List ℕ). ArePlaces s n l places) (sym whole) (read.size, read.are)

-- some places are there, and then too few bytes
pub short_read : (s : Sample) (m wanted n : ℕ) (old mid new : Option (List ℕ))
    (places : List Colour) (error : PixmapError) →
    ReadPlaces s m old mid places → FailsPiece s wanted mid new error → m + wanted ≤ n → FailsToFill s n old error
short_read s m wanted n None mid new places error read fails few = tt
short_read s m wanted n (Some bytes) mid new places (Input input) read fails few = tt
short_read s m wanted n (Some bytes) mid new places NoMemory read fails few = tt
short_read s m wanted n (Some bytes) None new places (FlawError flaw) read fails few = absurd read.came
short_read s m wanted n (Some bytes) (Some rest) None places (FlawError flaw) read fails few = absurd fails.2
short_read Byte m wanted n (Some bytes) (Some rest) (Some left) places (FlawError flaw) read fails few =
    let whole = ap length read.came ∙ length-append read.seen rest in
    let part = ap length fails.2 ∙ length-append fails.1 left in
    let none = ap length fails.3 in
    inl (fails.0, omega (arith, whole, part, none, read.size, fails.4, few))
short_read Word m wanted n (Some bytes) (Some rest) (Some left) places (FlawError flaw) read fails few =
    let whole = ap length read.came ∙ length-append read.seen rest in
    let part = ap length fails.2 ∙ length-append fails.1 left in
    let none = ap length fails.3 in
    inl (fails.0, omega (arith, whole, part, none, read.size, fails.4, few))

-- all places are there, and then more bytes
pub long_read : (s : Sample) (n : ℕ) (old new : Option (List ℕ)) (places : List Colour) (error : PixmapError) →
    ReadPlaces s n old new places → FailsEnd new error → FailsToFill s n old error
long_read s n None new places error read fails = tt
long_read s n (Some bytes) new places (Input input) read fails = tt
long_read s n (Some bytes) new places NoMemory read fails = tt
long_read s n (Some bytes) None places (FlawError flaw) read fails = absurd read.came
long_read s n (Some bytes) (Some rest) places (FlawError flaw) read fails =
    let whole = ap length read.came ∙ length-append read.seen rest in
    inr (fails.0, omega (arith, whole, read.size, fails.1))

pub no_flaw_input : (s : Sample) (n : ℕ) (old : Option (List ℕ)) (error : PixmapError) →
    ((flaw : Flaw) → ¬ (error ≡ FlawError flaw)) → FailsToFill s n old error
no_flaw_input s n None error other = tt
no_flaw_input s n (Some bytes) (FlawError flaw) other = absurd (other flaw refl)
no_flaw_input s n (Some bytes) (Input input) other = tt
no_flaw_input s n (Some bytes) NoMemory other = tt
