-- Lines, one after another: what one more makes of them.
use Rattle.std.proofs.Common.{◌≡◌, ◌≢◌, ◌<◌, ◌+◌, ◌∙◌, ℕ, Option, Some, List, [], ◌∷◌, ◌++◌, Bor, suc, ap, sym, refl}
use Rattle.std.proofs.Common.{length, take, drop, get_or, arith, append_assoc}
use Rattle.std.proofs.Common.{length-append, take-append-drop, drop-cons}
use Rattle.std.specs.Iterator.{Yields}
use Rattle.std.proofs.lemmas.Iterator.{YieldsList}
use Rattle.std.proofs.lemmas.Iterator.Consumers.{YieldsList-turn, YieldsList-so_far}
use Rattle.std.proofs.lemmas.List.Elements.{All-nil, All-cons, All-head, All-tail}
use Rattle.rfb_session.specs.language.Words.{texts}
use Rattle.rfb_session.proofs.WordLaws.{texts_length}
use Rattle.rfb.specs.Lines.{AreEmpty, AreLed, AskInOrder, IsFirst}

abbrev pub IsEmpty : List ℕ → Type 0
IsEmpty line = line ≡ []

-- no line is empty lines
pub no_lines : AreEmpty []
no_lines = All-nil IsEmpty

-- an empty line after others
pub empty_more : (lines : List (List ℕ)) (line : List ℕ) → AreEmpty lines → line ≡ [] →
    AreEmpty (lines ++ line ∷ [])
empty_more [] line all none = All-cons IsEmpty line [] none (All-nil IsEmpty)
empty_more (l ∷ lines) line all none =
    All-cons IsEmpty l (lines ++ line ∷ []) (All-head IsEmpty l lines all)
    (empty_more lines line (All-tail IsEmpty l lines all) none)

-- a line after the later ones
pub later_more : (lines blank later : List (List ℕ)) (first line : List ℕ) →
    lines ≡ blank ++ first ∷ later → lines ++ line ∷ [] ≡ blank ++ first ∷ (later ++ line ∷ [])
later_more lines blank later first line whole =
    ap (λ (l : List (List ℕ)). l ++ line ∷ []) whole ∙ append_assoc blank (first ∷ later) (line ∷ [])

-- ---- lines that ask for things in their order

module _ {A : Type 0} (number : A → ℕ) (Asks : List ℕ → A → Type 0) where
  -- an empty line more asks for nothing
  pub asks_blank : (n : ℕ) (lines : List (List ℕ)) (line : List ℕ) (all : List A) → line ≡ [] →
      AskInOrder number Asks n lines all → AskInOrder number Asks n (lines ++ line ∷ []) all
  asks_blank n [] line [] none asks = rw none tt
  asks_blank n [] line (a ∷ all) none asks = absurd asks
  asks_blank n ([] ∷ lines) line all none asks = asks_blank (n + 1) lines line all none asks
  asks_blank n ((char ∷ l) ∷ lines) line [] none asks = absurd asks
  asks_blank n ((char ∷ l) ∷ lines) line (a ∷ all) none asks =
      (asks.0, asks.1, asks_blank (n + 1) lines line all none asks.2)

  -- a line more asks for a thing more
  pub asks_more : (n m : ℕ) (lines : List (List ℕ)) (line : List ℕ) (all : List A) (a : A) →
      AskInOrder number Asks n lines all → m ≡ n + length lines → number a ≡ m → line ≢ [] →
      Asks line a → AskInOrder number Asks n (lines ++ line ∷ []) (all ++ a ∷ [])
  asks_more n m [] [] [] a asks count at some says = absurd (some refl)
  asks_more n m [] (char ∷ line) [] a asks count at some says = (at ∙ (omega (arith, count)), says, tt)
  asks_more n m [] line (e ∷ all) a asks count at some says = absurd asks
  asks_more n m ([] ∷ lines) line all a asks count at some says =
      asks_more (n + 1) m lines line all a asks (omega (arith, count)) at some says
  asks_more n m ((char ∷ l) ∷ lines) line [] a asks count at some says = absurd asks
  asks_more n m ((char ∷ l) ∷ lines) line (e ∷ all) a asks count at some says =
      (asks.0, asks.1, asks_more (n + 1) m lines line all a asks.2 (omega (arith, count)) at some says)

  -- lines that ask for nothing are empty
  pub asks_none : (n : ℕ) (lines : List (List ℕ)) → AskInOrder number Asks n lines [] → AreEmpty lines
  asks_none n [] asks = All-nil IsEmpty
  asks_none n ([] ∷ lines) asks = All-cons IsEmpty [] lines refl (asks_none (n + 1) lines asks)
  asks_none n ((char ∷ l) ∷ lines) asks = absurd asks

-- ---- lines after a first one

module _ {First : List ℕ → Type 0} {Later : ℕ → List (List ℕ) → Type 0} where
  -- how many there are
  pub led_count : (n : ℕ) (lines : List (List ℕ)) (read : AreLed First Later n lines) →
      length lines ≡ length read.blank + (length read.later + 1)
  led_count n lines read =
      let all : length lines ≡ length read.blank + length (read.first ∷ read.later) =
      ap (λ (l : List (List ℕ)). length l) read.whole ∙ length-append read.blank (read.first ∷ read.later) in
      omega (arith, all)

  -- the first, after empty ones
  pub led_first : (n : ℕ) (lines : List (List ℕ)) (line : List ℕ) → AreEmpty lines → First line →
      Later (n + length lines + 1) [] → AreLed First Later n (lines ++ line ∷ [])
  led_first n lines line empty says none = record {
    blank = lines;
    first = line;
    later = [];
    whole = refl;
    blank_is = empty;
    first_is = says;
    later_are = none;
  }

  -- one more
  pub led_more : {More : ℕ → List (List ℕ) → Type 0} (n : ℕ) (lines : List (List ℕ)) (line : List ℕ)
      (read : AreLed First Later n lines) → More (n + length read.blank + 1) (read.later ++ line ∷ []) →
      AreLed First More n (lines ++ line ∷ [])
  led_more n lines line read more = record {
    blank = read.blank;
    first = read.first;
    later = read.later ++ line ∷ [];
    whole = later_more lines read.blank read.later read.first line read.whole;
    blank_is = read.blank_is;
    first_is = read.first_is;
    later_are = more;
  }

-- ---- the first line that is bad

-- lines, the one under way, and the others
pub parted : (lines before : List (List ℕ)) (line d : List ℕ) → before ≡ take (length before) lines →
    length before < length lines → line ≡ get_or lines (length before) d →
    lines ≡ before ++ line ∷ drop (length before + 1) lines
parted lines before line d front within is =
    sym (take-append-drop (length before) lines)
    ∙ ap (λ (l : List (List ℕ)). l ++ drop (length before) lines) (sym front)
    ∙ ap (λ (l : List (List ℕ)). before ++ l) (drop-cons lines (length before) d within
    ∙ ap (λ (l : List ℕ). l ∷ drop (suc (length before)) lines) (sym is)
    ∙ ap (λ (k : ℕ). line ∷ drop k lines) next)
  where
    next : suc (length before) ≡ length before + 1
    next = omega arith

-- a line that a loop has under way, and that is bad after those before it
pub first_bad_line : {IsBad : List (List ℕ) → List ℕ → Type 0} {S : Type 0}
    {steps : S → Option (Bor (List ℕ)) → S → Type 0} {s t u : S} {r : Option (Bor (List ℕ))}
    (all : List (List ℕ)) (words : List (Bor (List ℕ))) (word : Bor (List ℕ)) (n : ℕ) →
    YieldsList steps (λ x. x.now) s all →
    Yields steps s words t → r ≡ Some word → steps t r u → n ≡ length words →
    IsBad (texts words) word.now → IsFirst IsBad all (n + 1)
first_bad_line {t = t} {u = u} {r = r} all words word n yields so_far is step count bad =
    let size = texts_length words in
    let front = YieldsList-so_far yields words t so_far in
    let turn = YieldsList-turn yields words t so_far r u word is step in
    record {
      before = texts words;
      line = word.now;
      after = drop (length (texts words) + 1) all;
      whole = parted all (texts words) word.now word.now (rw size front) (rw size turn.0) (rw size turn.1);
      count = omega (arith, count, size);
      bad = bad;
    }
