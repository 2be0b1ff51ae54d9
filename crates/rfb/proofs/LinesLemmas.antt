-- Lines of a script, read one after another.
use Rattle.std.proofs.Common.{◌==◌, Bool, true, false, is_some, ◌≡◌, ◌≢◌, ◌+◌, ◌∙◌, ℕ, Option, Some, None, List, []}
use Rattle.std.proofs.Common.{◌∷◌, ◌++◌, Bor, ap, sym, refl, inl, inr, length, arith}
use Rattle.std.proofs.lemmas.Bool.Decides.{nat_tests}
use Rattle.std.proofs.lemmas.List.{length_push}
use Rattle.rfb.specs.declared.script.line.Numbered.{Numbered}
use Rattle.rfb_session.specs.declared.language.screen.Screen.{Screen as Size}
use Rattle.rfb.specs.declared.script.line.Wants.{Wants}
use Rattle.rfb.specs.declared.script.line.Line.TheVariants.{Screen, Viewer}
use Rattle.rfb_session.specs.language.Words.{texts, words_of}
use Rattle.rfb.specs.Lines.{AreEmpty}
use Rattle.rfb.specs.Script.{AreScript, AskAfter, AskFor, AskForAll, GivesSize, IsBadAfter, IsNoMore, Says, SaysStep}
use Rattle.rfb_session.proofs.WordLaws.{texts_length}
use Rattle.rfb.proofs.OrderLemmas.{asks_blank, asks_more, asks_none, empty_more, led_count, led_first, led_more}

-- what lines are that were read so far: empty, or a script
abbrev pub ReadSoFar : List (List ℕ) → Option Size → Option Wants → List Numbered → Type 0
ReadSoFar lines None wants steps = AreEmpty lines × (wants ≡ None) × (steps ≡ [])
ReadSoFar lines (Some size) wants steps = AreScript lines size wants steps

-- one line more
pub texts_more : (words : List (Bor (List ℕ))) (word : Bor (List ℕ)) →
    texts (words ++ word ∷ []) ≡ texts words ++ word.now ∷ []
texts_more [] word = refl
texts_more (w ∷ words) word = ap (λ (l : List (List ℕ)). w.now ∷ l) (texts_more words word)

-- ---- the lines after the screen's

abbrev number : Numbered → ℕ
number step = step.line

abbrev Asks : List ℕ → Numbered → Type 0
Asks line step = SaysStep (words_of line) step.step

all_blank : (n : ℕ) (lines : List (List ℕ)) (line : List ℕ) (wants : Option Wants) (steps : List Numbered) → line ≡ [] →
    AskForAll n lines wants steps → AskForAll n (lines ++ line ∷ []) wants steps
all_blank n lines line None steps none asks = asks_blank number Asks n lines line steps none asks
all_blank n lines line (Some wants) steps none asks =
    led_more n lines line asks
    (asks_blank number Asks (n + length asks.blank + 1) asks.later line steps none asks.later_are)

all_more : (n : ℕ) (lines : List (List ℕ)) (line : List ℕ) (wants : Option Wants) (steps : List Numbered)
    (step : Numbered) → AskForAll n lines wants steps → step.line ≡ n + length lines → line ≢ [] →
    SaysStep (words_of line) step.step → AskForAll n (lines ++ line ∷ []) wants (steps ++ step ∷ [])
all_more n lines line None steps step asks at some says =
    asks_more number Asks n (n + length lines) lines line steps step asks refl at some says
all_more n lines line (Some wants) steps step asks at some says =
    led_more n lines line asks
    (asks_more number Asks (n + length asks.blank + 1) (n + length lines) asks.later line steps step asks.later_are
    (omega (arith, led_count n lines asks)) at some says)

all_wants : (n : ℕ) (lines : List (List ℕ)) (line : List ℕ) (wants : Wants) (steps : List Numbered) → steps ≡ [] →
    AskFor n lines steps → Says (words_of line) (Viewer wants) → AskAfter n (lines ++ line ∷ []) wants steps
all_wants n lines line wants [] none asks says = led_first n lines line (asks_none number Asks n lines asks) says tt
all_wants n lines line wants (step ∷ steps) none asks says = absurd (cc)

-- ---- one line more of a script

pub blank_read : (lines : List (List ℕ)) (line : List ℕ) (screen : Option Size) (wants : Option Wants) (steps : List
    Numbered) → line ≡ [] → ReadSoFar lines screen wants steps → ReadSoFar (lines ++ line ∷ []) screen wants steps
blank_read lines line None wants steps none read = (empty_more lines line read.0 none, read.1, read.2)
blank_read lines line (Some size) wants steps none read =
    led_more 1 lines line read (all_blank (1 + length read.blank + 1) read.later line wants steps none read.later_are)

pub size_read : (lines : List (List ℕ)) (line : List ℕ) (size : Size) (wants : Option Wants) (steps : List Numbered) →
    ReadSoFar lines None wants steps → Says (words_of line) (Screen size) →
    AreScript (lines ++ line ∷ []) size wants steps
size_read lines line size wants steps read says =
    led_first 1 lines line read.0 says (rw (read.1, read.2) tt)

pub wants_read : (lines : List (List ℕ)) (line : List ℕ) (size : Size) (wants : Wants) (steps : List Numbered) →
    steps ≡ [] → AreScript lines size None steps → Says (words_of line) (Viewer wants) →
    AreScript (lines ++ line ∷ []) size (Some wants) steps
wants_read lines line size wants steps none read says =
    led_more 1 lines line read
    (all_wants (1 + length read.blank + 1) read.later line wants steps none read.later_are says)

pub step_read : (lines : List (List ℕ)) (line : List ℕ) (size : Size) (wants : Option Wants) (steps : List Numbered)
    (step : Numbered) → AreScript lines size wants steps → step.line ≡ length lines + 1 → line ≢ [] →
    SaysStep (words_of line) step.step → AreScript (lines ++ line ∷ []) size wants (steps ++ step ∷ [])
step_read lines line size wants steps step read at some says =
    led_more 1 lines line read
    (all_more (1 + length read.blank + 1) read.later line wants steps step read.later_are
    (at ∙ (omega (arith, led_count 1 lines read))) some says)

-- ---- a turn of the reading: a line more, and how many there were before it

pub no_chars : (line : List ℕ) (b : Bool) → b ≡ (length line == 0) → b ≡ true → line ≡ []
no_chars [] b is true_is = refl
no_chars (char ∷ line) b is true_is =
    let zero : length (char ∷ line) ≡ 0 = grind (arith, nat_tests) in
    absurd (omega (arith, zero))

pub some_chars : (line : List ℕ) (b : Bool) → b ≡ (length line == 0) → b ≡ false → line ≢ []
some_chars [] b is false_is none = let e : true ≡ false = sym is ∙ false_is in cc
some_chars (char ∷ line) b is false_is none = cc

pub turn_blank : (words : List (Bor (List ℕ))) (word : Bor (List ℕ)) (n : ℕ) (screen : Option Size)
    (wants : Option Wants) (steps : List Numbered) → n ≡ length words → ReadSoFar (texts words) screen wants steps →
    word.now ≡ [] → (n + 1 ≡ length (words ++ word ∷ [])) × ReadSoFar (texts (words ++ word ∷ [])) screen wants steps
turn_blank words word n screen wants steps count read none = (
  omega (arith, count, length_push words word),
  rw (texts_more words word) (blank_read (texts words) word.now screen wants steps none read),
)

pub turn_size : (words : List (Bor (List ℕ))) (word : Bor (List ℕ))
    (n : ℕ) (screen : Option Size) (size : Size) (wants : Option Wants) (steps : List Numbered) → n ≡ length words →
    ReadSoFar (texts words) screen wants steps → is_some screen ≡ false → Says (words_of word.now) (Screen size) →
    (n + 1 ≡ length (words ++ word ∷ [])) × ReadSoFar (texts (words ++ word ∷ [])) (Some size) wants steps
turn_size words word n None size wants steps count read none says = (
  omega (arith, count, length_push words word),
  rw (texts_more words word) (size_read (texts words) word.now size wants steps read says),
)
turn_size words word n (Some other) size wants steps count read none says = absurd (cc)

pub turn_wants : (words : List (Bor (List ℕ))) (word : Bor (List ℕ)) (n : ℕ) (screen : Option Size) (old : Option Wants)
    (wants : Wants) (steps : List Numbered) → n ≡ length words → ReadSoFar (texts words) screen old steps →
    is_some screen ≡ true → is_some old ≡ false → steps ≡ [] → Says (words_of word.now) (Viewer wants) →
    (n + 1 ≡ length (words ++ word ∷ [])) × ReadSoFar (texts (words ++ word ∷ [])) screen (Some wants) steps
turn_wants words word n None old wants steps count read begun none bare says = absurd (cc)
turn_wants words word n (Some size) None wants steps count read begun none bare says = (
  omega (arith, count, length_push words word),
  rw (texts_more words word) (wants_read (texts words) word.now size wants steps bare read says),
)
turn_wants words word n (Some size) (Some old) wants steps count read begun none bare says = absurd (cc)

pub turn_step : (words : List (Bor (List ℕ))) (word : Bor (List ℕ)) (n : ℕ) (screen : Option Size) (wants : Option
    Wants) (steps : List Numbered) (step : Numbered) → n ≡ length words → ReadSoFar (texts words) screen wants steps →
    is_some screen ≡ true → word.now ≢ [] → step.line ≡ n + 1 → SaysStep (words_of word.now) step.step
    → (n + 1 ≡ length (words ++ word ∷ [])) × ReadSoFar (texts (words ++ word ∷ [])) screen wants (steps ++ step ∷ [])
turn_step words word n None wants steps step count read begun some at says = absurd (cc)
turn_step words word n (Some size) wants steps step count read begun some at says = (
  omega (arith, count, length_push words word),
  rw (texts_more words word) (step_read (texts words) word.now size wants steps step read
      (at ∙ (omega (arith, count, texts_length words))) some says),
)

-- the same without the count
pub step_so_far : (words : List (Bor (List ℕ))) (word : Bor (List ℕ)) (n : ℕ) (screen : Option Size) (wants : Option
    Wants) (steps : List Numbered) (step : Numbered) → n ≡ length words → ReadSoFar (texts words) screen wants steps →
    is_some screen ≡ true → word.now ≢ [] → step.line ≡ n + 1 → SaysStep (words_of word.now) step.step
    → ReadSoFar (texts (words ++ word ∷ [])) screen wants (steps ++ step ∷ [])
step_so_far words word n screen wants steps step count read begun some at says =
    (turn_step words word n screen wants steps step count read begun some at says).1

-- ---- what is answered to a line that is bad

pub bad_size : (lines : List (List ℕ)) (line : List ℕ) (screen : Option Size) (wants : Option Wants)
    (steps : List Numbered) → line ≢ [] → ReadSoFar lines screen wants steps → is_some screen ≡ false →
    ¬ (GivesSize line) → IsBadAfter lines line
bad_size lines line None wants steps some read none not = (some, inl (read.0, not))
bad_size lines line (Some size) wants steps some read none not = absurd (cc)

pub bad_step : (lines : List (List ℕ)) (line : List ℕ) (screen : Option Size) (wants : Option Wants)
    (steps : List Numbered) → line ≢ [] → ReadSoFar lines screen wants steps → is_some screen ≡ true →
    IsNoMore wants steps line → IsBadAfter lines line
bad_step lines line None wants steps some read begun not = absurd (cc)
bad_step lines line (Some size) wants steps some read begun not = (some, inr (size, wants, steps, read, not))
