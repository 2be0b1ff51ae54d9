-- Lines of a hub's script, read one after another.
use Rattle.std.proofs.Common.{◌==◌, Bool, true, false, is_some, ◌≡◌, ◌≢◌, ◌<◌, ◌+◌, ◌∙◌, ℕ, Option, Some, None}
use Rattle.std.proofs.Common.{MatchOption, codes, subst, List, [], ◌∷◌, ◌++◌, Bor, ap, sym, refl, inl, inr, ◌⊎◌, length}
use Rattle.std.proofs.Common.{take, drop, get_or, arith}
use Rattle.std.proofs.lemmas.List.Splits.{slice_split_none}
use Rattle.std.proofs.lemmas.List.Elements.{All-nil, All-head, All-tail}
use Rattle.rfb.specs.declared.script.hub.hub_step.HubNumbered.{HubNumbered}
use Rattle.rfb_session.specs.declared.language.screen.Screen.{Screen as Size}
use Rattle.rfb.specs.HubScript.{AreHubScript, AreOpenHub, AsksInHub, BeginHub, GivesHub, IsBadInHub, IsWithoutShow}
use Rattle.rfb.specs.HubScript.{NamesShown, SaysHub, SaysHubStep, SaysShow, first_line, line_after}
use Rattle.rfb.specs.Lines.{AreEmpty}
use Rattle.rfb_session.specs.language.Words.{words_of, texts}
use Rattle.rfb.proofs.LinesLemmas.{texts_more}
use Rattle.rfb.proofs.OrderLemmas.{IsEmpty, asks_blank, asks_more, empty_more, later_more, led_count, led_first}
use Rattle.rfb.proofs.OrderLemmas.{led_more, no_lines, parted}
use Rattle.rfb_session.proofs.WordLaws.{heads, texts_length}

-- what lines are that were read so far: empty, a hub's script without its last line, or a whole one
abbrev pub ReadHub : List (List ℕ) → Option Size → List HubNumbered → Option ℕ → Type 0
ReadHub lines None steps shown = AreEmpty lines × (steps ≡ []) × (shown ≡ None)
ReadHub lines (Some size) steps None = AreOpenHub lines size steps
ReadHub lines (Some size) steps (Some slot) = AreHubScript lines size steps slot

-- ---- one line more

abbrev number : HubNumbered → ℕ
number step = step.line

abbrev Asks : List ℕ → HubNumbered → Type 0
Asks line step = SaysHubStep (words_of line) step.step

open_blank : (lines : List (List ℕ)) (line : List ℕ) (size : Size) (steps : List HubNumbered) → line ≡ [] →
    AreOpenHub lines size steps → AreOpenHub (lines ++ line ∷ []) size steps
open_blank lines line size steps none read =
    led_more 1 lines line read
    (asks_blank number Asks (1 + length read.blank + 1) read.later line steps none read.later_are)

blank_read : (lines : List (List ℕ)) (line : List ℕ) (screen : Option Size) (steps : List HubNumbered)
    (shown : Option ℕ) → line ≡ [] → ReadHub lines screen steps shown → ReadHub (lines ++ line ∷ []) screen steps shown
blank_read lines line None steps shown none read = (empty_more lines line read.0 none, read.1, read.2)
blank_read lines line (Some size) steps None none read = open_blank lines line size steps none read
blank_read lines line (Some size) steps (Some slot) none read = record {
  before = read.before;
  last = read.last;
  after = read.after ++ line ∷ [];
  whole = later_more lines read.before read.after read.last line read.whole;
  before_are = read.before_are;
  shown_is = read.shown_is;
  after_is = empty_more read.after line read.after_is none;
}

size_read : (lines : List (List ℕ)) (line : List ℕ) (size : Size) (steps : List HubNumbered) → AreEmpty lines →
    steps ≡ [] → SaysHub (words_of line) size → AreOpenHub (lines ++ line ∷ []) size steps
size_read lines line size steps empty none says = led_first 1 lines line empty says (rw none tt)

show_read : (lines : List (List ℕ)) (line : List ℕ) (size : Size) (steps : List HubNumbered) (slot : ℕ) →
    AreOpenHub lines size steps → SaysShow (words_of line) slot → AreHubScript (lines ++ line ∷ []) size steps slot
show_read lines line size steps slot read says = record {
  before = lines;
  last = line;
  after = [];
  whole = refl;
  before_are = read;
  shown_is = says;
  after_is = no_lines;
}

step_read : (lines : List (List ℕ)) (line : List ℕ) (size : Size) (steps : List HubNumbered) (step : HubNumbered) →
    AreOpenHub lines size steps → step.line ≡ length lines + 1 → line ≢ [] → SaysHubStep (words_of line) step.step →
    AreOpenHub (lines ++ line ∷ []) size (steps ++ step ∷ [])
step_read lines line size steps step read at some says =
    led_more 1 lines line read
    (asks_more number Asks (1 + length read.blank + 1) (length lines + 1) read.later line steps step read.later_are
    (omega (arith, led_count 1 lines read)) at some says)

-- ---- a turn of the reading

pub hub_blank : (words : List (Bor (List ℕ))) (word : Bor (List ℕ)) (screen : Option Size)
    (steps : List HubNumbered) (shown : Option ℕ) → ReadHub (texts words) screen steps shown → word.now ≡ [] →
    ReadHub (texts (words ++ word ∷ [])) screen steps shown
hub_blank words word screen steps shown read none =
    rw (texts_more words word) (blank_read (texts words) word.now screen steps shown none read)

pub hub_size : (words : List (Bor (List ℕ))) (word : Bor (List ℕ)) (screen : Option Size) (size : Size)
    (steps : List HubNumbered) (shown : Option ℕ) → ReadHub (texts words) screen steps shown → is_some screen ≡ false →
    SaysHub (words_of word.now) size → ReadHub (texts (words ++ word ∷ [])) (Some size) steps shown
hub_size words word None size steps None read none says =
    rw (texts_more words word) (size_read (texts words) word.now size steps read.0 read.1 says)
hub_size words word None size steps (Some slot) read none says = let e : Some slot ≡ None = read.2 in absurd (cc)
hub_size words word (Some other) size steps shown read none says = absurd (cc)

pub hub_show : (words : List (Bor (List ℕ))) (word : Bor (List ℕ)) (screen : Option Size) (steps : List HubNumbered)
    (shown : Option ℕ) (slot : ℕ) → ReadHub (texts words) screen steps shown → is_some screen ≡ true → is_some shown
    ≡ false → SaysShow (words_of word.now) slot → ReadHub (texts (words ++ word ∷ [])) screen steps (Some slot)
hub_show words word None steps shown slot read begun none says = absurd (cc)
hub_show words word (Some size) steps None slot read begun none says =
    rw (texts_more words word) (show_read (texts words) word.now size steps slot read says)
hub_show words word (Some size) steps (Some other) slot read begun none says = absurd (cc)

pub hub_step : (words : List (Bor (List ℕ))) (word : Bor (List ℕ)) (n : ℕ) (screen : Option Size)
    (steps : List HubNumbered) (step : HubNumbered) (shown : Option ℕ) → n ≡ length words →
    ReadHub (texts words) screen steps shown → is_some screen ≡ true → is_some shown ≡ false → word.now ≢ [] →
    step.line ≡ n + 1 → SaysHubStep (words_of word.now) step.step
    → ReadHub (texts (words ++ word ∷ [])) screen (steps ++ step ∷ []) shown
hub_step words word n None steps step shown count read begun none some at says = absurd (cc)
hub_step words word n (Some size) steps step None count read begun none some at says =
    rw (texts_more words word) (step_read (texts words) word.now size steps step read
    (at ∙ (omega (arith, count, texts_length words))) some says)
hub_step words word n (Some size) steps step (Some slot) count read begun none some at says = absurd (cc)

-- ---- what is answered to a line that is bad

pub hub_bad_size : (lines : List (List ℕ)) (line : List ℕ) (screen : Option Size) (steps : List HubNumbered)
    (shown : Option ℕ) → line ≢ [] → ReadHub lines screen steps shown → is_some screen ≡ false →
    ¬ (GivesHub line) → IsBadInHub lines line
hub_bad_size lines line None steps shown some read none not = (some, inl (inl (read.0, not)))
hub_bad_size lines line (Some size) steps shown some read none not = absurd (cc)

pub hub_bad_step : (lines : List (List ℕ)) (line : List ℕ) (screen : Option Size) (steps : List HubNumbered)
    (shown : Option ℕ) → line ≢ [] → ReadHub lines screen steps shown → is_some screen ≡ true → is_some shown ≡ false →
    ¬ (AsksInHub line) → ¬ (NamesShown line) → IsBadInHub lines line
hub_bad_step lines line None steps shown some read begun none asks names = absurd (cc)
hub_bad_step lines line (Some size) steps None some read begun none asks names =
    (some, inl (inr ((size, steps, read), asks, names)))
hub_bad_step lines line (Some size) steps (Some slot) some read begun none asks names = absurd (cc)

pub hub_bad_after : (lines : List (List ℕ)) (line : List ℕ) (screen : Option Size) (steps : List HubNumbered)
    (shown : Option ℕ) → line ≢ [] → ReadHub lines screen steps shown → is_some shown ≡ true → IsBadInHub lines line
hub_bad_after lines line None steps (Some slot) some read ended = let e : Some slot ≡ None = read.2 in absurd (cc)
hub_bad_after lines line None steps None some read ended = absurd (cc)
hub_bad_after lines line (Some size) steps None some read ended = absurd (cc)
hub_bad_after lines line (Some size) steps (Some slot) some read ended = (some, inr (size, steps, slot, read))

-- ---- the line after the last

line_after_blank : (lines : List (List ℕ)) (line : List ℕ) → line ≡ [] →
    line_after (lines ++ line ∷ []) ≡ length lines + 1
line_after_blank [] line none = rw none refl
line_after_blank (l ∷ []) line none = rw none refl
line_after_blank (l ∷ (m ∷ lines)) line none = let e = line_after_blank (m ∷ lines) line none in omega (arith, e)

line_after_chars : (lines : List (List ℕ)) (line : List ℕ) → line ≢ [] →
    line_after (lines ++ line ∷ []) ≡ length lines + 2
line_after_chars [] [] some = absurd (some refl)
line_after_chars [] (char ∷ line) some = refl
line_after_chars (l ∷ []) [] some = absurd (some refl)
line_after_chars (l ∷ []) (char ∷ line) some = refl
line_after_chars (l ∷ (m ∷ lines)) line some = let e = line_after_chars (m ∷ lines) line some in omega (arith, e)

pub line_after_more : (words : List (Bor (List ℕ))) (word : Bor (List ℕ)) (n : ℕ) → n ≡ length words → word.now ≡ [] →
    n + 1 ≡ line_after (texts (words ++ word ∷ []))
line_after_more words word n count none =
    let e = line_after_blank (texts words) word.now none in
    rw (texts_more words word) (omega (arith, e, count, texts_length words))

pub line_after_more_chars : (words : List (Bor (List ℕ))) (word : Bor (List ℕ)) (n : ℕ) → n ≡ length words →
    word.now ≢ [] → (n + 1) + 1 ≡ line_after (texts (words ++ word ∷ []))
line_after_more_chars words word n count some =
    let e = line_after_chars (texts words) word.now some in
    rw (texts_more words word) (omega (arith, e, count, texts_length words))

pub without_show : (lines : List (List ℕ)) (screen : Option Size) (steps : List HubNumbered)
    (shown : Option ℕ) (n : ℕ) → ReadHub lines screen steps shown → (screen ≡ None) ⊎ (shown ≡ None) →
    n ≡ line_after lines → IsWithoutShow lines n
without_show lines None steps shown n read lacks is = (inl read.0, is)
without_show lines (Some size) steps None n read lacks is = (inr (size, steps, read), is)
without_show lines (Some size) steps (Some slot) n read (inl e) is = absurd (cc)
without_show lines (Some size) steps (Some slot) n read (inr e) is = absurd (cc)

-- ---- the kind of a script

pub first_line_at : (before : List (List ℕ)) (line : List ℕ) (after : List (List ℕ)) → AreEmpty before → line ≢ [] →
    first_line (before ++ line ∷ after) ≡ line
first_line_at [] [] after empty some = absurd (some refl)
first_line_at [] (char ∷ line) after empty some = refl
first_line_at ([] ∷ before) line after empty some =
    first_line_at before line after (All-tail IsEmpty [] before empty) some
first_line_at ((char ∷ l) ∷ before) line after empty some =
    let e : char ∷ l ≡ [] = All-head IsEmpty (char ∷ l) before empty in
    absurd (cc)

pub first_line_none : (lines : List (List ℕ)) → AreEmpty lines → first_line lines ≡ []
first_line_none [] empty = refl
first_line_none ([] ∷ lines) empty = first_line_none lines (All-tail IsEmpty [] lines empty)
first_line_none ((char ∷ l) ∷ lines) empty =
    let e : char ∷ l ≡ [] = All-head IsEmpty (char ∷ l) lines empty in
    absurd (cc)

-- an empty line gives nothing
pub blank_gives : ¬ (GivesHub [])
blank_gives gives =
    let words : words_of [] ≡ [] ∷ [] =
    slice_split_none (λ byte. byte == 32) [] (All-nil (λ byte. (byte == 32) ≡ false)) in
    let same : [] ∷ [] ≡ codes "hub" ∷ gives.1.0 = sym words ∙ gives.1.1 in
    let e : [] ≡ codes "hub" = heads [] (codes "hub") [] gives.1.0 same in
    absurd (cc)

pub none_begins : (lines : List (List ℕ)) → AreEmpty lines → ¬ (BeginHub lines)
none_begins lines empty begins = blank_gives (subst (λ (l : List ℕ). GivesHub l) (first_line_none lines empty) begins)

-- the line under way is the first one
pub is_first_line : (all : List (List ℕ)) (words : List (Bor (List ℕ))) (word : Bor (List ℕ)) → texts words
    ≡ take (length words) all → (length words < length all) × (word.now ≡ get_or all (length words) word.now) →
    AreEmpty (texts words) → word.now ≢ [] → first_line all ≡ word.now
is_first_line all words word front turn empty some =
    let size = texts_length words in
    let whole = parted all (texts words) word.now word.now (rw size front) (rw size turn.0) (rw size turn.1) in
    ap (λ (l : List (List ℕ)). first_line l) whole
    ∙ first_line_at (texts words) word.now (drop (length (texts words) + 1) all) empty some

pub begins_by : (all : List (List ℕ)) (line : List ℕ) (r : Option Size) (b : Bool) → first_line all ≡ line →
    b ≡ is_some r → MatchOption r (¬ (GivesHub line)) (SaysHub (words_of line)) →
    (b ≡ true → BeginHub all) × (BeginHub all → b ≡ true)
begins_by all line None b first is none = (
  λ yes. let e : true ≡ false = sym yes ∙ is in absurd (cc),
  λ begins. absurd (none (subst (λ (l : List ℕ). GivesHub l) first begins)),
)
begins_by all line (Some size) b first is said = (
  λ yes. subst (λ (l : List ℕ). GivesHub l) (sym first) (size, said),
  λ begins. is,
)
