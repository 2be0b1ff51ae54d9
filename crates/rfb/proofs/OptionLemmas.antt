-- What was given to options, from what the getters return.
use Rattle.std.proofs.Common.{◌≡◌, ◌<◌, ◌≤◌, ◌∙◌, arith, ap, ap₂, sym, refl, subst, codes, []}
use Rattle.std.proofs.Common.{ℕ, Bool, true, false, not, ◌&&◌}
use Rattle.std.proofs.Common.{List, Option, Some, None, Result, Ok, Err, MatchResult}
use Rattle.std.proofs.Common.{option_map, IfSome, is_some, Bor}
use Rattle.std.proofs.Common.{◌+◌, ◌++◌, ◌∷◌, append_assoc, inl, length, map, slice_index_or, take}
use Rattle.std.proofs.lemmas.List.{flat_map_more, map_more}
use Rattle.std.proofs.lemmas.Option.{none-some, same_Some}
use Rattle.std.specs.Str.Parse.{ExplainsUnsignedError, HasUnsignedDigitsIfOk, IsNumeral, ParsesUnsigned, digits_value}
use Rattle.std.specs.Str.Parse.{without_leading_plus}
use Rattle.clap.specs.Matches.{ReadsOne, first_value, one_text}
use Rattle.clap.specs.Walk.{Row, Text, first_of, one_of, rows_of}
use Rattle.clap.specs.declared.parser.matches.Found.{Found}
use Rattle.clap.proofs.WalkLemmas.{first_value-rows, one_text-rows}
use Rattle.rfb_pixel.specs.Format.{PixelFormat}
use Rattle.rfb.specs.declared.options.BadValue.{BadValue}
use Rattle.clap.specs.Faults.{fault_of}
use Rattle.rfb.specs.declared.options.Order.{Order}
use Rattle.rfb.specs.declared.options.WrongWords.{WrongWords}
use Rattle.rfb.specs.declared.options.WrongWords.TheVariants.{Words, Value}
use Rattle.arrayvec.specs.ArrayVec.{ArrayVec}
use Rattle.rfb_wire.specs.declared.encoding.Encoding.{Encoding}
use Rattle.rfb.specs.command.Values.{GivesOr, IsAbsent, IsFlagged, IsThere, as_lines}
use Rattle.rfb.specs.command.ServeWords.{CountsConnections, GivesConnections, HasBadConnections}
use Rattle.rfb.specs.command.ViewWords.{BadAlways, HasBadFollow, HasBadView}
use Rattle.rfb.specs.command.Program.{HasBadValue, asked, program}
use Rattle.rfb.specs.command.Values.{GivesFormat, HasBadFormat, NamesFormat}
use Rattle.rfb.specs.command.Values.{GivesEncodings, HasBadEncodings, NamesEncodings}
use Rattle.rfb.specs.Options.{AreOrdered, AreWrong, IsOrder, IsWrongValue}
use Rattle.rfb_session.specs.language.Words.{AreEncodings, IsFormatWord, parts_of}

-- a plain command has no global argument
pub no_globals : (a b c d : Bool) → (a && (not b && (not c && d))) ≡ true → c ≡ false
no_globals true false false d e = refl
no_globals true false true d e = let f : false ≡ true = e in absurd (cc)
no_globals true true c d e = let f : false ≡ true = e in absurd (cc)
no_globals false b c d e = let f : false ≡ true = e in absurd (cc)

pub map_map : {A B C : Type 0} (f : B → C) (h : A → B) (o : Option A) →
    option_map f (option_map h o) ≡ option_map (λ x. f (h x)) o
map_map f h None = refl
map_map f h (Some x) = refl

-- a pair is there, whose halves are
pub both_there : (o : Option (Text × List Row)) (name : Text) (rows : List Row) →
    Some name ≡ option_map (λ p. p.0) o → Some rows ≡ option_map (λ p. p.1) o → o ≡ Some (name, rows)
both_there None name rows e f = let a : Some name ≡ None = e in absurd (cc)
both_there (Some (n, r)) name rows e f =
    ap₂ (λ (x : Text) (y : List Row). Some (x, y)) (same_Some n name (sym e)) (same_Some r rows (sym f))

pub not_there : (o : Option (Text × List Row)) → None ≡ option_map (λ p. p.1) o → o ≡ None
not_there None e = refl
not_there (Some p) e = absurd (none-some _ e)

-- the text of a word that may be there
abbrev pub text_of : Option (Bor Text) → Option Text
text_of = option_map (λ s. s.now)

-- the first word that was given, as a getter has it
pub first_is : (found : Found) (name : Text) (got word : Option (Bor Text)) →
    text_of got ≡ first_value found name → got ≡ word → first_of name (rows_of found) ≡ text_of word
first_is found name got word has is = sym (first_value-rows found name) ∙ (sym has ∙ ap text_of is)

-- a word for a format is the one that is given
pub format_given : (rows : List Row) (word : Text) (r : Result PixelFormat BadValue) →
    first_of (codes "format") rows ≡ Some word →
    MatchResult r (IsFormatWord word) (λ _. (f : PixelFormat) → ¬ (IsFormatWord word f)) →
    MatchResult r (GivesFormat rows) (λ _. HasBadFormat rows)
format_given rows word (Ok f) e named = subst (λ (o : Option Text). NamesFormat o f) (sym e) named
format_given rows word (Err bad) e none = (word, e, none)

-- the same of a list of encodings
pub encodings_given : (otherwise : List Encoding) (rows : List Row) (list : Text)
    (r : Result (ArrayVec Encoding) BadValue) →
    first_of (codes "encodings") rows ≡ Some list →
    MatchResult r (λ es. AreEncodings (parts_of list) es.items)
    (λ _. (es : List Encoding) → ¬ (AreEncodings (parts_of list) es)) →
    MatchResult r (λ es. GivesEncodings otherwise rows es.items) (λ _. HasBadEncodings rows)
encodings_given otherwise rows list (Ok es) e named =
    subst (λ (o : Option Text). NamesEncodings otherwise o es.items) (sym e) named
encodings_given otherwise rows list (Err bad) e none = (list, e, none)

-- ---- numbers, by what `get_one` reads

-- what it has read of a text
abbrev pub ReadsNumber : Text → Option ℕ → Type 0
ReadsNumber text r =
    ReadsOne (λ t x. ParsesUnsigned 32 10 t x × ExplainsUnsignedError 10 t x × HasUnsignedDigitsIfOk t x) text r

-- a number that was read of the text of a word is the one that its digits say
pub number_read : (found : Found) (name : Text) (r : Option ℕ) (n : ℕ) → r ≡ Some n →
    ((t : Text) → one_text found name ≡ Some t → ReadsNumber t r) → (text : Text) →
    one_of name (rows_of found) ≡ Some text → n ≡ digits_value 10 (without_leading_plus text)
number_read found name None n is reads text given = absurd (none-some n is)
number_read found name (Some m) n is reads text given =
    sym (same_Some m n is) ∙ (reads text (one_text-rows found name ∙ given)).0.1

-- none is read where the word has no text
pub number_absent : (found : Found) (name : Text) (r : Option ℕ) (n : ℕ) → r ≡ Some n →
    (one_text found name ≡ None → r ≡ None) → one_of name (rows_of found) ≡ None → ⊥
number_absent found name r n is none absent = none-some n (sym (none (one_text-rows found name ∙ absent)) ∙ is)

-- where none was, its digits say none
pub none_read : (found : Found) (name : Text) (r : Option ℕ) → r ≡ None →
    ((t : Text) → one_text found name ≡ Some t → ReadsNumber t r) → (text : Text) →
    one_of name (rows_of found) ≡ Some text → IsNumeral 10 (without_leading_plus text) →
    ¬ (digits_value 10 (without_leading_plus text) ≤ 4294967295)
none_read found name None is reads text given numeral small =
    let e = reads text (one_text-rows found name ∙ given) in
    e.1.0 (numeral, omega (arith, small))
none_read found name (Some m) is reads text given numeral small = absurd (none-some m (sym is))

-- ---- words that are lines

-- a word more is a line more
pub line_more : (before mid after : List ℕ) (words : List (Bor Text)) (i : ℕ) (d : Bor Text) →
    i < length words →
    before ≡ as_lines (map (λ word. word.now) (take i words)) →
    mid ≡ before ++ (slice_index_or words i d).now →
    after ≡ mid ++ 10 ∷ [] → after ≡ as_lines (map (λ word. word.now) (take (i + 1) words))
line_more before mid after words i d inside so_far text end =
    let more : map (λ (w : Bor Text). w.now) (take (i + 1) words)
    ≡ map (λ (w : Bor Text). w.now) (take i words) ++ (slice_index_or words i d).now ∷ [] =
    map_more (λ (w : Bor Text). w.now) words i d inside in
    end ∙ ap (λ l. l ++ 10 ∷ []) (text ∙ ap (λ l. l ++ (slice_index_or words i d).now) so_far)
    ∙ append_assoc (as_lines (map (λ word. word.now) (take i words))) (slice_index_or words i d).now (10 ∷ [])
    ∙ flat_map_more (λ (word : Text). word ++ 10 ∷ []) [] (map (λ word. word.now) (take i words))
    (slice_index_or words i d).now
    ∙ ap as_lines (sym more)

-- words are there, or are not, as a getter has it
pub are_words_there : (o : Option (Bor (List (Bor Text)))) (words : Option (List Text)) →
    option_map (λ s. map (λ v. v.now) s.now) o ≡ words → is_some o ≡ true →
    (l : List Text) × (words ≡ Some l)
are_words_there None words is there = let e : false ≡ true = there in absurd (cc)
are_words_there (Some s) words is there = (map (λ v. v.now) s.now, sym is)

pub are_words_absent : (o : Option (Bor (List (Bor Text)))) (words : Option (List Text)) →
    option_map (λ s. map (λ v. v.now) s.now) o ≡ words → is_some o ≡ false → words ≡ None
are_words_absent None words is none = sym is
are_words_absent (Some s) words is none = let e : true ≡ false = none in absurd (cc)

-- ---- what words ask for

pub asked_order : (words : List Text) (o : Option (Text × List Row)) (r : Result Order WrongWords) →
    fault_of program words ≡ [] → o ≡ asked words → MatchResult r (IsOrder o) (IsWrongValue o) →
    MatchResult r (AreOrdered words) (AreWrong words)
asked_order words o (Ok order) taken same is =
    (taken, subst (λ (a : Option (Text × List Row)). IsOrder a order) same is)
asked_order words o (Err (Words error)) taken same is = inl is
asked_order words o (Err (Value value)) taken same is =
    (taken, subst HasBadValue same is)

-- ---- a word that may be left out

pub word_absent : (o : Option (Bor Text)) (word : Option Text) →
    option_map (λ s. s.now) o ≡ word → o ≡ None → word ≡ None
word_absent None word is none = sym is
word_absent (Some w) word is none = absurd (none-some w (sym none))

pub word_given : (o : Option (Bor Text)) (word : Option Text) → option_map (λ s. s.now) o ≡ word →
    IfSome o (λ w. word ≡ Some w.now)
word_given None word is = tt
word_given (Some w) word is = sym is

pub is_word_there : (o : Option (Bor Text)) (word : Option Text) → IfSome o (λ w. word ≡ Some w.now) →
    is_some o ≡ true → (t : Text) × (word ≡ Some t)
is_word_there None word given there = let e : false ≡ true = there in absurd (cc)
is_word_there (Some w) word given there = (w.now, given)

pub is_word_absent : (o : Option (Bor Text)) (word : Option Text) → (o ≡ None → word ≡ None) →
    is_some o ≡ false → word ≡ None
is_word_absent None word absent not = absent refl
is_word_absent (Some w) word absent not = let e : true ≡ false = not in absurd (cc)

-- ---- how many connections

pub counted : (flag : Bool) (rows : List Row) (n : ℕ) → IsFlagged (codes "forever") rows flag → flag ≡ false →
    GivesOr (codes "connections") 65535 1 rows n → GivesConnections rows n
counted flag rows n is off gives = (flag, is, subst (λ (b : Bool). CountsConnections b rows n) (sym off) gives)

pub uncounted : (flag : Bool) (rows : List Row) → IsFlagged (codes "forever") rows flag → flag ≡ true →
    IsAbsent (codes "connections") rows → GivesConnections rows 18446744073709551615
uncounted flag rows is on absent =
    (flag, is, subst (λ (b : Bool). CountsConnections b rows 18446744073709551615) (sym on) (absent, refl))

pub counted_twice : (flag : Bool) (rows : List Row) → IsFlagged (codes "forever") rows flag → flag ≡ true →
    IsThere (codes "connections") rows → HasBadConnections rows
counted_twice flag rows is on there = (subst (λ (b : Bool). IsFlagged (codes "forever") rows b) on is, there)

-- ---- a picture after each update

pub bad_always : (rows : List Row) (flag : Bool) → IsFlagged (codes "follow") rows flag → flag ≡ true →
    HasBadFollow rows → HasBadView rows
bad_always rows flag is on bad = BadAlways (subst (λ (b : Bool). IsFlagged (codes "follow") rows b) on is) bad
