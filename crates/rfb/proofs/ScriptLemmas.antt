-- Words of a line, one by one: which lines a keyword can begin.
use Rattle.std.proofs.Common.{Option, Some, None, MatchOption, ◌≡◌, ◌≢◌, ◌<◌, ◌≤◌, ◌+◌, ◌∙◌, ap, sym, refl, subst, Bool}
use Rattle.std.proofs.Common.{true, false, length, ℕ, List, [], ◌∷◌, Bor, arith, codes}
use Rattle.std.specs.Str.{bytes_eq}
use Rattle.rfb_picture.specs.declared.rect.Rect.{Rect}
use Rattle.rfb_pixel.specs.Format.{PixelFormat}
use Rattle.rfb_session.specs.declared.event.Event.{Event}
use Rattle.rfb_session.specs.declared.event.Event.TheVariants.{Fill, Put, Copy, Hint, Request, SetFormat, SetEncodings}
use Rattle.rfb_session.specs.declared.event.Event.TheVariants.{Key, Pointer, CutText, Compose, ToServer, ToViewer}
use Rattle.rfb_session.specs.declared.hub.event.SlotEvent.{SlotEvent}
use Rattle.rfb_session.specs.declared.hub.event.SlotEvent.TheVariants as Slot
use Rattle.rfb_session.specs.HubSeats.{event_of}
use Rattle.rfb_session.specs.declared.language.screen.Screen.{Screen as Size}
use Rattle.rfb.specs.declared.script.line.Wants.{Wants}
use Rattle.rfb.specs.declared.script.line.Step.TheVariants.{Event as OneEvent, Settle}
use Rattle.rfb.specs.declared.script.line.Line.{Line}
use Rattle.rfb.specs.declared.script.line.Line.TheVariants.{Screen, Viewer, Step}
use Rattle.rfb_session.specs.language.Words.{AreSize, Begins, texts}
use Rattle.rfb.specs.Words.{AreRequest, AreWants, IsCountAlone, IsFormatAlone}
use Rattle.rfb.specs.Script.{Says, SaysEvent, SaysNothing}
use Rattle.rfb_session.specs.declared.language.drawing.DrawingLine.TheVariants as Drawing
use Rattle.rfb_session.proofs.DrawingLineLemmas.{DrawNothing}
use Rattle.rfb_session.proofs.WordLaws.{same_word, other_word, no_texts, heads, tails, nothing, words_are}

-- two keywords that differ
apart : (a b : List ℕ) (x y : List (List ℕ)) → bytes_eq a b ≡ false → a ∷ x ≡ b ∷ y → ⊥
apart a b x y other e = other_word a b other (heads a b x y e)

-- what is said of a keyword that is another one
pub unlike : {P : Type 0} {a b : List ℕ} → bytes_eq a b ≡ false → a ≡ b → P
unlike {a = a} {b = b} other e = absurd (other_word a b other e)

-- a keyword of no drawing and no hint
pub no_drawing : (key : List ℕ) (rest : List (List ℕ)) → bytes_eq key (codes "fill") ≡ false →
    bytes_eq key (codes "copy") ≡ false → bytes_eq key (codes "hint") ≡ false → DrawNothing (key ∷ rest)
no_drawing key rest fill copy hint (Drawing.Fill rect colour) said = apart key (codes "fill") rest said.0 fill said.1
no_drawing key rest fill copy hint (Drawing.Copy rect sx sy) said = apart key (codes "copy") rest said.0 copy said.1
no_drawing key rest fill copy hint (Drawing.Hint rect sx sy) said = apart key (codes "hint") rest said.0 hint said.1

-- ---- the events of a keyword

-- these words say no event of a slot
abbrev pub SaysNoSlotEvent : List (List ℕ) → Type 0
SaysNoSlotEvent words = (event : SlotEvent) → ¬ (SaysEvent words (event_of event))

-- a keyword has no event of a slot where the words after it are for none of those that begin with it
pub no_slot_event : (key : List ℕ) (rest : List (List ℕ)) →
    (key ≡ codes "request" → (incremental : Bool) (rect : Rect) → ¬ (AreRequest rest incremental rect)) →
    (key ≡ codes "format" → (format : PixelFormat) → ¬ (IsFormatAlone rest format)) →
    (key ≡ codes "toserver" → (n : ℕ) → ¬ (IsCountAlone rest n)) →
    (key ≡ codes "toviewer" → (n : ℕ) → ¬ (IsCountAlone rest n)) →
    (key ≡ codes "compose" → rest ≢ []) → SaysNoSlotEvent (key ∷ rest)
no_slot_event key rest nr nm ns nv nc (Slot.Request incremental rect) said =
    nr (heads key _ rest said.0 said.1) incremental rect
    (subst (λ (r : List (List ℕ)). AreRequest r incremental rect) (tails _ _ rest said.0 said.1) said.2)
no_slot_event key rest nr nm ns nv nc (Slot.SetFormat format) said =
    nm (heads key _ rest said.0 said.1) format
    (subst (λ (r : List (List ℕ)). IsFormatAlone r format) (tails _ _ rest said.0 said.1) said.2)
no_slot_event key rest nr nm ns nv nc (Slot.ToServer n) said =
    ns (heads key _ rest said.0 said.1) n
    (subst (λ (r : List (List ℕ)). IsCountAlone r n) (tails _ _ rest said.0 said.1) said.2)
no_slot_event key rest nr nm ns nv nc (Slot.ToViewer n) said =
    nv (heads key _ rest said.0 said.1) n
    (subst (λ (r : List (List ℕ)). IsCountAlone r n) (tails _ _ rest said.0 said.1) said.2)
no_slot_event key rest nr nm ns nv nc Slot.Compose said =
    nc (heads key _ rest [] said) (sym (tails key _ rest [] said))
no_slot_event key rest nr nm ns nv nc (Slot.SetEncodings encodings) said = absurd said
no_slot_event key rest nr nm ns nv nc (Slot.Key down code) said = absurd said
no_slot_event key rest nr nm ns nv nc (Slot.Pointer buttons x y) said = absurd said
no_slot_event key rest nr nm ns nv nc (Slot.CutText text) said = absurd said

pub only_request : (rest : List (List ℕ)) →
    ((incremental : Bool) (rect : Rect) → ¬ (AreRequest rest incremental rect)) →
    SaysNoSlotEvent (codes "request" ∷ rest)
only_request rest none =
    no_slot_event (codes "request") rest (λ e. none) (unlike refl) (unlike refl) (unlike refl) (unlike refl)

pub only_format : (rest : List (List ℕ)) → ((format : PixelFormat) → ¬ (IsFormatAlone rest format)) →
    SaysNoSlotEvent (codes "format" ∷ rest)
only_format rest none =
    no_slot_event (codes "format") rest (unlike refl) (λ e. none) (unlike refl) (unlike refl) (unlike refl)

pub only_toserver : (rest : List (List ℕ)) → ((n : ℕ) → ¬ (IsCountAlone rest n)) →
    SaysNoSlotEvent (codes "toserver" ∷ rest)
only_toserver rest none =
    no_slot_event (codes "toserver") rest (unlike refl) (unlike refl) (λ e. none) (unlike refl) (unlike refl)

pub only_toviewer : (rest : List (List ℕ)) → ((n : ℕ) → ¬ (IsCountAlone rest n)) →
    SaysNoSlotEvent (codes "toviewer" ∷ rest)
only_toviewer rest none =
    no_slot_event (codes "toviewer") rest (unlike refl) (unlike refl) (unlike refl) (λ e. none) (unlike refl)

-- a keyword of no drawing and no hint has the events of a slot alone
pub no_other_event : (key : List ℕ) (rest : List (List ℕ)) → DrawNothing (key ∷ rest) →
    SaysNoSlotEvent (key ∷ rest) → (event : Event) →
    ¬ (SaysEvent (key ∷ rest) event)
no_other_event key rest drawing none (Fill rect colour) said = drawing (Drawing.Fill rect colour) said
no_other_event key rest drawing none (Copy rect sx sy) said = drawing (Drawing.Copy rect sx sy) said
no_other_event key rest drawing none (Hint rect sx sy) said = drawing (Drawing.Hint rect sx sy) said
no_other_event key rest drawing none (Request incremental rect) said = none (Slot.Request incremental rect) said
no_other_event key rest drawing none (SetFormat format) said = none (Slot.SetFormat format) said
no_other_event key rest drawing none (ToServer n) said = none (Slot.ToServer n) said
no_other_event key rest drawing none (ToViewer n) said = none (Slot.ToViewer n) said
no_other_event key rest drawing none Compose said = none Slot.Compose said
no_other_event key rest drawing none (Put x y row) said = absurd said
no_other_event key rest drawing none (SetEncodings encodings) said = absurd said
no_other_event key rest drawing none (Key down code) said = absurd said
no_other_event key rest drawing none (Pointer buttons x y) said = absurd said
no_other_event key rest drawing none (CutText text) said = absurd said

-- a word that is a keyword has the events of it
pub no_event_of : (key word : List ℕ) (rest : List (List ℕ)) → bytes_eq key word ≡ true →
    SaysNoSlotEvent (word ∷ rest) → SaysNoSlotEvent (key ∷ rest)
no_event_of key word rest same none =
    subst (λ (k : List ℕ). SaysNoSlotEvent (k ∷ rest)) (sym (same_word key word same)) none

-- a word alone
pub alone : (key word : List ℕ) (rest : List (Bor (List ℕ))) → bytes_eq key word ≡ true → length rest ≡ 0 →
    key ∷ texts rest ≡ word ∷ []
alone key word rest same none = rw (same_word key word same, no_texts rest none) refl

-- ---- the lines of a keyword

-- words after a keyword say nothing where they are for no line that begins with it
no_line : (key : List ℕ) (rest : List (List ℕ)) →
    (key ≡ codes "screen" → (size : Size) → ¬ (AreSize rest size)) →
    (key ≡ codes "viewer" → (wants : Wants) → ¬ (AreWants rest wants)) → key ≢ codes "settle" →
    ((event : Event) → ¬ (SaysEvent (key ∷ rest) event)) → SaysNothing (key ∷ rest)
no_line key rest screen viewer settle none (Screen size) said =
    screen (heads key _ rest said.0 said.1) size
    (subst (λ (r : List (List ℕ)). AreSize r size) (tails _ _ rest said.0 said.1) said.2)
no_line key rest screen viewer settle none (Viewer wants) said =
    viewer (heads key _ rest said.0 said.1) wants
    (subst (λ (r : List (List ℕ)). AreWants r wants) (tails _ _ rest said.0 said.1) said.2)
no_line key rest screen viewer settle none (Step (OneEvent event)) said = none event said
no_line key rest screen viewer settle none (Step Settle) said = settle (heads key _ rest [] said)

pub only_screen : (rest : List (List ℕ)) → ((size : Size) → ¬ (AreSize rest size)) → SaysNothing (codes "screen" ∷ rest)
only_screen rest none =
    no_line (codes "screen") rest (λ e. none) (unlike refl) (unlike refl)
    (no_other_event (codes "screen") rest (no_drawing (codes "screen") rest refl refl refl)
    (no_slot_event (codes "screen") rest (unlike refl) (unlike refl) (unlike refl) (unlike refl) (unlike refl)))

pub only_viewer : (rest : List (List ℕ)) → ((wants : Wants) → ¬ (AreWants rest wants)) →
    SaysNothing (codes "viewer" ∷ rest)
only_viewer rest none =
    no_line (codes "viewer") rest (unlike refl) (λ e. none) (unlike refl)
    (no_other_event (codes "viewer") rest (no_drawing (codes "viewer") rest refl refl refl)
    (no_slot_event (codes "viewer") rest (unlike refl) (unlike refl) (unlike refl) (unlike refl) (unlike refl)))

pub only_event : (key : List ℕ) (rest : List (List ℕ)) → key ≢ codes "screen" → key ≢ codes "viewer" →
    key ≢ codes "settle" → ((event : Event) → ¬ (SaysEvent (key ∷ rest) event)) → SaysNothing (key ∷ rest)
only_event key rest screen viewer settle none =
    no_line key rest (λ e. absurd (screen e)) (λ e. absurd (viewer e)) settle none

-- ---- the words of a line by its first one

-- no words, and words with another first one, have nothing after this one
pub none_after_end : (words : List (Bor (List ℕ))) (key : List ℕ) → length words ≡ 0 →
    (rest : List (List ℕ)) → texts words ≢ key ∷ rest
none_after_end words key none rest e = nothing key rest (sym (no_texts words none) ∙ e)

pub none_after_other : (words : List (Bor (List ℕ))) (first : Bor (List ℕ))
    (rest : List (Bor (List ℕ))) (key : List ℕ) → words ≡ first ∷ rest → bytes_eq first.now key ≡ false →
    (after : List (List ℕ)) → texts words ≢ key ∷ after
none_after_other words first rest key e other after is =
    apart first.now key (texts rest) after other (sym (ap (λ (ws : List (Bor (List ℕ))). texts ws) e) ∙ is)

pub line_none : (words : List (Bor (List ℕ))) (first : Bor (List ℕ)) (rest : List (Bor (List ℕ))) (key : List ℕ) →
    words ≡ first ∷ rest → bytes_eq first.now key ≡ true → SaysNothing (key ∷ texts rest) → SaysNothing (texts words)
line_none words first rest key e same none =
    subst (λ (ws : List (List ℕ)). SaysNothing ws) (sym (words_are words first rest key e same)) none

pub says_size : (words : List (Bor (List ℕ))) (first : Bor (List ℕ)) (rest : List (Bor (List ℕ))) →
    words ≡ first ∷ rest → bytes_eq first.now (codes "screen") ≡ true → (size : Size) → AreSize (texts rest) size →
    Says (texts words) (Screen size)
says_size words first rest e same size are = (texts rest, words_are words first rest (codes "screen") e same, are)

pub says_wants : (words : List (Bor (List ℕ))) (first : Bor (List ℕ)) (rest : List (Bor (List ℕ))) →
    words ≡ first ∷ rest → bytes_eq first.now (codes "viewer") ≡ true → (wants : Wants) → AreWants (texts rest) wants →
    Says (texts words) (Viewer wants)
says_wants words first rest e same wants are = (texts rest, words_are words first rest (codes "viewer") e same, are)

pub says_settle : (words : List (Bor (List ℕ))) (first : Bor (List ℕ)) (rest : List (Bor (List ℕ))) → words
    ≡ first ∷ rest → bytes_eq first.now (codes "settle") ≡ true → length rest ≡ 0 → texts words ≡ codes "settle" ∷ []
says_settle words first rest e same none =
    words_are words first rest (codes "settle") e same
    ∙ ap (λ (r : List (List ℕ)). codes "settle" ∷ r) (no_texts rest none)

-- what the words after a keyword were read to is said by all of them
pub read_after : {A : Type 0} (key : List ℕ) (Are : List (List ℕ) → A → Type 0) (all : List (List ℕ))
    (rest : List (Bor (List ℕ))) (r : Option A) → all ≡ key ∷ texts rest →
    MatchOption r ((a : A) → ¬ (Are (texts rest) a)) (Are (texts rest)) →
    MatchOption r (¬ ((a : A) × Begins key all (λ l. Are l a))) (λ a. Begins key all (λ l. Are l a))
read_after key Are all rest None e none = λ gives.
    none gives.0 (subst (λ (l : List (List ℕ)). Are l gives.0)
    (tails key key (texts rest) gives.1.0 (sym e ∙ gives.1.1)) gives.1.2)
read_after key Are all rest (Some a) e are = (texts rest, e, are)

-- and nothing is where they begin otherwise
pub begins_otherwise : {A : Type 0} (key : List ℕ) (Are : List (List ℕ) → A → Type 0)
    (all : List (List ℕ)) → ((rest : List (List ℕ)) → all ≢ key ∷ rest) →
    ¬ ((a : A) × Begins key all (λ l. Are l a))
begins_otherwise key Are all none gives = none gives.1.0 gives.1.1

-- some line of these words says what the viewer wants
abbrev pub GiveWants : List (List ℕ) → Type 0
GiveWants all = (wants : Wants) × Says all (Viewer wants)

pub viewer_words : (all : List (List ℕ)) (rest : List (Bor (List ℕ))) → all ≡ codes "viewer" ∷ texts rest →
    (r : Option Wants) → MatchOption r ((wants : Wants) → ¬ (AreWants (texts rest) wants)) (AreWants (texts rest))
    → MatchOption r (¬ (GiveWants all)) (λ wants. Says all (Viewer wants))
viewer_words all rest e None none = λ gives.
    only_viewer (texts rest) none (Viewer gives.0) (subst (λ (ws : List (List ℕ)). Says ws (Viewer gives.0)) e gives.1)
viewer_words all rest e (Some wants) are = (texts rest, e, are)

pub no_viewer_words : (all : List (List ℕ)) → ((rest : List (List ℕ)) → all ≢ codes "viewer" ∷ rest) → ¬ (GiveWants all)
no_viewer_words all none gives = none gives.1.0 gives.1.1

-- ---- no line has nine words

-- a keyword, and at most `n` words after it
begins_length : (n : ℕ) (key : List ℕ) (words rest : List (List ℕ)) → words ≡ key ∷ rest →
    length rest ≤ n → length words ≤ n + 1
begins_length n key words rest e few = let s = ap (λ (l : List (List ℕ)). length l) e in omega (arith, s, few)

pub too_many_words : (words : List (List ℕ)) → 8 < length words → SaysNothing words
too_many_words words many = go
  where
    over : (key : List ℕ) (rest : List (List ℕ)) → words ≡ key ∷ rest → length rest ≤ 6 → ⊥
    over key rest e few = let s = begins_length 6 key words rest e few in omega (arith, s, many)

    event_over : (event : Event) → ¬ (SaysEvent words event)
    event_over (Fill rect colour) said =
        over (codes "fill") said.0 said.1 (let s = ap (λ (l : List (List ℕ)). length l) said.2.5 in omega (arith, s))
    event_over (Copy rect sx sy) said =
        over (codes "copy") said.0 said.1 (let s = ap (λ (l : List (List ℕ)). length l) said.2.6 in omega (arith, s))
    event_over (Hint rect sx sy) said =
        over (codes "hint") said.0 said.1 (let s = ap (λ (l : List (List ℕ)). length l) said.2.6 in omega (arith, s))
    event_over (Request incremental rect) said =
        over (codes "request") said.0 said.1 (let s = ap (λ (l : List (List ℕ)). length l) said.2.4 in omega (arith, s))
    event_over (SetFormat format) said =
        over (codes "format") said.0 said.1 (let s = ap (λ (l : List (List ℕ)). length l) said.2.1 in omega (arith, s))
    event_over (ToServer n) said = over (codes "toserver") said.0 said.1
        (let s = ap (λ (l : List (List ℕ)). length l) said.2.1 in omega (arith, s))
    event_over (ToViewer n) said = over (codes "toviewer") said.0 said.1
        (let s = ap (λ (l : List (List ℕ)). length l) said.2.1 in omega (arith, s))
    event_over Compose said = over (codes "compose") [] said (omega arith)
    event_over (Put x y row) said = absurd said
    event_over (SetEncodings encodings) said = absurd said
    event_over (Key down key) said = absurd said
    event_over (Pointer buttons x y) said = absurd said
    event_over (CutText text) said = absurd said

    go : (line : Line) → ¬ (Says words line)
    go (Screen size) said =
        over (codes "screen") said.0 said.1 (let s = ap (λ (l : List (List ℕ)). length l) said.2.2 in omega (arith, s))
    go (Viewer wants) said = over (codes "viewer") said.0 said.1
        (let s = ap (λ (l : List (List ℕ)). length l) said.2.2 in omega (arith, s, said.2.4.2))
    go (Step (OneEvent event)) said = event_over event said
    go (Step Settle) said = over (codes "settle") [] said (omega arith)
