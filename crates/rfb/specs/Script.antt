-- The language of scripts: what a line says, and which line of a text is bad.
use Rattle.std.specs.Prelude.{◌≡◌, ◌≢◌, ◌==◌, ◌⊎◌, ℕ, List, [], ◌∷◌, Option, Some, None, codes, length}
use Rattle.std.specs.Borrow.{Bor}
use Rattle.std.specs.List.{slice_split}
use Rattle.rfb_session.specs.declared.event.Event.{Event}
use Rattle.rfb_session.specs.declared.event.Event.TheVariants.{Fill, Put, Copy, Hint, Request, SetFormat, SetEncodings}
use Rattle.rfb_session.specs.declared.event.Event.TheVariants.{Key, Pointer, CutText, Compose, ToServer, ToViewer}
use Rattle.rfb.specs.declared.fault.Failure.{Failure}
use Rattle.rfb.specs.declared.fault.Failure.TheVariants.{BadLine, Undone, Fault, Engine, Picture}
use Rattle.rfb.specs.declared.fault.Fault.TheVariants.{NoMemory}
use Rattle.rfb.specs.declared.script.line.Numbered.{Numbered}
use Rattle.rfb_session.specs.declared.language.screen.Screen.{Screen as Size}
use Rattle.rfb.specs.declared.script.line.Wants.{Wants}
use Rattle.rfb.specs.declared.script.line.Step.{Step as ScriptStep}
use Rattle.rfb.specs.declared.script.line.Step.TheVariants.{Event as OneEvent, Settle}
use Rattle.rfb.specs.declared.script.line.Line.{Line}
use Rattle.rfb.specs.declared.script.line.Line.TheVariants.{Screen, Viewer, Step}
use Rattle.rfb_session.specs.language.Words.{AreFill, AreMove, AreSize, Begins, words_of}
use Rattle.rfb.specs.Lines.{AreEmpty, AreLed, AskInOrder, IsFirst}
use Rattle.rfb.specs.Words.{AreRequest, AreWants, IsCountAlone, IsFormatAlone}

-- the lines of a text, parted by newlines; the last one is empty where the text ends in one
abbrev pub lines_of : List ℕ → List (List ℕ)
lines_of text = slice_split (λ byte. byte == 10) text

-- those of what is left of a text, which is nothing after its last line
abbrev pub lines_left : Option (Bor (List ℕ)) → List (List ℕ)
lines_left None = []
lines_left (Some text) = lines_of text.now

-- ---- what a line says

-- the words of a line ask for one event; no line asks for a row, a key, the pointer, a text or
-- other encodings
abbrev pub SaysEvent : List (List ℕ) → Event → Type 0
SaysEvent words (Fill rect colour) = Begins (codes "fill") words (λ rest. AreFill rest rect colour)
SaysEvent words (Copy rect sx sy) = Begins (codes "copy") words (λ rest. AreMove rest rect sx sy)
SaysEvent words (Hint rect sx sy) = Begins (codes "hint") words (λ rest. AreMove rest rect sx sy)
SaysEvent words (Request incremental rect) =
    Begins (codes "request") words (λ rest. AreRequest rest incremental rect)
SaysEvent words (SetFormat format) =
    Begins (codes "format") words (λ rest. IsFormatAlone rest format)
SaysEvent words Compose = words ≡ codes "compose" ∷ []
SaysEvent words (ToServer n) = Begins (codes "toserver") words (λ rest. IsCountAlone rest n)
SaysEvent words (ToViewer n) = Begins (codes "toviewer") words (λ rest. IsCountAlone rest n)
SaysEvent words (Put x y row) = ⊥
SaysEvent words (SetEncodings encodings) = ⊥
SaysEvent words (Key down key) = ⊥
SaysEvent words (Pointer buttons x y) = ⊥
SaysEvent words (CutText text) = ⊥

-- the words of a line ask for a step
abbrev pub SaysStep : List (List ℕ) → ScriptStep → Type 0
SaysStep words (OneEvent event) = SaysEvent words event
SaysStep words Settle = words ≡ codes "settle" ∷ []

-- what the words of a line say
abbrev pub Says : List (List ℕ) → Line → Type 0
Says words (Screen size) = Begins (codes "screen") words (λ rest. AreSize rest size)
Says words (Viewer wants) = Begins (codes "viewer") words (λ rest. AreWants rest wants)
Says words (Step step) = SaysStep words step

-- the words of a line that is bad at any place say nothing
abbrev pub SaysNothing : List (List ℕ) → Type 0
SaysNothing words = (line : Line) → Says words line → ⊥

-- a line gives the screen's size
abbrev pub GivesSize : List ℕ → Type 0
GivesSize line = (size : Size) × Says (words_of line) (Screen size)

-- a line gives what the viewer wants
abbrev pub GivesWants : List ℕ → Type 0
GivesWants line = (wants : Wants) × Says (words_of line) (Viewer wants)

-- a line asks for a step
abbrev pub AsksForStep : List ℕ → Type 0
AsksForStep line = (step : ScriptStep) × SaysStep (words_of line) step

-- ---- what lines are

-- lines, numbered from this on, ask for these steps in their order, each with the number of its line; empty lines ask
-- for nothing
abbrev pub AskFor : ℕ → List (List ℕ) → List Numbered → Type 0
AskFor n lines steps =
    AskInOrder (λ (s : Numbered). s.line) (λ line s. SaysStep (words_of line) s.step) n lines steps

-- the same after a line with what the viewer wants, and empty ones before it
abbrev pub AskAfter : ℕ → List (List ℕ) → Wants → List Numbered → Type 0
AskAfter n lines wants steps =
    AreLed (λ second. Says (words_of second) (Viewer wants)) (λ m later. AskFor m later steps) n lines

-- the lines after the screen's, with or without what the viewer wants
abbrev pub AskForAll : ℕ → List (List ℕ) → Option Wants → List Numbered → Type 0
AskForAll n lines None steps = AskFor n lines steps
AskForAll n lines (Some wants) steps = AskAfter n lines wants steps

-- lines are a script: empty ones, one with the screen's size, perhaps one with what the viewer
-- wants, and others that ask for its steps
abbrev pub AreScript : List (List ℕ) → Size → Option Wants → List Numbered → Type 0
AreScript lines size wants steps =
    AreLed (λ first. Says (words_of first) (Screen size)) (λ n later. AskForAll n later wants steps)
    1 lines

-- lines are some script
abbrev pub AreSomeScript : List (List ℕ) → Type 0
AreSomeScript lines =
    (size : Size) × (wants : Option Wants) × (steps : List Numbered)
    × AreScript lines size wants steps

-- ---- bad lines

-- a line asks for nothing after a script: for no step, and it is no second line with what the
-- viewer wants
abbrev pub IsNoMore : Option Wants → List Numbered → List ℕ → Type 0
IsNoMore wants steps line =
    ¬ (AsksForStep line) × (wants ≡ None → steps ≡ [] → ¬ (GivesWants line))

-- a line is bad after some script
abbrev pub IsBadAfterScript : List (List ℕ) → List ℕ → Type 0
IsBadAfterScript lines line =
    (size : Size) × (wants : Option Wants) × (steps : List Numbered)
    × AreScript lines size wants steps × IsNoMore wants steps line

-- a line is bad after these: it has characters, and gives no size after empty lines, or asks for
-- nothing after a script
abbrev pub IsBadAfter : List (List ℕ) → List ℕ → Type 0
IsBadAfter lines line =
    (line ≢ []) × ((AreEmpty lines × ¬ (GivesSize line)) ⊎ IsBadAfterScript lines line)

-- the first bad line has this number: those before it are empty or a script, and it is bad after
-- them
abbrev pub IsFirstBad : List (List ℕ) → ℕ → Type 0
IsFirstBad lines n = IsFirst IsBadAfter lines n

-- lines that are all empty are bad at the last of them, after the last newline
abbrev pub IsWithoutScreen : List (List ℕ) → ℕ → Type 0
IsWithoutScreen lines n = AreEmpty lines × (n ≡ length lines)

-- why lines are not read: one of them is bad, or memory was wanting
abbrev pub StopsAt : (ℕ → Type 0) → Failure → Type 0
StopsAt IsBadAt (BadLine n) = IsBadAt n
StopsAt IsBadAt (Undone n why) = ⊥
StopsAt IsBadAt (Fault fault) = fault ≡ NoMemory
StopsAt IsBadAt (Engine fault) = ⊥
StopsAt IsBadAt (Picture flaw) = ⊥

-- why they are read to no script
abbrev pub StopsReading : List (List ℕ) → Failure → Type 0
StopsReading lines failure =
    StopsAt (λ n. IsFirstBad lines n ⊎ IsWithoutScreen lines n) failure
