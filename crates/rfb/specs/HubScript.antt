-- The language of a hub's scripts: what a line says, and which line of a text is bad.
use Rattle.std.specs.Prelude.{◌≡◌, ◌≢◌, ◌+◌, ◌≤◌, ◌⊎◌, ℕ, Bool, true, false, List, [], ◌∷◌, ◌++◌, Ok, codes, length}
use Rattle.hex.specs.Hex.{decode_of}
use Rattle.rfb_hello.specs.declared.version.Version.TheVariants.{V38}
use Rattle.rfb_session.specs.declared.hub.event.HubEvent.TheVariants.{Fill, Put, Copy, Hint, Join, Leave, Of, Foreign}
use Rattle.rfb_viewer.specs.declared.setup.ViewerSetup.{ViewerSetup as Setup}
use Rattle.rfb_session.specs.HubSeats.{event_of}
use Rattle.rfb.specs.declared.fault.Failure.{Failure}
use Rattle.rfb.specs.declared.script.hub.hub_step.HubNumbered.{HubNumbered}
use Rattle.rfb.specs.declared.script.hub.hub_step.HubStep.{HubStep}
use Rattle.rfb.specs.declared.script.hub.hub_step.HubStep.TheVariants.{Event, Settle}
use Rattle.rfb_session.specs.declared.language.screen.Screen.{Screen as Size}
use Rattle.rfb.specs.declared.script.line.Wants.{Wants}
use Rattle.rfb.specs.Lines.{AreEmpty, AreLed, AskInOrder, IsFirst}
use Rattle.rfb.specs.Script.{SaysEvent, StopsAt, StopsReading}
use Rattle.rfb_session.specs.language.Words.{Begins, words_of, AreFill, AreMove, AreSize, IsSlotAlone, IsSlotWord}
use Rattle.rfb.specs.Words.{AreWants}

-- ---- words

-- words are a slot, and others after it for which this holds
abbrev pub IsSlotThen : ℕ → List (List ℕ) → (List (List ℕ) → Type 0) → Type 0
IsSlotThen slot words Holds =
    (s : List ℕ) × (rest : List (List ℕ)) × (words ≡ s ∷ rest) × IsSlotWord s slot × Holds rest

-- others may go on beside a viewer, or it asks for the screen alone
abbrev pub kind_of_join : Bool → List ℕ
kind_of_join true = codes "shared"
kind_of_join false = codes "sole"

-- what a viewer is made with that wants this: it is of version 3.8
pub record IsSetup (wants : Wants) (setup : Setup) : Type 0 where
  pub format : setup.format ≡ wants.format
  pub encodings : setup.encodings ≡ wants.encodings
  pub limit : setup.limit ≡ V38
  pub max_places : setup.max_places ≡ 16777216
  pub text_limit : setup.text_limit ≡ 1024

-- words are whether others may go on, and what a viewer wants
abbrev pub AreSetup : List (List ℕ) → Setup → Type 0
AreSetup words setup =
    (wants : Wants)
    × Begins (kind_of_join setup.shared) words (λ rest. AreWants rest wants)
    × IsSetup wants setup

-- words are a slot, and what the viewer that takes it is made with
abbrev pub AreJoin : List (List ℕ) → ℕ → Setup → Type 0
AreJoin words slot setup = IsSlotThen slot words (λ rest. AreSetup rest setup)

-- a word has two hexadecimal digits for each of 1 to 64 bytes
abbrev pub IsHexWord : List ℕ → List ℕ → Type 0
IsHexWord word bytes = (decode_of word ≡ Ok bytes) × (1 ≤ length bytes) × (length bytes ≤ 64)

-- words are a slot and such bytes
abbrev pub AreForeign : List (List ℕ) → ℕ → List ℕ → Type 0
AreForeign words slot bytes =
    (s h : List ℕ) × (words ≡ s ∷ h ∷ []) × IsSlotWord s slot × IsHexWord h bytes

-- ---- what a line says

-- what the words after `at` and a slot ask for there
abbrev pub SaysAt : List (List ℕ) → HubStep → Type 0
SaysAt words (Event (Of slot event)) =
    IsSlotThen slot words (λ line. SaysEvent line (event_of event))
SaysAt words (Settle slot) = IsSlotThen slot words (λ line. line ≡ codes "settle" ∷ [])
SaysAt words step = ⊥

-- the words of a line ask for a step: drawings and hints by themselves, and what is of one slot after `at`
abbrev pub SaysHubStep : List (List ℕ) → HubStep → Type 0
SaysHubStep words (Event (Fill rect colour)) =
    Begins (codes "fill") words (λ rest. AreFill rest rect colour)
SaysHubStep words (Event (Copy rect sx sy)) =
    Begins (codes "copy") words (λ rest. AreMove rest rect sx sy)
SaysHubStep words (Event (Hint rect sx sy)) =
    Begins (codes "hint") words (λ rest. AreMove rest rect sx sy)
SaysHubStep words (Event (Join slot setup)) =
    Begins (codes "join") words (λ rest. AreJoin rest slot setup)
SaysHubStep words (Event (Leave slot)) =
    Begins (codes "leave") words (λ rest. IsSlotAlone rest slot)
SaysHubStep words (Event (Foreign slot bytes)) =
    Begins (codes "foreign") words (λ rest. AreForeign rest slot bytes.items)
SaysHubStep words (Event (Of slot event)) =
    Begins (codes "at") words (λ rest. SaysAt rest (Event (Of slot event)))
SaysHubStep words (Settle slot) = Begins (codes "at") words (λ rest. SaysAt rest (Settle slot))
SaysHubStep words (Event (Put x y row)) = ⊥

-- the words of a line give a hub's size
abbrev pub SaysHub : List (List ℕ) → Size → Type 0
SaysHub words size = Begins (codes "hub") words (λ rest. AreSize rest size)

-- they name the slot to be shown
abbrev pub SaysShow : List (List ℕ) → ℕ → Type 0
SaysShow words slot = Begins (codes "show") words (λ rest. IsSlotAlone rest slot)

-- a line gives a hub's size, names a slot to be shown, asks for a step
abbrev pub GivesHub : List ℕ → Type 0
GivesHub line = (size : Size) × SaysHub (words_of line) size

abbrev pub NamesShown : List ℕ → Type 0
NamesShown line = (slot : ℕ) × SaysShow (words_of line) slot

abbrev pub AsksInHub : List ℕ → Type 0
AsksInHub line = (step : HubStep) × SaysHubStep (words_of line) step

-- ---- what lines are

-- lines, numbered from this on, ask for these steps in their order, each with the number of its line; empty lines ask
-- for nothing
abbrev pub AskInHub : ℕ → List (List ℕ) → List HubNumbered → Type 0
AskInHub n lines steps =
    AskInOrder (λ (s : HubNumbered). s.line) (λ line s. SaysHubStep (words_of line) s.step) n lines
    steps

-- lines are a hub's script up to its last line: empty ones, one with the screen's size, and others
-- that ask for its steps
abbrev pub AreOpenHub : List (List ℕ) → Size → List HubNumbered → Type 0
AreOpenHub lines size steps =
    AreLed (λ first. SaysHub (words_of first) size) (λ n later. AskInHub n later steps) 1 lines

-- lines are a hub's script: such ones, one that names the slot to be shown, and empty ones
pub record AreHubScript (lines : List (List ℕ)) (size : Size) (steps : List HubNumbered)
    (shown : ℕ) : Type 0 where
  pub before : List (List ℕ)
  pub last : List ℕ
  pub after : List (List ℕ)
  pub whole : lines ≡ before ++ last ∷ after
  pub before_are : AreOpenHub before size steps
  pub shown_is : SaysShow (words_of last) shown
  pub after_is : AreEmpty after

abbrev pub AreSomeOpenHub : List (List ℕ) → Type 0
AreSomeOpenHub lines = (size : Size) × (steps : List HubNumbered) × AreOpenHub lines size steps

abbrev pub AreSomeHubScript : List (List ℕ) → Type 0
AreSomeHubScript lines =
    (size : Size) × (steps : List HubNumbered) × (shown : ℕ) × AreHubScript lines size steps shown

-- the first line that is not empty; where all are, an empty one
abbrev pub first_line : List (List ℕ) → List ℕ
first_line [] = []
first_line ([] ∷ lines) = first_line lines
first_line ((char ∷ line) ∷ lines) = char ∷ line

-- it gives a hub's size
abbrev pub BeginHub : List (List ℕ) → Type 0
BeginHub lines = GivesHub (first_line lines)

-- ---- bad lines

-- a line asks for nothing after these that are no whole script: they are empty and it gives no
-- size, or it asks for no step and names no slot to be shown
abbrev pub IsNoMoreOfHub : List (List ℕ) → List ℕ → Type 0
IsNoMoreOfHub lines line =
    (AreEmpty lines × ¬ (GivesHub line))
    ⊎ (AreSomeOpenHub lines × ¬ (AsksInHub line) × ¬ (NamesShown line))

-- a line is bad after these: it has characters, and asks for nothing, or a script has ended
abbrev pub IsBadInHub : List (List ℕ) → List ℕ → Type 0
IsBadInHub lines line = (line ≢ []) × (IsNoMoreOfHub lines line ⊎ AreSomeHubScript lines)

-- the first bad line has this number
abbrev pub IsFirstBadInHub : List (List ℕ) → ℕ → Type 0
IsFirstBadInHub lines n = IsFirst IsBadInHub lines n

-- the number of the line after the last; an empty one after the last newline is that line
abbrev pub line_after : List (List ℕ) → ℕ
line_after [] = 0
line_after ([] ∷ []) = 1
line_after ((char ∷ line) ∷ []) = 2
line_after (line ∷ (next ∷ lines)) = line_after (next ∷ lines) + 1

-- lines that name no slot to be shown are bad at the line after them
abbrev pub IsWithoutShow : List (List ℕ) → ℕ → Type 0
IsWithoutShow lines n = (AreEmpty lines ⊎ AreSomeOpenHub lines) × (n ≡ line_after lines)

-- why lines are read to no hub's script
abbrev pub StopsReadingHub : List (List ℕ) → Failure → Type 0
StopsReadingHub lines failure =
    StopsAt (λ n. IsFirstBadInHub lines n ⊎ IsWithoutShow lines n) failure

-- why they are read to no script of either kind; the first line that is not empty decides the kind
abbrev pub StopsReadingAny : List (List ℕ) → Failure → Type 0
StopsReadingAny lines failure =
    (BeginHub lines × StopsReadingHub lines failure)
    ⊎ (¬ (BeginHub lines) × StopsReading lines failure)
