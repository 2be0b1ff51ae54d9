-- Words of a line of a hub's script: which lines a keyword can begin.
use Rattle.std.proofs.Common.{◌≡◌, ◌≢◌, ◌<◌, ◌≤◌, ◌+◌, ◌∙◌, ap, sym, refl, subst, Bool, true, false, not, Option, Some}
use Rattle.std.proofs.Common.{None, MatchOption, length, ℕ, List, [], ◌∷◌, Bor, arith, codes}
use Rattle.std.specs.Str.{bytes_eq}
use Rattle.rfb_session.specs.declared.hub.event.HubEvent.TheVariants.{Fill, Put, Copy, Hint, Join, Leave, Of, Foreign}
use Rattle.rfb_viewer.specs.declared.setup.ViewerSetup.{ViewerSetup as Setup}
use Rattle.rfb_session.specs.declared.hub.event.SlotEvent.{SlotEvent}
use Rattle.rfb_session.specs.declared.hub.event.SlotEvent.TheVariants.{Request, SetFormat, SetEncodings, Key, Pointer}
use Rattle.rfb_session.specs.declared.hub.event.SlotEvent.TheVariants.{CutText, Compose, ToServer, ToViewer}
use Rattle.rfb_session.specs.HubSeats.{event_of}
use Rattle.rfb.specs.declared.script.hub.hub_step.HubStep.{HubStep}
use Rattle.rfb.specs.declared.script.hub.hub_step.HubStep.TheVariants.{Event, Settle}
use Rattle.rfb_session.specs.declared.language.screen.Screen.{Screen as Size}
use Rattle.rfb.specs.HubScript.{AreForeign, AreJoin, IsSlotThen, SaysAt, SaysHub, SaysHubStep, SaysShow}
use Rattle.rfb_session.specs.language.Words.{IsSlotAlone, Begins, texts}
use Rattle.rfb.specs.Script.{SaysEvent}
use Rattle.rfb.proofs.HubWordLemmas.{no_slot_first, nothing_after, none_after, split_texts}
use Rattle.rfb_session.specs.declared.language.drawing.DrawingLine.TheVariants as Drawing
use Rattle.rfb_session.proofs.DrawingLineLemmas.{DrawNothing}
use Rattle.rfb.proofs.ScriptLemmas.{no_drawing, unlike}
use Rattle.rfb_session.proofs.WordLaws.{heads, nothing, no_texts, same_word, tails, words_are}

-- ---- the steps of a keyword

-- words after a keyword ask for no step where they are for none that begins with it
no_step : (key : List ℕ) (rest : List (List ℕ)) → DrawNothing (key ∷ rest) →
    (key ≡ codes "join" → (slot : ℕ) (setup : Setup) → ¬ (AreJoin rest slot setup)) →
    (key ≡ codes "leave" → (slot : ℕ) → ¬ (IsSlotAlone rest slot)) →
    (key ≡ codes "foreign" → (slot : ℕ) (bytes : List ℕ) → ¬ (AreForeign rest slot bytes)) →
    (key ≡ codes "at" → (step : HubStep) → ¬ (SaysAt rest step)) → (step : HubStep) →
    ¬ (SaysHubStep (key ∷ rest) step)
no_step key rest drawing join leave foreign at (Event (Fill rect colour)) said = drawing (Drawing.Fill rect colour) said
no_step key rest drawing join leave foreign at (Event (Copy rect sx sy)) said = drawing (Drawing.Copy rect sx sy) said
no_step key rest drawing join leave foreign at (Event (Hint rect sx sy)) said = drawing (Drawing.Hint rect sx sy) said
no_step key rest drawing join leave foreign at (Event (Join slot setup)) said =
    join (heads key _ rest said.0 said.1) slot setup
    (subst (λ (r : List (List ℕ)). AreJoin r slot setup) (tails _ _ rest said.0 said.1) said.2)
no_step key rest drawing join leave foreign at (Event (Leave slot)) said =
    leave (heads key _ rest said.0 said.1) slot
    (subst (λ (r : List (List ℕ)). IsSlotAlone r slot) (tails _ _ rest said.0 said.1) said.2)
no_step key rest drawing join leave foreign at (Event (Foreign slot bytes)) said =
    foreign (heads key _ rest said.0 said.1) slot bytes.items
    (subst (λ (r : List (List ℕ)). AreForeign r slot bytes.items) (tails _ _ rest said.0 said.1) said.2)
no_step key rest drawing join leave foreign at (Event (Of slot event)) said =
    at (heads key _ rest said.0 said.1) (Event (Of slot event))
    (subst (λ (r : List (List ℕ)). SaysAt r (Event (Of slot event))) (tails _ _ rest said.0 said.1) said.2)
no_step key rest drawing join leave foreign at (Settle slot) said =
    at (heads key _ rest said.0 said.1) (Settle slot)
    (subst (λ (r : List (List ℕ)). SaysAt r (Settle slot)) (tails _ _ rest said.0 said.1) said.2)
no_step key rest drawing join leave foreign at (Event (Put x y row)) said = absurd said

pub hub_join : (rest : List (List ℕ)) → ((slot : ℕ) (setup : Setup) → ¬ (AreJoin rest slot setup)) → (step : HubStep) →
    ¬ (SaysHubStep (codes "join" ∷ rest) step)
hub_join rest none =
    no_step (codes "join") rest (no_drawing (codes "join") rest refl refl refl) (λ e. none) (unlike refl) (unlike refl)
    (unlike refl)

pub hub_leave : (rest : List (List ℕ)) → ((slot : ℕ) → ¬ (IsSlotAlone rest slot)) → (step : HubStep) →
    ¬ (SaysHubStep (codes "leave" ∷ rest) step)
hub_leave rest none =
    no_step (codes "leave") rest (no_drawing (codes "leave") rest refl refl refl) (unlike refl) (λ e. none)
    (unlike refl) (unlike refl)

pub hub_foreign : (rest : List (List ℕ)) → ((slot : ℕ) (bytes : List ℕ) → ¬ (AreForeign rest slot bytes)) →
    (step : HubStep) → ¬ (SaysHubStep (codes "foreign" ∷ rest) step)
hub_foreign rest none =
    no_step (codes "foreign") rest (no_drawing (codes "foreign") rest refl refl refl) (unlike refl) (unlike refl)
    (λ e. none) (unlike refl)

pub hub_at : (rest : List (List ℕ)) → ((step : HubStep) → ¬ (SaysAt rest step)) → (step : HubStep) →
    ¬ (SaysHubStep (codes "at" ∷ rest) step)
hub_at rest none =
    no_step (codes "at") rest (no_drawing (codes "at") rest refl refl refl) (unlike refl) (unlike refl) (unlike refl)
    (λ e. none)

pub says_at : (rest : List (List ℕ)) (step : HubStep) → SaysAt rest step → SaysHubStep (codes "at" ∷ rest) step
says_at rest (Event (Of slot event)) said = (rest, refl, said)
says_at rest (Settle slot) said = (rest, refl, said)
says_at rest (Event (Fill rect colour)) said = absurd said
says_at rest (Event (Put x y row)) said = absurd said
says_at rest (Event (Copy rect sx sy)) said = absurd said
says_at rest (Event (Hint rect sx sy)) said = absurd said
says_at rest (Event (Join slot setup)) said = absurd said
says_at rest (Event (Leave slot)) said = absurd said
says_at rest (Event (Foreign slot bytes)) said = absurd said

-- another keyword has those of a drawing and of a hint alone
pub only_drawn : (key : List ℕ) (rest : List (List ℕ)) → key ≢ codes "join" → key ≢ codes "leave" →
    key ≢ codes "foreign" → key ≢ codes "at" → DrawNothing (key ∷ rest) → (step : HubStep) →
    ¬ (SaysHubStep (key ∷ rest) step)
only_drawn key rest join leave foreign at none =
    no_step key rest none (λ e. absurd (join e)) (λ e. absurd (leave e)) (λ e. absurd (foreign e))
    (λ e. absurd (at e))

-- a word that is a keyword has the steps of it
pub no_step_of : (key word : List ℕ) (rest : List (List ℕ)) → bytes_eq key word ≡ true →
    ((step : HubStep) → ¬ (SaysHubStep (word ∷ rest) step)) → (step : HubStep) → ¬ (SaysHubStep (key ∷ rest) step)
no_step_of key word rest same none =
    subst (λ (k : List ℕ). (step : HubStep) → ¬ (SaysHubStep (k ∷ rest) step)) (sym (same_word key word same)) none

pub step_of : (key word : List ℕ) (rest : List (List ℕ)) (step : HubStep) → bytes_eq key word ≡ true →
    SaysHubStep (word ∷ rest) step → SaysHubStep (key ∷ rest) step
step_of key word rest step same said =
    subst (λ (k : List ℕ). SaysHubStep (k ∷ rest) step) (sym (same_word key word same)) said

-- what is after `at`, by what was read of it
pub at_read : (key : List ℕ) (rest : List (List ℕ)) → bytes_eq key (codes "at") ≡ true →
    (r : Option HubStep) → MatchOption r ((step : HubStep) → ¬ (SaysAt rest step)) (SaysAt rest) →
    MatchOption r ((step : HubStep) → ¬ (SaysHubStep (key ∷ rest) step)) (SaysHubStep (key ∷ rest))
at_read key rest same None none = no_step_of key (codes "at") rest same (hub_at rest none)
at_read key rest same (Some step) said = step_of key (codes "at") rest step same (says_at rest step said)

-- no words ask for nothing
pub no_hub_words : (step : HubStep) → ¬ (SaysHubStep [] step)
no_hub_words (Event (Fill rect colour)) said = nothing _ said.0 said.1
no_hub_words (Event (Copy rect sx sy)) said = nothing _ said.0 said.1
no_hub_words (Event (Hint rect sx sy)) said = nothing _ said.0 said.1
no_hub_words (Event (Join slot setup)) said = nothing _ said.0 said.1
no_hub_words (Event (Leave slot)) said = nothing _ said.0 said.1
no_hub_words (Event (Foreign slot bytes)) said = nothing _ said.0 said.1
no_hub_words (Event (Of slot event)) said = nothing _ said.0 said.1
no_hub_words (Settle slot) said = nothing _ said.0 said.1
no_hub_words (Event (Put x y row)) said = absurd said

-- ---- what is after a slot

no_slot_words : (event : SlotEvent) → ¬ (SaysEvent [] (event_of event))
no_slot_words (Request incremental rect) said = nothing _ said.0 said.1
no_slot_words (SetFormat format) said = nothing _ said.0 said.1
no_slot_words (ToServer n) said = nothing _ said.0 said.1
no_slot_words (ToViewer n) said = nothing _ said.0 said.1
no_slot_words Compose said = nothing _ [] said
no_slot_words (SetEncodings encodings) said = absurd said
no_slot_words (Key down code) said = absurd said
no_slot_words (Pointer buttons x y) said = absurd said
no_slot_words (CutText text) said = absurd said

-- nothing that is after a slot
no_at : (words : List (List ℕ)) → ((slot : ℕ) (Holds : List (List ℕ) → Type 0) → ¬ (IsSlotThen slot words Holds)) →
    (step : HubStep) → ¬ (SaysAt words step)
no_at words none (Event (Of slot event)) said = none slot _ said
no_at words none (Settle slot) said = none slot _ said
no_at words none (Event (Fill rect colour)) said = absurd said
no_at words none (Event (Put x y row)) said = absurd said
no_at words none (Event (Copy rect sx sy)) said = absurd said
no_at words none (Event (Hint rect sx sy)) said = absurd said
no_at words none (Event (Join slot setup)) said = absurd said
no_at words none (Event (Leave slot)) said = absurd said
no_at words none (Event (Foreign slot bytes)) said = absurd said

pub no_at_words : (words : List (Bor (List ℕ))) → length words ≡ 0 → (step : HubStep) → ¬ (SaysAt (texts words) step)
no_at_words words none = no_at (texts words) (λ slot Holds. nothing_after words Holds none slot)

pub no_at_slot : (words : List (Bor (List ℕ))) (first : Bor (List ℕ)) (rest : List (Bor (List ℕ))) →
    words ≡ first ∷ rest → ((slot : ℕ) → first.now ≡ (48 + slot) ∷ [] → slot ≤ 9 → ⊥) → (step : HubStep) →
    ¬ (SaysAt (texts words) step)
no_at_slot words first rest e none =
    no_at (texts words) (λ slot Holds. no_slot_first words first rest Holds e (λ s is. none s is.0 is.1) slot)

-- neither an event of a slot nor a settle is after it
pub no_at_line : (words : List (Bor (List ℕ))) (first : Bor (List ℕ)) (rest : List (Bor (List ℕ))) →
    words ≡ first ∷ rest → ((event : SlotEvent) → ¬ (SaysEvent (texts rest) (event_of event))) →
    ¬ (texts rest ≡ codes "settle" ∷ []) → (step : HubStep) → ¬ (SaysAt (texts words) step)
no_at_line words first rest e none settle (Event (Of slot event)) said =
    none_after words first rest (λ (line : List (List ℕ)). SaysEvent line (event_of event)) e (none event) slot said
no_at_line words first rest e none settle (Settle slot) said =
    none_after words first rest (λ (line : List (List ℕ)). line ≡ codes "settle" ∷ []) e settle slot said
no_at_line words first rest e none settle (Event (Fill rect colour)) said = absurd said
no_at_line words first rest e none settle (Event (Put x y row)) said = absurd said
no_at_line words first rest e none settle (Event (Copy rect sx sy)) said = absurd said
no_at_line words first rest e none settle (Event (Hint rect sx sy)) said = absurd said
no_at_line words first rest e none settle (Event (Join slot setup)) said = absurd said
no_at_line words first rest e none settle (Event (Leave slot)) said = absurd said
no_at_line words first rest e none settle (Event (Foreign slot bytes)) said = absurd said

-- nothing is after it
pub no_at_end : (words : List (Bor (List ℕ))) (first : Bor (List ℕ)) (rest : List (Bor (List ℕ))) →
    words ≡ first ∷ rest → length rest ≡ 0 → (step : HubStep) → ¬ (SaysAt (texts words) step)
no_at_end words first rest e none =
    let empty = no_texts rest none in
    no_at_line words first rest e (λ event. rw empty (no_slot_words event))
    (λ settle. nothing (codes "settle") [] (sym empty ∙ settle))

-- ---- no line has nine words

pub too_many_for_hub : (words : List (List ℕ)) → 8 < length words → (size : Size) → ¬ (SaysHub words size)
too_many_for_hub words many size said =
    let a = ap (λ (l : List (List ℕ)). length l) said.1 in
    let b = ap (λ (l : List (List ℕ)). length l) said.2.2 in
    omega (arith, a, b, many)

pub too_many_for_show : (words : List (List ℕ)) → 8 < length words → (slot : ℕ) → ¬ (SaysShow words slot)
too_many_for_show words many slot said =
    let a = ap (λ (l : List (List ℕ)). length l) said.1 in
    let b = ap (λ (l : List (List ℕ)). length l) said.2.1 in
    omega (arith, a, b, many)

-- ---- foreign bytes

pub eq_of_ne : (b r : Bool) → r ≡ not b → r ≡ false → b ≡ true
eq_of_ne true r is none = refl
eq_of_ne false r is none = let e : true ≡ false = sym is ∙ none in cc

pub foreign_found : (words : List (Bor (List ℕ))) (first : Bor (List ℕ)) (rest : List (Bor (List ℕ))) (slot : ℕ)
    (bytes : List ℕ) → words ≡ first ∷ rest → bytes_eq first.now (codes "foreign") ≡ true →
    AreForeign (texts rest) slot bytes → Begins (codes "foreign") (texts words) (λ r. AreForeign r slot bytes)
foreign_found words first rest slot bytes e same are =
    (texts rest, words_are words first rest (codes "foreign") e same, are)

pub foreign_none : (words : List (Bor (List ℕ))) (first : Bor (List ℕ)) (rest : List (Bor (List ℕ))) →
    words ≡ first ∷ rest → bytes_eq first.now (codes "foreign") ≡ true →
    ((slot : ℕ) (bytes : List ℕ) → ¬ (AreForeign (texts rest) slot bytes)) → (step : HubStep) →
    ¬ (SaysHubStep (texts words) step)
foreign_none words first rest e same none step said =
    no_step_of first.now (codes "foreign") (texts rest) same (hub_foreign (texts rest) none) step
    (subst (λ (ws : List (List ℕ)). SaysHubStep ws step) (split_texts words first rest e) said)
