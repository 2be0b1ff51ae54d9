-- Words of a line of a hub's script: as many as they have to be, each for its value.
use Rattle.std.proofs.Common.{◌≡◌, ◌∙◌, ap, sym, subst, Bool, length, ℕ, List, ◌∷◌, Bor}
use Rattle.rfb_viewer.specs.declared.setup.ViewerSetup.{ViewerSetup as Setup}
use Rattle.rfb.specs.declared.script.line.Wants.{Wants}
use Rattle.rfb.specs.HubScript.{AreJoin, AreSetup, IsSlotThen, IsSetup, kind_of_join}
use Rattle.rfb_session.specs.language.Words.{IsSlotWord, texts}
use Rattle.rfb.specs.Words.{AreWants}
use Rattle.rfb_session.proofs.WordLaws.{heads, nothing, no_texts, tails}

-- ---- a slot, and what is after it

pub split_texts : (words : List (Bor (List ℕ))) (first : Bor (List ℕ)) (rest : List (Bor (List ℕ))) →
    words ≡ first ∷ rest → texts words ≡ first.now ∷ texts rest
split_texts words first rest e = ap (λ (ws : List (Bor (List ℕ))). texts ws) e

pub nothing_after : (words : List (Bor (List ℕ))) (Holds : List (List ℕ) → Type 0) → length words ≡ 0 → (slot : ℕ) →
    ¬ (IsSlotThen slot (texts words) Holds)
nothing_after words Holds none slot said = nothing said.0 said.1 (sym (no_texts words none) ∙ said.2)

pub no_slot_first : (words : List (Bor (List ℕ))) (first : Bor (List ℕ)) (rest : List (Bor (List ℕ)))
    (Holds : List (List ℕ) → Type 0) → words ≡ first ∷ rest → ((slot : ℕ) → ¬ (IsSlotWord first.now slot)) →
    (slot : ℕ) → ¬ (IsSlotThen slot (texts words) Holds)
no_slot_first words first rest Holds e none slot said =
    let same : first.now ≡ said.0 =
    heads first.now said.0 (texts rest) said.1 (sym (split_texts words first rest e) ∙ said.2) in
    none slot (rw same said.3)

pub none_after : (words : List (Bor (List ℕ))) (first : Bor (List ℕ)) (rest : List (Bor (List ℕ)))
    (Holds : List (List ℕ) → Type 0) → words ≡ first ∷ rest → ¬ (Holds (texts rest)) → (slot : ℕ) →
    ¬ (IsSlotThen slot (texts words) Holds)
none_after words first rest Holds e none slot said =
    none (subst (λ (r : List (List ℕ)). Holds r)
    (tails first.now said.0 (texts rest) said.1 (sym (split_texts words first rest e) ∙ said.2)) said.4)

pub is_after : (words : List (Bor (List ℕ))) (first : Bor (List ℕ)) (rest : List (Bor (List ℕ)))
    (Holds : List (List ℕ) → Type 0) (slot : ℕ) → words ≡ first ∷ rest → IsSlotWord first.now slot →
    Holds (texts rest) → IsSlotThen slot (texts words) Holds
is_after words first rest Holds slot e is holds = (first.now, texts rest, split_texts words first rest e, is, holds)

-- ---- what a viewer that joins is made with

-- words after a slot that are for no viewer
pub no_join : {words : List (Bor (List ℕ))} {first : Bor (List ℕ)} {rest : List (Bor (List ℕ))} →
    words ≡ first ∷ rest → ((setup : Setup) → ¬ (AreSetup (texts rest) setup)) → (slot : ℕ)
    (setup : Setup) → ¬ (AreJoin (texts words) slot setup)
no_join {words = words} {first = first} {rest = rest} e none slot setup =
    none_after words first rest (λ (l : List (List ℕ)). AreSetup l setup) e (none setup) slot

pub no_setup_words : (words : List (Bor (List ℕ))) → length words ≡ 0 → (setup : Setup) →
    ¬ (AreSetup (texts words) setup)
no_setup_words words none setup said =
    nothing (kind_of_join setup.shared) said.1.0 (sym (no_texts words none) ∙ said.1.1)

pub no_setup_kind : {words : List (Bor (List ℕ))} {first : Bor (List ℕ)} {rest : List (Bor (List ℕ))} →
    words ≡ first ∷ rest → ((shared : Bool) → ¬ (first.now ≡ kind_of_join shared)) → (setup : Setup) →
    ¬ (AreSetup (texts words) setup)
no_setup_kind {words = words} {first = first} {rest = rest} e none setup said =
    none setup.shared (heads first.now (kind_of_join setup.shared) (texts rest) said.1.0
    (sym (split_texts words first rest e) ∙ said.1.1))

pub no_setup_wants : {words : List (Bor (List ℕ))} {first : Bor (List ℕ)} {rest : List (Bor (List ℕ))} →
    words ≡ first ∷ rest → ((wants : Wants) → ¬ (AreWants (texts rest) wants)) → (setup : Setup) →
    ¬ (AreSetup (texts words) setup)
no_setup_wants {words = words} {first = first} {rest = rest} e none setup said =
    none said.0 (subst (λ (r : List (List ℕ)). AreWants r said.0) (tails first.now (kind_of_join setup.shared)
    (texts rest) said.1.0 (sym (split_texts words first rest e) ∙ said.1.1)) said.1.2)

pub is_setup : (words : List (Bor (List ℕ))) (first : Bor (List ℕ)) (rest : List (Bor (List ℕ))) (setup : Setup)
    (wants : Wants) → words ≡ first ∷ rest → first.now ≡ kind_of_join setup.shared → AreWants (texts rest) wants →
    IsSetup wants setup → AreSetup (texts words) setup
is_setup words first rest setup wants e kind are is =
    (wants, (texts rest, split_texts words first rest e ∙ ap (λ (w : List ℕ). w ∷ texts rest) kind, are), is)
