use Rattle.std.proofs.Common.{refl, ℕ, List}
use Rattle.rfb.specs.HubScript.{AreSetup}
use Rattle.rfb.proofs.HubWordLemmas.{is_after, is_setup, no_join, no_setup_kind, no_setup_wants, no_setup_words}
use Rattle.rfb.proofs.HubWordLemmas.{no_slot_first, nothing_after}
use Rattle.rfb.proofs.script.hub.slot.read_join.Goals as goal

pub returns-in_err-wants : goal.returns-in_err-wants
returns-in_err-wants c =
    rw c.from_residual-in_err-wants.ensures
    (no_join c.in_ok-slot.ensures.cases.0 (no_setup_wants c.in_ok-kind.ensures.cases.0 c.in_err-wants.ensures))

pub returns : goal.returns
returns c =
    let wants = c.in_ok-wants.wants in
    is_after c.args.words.now c.in_ok-slot.slot.now c.in_ok-slot.words.now (λ (l : List (List ℕ)). AreSetup l _)
    c.in_ok-slot-2.slot c.in_ok-slot.ensures.cases.0 c.in_ok-slot-2.ensures
    (is_setup c.in_ok-slot.words.now c.in_ok-kind.kind.now c.in_ok-kind.words.now _ wants c.in_ok-kind.ensures.cases.0
    c.in_ok-shared.ensures c.in_ok-wants.ensures
    (record { format = refl; encodings = refl; limit = refl; max_places = refl; text_limit = refl }))

pub returns-in_err-slot-2 : goal.returns-in_err-slot-2
returns-in_err-slot-2 c =
    rw c.from_residual-in_err-slot-2.ensures
    (λ slot setup. no_slot_first c.args.words.now c.in_ok-slot.slot.now c.in_ok-slot.words.now
    (λ (l : List (List ℕ)). AreSetup l setup) c.in_ok-slot.ensures.cases.0 c.in_err-slot-2.ensures slot)

pub returns-in_err-shared : goal.returns-in_err-shared
returns-in_err-shared c =
    rw c.from_residual-in_err-shared.ensures
    (no_join c.in_ok-slot.ensures.cases.0 (no_setup_kind c.in_ok-kind.ensures.cases.0 c.in_err-shared.ensures))

pub returns-in_err-slot : goal.returns-in_err-slot
returns-in_err-slot c =
    rw c.from_residual.ensures (λ slot setup. nothing_after c.args.words.now (λ (l : List (List ℕ)). AreSetup l setup)
    c.in_err-slot.ensures.cases slot)

pub returns-in_err-kind : goal.returns-in_err-kind
returns-in_err-kind c =
    rw c.from_residual-in_err-kind.ensures
    (no_join c.in_ok-slot.ensures.cases.0 (no_setup_words c.in_ok-slot.words.now c.in_err-kind.ensures.cases))
