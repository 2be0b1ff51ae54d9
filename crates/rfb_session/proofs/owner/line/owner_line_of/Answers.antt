use Rattle.std.proofs.Common.{◌∙◌, refl, sym, codes}
use Rattle.rfb_session.specs.declared.owner.order.OwnerLine.{OwnerLine}
use Rattle.rfb_session.specs.language.Words.{IsSlotAlone, AreSize}
use Rattle.rfb_session.proofs.OwnerKeywordLemmas.{HoldAlone, QuitAlone, ShowAlone, alone_says, only_alone, only_end}
use Rattle.rfb_session.proofs.OwnerKeywordLemmas.{only_screen, owner_begins, owner_none}
use Rattle.rfb_session.proofs.OwnerLineLemmas.{no_first, owner_words}
use Rattle.rfb_session.proofs.owner.line.owner_line_of.Goals as goal

pub returns-in_err-read_size : goal.returns-in_err-read_size
returns-in_err-read_size c =
    rw c.from_residual-in_err-read_size.ensures (owner_none c.args.words.now c.in_ok-keyword.keyword.now
    c.in_ok-keyword.rest.now (codes "screen") c.in_ok-keyword.ensures.cases.0 (sym c.eq.ensures ∙ c.if-eq.true)
    (only_screen _ c.in_err-read_size.ensures))

pub returns-then-eq : goal.returns-then-eq
returns-then-eq c =
    owner_begins c.args.words.now c.in_ok-keyword.keyword.now c.in_ok-keyword.rest.now (codes "screen")
    (λ rest. AreSize rest c.in_ok-read_size.field-0) c.in_ok-keyword.ensures.cases.0
    (sym c.eq.ensures ∙ c.if-eq.true) c.in_ok-read_size.ensures

pub returns-in_err-read_only_slot : goal.returns-in_err-read_only_slot
returns-in_err-read_only_slot c =
    rw c.from_residual-in_err-read_only_slot.ensures
    (owner_none c.args.words.now c.in_ok-keyword.keyword.now c.in_ok-keyword.rest.now (codes "end")
    c.in_ok-keyword.ensures.cases.0 (sym c.eq-2.ensures ∙ c.if-eq-2.true)
    (only_end _ c.in_err-read_only_slot.ensures))

pub returns-then-eq-2 : goal.returns-then-eq-2
returns-then-eq-2 c =
    owner_begins c.args.words.now c.in_ok-keyword.keyword.now c.in_ok-keyword.rest.now (codes "end")
    (λ rest. IsSlotAlone rest c.in_ok-read_only_slot.field-0) c.in_ok-keyword.ensures.cases.0
    (sym c.eq-2.ensures ∙ c.if-eq-2.true) c.in_ok-read_only_slot.ensures

pub returns-then-eq-3 : goal.returns-then-eq-3
returns-then-eq-3 c =
    alone_says c.args.words.now c.in_ok-keyword.keyword.now c.in_ok-keyword.rest.now (codes "hold") OwnerLine.Hold
    c.alone.result c.in_ok-keyword.ensures.cases.0 (sym c.eq-3.ensures ∙ c.if-eq-3.true) refl
    (only_alone HoldAlone _) c.alone.ensures

pub returns-then-eq-4 : goal.returns-then-eq-4
returns-then-eq-4 c =
    alone_says c.args.words.now c.in_ok-keyword.keyword.now c.in_ok-keyword.rest.now (codes "show") OwnerLine.Show
    c.alone-then-eq-4.result c.in_ok-keyword.ensures.cases.0 (sym c.eq-4.ensures ∙ c.if-eq-4.true) refl
    (only_alone ShowAlone _) c.alone-then-eq-4.ensures

pub returns-then-eq-5 : goal.returns-then-eq-5
returns-then-eq-5 c =
    alone_says c.args.words.now c.in_ok-keyword.keyword.now c.in_ok-keyword.rest.now (codes "quit") OwnerLine.Quit
    c.alone-then-eq-5.result c.in_ok-keyword.ensures.cases.0 (sym c.eq-5.ensures ∙ c.if-eq-5.true) refl
    (only_alone QuitAlone _) c.alone-then-eq-5.ensures

pub returns-in_err-keyword : goal.returns-in_err-keyword
returns-in_err-keyword c =
    rw c.from_residual.ensures (no_first c.args.words.now c.in_err-keyword.ensures.cases)

pub returns : goal.returns
returns c =
    owner_words c.args.words.now c.in_ok-keyword.keyword.now c.in_ok-keyword.rest.now c.drawing_of.result
    c.in_ok-keyword.ensures.cases.0 c.drawing_of.ensures
