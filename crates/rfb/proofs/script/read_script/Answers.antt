use Rattle.std.proofs.Common.{arith, ◌∙◌, not, None, Option, List, ℕ, ap, refl, sym, subst, inl, inr, is_some}
use Rattle.std.proofs.lemmas.Iterator.Consumers.{YieldsList-from_first, YieldsList-turn, YieldsList-end}
use Rattle.std.proofs.lemmas.List.{length_push}
use Rattle.rfb_session.specs.declared.language.screen.Screen.{Screen as Size}
use Rattle.rfb.specs.declared.script.line.Wants.{Wants}
use Rattle.rfb.specs.declared.script.parting.Lines.{Lines}
use Rattle.rfb.specs.Lines.{AreEmpty}
use Rattle.rfb.specs.Script.{lines_of, AreScript, lines_left}
use Rattle.rfb_session.specs.language.Words.{texts}
use Rattle.rfb.proofs.LinesLemmas.{ReadSoFar, no_chars, some_chars, step_so_far, turn_blank, turn_size, turn_wants}
use Rattle.rfb.proofs.LinesLemmas.{bad_size, bad_step}
use Rattle.rfb.proofs.OrderLemmas.{first_bad_line}
use Rattle.rfb.proofs.script.read_script.Goals as goal

pub loop-line-preserved-then-is_empty : goal.loop-line-preserved-then-is_empty
loop-line-preserved-then-is_empty c =
    let l = c.loop-line in
    let none = no_chars c.in-Some.line.now c.is_empty.result c.is_empty.ensures c.if-is_empty.true in
    let turn = turn_blank l.yielded c.in-Some.line l.number l.screen l.wants l.steps.items
    l.invariant.count l.invariant.so_far none in
    record { count = turn.0; so_far = turn.1 }

pub loop-line-preserved-then-is_none : goal.loop-line-preserved-then-is_none
loop-line-preserved-then-is_none c =
    let l = c.loop-line in
    let turn = turn_size l.yielded c.in-Some.line l.number l.screen c.in-Some-read_screen.size l.wants
    l.steps.items l.invariant.count l.invariant.so_far (c.is_none.ensures ∙ ap not c.if-is_none.true)
    c.in-Some-read_screen.ensures in
    record { count = turn.0; so_far = turn.1 }

pub loop-line-preserved-in-Some-read_second : goal.loop-line-preserved-in-Some-read_second
loop-line-preserved-in-Some-read_second c =
    let l = c.loop-line in
    let said = c.in-Some-read_second.ensures in
    let turn = turn_wants l.yielded c.in-Some.line l.number l.screen l.wants c.in-Some-read_second.wanted l.steps.items
    l.invariant.count l.invariant.so_far (c.is_none.ensures ∙ ap not c.if-is_none.false)
    (ap (λ (w : Option Wants). is_some w) said.0) (sym c.deref.ensures.value ∙ said.1) said.2 in
    record { count = turn.0; so_far = turn.1 }

pub loop-line-preserved : goal.loop-line-preserved
loop-line-preserved c =
    let l = c.loop-line in
    let some = some_chars c.in-Some.line.now c.is_empty.result c.is_empty.ensures c.if-is_empty.false in
    record {
      count = omega (arith, l.invariant.count, length_push l.yielded c.in-Some.line);
      so_far = rw c.in_ok-push.ensures.items
          (step_so_far l.yielded c.in-Some.line l.number l.screen l.wants l.steps.items _ l.invariant.count
          l.invariant.so_far (c.is_none.ensures ∙ ap not c.if-is_none.false) some refl c.in-Some-read_step.ensures);
    }

pub returns-in_default-clause-stopped : goal.returns-in_default-clause-stopped
returns-in_default-clause-stopped c =
    let l = c.loop-line in
    let line = c.in-Some.line in
    let some = some_chars line.now c.is_empty.result c.is_empty.ensures c.if-is_empty.false in
    let bad = bad_size (texts l.yielded) line.now l.screen l.wants l.steps.items some l.invariant.so_far
    (c.is_none.ensures ∙ ap not c.if-is_none.true) c.in_default.ensures in
    inl (first_bad_line {u = c.next.new.self} (lines_of c.args.text.now) l.yielded line l.number
    (YieldsList-from_first (λ x. x.now) (λ (lines : Lines). lines_left lines.rest) (lines_of c.args.text.now) (cc))
    l.yielded_by c.in-Some.is c.next.ensures.steps l.invariant.count bad)

pub returns-in_default-read_step-clause-stopped : goal.returns-in_default-read_step-clause-stopped
returns-in_default-read_step-clause-stopped c =
    let l = c.loop-line in
    let line = c.in-Some.line in
    let some = some_chars line.now c.is_empty.result c.is_empty.ensures c.if-is_empty.false in
    let bad = bad_step (texts l.yielded) line.now l.screen l.wants l.steps.items some l.invariant.so_far
    (c.is_none.ensures ∙ ap not c.if-is_none.false)
    (c.in_default-read_step.ensures, λ w s. c.in_default-read_second.ensures w (c.deref.ensures.value ∙ s)) in
    inl (first_bad_line {u = c.next.new.self} (lines_of c.args.text.now) l.yielded line l.number
    (YieldsList-from_first (λ x. x.now) (λ (lines : Lines). lines_left lines.rest) (lines_of c.args.text.now) (cc))
    l.yielded_by c.in-Some.is c.next.ensures.steps l.invariant.count bad)

pub returns-in-Some-screen-clause-read : goal.returns-in-Some-screen-clause-read
returns-in-Some-screen-clause-read c =
    let l = c.loop-line in
    let end = YieldsList-end (YieldsList-from_first (λ x. x.now) (λ (lines : Lines). lines_left lines.rest)
    (lines_of c.args.text.now) (cc)) l.yielded _ l.yielded_by _ c.next.new.self c.in-None.is c.next.ensures.steps in
    let read : AreScript (texts l.yielded) c.in-Some-screen.screen l.wants l.steps.items = subst (λ (s : Option Size).
    ReadSoFar (texts l.yielded) s l.wants l.steps.items) c.in-Some-screen.is l.invariant.so_far in
    subst (λ (lines : List (List ℕ)). AreScript lines c.in-Some-screen.screen l.wants l.steps.items) end.0 read

pub returns-in-None-screen-clause-stopped : goal.returns-in-None-screen-clause-stopped
returns-in-None-screen-clause-stopped c =
    let l = c.loop-line in
    let end = YieldsList-end (YieldsList-from_first (λ x. x.now) (λ (lines : Lines). lines_left lines.rest)
    (lines_of c.args.text.now) (cc)) l.yielded _ l.yielded_by _ c.next.new.self c.in-None.is c.next.ensures.steps in
    let read : ReadSoFar (texts l.yielded) None l.wants l.steps.items = subst (λ (s : Option Size).
    ReadSoFar (texts l.yielded) s l.wants l.steps.items) c.in-None-screen.is l.invariant.so_far in
    inr (subst (λ (lines : List (List ℕ)). AreEmpty lines) end.0 read.0, l.invariant.count ∙ end.1)

pub overflow_add-number : goal.overflow_add-number
overflow_add-number c =
    let l = c.loop-line in
    let turn = YieldsList-turn (YieldsList-from_first (λ x. x.now) (λ (lines : Lines). lines_left lines.rest)
    (lines_of c.args.text.now) (cc)) l.yielded _ l.yielded_by _ c.next.new.self c.in-Some.line c.in-Some.is
    c.next.ensures.steps in
    omega (arith, turn.0, l.invariant.count, c.lines_in-line-items.ensures.few)
