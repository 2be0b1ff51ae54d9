use Rattle.std.proofs.Common.{arith, ◌∙◌, not, Some, Option, List, ℕ, ap, refl, sym, subst, inl, inr}
use Rattle.std.proofs.lemmas.Iterator.Consumers.{YieldsList-from_first, YieldsList-turn, YieldsList-end}
use Rattle.std.proofs.lemmas.List.{length_push}
use Rattle.rfb_session.specs.declared.language.screen.Screen.{Screen as Size}
use Rattle.rfb.specs.HubScript.{AreHubScript, IsWithoutShow}
use Rattle.rfb.specs.declared.script.parting.Lines.{Lines}
use Rattle.rfb.specs.Script.{lines_of, lines_left}
use Rattle.rfb_session.specs.language.Words.{texts}
use Rattle.rfb.proofs.LinesLemmas.{no_chars, some_chars}
use Rattle.rfb.proofs.HubLineLemmas.{ReadHub, line_after_more, line_after_more_chars, hub_bad_after, hub_bad_size}
use Rattle.rfb.proofs.HubLineLemmas.{hub_bad_step, hub_blank, hub_show, hub_size, hub_step}
use Rattle.rfb.proofs.HubLineLemmas.{without_show}
use Rattle.rfb.proofs.OrderLemmas.{first_bad_line}
use Rattle.rfb.proofs.script.hub.read_hub_script.Goals as goal

pub loop-line-preserved-then-is_empty : goal.loop-line-preserved-then-is_empty
loop-line-preserved-then-is_empty c =
    let l = c.loop-line in
    let line = c.in-Some.line in
    let none = no_chars line.now c.is_empty.result c.is_empty.ensures c.if-is_empty.true in
    record {
      count = omega (arith, l.invariant.count, length_push l.yielded line);
      after = line_after_more l.yielded line l.number l.invariant.count none;
      so_far = hub_blank l.yielded line l.screen l.steps.items l.shown l.invariant.so_far none;
    }

pub returns-then-is_some-clause-stopped : goal.returns-then-is_some-clause-stopped
returns-then-is_some-clause-stopped c =
    let l = c.loop-line in
    let line = c.in-Some.line in
    let some = some_chars line.now c.is_empty.result c.is_empty.ensures c.if-is_empty.false in
    let bad = hub_bad_after (texts l.yielded) line.now l.screen l.steps.items l.shown some l.invariant.so_far
    (sym c.is_some.ensures ∙ c.if-is_some.true) in
    inl (first_bad_line {u = c.next.new.self} (lines_of c.args.text.now) l.yielded line l.number
    (YieldsList-from_first (λ x. x.now) (λ (lines : Lines). lines_left lines.rest) (lines_of c.args.text.now) (cc))
    l.yielded_by c.in-Some.is c.next.ensures.steps l.invariant.count bad)

pub returns-in_default-clause-stopped : goal.returns-in_default-clause-stopped
returns-in_default-clause-stopped c =
    let l = c.loop-line in
    let line = c.in-Some.line in
    let some = some_chars line.now c.is_empty.result c.is_empty.ensures c.if-is_empty.false in
    let bad = hub_bad_size (texts l.yielded) line.now l.screen l.steps.items l.shown some l.invariant.so_far
    (c.is_none.ensures ∙ ap not c.if-is_none.true) c.in_default.ensures in
    inl (first_bad_line {u = c.next.new.self} (lines_of c.args.text.now) l.yielded line l.number
    (YieldsList-from_first (λ x. x.now) (λ (lines : Lines). lines_left lines.rest) (lines_of c.args.text.now) (cc))
    l.yielded_by c.in-Some.is c.next.ensures.steps l.invariant.count bad)

pub loop-line-preserved-then-is_none : goal.loop-line-preserved-then-is_none
loop-line-preserved-then-is_none c =
    let l = c.loop-line in
    let line = c.in-Some.line in
    let some = some_chars line.now c.is_empty.result c.is_empty.ensures c.if-is_empty.false in
    record {
      count = omega (arith, l.invariant.count, length_push l.yielded line);
      after = line_after_more_chars l.yielded line l.number l.invariant.count some;
      so_far = hub_size l.yielded line l.screen c.in-Some-read_hub.size l.steps.items l.shown l.invariant.so_far
          (c.is_none.ensures ∙ ap not c.if-is_none.true) c.in-Some-read_hub.ensures;
    }

pub loop-line-preserved-in-Some-read_show : goal.loop-line-preserved-in-Some-read_show
loop-line-preserved-in-Some-read_show c =
    let l = c.loop-line in
    let line = c.in-Some.line in
    let some = some_chars line.now c.is_empty.result c.is_empty.ensures c.if-is_empty.false in
    record {
      count = omega (arith, l.invariant.count, length_push l.yielded line);
      after = line_after_more_chars l.yielded line l.number l.invariant.count some;
      so_far = hub_show l.yielded line l.screen l.steps.items l.shown c.in-Some-read_show.slot l.invariant.so_far
          (c.is_none.ensures ∙ ap not c.if-is_none.false) (sym c.is_some.ensures ∙ c.if-is_some.false)
          c.in-Some-read_show.ensures;
    }

pub loop-line-preserved : goal.loop-line-preserved
loop-line-preserved c =
    let l = c.loop-line in
    let line = c.in-Some.line in
    let some = some_chars line.now c.is_empty.result c.is_empty.ensures c.if-is_empty.false in
    record {
      count = omega (arith, l.invariant.count, length_push l.yielded line);
      after = line_after_more_chars l.yielded line l.number l.invariant.count some;
      so_far = rw c.in_ok-push-in-Some-2.ensures.items (hub_step l.yielded line l.number l.screen
          l.steps.items _ l.shown l.invariant.count l.invariant.so_far (c.is_none.ensures ∙ ap not c.if-is_none.false)
          (sym c.is_some.ensures ∙ c.if-is_some.false) some refl (rw c.in-Some-2.is at c.in_ok-step.ensures));
    }

pub returns-in-None-2-clause-stopped : goal.returns-in-None-2-clause-stopped
returns-in-None-2-clause-stopped c =
    let l = c.loop-line in
    let line = c.in-Some.line in
    let some = some_chars line.now c.is_empty.result c.is_empty.ensures c.if-is_empty.false in
    let bad = hub_bad_step (texts l.yielded) line.now l.screen l.steps.items l.shown some
    l.invariant.so_far (c.is_none.ensures ∙ ap not c.if-is_none.false) (sym c.is_some.ensures ∙ c.if-is_some.false)
    (rw c.in-None-2.is at c.in_ok-step.ensures) c.in_default-read_show.ensures in
    inl (first_bad_line {u = c.next.new.self} (lines_of c.args.text.now) l.yielded line l.number
    (YieldsList-from_first (λ x. x.now) (λ (lines : Lines). lines_left lines.rest) (lines_of c.args.text.now) (cc))
    l.yielded_by c.in-Some.is c.next.ensures.steps l.invariant.count bad)

pub returns-in-Some-shown-clause-read : goal.returns-in-Some-shown-clause-read
returns-in-Some-shown-clause-read c =
    let l = c.loop-line in
    let end = YieldsList-end (YieldsList-from_first (λ x. x.now) (λ (lines : Lines). lines_left lines.rest)
    (lines_of c.args.text.now) (cc)) l.yielded _ l.yielded_by _ c.next.new.self c.in-None.is c.next.ensures.steps in
    let size = c.in-Some-screen.screen in
    let one = subst (λ (s : Option Size). ReadHub (texts l.yielded) s l.steps.items l.shown)
    c.in-Some-screen.is l.invariant.so_far in
    let two : AreHubScript (texts l.yielded) size l.steps.items c.in-Some-shown.shown =
    subst (λ (o : Option ℕ). ReadHub (texts l.yielded) (Some size) l.steps.items o) c.in-Some-shown.is one in
    subst (λ (lines : List (List ℕ)). AreHubScript lines size l.steps.items c.in-Some-shown.shown) end.0 two

pub returns-in-None-shown-clause-stopped : goal.returns-in-None-shown-clause-stopped
returns-in-None-shown-clause-stopped c =
    let l = c.loop-line in
    let end = YieldsList-end (YieldsList-from_first (λ x. x.now) (λ (lines : Lines). lines_left lines.rest)
    (lines_of c.args.text.now) (cc)) l.yielded _ l.yielded_by _ c.next.new.self c.in-None.is c.next.ensures.steps in
    inr (subst (λ (lines : List (List ℕ)). IsWithoutShow lines l.after) end.0 (without_show (texts l.yielded) l.screen
    l.steps.items l.shown l.after l.invariant.so_far (inr c.in-None-shown.is) l.invariant.after))

pub returns-in-None-screen-clause-stopped : goal.returns-in-None-screen-clause-stopped
returns-in-None-screen-clause-stopped c =
    let l = c.loop-line in
    let end = YieldsList-end (YieldsList-from_first (λ x. x.now) (λ (lines : Lines). lines_left lines.rest)
    (lines_of c.args.text.now) (cc)) l.yielded _ l.yielded_by _ c.next.new.self c.in-None.is c.next.ensures.steps in
    inr (subst (λ (lines : List (List ℕ)). IsWithoutShow lines l.after) end.0 (without_show (texts l.yielded) l.screen
    l.steps.items l.shown l.after l.invariant.so_far (inl c.in-None-screen.is) l.invariant.after))

pub overflow_add-number : goal.overflow_add-number
overflow_add-number c =
    let l = c.loop-line in
    let turn = YieldsList-turn (YieldsList-from_first (λ x. x.now) (λ (lines : Lines). lines_left lines.rest)
    (lines_of c.args.text.now) (cc)) l.yielded _ l.yielded_by _ c.next.new.self c.in-Some.line c.in-Some.is
    c.next.ensures.steps in
    omega (arith, turn.0, l.invariant.count, c.lines_in-line-items.ensures.few)

pub overflow_add-after : goal.overflow_add-after
overflow_add-after c =
    let l = c.loop-line in
    let turn = YieldsList-turn (YieldsList-from_first (λ x. x.now) (λ (lines : Lines). lines_left lines.rest)
    (lines_of c.args.text.now) (cc)) l.yielded _ l.yielded_by _ c.next.new.self c.in-Some.line c.in-Some.is
    c.next.ensures.steps in
    omega (arith, turn.0, l.invariant.count, c.lines_in-line-items.ensures.few)
