use Rattle.std.proofs.Common.{◌≡◌, true, false, subst, List, ℕ}
use Rattle.std.proofs.lemmas.Iterator.Consumers.{YieldsList-from_first, YieldsList-turn, YieldsList-so_far}
use Rattle.std.proofs.lemmas.Iterator.Consumers.{YieldsList-end}
use Rattle.rfb.specs.declared.script.parting.Lines.{Lines}
use Rattle.rfb.specs.Lines.{AreEmpty}
use Rattle.rfb.specs.Script.{lines_of, lines_left}
use Rattle.rfb.proofs.LinesLemmas.{some_chars}
use Rattle.rfb.proofs.HubLineLemmas.{begins_by, is_first_line, none_begins}
use Rattle.rfb.proofs.script.hub.begins_hub.Goals as goal

pub returns-then-not-is_empty : goal.returns-then-not-is_empty
returns-then-not-is_empty c =
    let l = c.loop-line in
    let line = c.in-Some.line in
    let some = some_chars line.now c.is_empty.result c.is_empty.ensures c.if-not-is_empty.true in
    let turn = YieldsList-turn (YieldsList-from_first (λ x. x.now) (λ (lines : Lines). lines_left lines.rest)
    (lines_of c.args.text.now) (cc)) l.yielded _ l.yielded_by _ c.next.new.self line c.in-Some.is
    c.next.ensures.steps in
    let front = YieldsList-so_far (YieldsList-from_first (λ x. x.now) (λ (lines : Lines). lines_left lines.rest)
    (lines_of c.args.text.now) (cc)) l.yielded _ l.yielded_by in
    begins_by (lines_of c.args.text.now) line.now c.read_hub.result c.is_some.result (is_first_line
    (lines_of c.args.text.now) l.yielded line front turn l.invariant some) c.is_some.ensures c.read_hub.ensures

pub returns : goal.returns
returns c =
    let l = c.loop-line in
    let end = YieldsList-end (YieldsList-from_first (λ x. x.now) (λ (lines : Lines). lines_left lines.rest)
    (lines_of c.args.text.now) (cc)) l.yielded _ l.yielded_by _ c.next.new.self c.in-None.is c.next.ensures.steps in
    let none =
    none_begins (lines_of c.args.text.now) (subst (λ (lines : List (List ℕ)). AreEmpty lines) end.0 l.invariant) in
    (λ yes. let e : false ≡ true = yes in absurd (cc), λ begins. absurd (none begins))
