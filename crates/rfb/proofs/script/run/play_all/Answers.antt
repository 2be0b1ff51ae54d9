use Rattle.std.proofs.Common.{◌≡◌, ◌+◌, ◌∙◌, ◌∷◌, [], ◌++◌, List, ap, subst, sym, take, arith}
use Rattle.std.proofs.lemmas.List.{take_all, take_more}
use Rattle.rfb_session.specs.World.{Reaches}
use Rattle.rfb_session.proofs.RunLaws.{Any, run_none}
use Rattle.rfb.specs.declared.script.line.Numbered.{Numbered}
use Rattle.rfb.specs.ScriptRun.{all_events}
use Rattle.rfb.proofs.PlayingLemmas.{step_more}
use Rattle.rfb.proofs.script.run.play_all.Goals as goal

pub loop-numbered-init : goal.loop-numbered-init
loop-numbered-init g c = run_none c.args.world.now

pub loop-numbered-preserved : goal.loop-numbered-preserved
loop-numbered-preserved g c =
    let steps = c.args.steps.now in
    let before = take c.loop-numbered.numbered-index steps in
    let more : take (c.loop-numbered.numbered-index + 1) steps ≡ before ++ c.numbered-item.result ∷ [] =
    take_more steps c.loop-numbered.numbered-index c.numbered-item.result (omega arith)
    ∙ ap (λ (s : Numbered). before ++ s ∷ []) (sym c.numbered-item.is) in
    step_more c.args.world.now c.loop-numbered.world c.play.new.world before (take (c.loop-numbered.numbered-index + 1)
    steps) c.numbered-item.result more c.loop-numbered.invariant c.in_ok-refused.ensures.taken

pub returns : goal.returns
returns g c =
    let all = take_all c.loop-numbered.numbered-index c.args.steps.now (omega arith) in
    subst (λ (l : List Numbered). Reaches c.args.world.now (all_events l) c.loop-numbered.world Any)
    all c.loop-numbered.invariant
