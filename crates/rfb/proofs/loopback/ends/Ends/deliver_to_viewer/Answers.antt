use Rattle.std.proofs.Common.{min, ◌≡◌, ◌∙◌, ◌+◌, ◌-◌, ◌≤◌, ap, refl, arith, length, length-take-le, take, drop}
use Rattle.std.proofs.lemmas.List.{drop-drop}
use Rattle.std.proofs.lemmas.Grind.{common_steps}
use Rattle.rfb.proofs.CrossingLemmas.{reaches_more, reaches_none}
use Rattle.rfb.proofs.DeliveryLemmas.{viewer_received}
use Rattle.rfb.proofs.loopback.ends.Ends.deliver_to_viewer.Goals as goal

pub loop-left-init : goal.loop-left-init
loop-left-init g c =
    let none : 0 ≡ c.min-wanted.result - c.min-wanted.result = omega arith in
    record {
      some = omega arith;
      other = refl;
      taken = ap (λ n. drop n c.args.self.now.to_viewer.items) none;
      reached = reaches_none viewer_received c.args.self.now.to_viewer.items _ _ _ c.args.self.now.viewer
          c.args.self.now.to_server.items none;
    }

pub loop-left-preserved : goal.loop-left-preserved
loop-left-preserved g c =
    let l = c.loop-left in
    let wanted = c.min-wanted.result in
    let taken = c.in_ok-taken.taken in
    let bytes = c.args.self.now.to_viewer.items in
    let some : taken ≤ l.left = c.in_ok-taken.ensures.count.1 in
    let more : (wanted - l.left) + taken ≡ wanted - (l.left - taken) =
    omega (arith, some, l.invariant.some) in
    let size : length (take taken c.take_some.new.part) ≡ taken =
    length-take-le taken c.take_some.new.part (omega (arith, c.take_some.array_long, c.in_ok-taken.ensures.count)) in
    record {
      some = omega (arith, l.invariant.some);
      other = l.invariant.other;
      taken = c.in_ok-taken.ensures.taken ∙ ap (drop taken) l.invariant.taken
          ∙ drop-drop taken (wanted - l.left) bytes ∙ ap (λ n. drop n bytes) more;
      reached =
          reaches_more viewer_received bytes _ _ _ (wanted - l.left) taken (wanted - (l.left - taken))
          _ _ _ _ _ _ _ _ _ _ _ _ l.invariant.taken c.in_ok-taken.ensures.part size more l.invariant.reached
          c.in_ok-reach_viewer.ensures;
    }

pub returns-clause-taken : goal.returns-clause-taken
returns-clause-taken g c =
    let l = c.loop-left in
    let whole : c.min-wanted.result - l.left ≡ min (length c.args.self.now.to_viewer.items) c.args.count =
    grind (arith, common_steps) in
    l.invariant.taken ∙ ap (λ n. drop n c.args.self.now.to_viewer.items) whole

pub returns-clause-reached : goal.returns-clause-reached
returns-clause-reached g c =
    let l = c.loop-left in
    let whole : c.min-wanted.result - l.left ≡ min (length c.args.self.now.to_viewer.items) c.args.count =
    grind (arith, common_steps) in
    rw whole at l.invariant.reached
