use Rattle.std.proofs.Common.{ℕ, ◌≡◌, ◌≤◌, ◌+◌, ◌-◌, ◌⊎◌, inl, inr, subst, arith}
use Rattle.rfb_picture.specs.layout.Runs.{RunCopied}
use Rattle.rfb_picture.proofs.ShiftLemmas.{left_more}
use Rattle.rfb_picture.proofs.picture.copying.copy_apart.Goals as goal

pub loop-done-preserved : goal.loop-done-preserved
loop-done-preserved g c =
    let l = c.loop-done in
    let beside : (c.args.to ≤ c.args.from) ⊎ (c.args.from + (l.done + 1280) ≤ c.args.to) =
    elim c.requires.apart [
      | inl left ↦ inl (omega arith)
      | inr before ↦ inr (omega arith)
    ] in
    record {
      within = omega arith;
      moved = left_more c.args.from c.args.to l.done 1280 c.args.places.now l.places c.copy_run.new.places
          beside l.invariant.moved c.copy_run.ensures;
      len = omega arith;
    }

pub returns : goal.returns
returns g c =
    let l = c.loop-done in
    let rest = c.args.count - l.done in
    let new = c.copy_run-2.new.places in
    let all : l.done + rest ≡ c.args.count = omega (arith, l.invariant.within) in
    let beside : (c.args.to ≤ c.args.from) ⊎ (c.args.from + (l.done + rest) ≤ c.args.to) =
    elim c.requires.apart [
      | inl left ↦ inl (omega arith)
      | inr before ↦ inr (omega arith)
    ] in
    subst (λ (n : ℕ). RunCopied c.args.from c.args.to n c.args.places.now new) all
    (left_more c.args.from c.args.to l.done rest c.args.places.now l.places new beside
    l.invariant.moved c.copy_run-2.ensures)
