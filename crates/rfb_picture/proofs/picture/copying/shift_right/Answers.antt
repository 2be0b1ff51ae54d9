use Rattle.std.proofs.Common.{◌≡◌, ℕ, ◌+◌, ◌-◌, subst, arith}
use Rattle.rfb_picture.specs.layout.Runs.{RunCopied}
use Rattle.rfb_picture.proofs.ShiftLemmas.{right_more}
use Rattle.rfb_picture.proofs.picture.copying.shift_right.Goals as goal

pub loop-left-preserved : goal.loop-left-preserved
loop-left-preserved g c =
    let l = c.loop-left in
    let old = c.args.places.now in
    let from = c.args.from + (l.left - 16) in
    let to = c.args.to + (l.left - 16) in
    let source : c.args.from + l.left ≡ from + 16 = omega arith in
    let target : c.args.to + l.left ≡ to + 16 = omega arith in
    let all : c.args.count - l.left + 16 ≡ c.args.count - (l.left - 16) = omega (arith, l.invariant.within) in
    let first = subst (λ (n : ℕ). RunCopied n (to + 16) (c.args.count - l.left) old l.places) source
    (subst (λ (n : ℕ). RunCopied (c.args.from + l.left) n (c.args.count - l.left) old l.places)
    target l.invariant.moved) in
    let new = c.move_piece.new.places in
    record {
      within = omega arith;
      moved = subst (λ (n : ℕ). RunCopied from to n old new) all
          (right_more from to (c.args.count - l.left) 16 old l.places new (omega arith) first c.move_piece.ensures);
      len = omega arith;
    }
