use Rattle.std.proofs.Common.{ℕ, slice_index_or}
use Rattle.rfb_picture.proofs.SettleLemmas.{column_swapped}
use Rattle.rfb_picture.proofs.picture.lines.swap_lines.Goals as goal

pub loop-x-preserved : goal.loop-x-preserved
loop-x-preserved g c = λ x line d p.
    column_swapped c.args.width c.args.a c.args.b c.loop-x.x x line
    (λ (k : ℕ). slice_index_or c.args.places.now k d)
    (λ (k : ℕ). slice_index_or c.loop-x.places k d)
    (λ (k : ℕ). slice_index_or c.swap.new.self k d)
    c.loop-x-test.true p
    (c.swap.ensures.by_index.0 d) (c.swap.ensures.by_index.1 d) (λ k m n. c.swap.ensures.by_index.2 k d m n)
    (λ line. c.loop-x.invariant x line d p)
