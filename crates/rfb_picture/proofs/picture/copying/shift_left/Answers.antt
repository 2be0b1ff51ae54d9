use Rattle.std.proofs.Common.{arith, inl}
use Rattle.rfb_picture.proofs.ShiftLemmas.{left_more}
use Rattle.rfb_picture.proofs.picture.copying.shift_left.Goals as goal

pub loop-done-preserved : goal.loop-done-preserved
loop-done-preserved g c =
    let l = c.loop-done in
    record {
      within = omega arith;
      moved = left_more c.args.from c.args.to l.done 16 c.args.places.now l.places c.move_piece.new.places
          (inl c.requires.order) l.invariant.moved c.move_piece.ensures;
      len = omega arith;
    }
