use Rattle.std.proofs.Common.{arith}
use Rattle.rfb_picture.proofs.TakenRowLemmas.{cells_more}
use Rattle.rfb_picture.proofs.place_set.layers.Layers.take_row.Goals as goal

pub loop-column-preserved : goal.loop-column-preserved
loop-column-preserved c =
    let l = c.loop-column in
    let before = c.in-Some.ensures.before in
    record {
      within = omega (arith, before);
      lost = cells_more c.args.row l.from c.in-Some.column c.args.other.now c.args.self.now l.self
          c.take_cell.new.self c.in-Some.ensures l.invariant.lost c.take_cell.ensures;
    }

pub returns : goal.returns
returns c = grind arith
