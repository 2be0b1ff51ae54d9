use Rattle.std.proofs.Common.{◌∙◌, arith}
use Rattle.std.proofs.lemmas.List.{length-set}
use Rattle.rfb_codec.proofs.RuleLemmas.{rows_more}
use Rattle.rfb_codec.proofs.choice.cover.others_of.Goals as goal

pub loop-y-preserved : goal.loop-y-preserved
loop-y-preserved c = record {
  long = length-set c.loop-y.rows c.loop-y.y c.others_in.result ∙ c.loop-y.invariant.long;
  told = rows_more c.args.width c.args.height c.loop-y.y c.args.pixels.now c.args.background c.others_in.result
      c.loop-y.rows c.requires.whole (omega arith) (omega arith) c.others_in.ensures c.loop-y.invariant.told;
}
