use Rattle.rfb_server.proofs.RecordLemmas.{IsPut, of_block}
use Rattle.rfb_server.proofs.record.taking.put_block.Given as goal

abbrev pub invariant-loop-line : goal.invariant-loop-line
invariant-loop-line l = IsPut l.rect l.line (of_block l.rect l.block) l.initial.pixels l.pixels
