use Rattle.rfb_picture.specs.Grid.{at_or}
use Rattle.rfb_server.proofs.RecordLemmas.{IsPut}
use Rattle.rfb_server.proofs.record.taking.put_from.Given as goal

abbrev pub invariant-loop-line : goal.invariant-loop-line
invariant-loop-line l = IsPut l.rect l.line (λ x y. at_or l.other x y 0) l.initial.pixels l.pixels
