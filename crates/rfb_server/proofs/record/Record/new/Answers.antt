use Rattle.std.proofs.Common.{◌∙◌, rules}
use Rattle.rfb_picture.proofs.GridLaws.{whole-uniform}
use Rattle.rfb_server.proofs.RecordLemmas.{width-record_of, height-record_of, record-none}
use Rattle.rfb_server.proofs.record.Record.new.Goals as goal

pub invariant_of-result : goal.invariant_of-result
invariant_of-result c = record {
  whole = rw (c.in_ok-pixels.ensures.value) (whole-uniform c.args.width c.args.height 0);
  area = search rules;
  wide = search rules;
  high = search rules;
}

pub returns-clause-value : goal.returns-clause-value
returns-clause-value c =
    rw (c.in_ok-known.ensures.value)
    (record-none _ c.args.width c.args.height c.in_ok-pixels.ensures.width c.in_ok-pixels.ensures.height)

pub returns-clause-width : goal.returns-clause-width
returns-clause-width c = width-record_of _ _ ∙ c.in_ok-pixels.ensures.width

pub returns-clause-height : goal.returns-clause-height
returns-clause-height c = height-record_of _ _ ∙ c.in_ok-pixels.ensures.height
