use Rattle.rfb_codec.specs.RectData.{data_says, rect_data}
use Rattle.rfb_wire.proofs.stream_laws.ReadingLaws.{reads_one}
use Rattle.rfb_codec.proofs.RectDataLaws.{rect_data_reads}
use Rattle.rfb_codec.proofs.law.data_are_spelled.Goals as goal

pub returns-clause-reads : goal.returns-clause-reads
returns-clause-reads c = λ f width height rect encoding. rect_data_reads f width height rect encoding

pub returns-clause-apart : goal.returns-clause-apart
returns-clause-apart c = λ f width height rect encoding contents other front rest one two.
    reads_one (rect_data f width height rect encoding) (data_says f width height rect encoding)
    (rect_data_reads f width height rect encoding) contents other front rest one two
