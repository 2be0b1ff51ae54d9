use Rattle.rfb_codec.proofs.RectangleLemmas.{same_rectangle}
use Rattle.rfb_codec.proofs.painter.rectangle.Rectangle.by_format.Goals as goal

pub returns : goal.returns
returns c = same_rectangle c.args.self.now c.args.format c.requires _ _
