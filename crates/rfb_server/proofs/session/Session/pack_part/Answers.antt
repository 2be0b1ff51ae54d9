use Rattle.std.proofs.Common.{◌∙◌, map, ap}
use Rattle.rfb_pixel.specs.Format.{pixel_of}
use Rattle.rfb_server.proofs.session.Session.pack_part.Goals as goal

pub returns-clause-value : goal.returns-clause-value
returns-clause-value c = c.pack_row.ensures.value ∙ ap (map (pixel_of c.args.self.now.format)) c.row.ensures.value
