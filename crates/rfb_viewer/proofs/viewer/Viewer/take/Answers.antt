use Rattle.rfb_viewer.proofs.PlaceLemmas.{first_steps}
use Rattle.rfb_viewer.proofs.viewer.Viewer.take.Goals as goal

pub returns-in-Handshake : goal.returns-in-Handshake
returns-in-Handshake c =
    first_steps c.args.self.now c.greet.new.self c.args.bytes.now c.greet.result c.requires.some c.in-Handshake.is
    c.greet.ensures
