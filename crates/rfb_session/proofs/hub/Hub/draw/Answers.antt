use Rattle.rfb_server.specs.Strokes.{stroke}
use Rattle.rfb_session.proofs.HubRunLemmas.{stands_drawn}
use Rattle.rfb_session.proofs.hub.Hub.draw.Goals as goal

pub returns-clause-stands : goal.returns-clause-stands
returns-clause-stands c = stands_drawn c.args.self.now c.drawn.new.self
    (stroke c.args.drawing.now) c.drawn.result c.drawn.ensures
