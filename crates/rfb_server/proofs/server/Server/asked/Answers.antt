use Rattle.std.proofs.Common.{ap, sym, ◌∙◌}
use Rattle.rfb_picture.specs.Area.{Places}
use Rattle.rfb_server.proofs.server.Server.asked.Goals as goal

pub returns-clause-columns : goal.returns-clause-columns
returns-clause-columns c =
    let server = c.args.self.now in
    ap (λ (area : Places). area.asked.width) c.asked.ensures.value
    ∙ (server.session.alike.area_wide ∙ sym server.follows.alike.columns)

pub returns-clause-rows : goal.returns-clause-rows
returns-clause-rows c =
    let server = c.args.self.now in
    ap (λ (area : Places). area.asked.height) c.asked.ensures.value
    ∙ (server.session.alike.area_high ∙ sym server.follows.alike.rows)
