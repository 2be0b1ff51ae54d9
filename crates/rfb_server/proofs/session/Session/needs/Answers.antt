use Rattle.std.proofs.Common.{◌≡◌, ◌∙◌, None, true, sym}
use Rattle.rfb_picture.specs.Grid.{at_or}
use Rattle.rfb_picture.specs.Area.{asked_at, whole_at}
use Rattle.rfb_server.specs.Server.{black}
use Rattle.rfb_server.specs.Record.{is_known}
use Rattle.rfb_server.specs.Request.{wanted_at}
use Rattle.rfb_server.proofs.NeedingLemmas.{asked_other}
use Rattle.rfb_server.proofs.session.Session.needs.Goals as goal

pub returns : goal.returns
returns c =
    let screen = c.args.screen.now in
    let s = c.args.self.now in
    let x = c.args.x in
    let y = c.args.y in
    let known : is_known (at_or c.args.self.now.known c.args.x c.args.y None) ≡ true =
    sym (c.known.ensures.value x y c.requires.column c.requires.row)
    ∙ (sym c.is_asked-2.ensures ∙ c.if-not-is_asked-2.false) in
    rw (c.pack.ensures.value, c.at-2.ensures black)
    (asked_other (asked_at s.area x y) (whole_at s.area x y) (wanted_at screen s.format x y)
    c.at.result (at_or s.known x y None)
    (sym c.is_asked.ensures ∙ c.if-not-is_asked.false) (sym c.is_whole.ensures ∙ c.if-is_whole.false) known
    (λ pixel e. c.at.ensures 0 ∙ c.pixels.ensures.value x y pixel c.requires.column c.requires.row e))
