use Rattle.std.proofs.Common.{◌≡◌, ◌∙◌, ◌-◌, ap, arith}
use Rattle.rfb_picture.specs.Grid.{Grid}
use Rattle.rfb_picture.specs.Rect.{rect}
use Rattle.rfb_pixel.specs.declared.colour.Colour.{Colour}
use Rattle.rfb_server.specs.Model.{screen_of}
use Rattle.rfb.specs.Scene.{last_row}
use Rattle.rfb.proofs.SceneLemmas.{draws_so, draws_then, size_moved_up, stepped_is}
use Rattle.rfb.proofs.scene.draw_step.Goals as goal

pub fill-requires : goal.fill-requires
fill-requires c =
    let alike = size_moved_up (screen_of c.args.server.now) in
    let mid = screen_of c.move_up.new.server in
    let g = screen_of c.args.server.now in
    let columns : mid.width ≡ g.width =
    ap (λ (k : Grid Colour). k.width) c.move_up.ensures.drawn.screen_is ∙ alike.columns in
    let rows : mid.height ≡ g.height =
    ap (λ (k : Grid Colour). k.height) c.move_up.ensures.drawn.screen_is ∙ alike.rows in
    let w : c.width-w.result ≡ g.width = cc in
    let h : c.height-above.result ≡ g.height = cc in
    record { inside = (omega (arith, columns, w), omega (arith, rows, h, c.requires.some)) }

pub returns-clause-drawn : goal.returns-clause-drawn
returns-clause-drawn c =
    let g = screen_of c.args.server.now in
    let last : rect 0 (c.height-above.result - 1) c.width-w.result 1 ≡ last_row g = cc in
    draws_so _ _ c.args.server.now c.fill.new.server
    (stepped_is g (screen_of c.move_up.new.server) _ c.colour_of.result c.args.step c.move_up.ensures.drawn.screen_is
    last c.colour_of.ensures)
    (draws_then _ _ c.args.server.now c.move_up.new.server c.fill.new.server
    c.move_up.ensures.drawn c.fill.ensures.drawn)
