use Rattle.std.proofs.Common.{◌≡◌, ◌∙◌, ap, ℕ, length, arith}
use Rattle.rfb_picture.specs.Grid.{Grid, with_row}
use Rattle.rfb_pixel.specs.declared.colour.Colour.{Colour}
use Rattle.rfb_server.specs.Model.{screen_of}
use Rattle.rfb.specs.Scene.{begun_at}
use Rattle.rfb.proofs.SceneLemmas.{above_all, above_more, above_none, begun_above, draws_none, draws_so, draws_then}
use Rattle.rfb.proofs.SceneLemmas.{pattern_above, size_drawn}
use Rattle.rfb.proofs.scene.draw_pattern.Goals as goal

pub loop-y-init : goal.loop-y-init
loop-y-init c =
    let old = c.args.server.now in
    let rows : c.height-height.result ≡ (screen_of old).height = cc in
    record {
      size = c.requires.whole;
      rows = rows;
      drawn = draws_so _ _ old old (above_none (screen_of old) old.follows.whole) (draws_none old);
      hints = cc;
    }

pub put-requires-clause-whole : goal.put-requires-clause-whole
put-requires-clause-whole c =
    let l = c.loop-y in
    let same = size_drawn (begun_above l.y) c.args.server.now l.server l.invariant.drawn in
    omega (arith, same.0, c.paint.auto.row, l.invariant.size)

pub put-requires-clause-inside : goal.put-requires-clause-inside
put-requires-clause-inside c =
    let l = c.loop-y in
    let same = size_drawn (begun_above l.y) c.args.server.now l.server l.invariant.drawn in
    omega (arith, same.1, l.invariant.rows, c.loop-y-test.true)

pub loop-y-preserved : goal.loop-y-preserved
loop-y-preserved c =
    let l = c.loop-y in
    let old = c.args.server.now in
    let g = screen_of old in
    let size : length c.paint.new.row ≡ g.width = omega (arith, c.paint.auto.row, l.invariant.size) in
    record {
      size = size;
      rows = l.invariant.rows;
      drawn = draws_so _ _ old c.put.new.server
          (ap (λ (k : Grid Colour). with_row 0 l.y c.paint.new.row k) l.invariant.drawn.screen_is
          ∙ above_more c.paint.new.row l.y g old.follows.whole size
          (λ i d p. c.paint.ensures i d p ∙ ap (begun_at i) c.from.ensures))
          (draws_then _ _ old l.server c.put.new.server l.invariant.drawn c.put.ensures.drawn);
      hints = c.put.ensures.hints ∙ l.invariant.hints;
    }

pub returns-clause-drawn : goal.returns-clause-drawn
returns-clause-drawn c =
    let l = c.loop-y in
    let old = c.args.server.now in
    let end : l.y ≡ (screen_of old).height = omega (arith, l.invariant.rows) in
    draws_so _ _ old l.server
    (ap (λ (k : ℕ). pattern_above k (screen_of old)) end
    ∙ above_all (screen_of old) old.follows.whole) l.invariant.drawn
