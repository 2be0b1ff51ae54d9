use Rattle.std.proofs.Common.{◌≡◌, ◌∙◌, ◌++◌, ◌∷◌, [], List, false, ap, sym, subst, arith}
use Rattle.rfb_pixel.specs.Format.{colour_of}
use Rattle.rfb_picture.specs.declared.rect.Rect.{Rect}
use Rattle.rfb_picture.specs.Grid.{filled}
use Rattle.rfb_picture.proofs.GridLaws.{whole-changed}
use Rattle.rfb_wire.specs.RectHead.{IsOnScreen}
use Rattle.rfb_codec.specs.declared.subrect.Subrect.{Subrect}
use Rattle.rfb_codec.specs.Rre.{pixel_at}
use Rattle.rfb_codec.specs.decoder.TileRead.{sub_after, subs_in}
use Rattle.rfb_codec.specs.Painter.{over}
use Rattle.rfb_codec.proofs.PaintRreLemmas.{moved, moved_inside, over_filled}
use Rattle.rfb_codec.proofs.TileReadLemmas.{subs_in-none, subs_in-more}
use Rattle.rfb_codec.proofs.hextile.paint.drawing.draw_each.Goals as goal

pub loop-n-init : goal.loop-n-init
loop-n-init c =
    let f = c.args.format in
    let rect = c.args.rect in
    let before = c.args.picture.now in
    record {
      value =
          c.fill_tile.ensures.value
          ∙ ap (λ k. filled rect k before) c.unpacked.ensures
          ∙ ap (λ (all : List Subrect). over rect (λ x y. colour_of f (pixel_at c.args.subs.background all x y))
          before) (subs_in-none f c.args.subs.foreground c.args.subs.colored c.args.list.now);
      width = c.fill_tile.ensures.width;
      height = c.fill_tile.ensures.height;
    }

pub fill-requires : goal.fill-requires
fill-requires c =
    let rect = c.args.rect in
    let is : c.sub_at-part.result ≡ sub_after c.args.format c.args.subs.foreground c.args.subs.colored c.loop-n.n
    c.args.list.now = rw c.requires.colored c.sub_at-part.ensures in
    let on : IsOnScreen rect.w rect.h c.sub_at-part.result.rect = subst (λ (s : Subrect). IsOnScreen rect.w rect.h
    s.rect) (sym is) (c.requires.inside.inside c.loop-n.n c.loop-n-test.true) in
    let screen : IsOnScreen c.loop-n.picture.width c.loop-n.picture.height rect =
    rw (c.loop-n.invariant.width, c.loop-n.invariant.height) c.requires.place.inside in
    record {
      whole = rw c.loop-n.invariant.value (whole-changed _ c.args.picture.now c.requires.place.whole);
      inside = rw c.moved_by-places.ensures
          (moved_inside rect c.sub_at-part.result.rect c.loop-n.picture.width c.loop-n.picture.height screen on);
      columns = rw c.loop-n.invariant.width c.requires.place.columns;
      rows = rw c.loop-n.invariant.height c.requires.place.rows;
    }

pub colour_at-colour-requires : goal.colour_at-colour-requires
colour_at-colour-requires c =
    let f = c.args.format in
    λ plain.
    let is : c.sub_at-part.result ≡ sub_after f c.args.subs.foreground false c.loop-n.n c.args.list.now =
    rw plain at c.sub_at-part.ensures in
    c.unpacked-own.ensures ∙ ap (colour_of f) (sym (ap (λ (s : Subrect). s.pixel) is))

pub loop-n-preserved : goal.loop-n-preserved
loop-n-preserved c =
    let f = c.args.format in
    let rect = c.args.rect in
    let n = c.loop-n.n in
    let s = c.sub_at-part.result in
    let before = c.args.picture.now in
    let subs = subs_in f c.args.subs.foreground c.args.subs.colored n c.args.list.now in
    let is : s ≡ sub_after f c.args.subs.foreground c.args.subs.colored n c.args.list.now =
    rw c.requires.colored c.sub_at-part.ensures in
    let on : IsOnScreen rect.w rect.h s.rect = subst (λ (s : Subrect). IsOnScreen rect.w rect.h s.rect) (sym is)
    (c.requires.inside.inside n c.loop-n-test.true) in
    record {
      value =
          c.fill.ensures.value
          ∙ ap (λ (r : Rect). filled r c.colour_at-colour.result c.loop-n.picture) c.moved_by-places.ensures
          ∙ ap (λ k. filled (moved rect s.rect) k c.loop-n.picture) c.colour_at-colour.ensures
          ∙ ap (λ g. filled (moved rect s.rect) (colour_of f s.pixel) g) c.loop-n.invariant.value
          ∙ over_filled f rect c.args.subs.background subs s before c.requires.place.whole on
          ∙ ap (λ (t : Subrect). over rect
          (λ x y. colour_of f (pixel_at c.args.subs.background (subs ++ t ∷ []) x y)) before) is
          ∙ ap (λ (all : List Subrect). over rect (λ x y. colour_of f (pixel_at c.args.subs.background all x y))
          before) (subs_in-more f c.args.subs.foreground c.args.subs.colored n c.args.list.now);
      width = c.fill.ensures.width ∙ c.loop-n.invariant.width;
      height = c.fill.ensures.height ∙ c.loop-n.invariant.height;
    }

pub returns : goal.returns
returns c =
    let end : c.loop-n.n ≡ c.args.subs.count = omega (arith, c.loop-n-test.false) in
    rw end at c.loop-n.invariant

pub moved_by-places-requires-clause-columns : goal.moved_by-places-requires-clause-columns
moved_by-places-requires-clause-columns c = grind arith

pub moved_by-places-requires-clause-rows : goal.moved_by-places-requires-clause-rows
moved_by-places-requires-clause-rows c = grind arith
