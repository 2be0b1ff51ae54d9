use Rattle.std.proofs.Common.{◌∙◌, ap, sym, inl}
use Rattle.rfb_picture.specs.Grid.{Grid}
use Rattle.rfb_picture.proofs.GridLaws.{height-uniform, width-uniform}
use Rattle.rfb_pixel.specs.declared.colour.Colour.{Colour}
use Rattle.rfb_server.specs.Server.{black}
use Rattle.rfb_session.specs.netpbm.File.{picture_of}
use Rattle.rfb.proofs.ServingLemmas.{shows_picture}
use Rattle.rfb.proofs.serving.fresh.serve_first_picture.Goals as goal

pub draw_picture-requires-clause-columns : goal.draw_picture-requires-clause-columns
draw_picture-requires-clause-columns g c =
    sym (ap (λ (screen : Grid Colour). screen.width) c.requires.fresh.screen_is)
    ∙ width-uniform c.args.size.width c.args.size.height black ∙ c.requires.columns

pub draw_picture-requires-clause-rows : goal.draw_picture-requires-clause-rows
draw_picture-requires-clause-rows g c =
    sym (ap (λ (screen : Grid Colour). screen.height) c.requires.fresh.screen_is)
    ∙ height-uniform c.args.size.width c.args.size.height black ∙ c.requires.rows

pub returns : goal.returns
returns g c = inl (
  c.draw_picture.new.server,
  shows_picture c.args.size (picture_of c.args.pixmap.now) c.args.server.now c.draw_picture.new.server c.requires.fresh
      c.requires.columns c.requires.rows c.draw_picture.ensures.drawn,
  c.serve_shown.ensures,
)
