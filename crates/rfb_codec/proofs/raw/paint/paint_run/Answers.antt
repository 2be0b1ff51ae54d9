use Rattle.std.proofs.Common.{◌≡◌, ◌∙◌, ◌+◌, ◌*◌, ◌<◌, ℕ, length, drop, slice_index_or, ap}
use Rattle.std.proofs.Common.{refl, subst, arith}
use Rattle.rfb_pixel.specs.declared.colour.Colour.{Colour}
use Rattle.rfb_pixel.specs.Format.{colour_of, pixel_number, size_of}
use Rattle.rfb_picture.specs.Grid.{Grid, IsGrid, with_row}
use Rattle.rfb_picture.proofs.LoanLaws.{run_in_row}
use Rattle.rfb_picture.proofs.GridLaws.{whole_before}
use Rattle.rfb_codec.proofs.RunLemmas.{run_over}
use Rattle.rfb_codec.proofs.raw.paint.paint_run.Goals as goal

pub returns : goal.returns
returns c = record {
  value = λ pixels before size old.
      let f = c.args.format in
      let rect = c.args.rect in
      let at = c.args.run.at in
      let row = c.unpack_row.new.colours in
      let len : length row ≡ c.args.run.count = omega arith in
      let whole : IsGrid before =
      whole_before _ before (subst (λ (g : Grid Colour). IsGrid g) old c.requires.place.whole) in
      let each : (k : ℕ) (d : Colour) → k < c.args.run.count →
      slice_index_or row k d ≡ colour_of f (pixel_number f (drop (k * size_of f) c.args.bytes.now)) =
      λ k d below. c.unpack_row.ensures k d (omega arith) in
      run_in_row (rect.x + at.x) (rect.y + at.y) row c.args.picture.now c.requires.place.whole (omega arith)
      ∙ ap (λ (g : Grid Colour). with_row (rect.x + at.x) (rect.y + at.y) row g) old
      ∙ run_over f rect at.y at.x c.args.run.count pixels c.args.bytes.now row before whole c.requires.columns
      c.requires.row len size c.requires.whole each;
  width = refl;
  height = refl;
}
