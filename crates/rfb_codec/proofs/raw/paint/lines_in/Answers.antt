use Rattle.std.proofs.Common.{◌≡◌, ◌∙◌, ◌+◌, ◌-◌, ◌*◌, ◌≤◌, length, take, drop, refl, arith, length-take-le}
use Rattle.std.proofs.lemmas.Grind.{common_steps}
use Rattle.std.proofs.Math.Nat.{mul-le-mul_right}
use Rattle.rfb_pixel.specs.Format.{size_of}
use Rattle.rfb_codec.specs.decoder.Step.{first_of_row}
use Rattle.rfb_codec.proofs.LineLemmas.{next_line, runs_join, runs_none}
use Rattle.rfb_codec.proofs.raw.paint.lines_in.Goals as goal

pub lines-init : goal.lines-init
lines-init c = record {
  value = runs_none c.args.format c.args.rect (first_of_row c.args.rect.w c.args.lines.top) (0 * c.args.rect.w)
      (0 * (c.args.rect.w * size_of c.args.format)) c.args.bytes.now c.args.picture.now (omega arith) (omega arith);
  width = refl;
  height = refl;
}

pub lines-preserved : goal.lines-preserved
lines-preserved c =
    let f = c.args.format in
    let rect = c.args.rect in
    let bytes = c.args.bytes.now in
    let row = c.lines.row in
    let unit = rect.w * size_of f in
    let size = c.from.result * c.size.result in
    let start = c.from-in-lines.result * size in
    let size_is : size ≡ unit = rw (c.from.ensures, c.size.ensures.value) refl in
    let start_is : start ≡ row * unit = rw (c.from-in-lines.ensures, size_is) refl in
    let rows : row * unit ≤ c.args.lines.count * unit = mul-le-mul_right unit (omega arith) in
    let front : length (take (row * unit) bytes) ≡ row * unit =
    length-take-le (row * unit) bytes (omega (arith, rows, c.requires.whole)) in
    record {
      value = runs_join f rect (first_of_row rect.w c.args.lines.top) (row * rect.w) rect.w
          (first_of_row rect.w (c.args.lines.top + row)) ((row + 1) * rect.w)
          (take (row * unit) bytes) (take (start + size - start) (drop start bytes)) (take ((row + 1) * unit) bytes)
          c.args.picture.now c.lines.picture c.paint_run.new.picture
          (omega (arith, front)) (omega arith) (omega arith) (next_line row unit start size bytes start_is size_is)
          c.lines.invariant.value c.paint_run.ensures.value;
      width = c.paint_run.ensures.width ∙ c.lines.invariant.width;
      height = c.paint_run.ensures.height ∙ c.lines.invariant.height;
    }

pub slice_bounds-line-end : goal.slice_bounds-line-end
slice_bounds-line-end c =
    let unit = c.args.rect.w * size_of c.args.format in
    let size_is : c.from.result * c.size.result ≡ unit = rw (c.from.ensures, c.size.ensures.value) refl in
    let rows : (c.lines.row + 1) * unit ≤ c.args.lines.count * unit = mul-le-mul_right unit (omega arith) in
    rw (c.from-in-lines.ensures, size_is) (omega (arith, rows, c.requires.whole))

pub returns : goal.returns
returns c = record {
  value = grind (arith, common_steps);
  width = c.lines.invariant.width;
  height = c.lines.invariant.height;
}
