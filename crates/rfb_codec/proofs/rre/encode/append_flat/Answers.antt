use Rattle.std.proofs.Common.{◌≡◌, ◌∙◌, ◌+◌, ◌*◌, ◌++◌, [], ap}
use Rattle.std.proofs.Common.{sym, refl, arith, length, length-append, append-nil}
use Rattle.rfb_pixel.specs.Format.{size_of}
use Rattle.rfb_codec.specs.Choice.{IsBackground}
use Rattle.rfb_codec.specs.Raw.{raw_length}
use Rattle.rfb_codec.proofs.HextileRuleLemmas.{one_background}
use Rattle.rfb_codec.proofs.NoShorterLemmas.{long_data}
use Rattle.rfb_codec.proofs.PixelLemmas.{length-pixel_bytes}
use Rattle.rfb_codec.proofs.RreEncodeLemmas.{none_needed, rre_head, stands_rre}
use Rattle.rfb_codec.proofs.rre.encode.append_flat.Goals.{Start}
use Rattle.rfb_codec.proofs.rre.encode.append_flat.Goals as goal

-- the pixel is the background
chosen : (c : Start) → IsBackground c.args.block.now.places c.args.pixel
chosen c = one_background c.args.pixel c.args.block.now.places c.requires.some c.requires.one

pub returns-clause-spelled : goal.returns-clause-spelled
returns-clause-spelled c =
    let f = c.args.format.now in
    let block = c.args.block.now in
    let pixel = c.args.pixel in
    let head = rre_head f 0 pixel in
    let none = none_needed block.width block.height block.places pixel c.requires.whole c.requires.one in
    let raw : c.from-height.result * c.from-width.result * c.size-size.result
    ≡ raw_length f block.width block.height =
    rw (
      c.from-width.ensures ∙ c.width.ensures.value,
      c.from-height.ensures ∙ c.height.ensures.value,
      c.size-size.ensures.value,
    ) refl in
    let size = c.size-size.ensures.value in
    let first : length head ≡ 4 + size_of f = let own = length-pixel_bytes f pixel in omega (arith, own) in (
      head ++ [],
      c.append_head.ensures.items ∙ ap (λ tail. c.args.out.now.items ++ tail) (sym (append-nil head)),
      stands_rre f block pixel [] c.requires.whole (omega arith) (omega arith) (omega arith) c.requires.pixels
          (chosen (goal.at.returns-clause-spelled c).Start) none.1 none.0,
      rw length-append (omega (arith, first, raw, size)),
    )

pub returns-then-height-width-clause-given_up : goal.returns-then-height-width-clause-given_up
returns-then-height-width-clause-given_up c =
    let block = c.args.block.now in
    let pixel = c.args.pixel in
    let none = none_needed block.width block.height block.places pixel c.requires.whole c.requires.one in
    let long = rw (
      c.from-width.ensures ∙ c.width.ensures.value,
      c.from-height.ensures ∙ c.height.ensures.value,
      c.size-size.ensures.value,
    ) at c.if-height-width.true in
    long_data c.args.format.now block pixel [] (chosen (goal.at.returns-then-height-width-clause-given_up c).Start)
    none.0 (omega (arith, long))
