use Rattle.std.proofs.Common.{◌≡◌, ◌∙◌, ◌++◌, ◌-◌, ◌*◌, arith, ap, drop, length, take}
use Rattle.std.proofs.lemmas.List.{take_all}
use Rattle.std.specs.List.{flat_map}
use Rattle.rfb_pixel.specs.Format.{pixel_bytes, size_of}
use Rattle.rfb_codec.specs.Raw.{raw_length}
use Rattle.rfb_codec.proofs.PixelLemmas.{a_part, part_more, stands_raw}
use Rattle.rfb_codec.proofs.raw.encode.RawCodec.encode.Goals as goal

pub append_pixels-requires-clause-room : goal.append_pixels-requires-clause-room
append_pixels-requires-clause-room c =
    let pixels = c.pixels-pixels.result.now in
    let size = size_of c.args.format.now in
    let part = a_part pixels c.loop-start.start c.min-end.result size (omega arith) (omega arith) in
    let raw : length pixels * size ≡ raw_length c.args.format.now c.args.block.now.width c.args.block.now.height =
    ap (λ n. n * size) (ap length c.pixels-pixels.ensures.value ∙ c.pixels-pixels.ensures.whole) in
    rw part.long (omega (arith, raw, part.room, part.bytes))

pub loop-start-preserved : goal.loop-start-preserved
loop-start-preserved c =
    let f = c.args.format.now in
    let pixels = c.pixels-pixels.result.now in
    let start = c.loop-start.start in
    let end = c.min-end.result in
    let part = a_part pixels start end (size_of f) (omega arith) (omega arith) in
    let len = rw part.long at c.append_pixels.ensures.len in
    record {
      items = c.append_pixels.ensures.items
          ∙ ap (λ front. front ++ flat_map (pixel_bytes f) (take (end - start) (drop start pixels)))
          c.loop-start.invariant.items ∙ part_more f pixels c.args.out.now.items start end (omega arith);
      len = omega (arith, part.bytes, len);
      within = omega arith;
      room = omega arith;
    }

pub returns-clause-spelled : goal.returns-clause-spelled
returns-clause-spelled c =
    let f = c.args.format.now in
    let places = c.args.block.now.places in
    let all : take c.loop-start.start c.pixels-pixels.result.now ≡ places =
    take_all c.loop-start.start c.pixels-pixels.result.now (omega arith) ∙ c.pixels-pixels.ensures.value in
    let stands = stands_raw f c.args.block.now c.pixels-pixels.ensures.whole c.requires.pixels in (
      flat_map (pixel_bytes f) places,
      c.loop-start.invariant.items ∙ ap (λ some. c.args.out.now.items ++ flat_map (pixel_bytes f) some) all,
      stands,
      omega (arith, stands.size),
    )
