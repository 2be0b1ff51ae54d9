use Rattle.std.proofs.Common.{◌≡◌, ◌∙◌, ◌*◌, ◌≤◌, ◌++◌, [], arith, ap, refl, sym, length, length-append, append_assoc}
use Rattle.std.proofs.lemmas.List.{append-nil, take_at}
use Rattle.rfb_codec.specs.Hextile.{tile_count}
use Rattle.rfb_codec.specs.Raw.{raw_length}
use Rattle.rfb_codec.specs.HextileRule.{nothing_held}
use Rattle.rfb_codec.specs.encoder.TileSpelling.{tile_bytes}
use Rattle.rfb_codec.proofs.HextileTilesLemmas.{no_longer}
use Rattle.rfb_codec.proofs.DrawLemmas.{tile_small}
use Rattle.rfb_codec.proofs.SpelledTilesLemmas.{spelled_none, spelled_next, spelled_all}
use Rattle.rfb_codec.proofs.hextile.encode.spell.Goals as goal

pub loop-n-init : goal.loop-n-init
loop-n-init c = record {
  spelled =
      ([], sym (append-nil c.args.out.now.items), spelled_none c.args.format.now c.args.block.now _ [] refl refl refl);
  shorter =
      let rows : 1 ≤ c.args.block.now.height = rw c.height.ensures.value at c.height.ensures.some in
      let columns : 1 ≤ c.args.block.now.width = rw c.width.ensures.value at c.width.ensures.some in
      let places : 1 ≤ length c.pixels.result.now = rw (c.pixels.ensures.value, c.pixels.ensures.whole) (grind arith) in
      let size = c.size.ensures.some in
      grind arith;
  room = omega arith;
}

pub choose-layout-requires-clause-pixels : goal.choose-layout-requires-clause-pixels
choose-layout-requires-clause-pixels c =
    let tile = c.tile_rect-tile.result in
    let small = tile_small c.args.format.now c.args.block.now tile.w tile.h tile.x tile.y c.cut.new.pixels.items
    c.cut.ensures.size c.requires.pixels c.cut.ensures.value in
    rw c.as_slice-part.ensures.value small

pub loop-n-preserved : goal.loop-n-preserved
loop-n-preserved c =
    let block = c.args.block.now in
    let tile = c.tile_rect-tile in
    let layout = c.choose-layout in
    let pixels = c.cut.new.pixels.items in
    let part = c.as_slice-part.result.now in
    let subs = layout.new.subs.items in
    let bytes = c.loop-n.invariant.spelled.0 in
    let more = spelled_next c.args.format.now block c.loop-n.n c.loop-n.carried layout.new.carried bytes
    layout.result pixels part subs tile.result _ _ _ _ c.loop-n.invariant.spelled.2 c.width-in-loop-n.ensures.value
    c.height-in-loop-n.ensures.value tile.ensures.width tile.ensures.height tile.ensures.column tile.ensures.row
    c.from-width.ensures c.from-height.ensures c.as_slice-part.ensures.value layout.ensures.sends
    c.cut.ensures.value c.cut.ensures.size layout.ensures.rule layout.ensures.leaves in
    let sent = tile_bytes c.args.format.now layout.result part subs in
    let appended : c.append.new.tile.items ≡ sent = rw c.clear.ensures at c.append.ensures in
    let is : c.as_slice.result.now ≡ sent = c.as_slice.ensures.value ∙ appended in
    let size = c.spelled_length.ensures.value in
    let same = ap length is in
    record {
      spelled = (
        bytes ++ sent,
        c.append_within.ensures.items ∙ ap (λ front. front ++ c.as_slice.result.now) c.loop-n.invariant.spelled.1
            ∙ append_assoc c.args.out.now.items bytes c.as_slice.result.now
            ∙ ap (λ back. c.args.out.now.items ++ (bytes ++ back)) is,
        more,
      );
      shorter =
          let len = c.len-in-loop-n.ensures in
          let below = c.if-len-spelled_length.false in
          omega (arith, same, size, len, below, c.append_within.ensures.len);
      room = omega (arith, c.append_within.ensures.room);
    }

pub returns-clause-spelled : goal.returns-clause-spelled
returns-clause-spelled c =
    let block = c.args.block.now in
    let count : c.tile_count-n-end.result ≡ tile_count block.width block.height =
    rw (c.width.ensures.value, c.height.ensures.value) at c.tile_count-n-end.ensures.value in
    let test = c.loop-n-test.false in
    let end : c.loop-n.n ≡ tile_count block.width block.height = omega (arith, count, test) in
    let bytes = c.loop-n.invariant.spelled.0 in
    let items = ap length c.loop-n.invariant.spelled.1 in
    let all = length-append c.args.out.now.items bytes in
    let shorter = c.loop-n.invariant.shorter in
    let raw : length c.pixels.result.now * c.size.result ≡ raw_length c.args.format.now block.width block.height =
    rw (c.pixels.ensures.value, c.pixels.ensures.whole, c.size.ensures.value) refl in (
      bytes,
      c.loop-n.invariant.spelled.1,
      spelled_all c.args.format.now block c.loop-n.carried bytes c.pixels.ensures.whole
          (rw end at c.loop-n.invariant.spelled.2),
      omega (arith, items, all, shorter, raw, c.len.ensures),
    )

pub returns-clause-front : goal.returns-clause-front
returns-clause-front c =
    rw c.loop-n.invariant.spelled.1 (take_at c.args.out.now.items c.loop-n.invariant.spelled.0 _ (omega arith))

pub returns-then-len-spelled_length-clause-given_up : goal.returns-then-len-spelled_length-clause-given_up
returns-then-len-spelled_length-clause-given_up c =
    let block = c.args.block.now in
    let tile = c.tile_rect-tile in
    let layout = c.choose-layout in
    let part = c.as_slice-part.result.now in
    let subs = layout.new.subs.items in
    let more =
    spelled_next c.args.format.now block c.loop-n.n c.loop-n.carried layout.new.carried c.loop-n.invariant.spelled.0
    layout.result c.cut.new.pixels.items part subs tile.result _ _ _ _ c.loop-n.invariant.spelled.2
    c.width-in-loop-n.ensures.value c.height-in-loop-n.ensures.value tile.ensures.width tile.ensures.height
    tile.ensures.column tile.ensures.row c.from-width.ensures c.from-height.ensures c.as_slice-part.ensures.value
    layout.ensures.sends c.cut.ensures.value c.cut.ensures.size layout.ensures.rule layout.ensures.leaves in
    let sent = tile_bytes c.args.format.now layout.result part subs in
    let size = c.spelled_length.ensures.value in
    let items = ap length c.loop-n.invariant.spelled.1 in
    let front = length-append c.args.out.now.items c.loop-n.invariant.spelled.0 in
    let both = length-append c.loop-n.invariant.spelled.0 sent in
    let raw : length c.pixels.result.now * c.size.result ≡ raw_length c.args.format.now block.width block.height =
    rw (c.pixels.ensures.value, c.pixels.ensures.whole, c.size.ensures.value) refl in
    let over = c.if-len-spelled_length.true in
    λ tiles number all.
    let count : c.tile_count-n-end.result ≡ tile_count block.width block.height =
    rw (c.width.ensures.value, c.height.ensures.value) at c.tile_count-n-end.ensures.value in
    let no_less = no_longer c.args.format.now block 0 nothing_held more.tiles tiles (omega (arith, number))
    (omega (arith, more.number, number, count)) more.rule_tiles all in
    omega (arith, no_less, more.length_is, both, front, items, size, raw, over, c.len.ensures, c.len-in-loop-n.ensures)

pub choose-layout-requires-clause-some : goal.choose-layout-requires-clause-some
choose-layout-requires-clause-some c = grind arith
