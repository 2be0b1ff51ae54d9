use Rattle.std.proofs.Common.{◌≡◌, ◌+◌, ◌/◌, inl, inr, map, min, arith}
use Rattle.rfb_pixel.specs.Format.{size_of}
use Rattle.rfb_codec.specs.Raw.{raw_length}
use Rattle.rfb_codec.specs.Tile.{PlainTile, rect_in}
use Rattle.rfb_codec.specs.encoder.Carried.{held_of}
use Rattle.rfb_codec.proofs.HextileRuleLemmas.{two_background, two_differ, few_places, two_no_shorter, many_pixels_long}
use Rattle.rfb_codec.proofs.HextileRuleLemmas.{many_subs_long}
use Rattle.rfb_codec.proofs.DrawLemmas.{pixel_small, tile_parts, small_parts, sends_one, sends_two, sends_more}
use Rattle.rfb_codec.proofs.hextile.encode.choosing.over_background.Goals as goal

pub returns-in-One-clause-sends : goal.returns-in-One-clause-sends
returns-in-One-clause-sends c =
    sends_one c.args.format.now c.args.width c.args.height c.args.pixels.now c.clear.new.self.items c.args.carried
    c.in-One.background c.named.result
    c.clear.ensures c.requires.whole (c.requires.columns, c.requires.rows) c.requires.some c.requires.pixels
    c.in-One.ensures c.named.ensures.meant

pub returns-else-not-cover-clause-sends : goal.returns-else-not-cover-clause-sends
returns-else-not-cover-clause-sends c =
    let two = c.in-Two.ensures in
    sends_two c.args.format.now c.args.width c.args.height c.args.pixels.now c.cover.new.subs.items c.args.carried
    c.in-Two.background c.in-Two.foreground c.named-in-Two.result c.named-in-Two-2.result
    c.requires.whole (c.requires.columns, c.requires.rows) c.requires.pixels
    (pixel_small c.args.format.now c.args.pixels.now c.in-Two.background c.requires.pixels two.0)
    (pixel_small c.args.format.now c.args.pixels.now c.in-Two.foreground c.requires.pixels two.1)
    two.2 c.if-not-cover.ensures.cover c.named-in-Two.ensures.meant c.named-in-Two-2.ensures.meant

pub returns-else-not-cover-clause-parts : goal.returns-else-not-cover-clause-parts
returns-else-not-cover-clause-parts c =
    small_parts c.args.format.now c.args.width c.args.height _ c.requires.columns c.requires.rows
    (tile_parts c.args.format.now c.args.width c.args.height c.args.pixels.now c.in-Two.background
    c.cover.new.subs.items c.requires.pixels c.if-not-cover.ensures.cover.parts)

pub returns-else-not-cover-2-clause-sends : goal.returns-else-not-cover-2-clause-sends
returns-else-not-cover-2-clause-sends c =
    sends_more c.args.format.now c.args.width c.args.height c.args.pixels.now c.cover-in-More.new.subs.items
    c.args.carried c.in_ok-background-in-More.background c.named-in-More.result
    c.requires.whole (c.requires.columns, c.requires.rows) c.requires.pixels
    (pixel_small c.args.format.now c.args.pixels.now c.in_ok-background-in-More.background c.requires.pixels
    c.in_ok-background-in-More.ensures.background.there)
    c.if-not-cover-2.ensures.cover c.named-in-More.ensures.meant

pub returns-else-not-cover-2-clause-parts : goal.returns-else-not-cover-2-clause-parts
returns-else-not-cover-2-clause-parts c =
    small_parts c.args.format.now c.args.width c.args.height _ c.requires.columns c.requires.rows
    (tile_parts c.args.format.now c.args.width c.args.height c.args.pixels.now c.in_ok-background-in-More.background
    c.cover-in-More.new.subs.items c.requires.pixels c.if-not-cover-2.ensures.cover.parts)

pub returns-else-not-cover-clause-drawn : goal.returns-else-not-cover-clause-drawn
returns-else-not-cover-clause-drawn c =
    let two = c.in-Two.ensures in
    inr (inl (record {
      background = c.in-Two.background;
      foreground = c.in-Two.foreground;
      subs = c.cover.new.subs.items;
      chosen = two_background c.in-Two.background c.in-Two.foreground c.args.pixels.now two;
      there = two.1;
      differ = two_differ c.in-Two.background c.in-Two.foreground c.args.pixels.now two;
      both = two.2;
      rule = c.if-not-cover.ensures.rule;
      tile_is = λ i. PlainTile (c.named-in-Two.ensures.value i) (c.named-in-Two-2.ensures.value i)
          (map rect_in c.cover.new.subs.items);
    }))

pub returns-then-not-cover-clause-long : goal.returns-then-not-cover-clause-long
returns-then-not-cover-clause-long c =
    let f = c.args.format.now in
    let limit : c.min.result ≡ min 170 (raw_length f c.args.width c.args.height / 2) =
    rw (c.requires.whole, c.size.ensures.value) at c.min.ensures in
    two_no_shorter f c.args.width c.args.height c.args.pixels.now (held_of c.args.carried) c.requires.whole
    (few_places c.args.width c.args.height c.args.pixels.now c.requires.columns c.requires.rows c.requires.whole)
    c.in-Two.background c.in-Two.foreground c.min.result c.cover.new.subs.items
    c.in-Two.ensures limit c.if-not-cover.ensures.over

pub returns-in_err-background-in-More-clause-long : goal.returns-in_err-background-in-More-clause-long
returns-in_err-background-in-More-clause-long c =
    let f = c.args.format.now in
    let limit : c.min-limit.result ≡ min 170 (raw_length f c.args.width c.args.height / (size_of f + 2)) =
    rw (c.requires.whole, c.size.ensures.value, c.size-in-More.ensures.value) at c.min-limit.ensures in
    rw c.from_residual.ensures
    (many_pixels_long f c.args.width c.args.height c.args.pixels.now (held_of c.args.carried) c.requires.whole
    (few_places c.args.width c.args.height c.args.pixels.now c.requires.columns c.requires.rows c.requires.whole)
    c.min-limit.result (omega (arith, c.size-in-More.ensures.bound, c.size-in-More.ensures.value))
    c.in-More.ensures limit c.in_err-background-in-More.ensures.more)

pub returns-then-not-cover-2-clause-long : goal.returns-then-not-cover-2-clause-long
returns-then-not-cover-2-clause-long c =
    let f = c.args.format.now in
    let limit : c.min-limit.result ≡ min 170 (raw_length f c.args.width c.args.height / (size_of f + 2)) =
    rw (c.requires.whole, c.size.ensures.value, c.size-in-More.ensures.value) at c.min-limit.ensures in
    many_subs_long f c.args.width c.args.height c.args.pixels.now (held_of c.args.carried) c.requires.whole
    (few_places c.args.width c.args.height c.args.pixels.now c.requires.columns c.requires.rows c.requires.whole)
    c.min-limit.result c.in_ok-background-in-More.background c.cover-in-More.new.subs.items
    (omega (arith, c.size-in-More.ensures.bound, c.size-in-More.ensures.value))
    c.in-More.ensures limit c.in_ok-background-in-More.ensures.background c.if-not-cover-2.ensures.over
