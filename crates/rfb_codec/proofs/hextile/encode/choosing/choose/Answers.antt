use Rattle.std.proofs.Common.{arith, inl, inr, ◌<◌, ◌≤◌, ◌+◌, length, refl}
use Rattle.rfb_codec.specs.Raw.{raw_length}
use Rattle.rfb_codec.specs.encoder.TileSpelling.{tile_of, tile_bytes}
use Rattle.rfb_codec.proofs.DrawLemmas.{sends_raw}
use Rattle.rfb_codec.proofs.HextileRuleLemmas.{tile_length_is, raw_where_drawn_is_long}
use Rattle.rfb_codec.specs.encoder.Carried.{held_of}
use Rattle.rfb_codec.proofs.hextile.encode.choosing.choose.Goals.{in-Some+else-spelled_length-raw, in_default}
use Rattle.rfb_codec.proofs.hextile.encode.choosing.choose.Goals as goal

pub returns-clause-sends : goal.returns-clause-sends
returns-clause-sends c = sends_raw c.args.format.now c.args.width c.args.height c.args.pixels.now c.clear.new.self.items
    c.args.carried.now c.requires.whole c.requires.pixels

pub returns-then-spelled_length-raw-clause-rule : goal.returns-then-spelled_length-raw-clause-rule
returns-then-spelled_length-raw-clause-rule c =
    let f = c.args.format.now in
    let length_is = tile_length_is f c.in-Some.choice.layout c.args.pixels.now c.over_background.new.subs.items in
    let below : length (tile_bytes f c.in-Some.choice.layout c.args.pixels.now c.over_background.new.subs.items)
    < 1 + raw_length f c.args.width c.args.height =
    rw (c.spelled_length.ensures.value, c.requires.whole, c.size.ensures.value) at c.if-spelled_length-raw.true in
    inl (record { drawn = c.in-Some.ensures.drawn; shorter = omega (arith, below, length_is) })

pub returns-clause-rule : goal.returns-clause-rule
returns-clause-rule c =
    let f = c.args.format.now in
    inr (record {
      no_shorter = elim c.match-over_background.branch [
        | in-Some+else-spelled_length-raw w ↦
            let subs = c.over_background.new.subs.items in
            let length_is = tile_length_is f w.in-Some.choice.layout c.args.pixels.now subs in
            let long : 1 + raw_length f c.args.width c.args.height
            ≤ length (tile_bytes f w.in-Some.choice.layout c.args.pixels.now subs) =
            rw (w.spelled_length.ensures.value, c.requires.whole, c.size.ensures.value)
            at w.if-spelled_length-raw.false in
            raw_where_drawn_is_long f c.args.width c.args.height c.args.pixels.now (held_of c.args.carried.now)
            (tile_of f w.in-Some.choice.layout c.args.pixels.now subs) c.requires.some w.in-Some.ensures.drawn
            (omega (arith, long, length_is))
        | in_default w ↦ w.in_default.ensures.long
      ];
      tile_is = refl;
    })
