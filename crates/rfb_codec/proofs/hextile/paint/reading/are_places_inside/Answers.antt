use Rattle.std.proofs.Common.{◌≡◌, ◌∙◌, ◌+◌, ◌-◌, ◌*◌, ◌&&◌, ℕ, suc, Bool, take, drop, arith, sym, ap}
use Rattle.rfb_wire.specs.RectStream.{is_on_screen}
use Rattle.rfb_codec.specs.Tile.{are_inside, place_of}
use Rattle.rfb_codec.specs.decoder.TileRead.{places_from}
use Rattle.rfb_codec.proofs.PaintTileLemmas.{inside_more, nth_place}
use Rattle.rfb_codec.proofs.hextile.paint.reading.are_places_inside.Goals as goal

pub loop-i-preserved : goal.loop-i-preserved
loop-i-preserved c =
    let w = c.args.width in
    let h = c.args.height in
    let skip = c.args.skip in
    let list = c.args.list.now in
    let i = c.loop-i.i in
    let at = i * (skip + 2) + skip in
    let two : at + 2 - at ≡ 2 = omega arith in
    let next : suc i ≡ i + 1 = omega arith in
    let same : c.place_of.result ≡ nth_place skip i list =
    c.place_of.ensures.value ∙ ap (λ n. place_of (take n (drop at list))) two in
    ap (λ (b : Bool). b && c.is_inside-inside.result) c.loop-i.invariant
    ∙ ap (λ (b : Bool). are_inside w h (places_from skip i list) && b)
    (c.is_inside-inside.ensures ∙ ap (is_on_screen w h) same)
    ∙ sym (inside_more w h skip i list) ∙ ap (λ (n : ℕ). are_inside w h (places_from skip n list)) next
