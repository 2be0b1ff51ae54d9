use Rattle.std.proofs.Common.{◌≡◌, ◌<◌, length, take, refl, arith}
use Rattle.std.proofs.lemmas.Bool.Decides.{nat_tests}
use Rattle.rfb_codec.specs.decoder.TileRead.{least_size}
use Rattle.rfb_codec.proofs.TileRefusalLemmas.{first_steps}
use Rattle.rfb_codec.proofs.JoinLemmas.{tile_waits}
use Rattle.rfb_codec.proofs.FrontLemmas.{takes_on}
use Rattle.rfb_codec.proofs.hextile.paint.take.take_more.Goals as goal

pub returns-then-len-least : goal.returns-then-len-least
returns-then-len-least c =
    let r = c.args.rectangle.now in
    let pending = c.args.pending.now.items in
    let xs = c.gather-used.new.pending.items in
    let least : c.least_size-least.result ≡ least_size r.format pending =
    rw (← c.as_slice.ensures.value) c.least_size-least.ensures.value in
    let short : length xs < least_size r.format pending =
    omega (arith, least, c.gather-used.ensures.within, c.if-len-least.true, c.len.ensures.value) in
    let few : length xs < 1536 = omega (arith, least, short, c.least_size-least.ensures.few) in
    takes_on (omega (arith, c.len.ensures.value)) c.gather-used.ensures.used (grind (arith, nat_tests)) refl
    (λ before body stands.
    tile_waits r.format r.rect c.args.tile c.args.seen pending (take c.gather-used.result c.args.bytes.now) xs
    c.args.picture.now before body c.requires.pending c.gather-used.ensures.items short stands)
    refl refl

pub returns : goal.returns
returns c =
    first_steps c.args.rectangle.now c.args.tile c.args.seen c.args.pending.now.items
    c.take_byte.new.pending.items c.args.bytes.now c.args.picture.now c.take_byte.new.picture c.take_byte.result
    c.requires.some c.take_byte.ensures
