use Rattle.std.proofs.Common.{refl, take, arith}
use Rattle.std.proofs.lemmas.Bool.Decides.{nat_tests}
use Rattle.rfb_codec.proofs.RawTileLemmas.{raw_goes_on, raw_ends}
use Rattle.rfb_codec.proofs.FrontLemmas.{takes_on}
use Rattle.rfb_codec.proofs.hextile.paint.pixels.take_raw.Goals as goal

pub returns-then-at-places : goal.returns-then-at-places
returns-then-at-places c =
    let r = c.args.rectangle.now in
    let walked = c.take_pixels-used.ensures in
    takes_on walked.some walked.used (grind (arith, nat_tests, c.places_of_tile-places.ensures.value)) refl
    (λ before body stands.
    raw_goes_on r.format r.rect c.places_of_tile-places.result c.args.place.tile c.args.seen c.args.place.at
    c.take_pixels-used.result.1 c.args.pending.now.items (take c.take_pixels-used.result.0 c.args.bytes.now)
    c.take_pixels-used.new.pending.items c.args.picture.now c.take_pixels-used.new.picture before body
    c.places_of_tile-places.ensures.value walked.column c.if-at-places.true walked.goes_on stands)
    walked.width walked.height

pub returns-else-at-places : goal.returns-else-at-places
returns-else-at-places c =
    let r = c.args.rectangle.now in
    let walked = c.take_pixels-used.ensures in
    takes_on walked.some walked.used (grind (arith, nat_tests)) refl
    (λ before body stands.
    raw_ends r.format r.rect c.places_of_tile-places.result c.args.place.tile c.args.seen c.args.place.at
    c.take_pixels-used.result.1 c.args.pending.now.items (take c.take_pixels-used.result.0 c.args.bytes.now)
    c.take_pixels-used.new.pending.items c.args.picture.now c.take_pixels-used.new.picture before body
    c.places_of_tile-places.ensures.value c.places_of_tile-places.ensures.column.1
    c.places_of_tile-places.ensures.row.1 c.requires.place.whole c.if-at-places.false walked.goes_on stands)
    walked.width walked.height
