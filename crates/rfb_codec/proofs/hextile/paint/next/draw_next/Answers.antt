use Rattle.rfb_codec.proofs.TakeTileLemmas.{draws_next}
use Rattle.rfb_codec.proofs.hextile.paint.next.draw_next.Goals as goal

pub returns-clause-value : goal.returns-clause-value
returns-clause-value c =
    draws_next c.args.format c.args.rect c.places_of_tile.result c.args.tile c.args.read c.args.bytes.now
    c.args.seen c.seen_after-seen.result c.args.picture.now c.draw_tile.new.picture c.places_of_tile.ensures.value
    c.places_of_tile.ensures.column.1 c.places_of_tile.ensures.row.1 c.requires.place.whole
    c.seen_after-seen.ensures.background c.seen_after-seen.ensures.foreground c.draw_tile.ensures.value
