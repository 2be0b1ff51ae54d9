use Rattle.rfb_codec.specs.Tile.{tile_after}
use Rattle.rfb_codec.proofs.TileOutsideLemmas.{next_faults}
use Rattle.rfb_codec.proofs.TakeTileLemmas.{good_tile, some_before, told_next}
use Rattle.rfb_codec.proofs.hextile.paint.next.read_next.Goals as goal

pub returns-clause-told : goal.returns-clause-told
returns-clause-told c = λ tiles number sees.
    told_next c.args.format c.args.rect.w c.args.rect.h c.args.tile c.tile_rect-part.result.w c.tile_rect-part.result.h
    tiles c.args.bytes.now c.read_tile.result number c.tile_rect-part.ensures.width c.tile_rect-part.ensures.height
    (c.read_tile.ensures.told tiles sees)

pub returns-clause-good : goal.returns-clause-good
returns-clause-good c =
    let some = some_before c.args.seen in
    good_tile c.args.format c.args.rect c.args.tile c.tile_rect-part.result.w
    c.tile_rect-part.result.h c.args.bytes.now c.read_tile.result
    (tile_after c.args.format c.tile_rect-part.result.w c.tile_rect-part.result.h some.0 c.args.bytes.now)
    c.tile_rect-part.ensures.width c.tile_rect-part.ensures.height (c.read_tile.ensures.told some.0 some.1)

pub returns-clause-with : goal.returns-clause-with
returns-clause-with c =
    next_faults c.args.format c.args.rect c.args.tile c.tile_rect-part.result.w c.tile_rect-part.result.h
    c.args.seen c.args.bytes.now c.read_tile.result c.tile_rect-part.ensures.width
    c.tile_rect-part.ensures.height c.read_tile.ensures.with
