use Rattle.std.proofs.Common.{◌≡◌}
use Rattle.rfb_codec.specs.Tile.{are_inside}
use Rattle.rfb_codec.specs.decoder.TileRead.{places_from}
use Rattle.rfb_codec.proofs.hextile.paint.reading.are_places_inside.Given as goal

abbrev pub invariant-loop-i : goal.invariant-loop-i
invariant-loop-i l = l.inside ≡ are_inside l.width l.height (places_from l.skip l.i l.list)
