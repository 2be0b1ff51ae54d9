use Rattle.rfb_codec.proofs.PendingTileLaws.{raw_tile_pending, drawn_tile_pending}
use Rattle.rfb_codec.proofs.law.pending.a_tile_is_pending_by_its_mask.Goals as goal

pub returns-clause-raw : goal.returns-clause-raw
returns-clause-raw c =
    λ f mask count pixels rest raw whole less. raw_tile_pending f mask count pixels rest raw whole less

pub returns-clause-drawn : goal.returns-clause-drawn
returns-clause-drawn c = λ f mask rest drawn. drawn_tile_pending f mask rest drawn
