use Rattle.rfb_codec.proofs.HextileEncodeLemmas.{tile_below}
use Rattle.rfb_codec.proofs.TilesLaws.{in_its_tile, in_no_other, place_in_tile, tile_inside}
use Rattle.rfb_codec.proofs.law.tiles.tiles_share_out_the_places.Goals as goal

pub returns-clause-number : goal.returns-clause-number
returns-clause-number c = λ w h x y p q. tile_below w h x y p q

pub returns-clause-held : goal.returns-clause-held
returns-clause-held c = λ w h x y p q. in_its_tile w h x y p q

pub returns-clause-once : goal.returns-clause-once
returns-clause-once c = λ w h n x y here. in_no_other w h n x y here

pub returns-clause-column : goal.returns-clause-column
returns-clause-column c = λ w h x y p q. (place_in_tile w h x y p q).0

pub returns-clause-row : goal.returns-clause-row
returns-clause-row c = λ w h x y p q. (place_in_tile w h x y p q).1

pub returns-clause-inside : goal.returns-clause-inside
returns-clause-inside c = λ w h n below. let is = tile_inside w h n below in (is.2, is.3)

pub returns-clause-some : goal.returns-clause-some
returns-clause-some c = λ w h n below. let is = tile_inside w h n below in (is.0, is.1)
