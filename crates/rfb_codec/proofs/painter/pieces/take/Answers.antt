use Rattle.rfb_codec.proofs.painter.pieces.take.Goals as goal

pub returns-in-BeforeSource : goal.returns-in-BeforeSource
returns-in-BeforeSource c = rw c.in-BeforeSource.is c.take_source.ensures

pub returns-in-InPixels : goal.returns-in-InPixels
returns-in-InPixels c = rw c.in-InPixels.is c.take_run.ensures

pub returns-in-BeforeHead : goal.returns-in-BeforeHead
returns-in-BeforeHead c = rw c.in-BeforeHead.is c.take_head.ensures

pub returns-in-InSubrects : goal.returns-in-InSubrects
returns-in-InSubrects c = rw c.in-InSubrects.is c.take_subrect.ensures

pub returns-in-InTiles : goal.returns-in-InTiles
returns-in-InTiles c = rw c.in-InTiles.is c.take_tile.ensures

pub returns-in-InRawTile : goal.returns-in-InRawTile
returns-in-InRawTile c = rw c.in-InRawTile.is c.take_raw.ensures
