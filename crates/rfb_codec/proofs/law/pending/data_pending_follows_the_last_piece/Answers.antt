use Rattle.rfb_codec.proofs.PendingLaws.{raw_pending, source_pending, rre_head_pending, subrects_pending}
use Rattle.rfb_codec.proofs.PendingLaws.{hextile_pending, data_pending_below, data_pending_within}
use Rattle.rfb_codec.proofs.law.pending.data_pending_follows_the_last_piece.Goals as goal

pub returns-clause-pixel : goal.returns-clause-pixel
returns-clause-pixel c = λ f rect count front rest whole less. raw_pending f rect count front rest whole less

pub returns-clause-source : goal.returns-clause-source
returns-clause-source c = λ f rect bytes less. source_pending f rect bytes less

pub returns-clause-background : goal.returns-clause-background
returns-clause-background c = λ f rect bytes less. rre_head_pending f rect bytes less

pub returns-clause-subrectangle : goal.returns-clause-subrectangle
returns-clause-subrectangle c = λ f rect count background subs head list rest head_is listed less.
    subrects_pending f rect count background subs head list rest head_is listed less

pub returns-clause-tile : goal.returns-clause-tile
returns-clause-tile c =
    λ f rect tiles front rest listed less waits. hextile_pending f rect tiles front rest listed less waits

pub returns-clause-most : goal.returns-clause-most
returns-clause-most c = λ f rect encoding bytes format are. data_pending_below f rect encoding bytes format are

pub returns-clause-few : goal.returns-clause-few
returns-clause-few c = λ f rect encoding bytes. data_pending_within f rect encoding bytes
