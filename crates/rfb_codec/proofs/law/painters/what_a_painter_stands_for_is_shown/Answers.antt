use Rattle.rfb_codec.proofs.VerdictLemmas.{stage_ended}
use Rattle.rfb_codec.proofs.FrontPendingLaws.{kept_is_pending, stands_shows}
use Rattle.rfb_codec.proofs.law.painters.what_a_painter_stands_for_is_shown.Goals as goal

pub returns-clause-shown : goal.returns-clause-shown
returns-clause-shown c = λ p now before body stands. stands_shows p.form p.rect p.stage p.pending now before body stands

pub returns-clause-pending : goal.returns-clause-pending
returns-clause-pending c =
    λ p now before body stands. kept_is_pending p.form p.rect p.stage p.pending now before body stands

pub returns-clause-ended : goal.returns-clause-ended
returns-clause-ended c = λ p now before body whole ended stands.
    let end = stage_ended p.form p.rect p.stage p.pending now before body whole ended stands in
    (end.contents, end.read, end.shows)
