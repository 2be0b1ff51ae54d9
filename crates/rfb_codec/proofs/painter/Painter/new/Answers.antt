use Rattle.std.proofs.Common.{ℕ, List, [], sym, subst}
use Rattle.rfb_codec.specs.declared.painter.stage.Stage.{Stage}
use Rattle.rfb_codec.specs.Stage.{StandsAt}
use Rattle.rfb_codec.specs.decoder.Step.{stage_of}
use Rattle.rfb_codec.proofs.FeedLemmas.{fresh_stands}
use Rattle.rfb_codec.proofs.painter.Painter.new.Goals as goal

pub returns-clause-stands : goal.returns-clause-stands
returns-clause-stands c = λ picture.
    let r = c.new-rectangle.result in
    let fresh = fresh_stands r.format r.rect c.args.encoding picture r.some in
    let empty = subst (λ (ys : List ℕ). StandsAt r.format r.rect (stage_of c.args.encoding) ys picture picture [])
    (sym c.new.ensures) fresh in
    subst (λ (stage : Stage). StandsAt r.format r.rect stage c.new.result.items picture picture [])
    (sym c.first_stage.ensures) empty
