use Rattle.std.proofs.Common.{ap, sym, ◌∙◌}
use Rattle.rfb_picture.proofs.AreaLaws.{area-no_places}
use Rattle.rfb_picture.proofs.GridLaws.{width-uniform, height-uniform}
use Rattle.rfb_server.proofs.RecordLemmas.{width-record_of, height-record_of, record-forgotten}
use Rattle.rfb_server.proofs.record.Record.forget.Goals as goal

pub invariant_of-self : goal.invariant_of-self
invariant_of-self c =
    rw (c.clear.ensures.value)
    (record {
      whole = c.self.invariant.whole;
      area = area-no_places _ _;
      wide = width-uniform _ _ _ ∙ c.self.invariant.wide;
      high = height-uniform _ _ _ ∙ c.self.invariant.high;
    })

pub returns-clause-value : goal.returns-clause-value
returns-clause-value c =
    rw (c.clear.ensures.value, ← c.self.view_is)
    (record-forgotten c.self.inside.pixels c.self.inside.known.asked c.self.invariant.wide c.self.invariant.high)

pub returns-clause-width : goal.returns-clause-width
returns-clause-width c =
    width-record_of _ _ ∙ (sym (width-record_of c.self.inside.pixels c.self.inside.known.asked)
    ∙ ap (λ g. g.width) c.self.view_is)

pub returns-clause-height : goal.returns-clause-height
returns-clause-height c =
    height-record_of _ _ ∙ (sym (height-record_of c.self.inside.pixels c.self.inside.known.asked)
    ∙ ap (λ g. g.height) c.self.view_is)
