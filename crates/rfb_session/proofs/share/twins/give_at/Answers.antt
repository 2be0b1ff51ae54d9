use Rattle.std.proofs.Common.{sym, ◌∙◌, ap, ℕ}
use Rattle.rfb_picture.specs.Places.{has_bit}
use Rattle.rfb_session.proofs.share.twins.give_at.Goals as goal

pub give_apart-requires-clause-twin : goal.give_apart-requires-clause-twin
give_apart-requires-clause-twin c =
    c.requires.twin (ap (λ (k : ℕ). has_bit c.args.twins k) (sym c.at-seat.ensures)
    ∙ (sym c.has.ensures ∙ c.if-not-has.false))
