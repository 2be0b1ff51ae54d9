use Rattle.std.proofs.Common.{◌≡◌, false, nat_eq, subst, sym, ap, ◌∙◌, ℕ}
use Rattle.rfb_picture.specs.Places.{has_bit}
use Rattle.rfb_session.proofs.SlotLemmas.{other}
use Rattle.rfb_session.proofs.ShareTwinLemmas.{only_one}
use Rattle.rfb_session.proofs.share.twins.twin_at.Goals as goal

pub returns-in-Some-clause-twin : goal.returns-in-Some-clause-twin
returns-in-Some-clause-twin c = λ k e.
    let same : k ≡ c.args.place =
    only_one c.none-in-Some.result c.with.result c.args.place c.at-seat.result c.at-seat.ensures c.none-in-Some.ensures
    c.with.ensures k e in (
      same,
      subst (λ (j : ℕ). nat_eq j c.args.own ≡ false) (sym same)
          (other c.args.place c.args.own c.if-place-own.false),
      record {
        other = c.in-Some.other;
        is_other = c.in-Some.is;
        twins = c.if-is_twin_of.ensures;
      },
    )

pub returns-in-Some-clause-within : goal.returns-in-Some-clause-within
returns-in-Some-clause-within c = λ k e.
    let same : k ≡ c.args.place =
    only_one c.none-in-Some.result c.with.result c.args.place c.at-seat.result c.at-seat.ensures c.none-in-Some.ensures
    c.with.ensures k e in
    ap (λ (j : ℕ). has_bit c.args.others j) (same ∙ sym c.at-seat.ensures) ∙
    (sym c.has.ensures ∙ c.if-not-has.false)
