use Rattle.std.proofs.Common.{None, ◌∙◌, sym, arith}
use Rattle.std.proofs.lemmas.Bool.{OnTrue_at, OnTrue_from}
use Rattle.std.proofs.lemmas.List.{get_or_default}
use Rattle.rfb_session.proofs.share.meeting.are_alike.Goals as goal

pub returns-then-are : goal.returns-then-are
returns-then-are c =
    let slots = c.args.slots.now in
    let own = get_or_default slots c.args.own c.index-slots-own.result None (omega (arith, c.requires.places.0)) in
    let at = get_or_default slots c.args.place c.index-slots-place.result None
    (omega (arith, c.requires.places.1)) in
    OnTrue_from c.are.result _ (λ e. record {
      one = c.in-Some-Some.one;
      is_one = sym own ∙ c.in-Some-Some.is-0;
      knows = record {
        other = c.in-Some-Some.other;
        is_other = sym at ∙ c.in-Some-Some.is-1;
        knows = λ screen about about_too. c.requires.alike c.args.own c.args.place c.in-Some-Some.one
            c.in-Some-Some.other c.if-are.ensures (sym own ∙ c.in-Some-Some.is-0) (sym at ∙ c.in-Some-Some.is-1);
      };
    })

pub returns-else-are : goal.returns-else-are
returns-else-are c =
    let slots = c.args.slots.now in
    let own = get_or_default slots c.args.own c.index-slots-own.result None (omega (arith, c.requires.places.0)) in
    let at = get_or_default slots c.args.place c.index-slots-place.result None
    (omega (arith, c.requires.places.1)) in
    OnTrue_from c.knows_as.result _ (λ e. record {
      one = c.in-Some-Some.one;
      is_one = sym own ∙ c.in-Some-Some.is-0;
      knows = record {
        other = c.in-Some-Some.other;
        is_other = sym at ∙ c.in-Some-Some.is-1;
        knows = OnTrue_at e c.knows_as.ensures;
      };
    })
