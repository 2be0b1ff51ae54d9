use Rattle.std.proofs.Common.{None, ◌∙◌, sym, arith, Option, subst, inl, inr}
use Rattle.std.proofs.lemmas.Bool.{OnTrue_at}
use Rattle.std.proofs.lemmas.List.{get_or_default}
use Rattle.rfb_picture.specs.Places.{has_bit}
use Rattle.rfb_session.specs.declared.share.seat.ShareSeat.{ShareSeat}
use Rattle.rfb_session.specs.ShareTwins.{IsTwinOf}
use Rattle.rfb_session.proofs.ShareTwinLemmas.{twins_more, or_true}
use Rattle.rfb_session.proofs.share.twins.twins_in.Goals as goal

pub loop-place-preserved : goal.loop-place-preserved
loop-place-preserved c =
    let l = c.loop-place in
    let one = get_or_default c.args.slots.now c.args.own c.index-slots-own.result None (omega arith) in
    let at = get_or_default c.args.slots.now l.place c.index-slots-place.result None
    (omega (arith, c.loop-place-test.true)) in
    record {
      twins = twins_more c.args.slots.now c.args.own l.place l.twins c.twin_at.result c.or-twins.result c.in-Some.one
          (sym one ∙ c.in-Some.is) c.or-twins.ensures
          (λ k e. let (same, apart, twin) = c.twin_at.ensures.twin k e in
          (same, apart, subst (λ (s : Option ShareSeat). IsTwinOf c.in-Some.one s) at twin)) l.invariant.twins;
      within = λ k e.
          elim (or_true (has_bit l.twins k) (has_bit c.twin_at.result k) (sym (c.or-twins.ensures k) ∙ e)) [
            | inl early ↦ l.invariant.within k early
            | inr late ↦ c.twin_at.ensures.within k late
          ];
    }

pub twin_at-requires-clause-same : goal.twin_at-requires-clause-same
twin_at-requires-clause-same c = λ e other is.
    let own = get_or_default c.args.slots.now c.args.own c.index-slots-own.result None (omega arith) in
    let at = get_or_default c.args.slots.now c.loop-place.place c.index-slots-place.result None
    (omega (arith, c.loop-place-test.true)) in
    sym (c.requires.alike c.args.own c.loop-place.place c.in-Some.one other (OnTrue_at e c.are-is_kin.ensures)
    (sym own ∙ c.in-Some.is) (sym at ∙ is))
