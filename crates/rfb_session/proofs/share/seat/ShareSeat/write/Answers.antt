use Rattle.std.proofs.Common.{length, refl, ap, arith}
use Rattle.rfb_session.proofs.ShareFitLemmas.{fits_empty, cut_few, cut_fits}
use Rattle.rfb_session.proofs.ShareMemoryLemmas.{writes_some}
use Rattle.rfb_session.proofs.share.seat.ShareSeat.write.Goals as goal

pub invariant_of-self : goal.invariant_of-self
invariant_of-self c =
    let s = c.args.self.now in
    let cut = c.cut-self in
    record {
      within = cut.ensures.within;
      few = cut_few s.waiting cut.new.self cut.ensures.kind s.few;
      roomy = cut_fits s.session s.waiting cut.new.self cut.ensures.kind s.roomy;
    }

pub invariant_of-self-2-clause-roomy : goal.invariant_of-self-2-clause-roomy
invariant_of-self-2-clause-roomy c =
    let s = c.args.self.now in
    fits_empty s.session s.waiting c.new.result c.new.ensures s.roomy

pub returns-then-count-kept : goal.returns-then-count-kept
returns-then-count-kept c =
    let long = ap (λ xs. length xs) c.kept-kept.ensures in
    writes_some _ c.args.self.now _ c.cut-self.ensures.rest c.cut-self.ensures.memory refl (omega (arith, long))
