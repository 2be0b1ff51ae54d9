use Rattle.std.proofs.Common.{drop, ap, refl, List, ℕ}
use Rattle.rfb_session.proofs.ShareFitLemmas.{cut_few, cut_fits, cut_kind}
use Rattle.rfb_session.proofs.share.seat.ShareSeat.share.Goals as goal

pub invariant_of-self : goal.invariant_of-self
invariant_of-self c =
    let s = c.args.self.now in
    let share = c.share in
    record {
      within = rw (share.ensures.kept) s.within;
      few = cut_few s.waiting share.new.self share.ensures.kind s.few;
      roomy = cut_fits s.session s.waiting share.new.self share.ensures.kind s.roomy;
    }

pub returns : goal.returns
returns c =
    let s = c.args.self.now in
    record {
      waits = ap (λ (l : List ℕ). drop s.written l) c.share.ensures.kept;
      update = cut_kind s.waiting c.share.new.self c.share.ensures.kind;
      memory = c.share.ensures.memory;
      session = refl;
    }
