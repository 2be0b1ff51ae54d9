use Rattle.std.proofs.Common.{◌≡◌, ◌+◌, nat_lt, true, false, inl, inr, arith}
use Rattle.std.proofs.lemmas.Bool.Decides.{nat_tests}
use Rattle.rfb_server.specs.update.Gains.{HasMoreRight, right_before, right_after, claims_row}
use Rattle.rfb_server.proofs.ClaimedCountLemmas.{told_by_won}
use Rattle.rfb_server.proofs.ClaimedRowLemmas.{claimed_full, place_before, place_after}
use Rattle.std.specs.Bool.{OnTrue, OnFalse}
use Rattle.rfb_server.proofs.session.Session.judge_claimed.Goals.{After-won_in-won}
use Rattle.rfb_server.proofs.session.Session.judge_claimed.Goals as goal

-- whether more is gained than lost is told by the rows that are not claimed, and by what is won
told : (c : After-won_in-won) →
    OnTrue (nat_lt c.right_in_others-others.result.before (c.right_in_others-others.result.after + c.won_in-won.result))
    (HasMoreRight c.args.screen.now c.args.self.now c.args.hint)
    × OnFalse (nat_lt c.right_in_others-others.result.before (c.right_in_others-others.result.after
    + c.won_in-won.result)) (HasMoreRight c.args.screen.now c.args.self.now c.args.hint → ⊥)
told c =
    let screen = c.args.screen.now in
    let s = c.args.self.now in
    let hint = c.args.hint in
    let claim = c.args.claim.now in
    let others = c.right_in_others-others in
    let won = c.won_in-won in
    told_by_won (right_before screen s hint) (right_after screen s hint) (claims_row claim hint)
    hint.to others.result.before others.result.after won.result c.saturating_sub-lost.result
    (λ row l here. claimed_full screen s hint claim row c.requires.far c.requires.claimed here)
    others.ensures.before others.ensures.after won.ensures.few (omega arith) won.ensures.all

pub returns-then-won-eq0-clause-more : goal.returns-then-won-eq0-clause-more
returns-then-won-eq0-clause-more c = (told (goal.at.returns-then-won-eq0-clause-more c).After-won_in-won).0

pub returns-then-won-eq0-clause-no_more : goal.returns-then-won-eq0-clause-no_more
returns-then-won-eq0-clause-no_more c = (told (goal.at.returns-then-won-eq0-clause-no_more c).After-won_in-won).1

pub returns-else-won-eq0-clause-no_more : goal.returns-else-won-eq0-clause-no_more
returns-else-won-eq0-clause-no_more c = (told (goal.at.returns-else-won-eq0-clause-no_more c).After-won_in-won).1

pub returns-then-won-eq0-clause-right : goal.returns-then-won-eq0-clause-right
returns-then-won-eq0-clause-right c x y quiet =
    let screen = c.args.screen.now in
    let s = c.args.self.now in
    let hint = c.args.hint in
    let claim = c.args.claim.now in
    let before = c.right_in_others-others.result.before in
    let after = c.right_in_others-others.result.after in
    let won = c.won_in-won in
    let (inside, claimed) = c.claimed_part-right.ensures x y quiet in
    let whole = c.requires.free.not_whole x y inside in
    elim c.if-won-eq0.either [
      | inl more ↦
          let gain : nat_lt before (after + won.result) ≡ true = grind (arith, nat_tests) in (
            inside,
            whole,
            rw gain
                (place_after screen s hint claim x y inside claimed c.requires.far c.requires.claimed),
          )
      | inr none ↦
          let gain : nat_lt before (after + won.result) ≡ false = grind (arith, nat_tests) in (
            inside,
            whole,
            rw gain (place_before screen s hint claim x y inside claimed
                (omega (arith, none, won.ensures.all (omega (arith, none))))),
          )
    ]
