use Rattle.std.proofs.Common.{◌≡◌, ◌&&◌, Bool, true, false, refl, sym, subst}
use Rattle.rfb_session.specs.Headline.{AnswersSome}
use Rattle.rfb_session.specs.Link.{LinkState}
use Rattle.rfb_session.proofs.law.the_latest_update_answers_a_place.Goals as goal

first_holds : (a b : Bool) → (a && b) ≡ true → a ≡ true
first_holds true b both = refl
first_holds false b both = absurd cc

pub returns : goal.returns
returns c = λ screen old new composes.
    let due = composes.due in
    subst (λ (l : LinkState). AnswersSome l.latest) (sym composes.result)
    (due.x, due.y, due.is_place.0, due.is_place.1, first_holds _ _ due.needs)
