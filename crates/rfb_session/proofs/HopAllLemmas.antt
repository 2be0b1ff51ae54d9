-- A relay that asks for its whole screen each time shows all of the server's, and passes all of that on.
use Rattle.std.proofs.Common.{◌≡◌, ◌<◌, ℕ, true, List, [], ◌∷◌, ◌++◌, Option, Some, None, subst}
use Rattle.rfb_pixel.specs.declared.colour.Colour.{Colour}
use Rattle.rfb_picture.specs.Area.{asked_at}
use Rattle.rfb_picture.specs.Grid.{Grid}
use Rattle.rfb_session.specs.Headline.{due_picture}
use Rattle.rfb_session.specs.Hops.{Moment, IsRun, Once, IsBetween, ShowsTwice}
use Rattle.rfb_session.specs.HopAreas.{AllAnswerAll, ShowsAll, ShowsAllTwice, ShowsAllThrough, IsAllPassedOn}
use Rattle.rfb_session.specs.Link.{Ends, Composing, LinkState}
use Rattle.rfb_session.proofs.HopRunLemmas.{seen_holds, passed_holds}

-- so it is at those moments that are the last of them
later_ask : (later moments : List Moment) → AllAnswerAll (later ++ moments) → AllAnswerAll moments
later_ask [] moments all = all
later_ask (m ∷ later) moments all = later_ask later moments all.1

once_ask : (moments : List Moment) (P Q : Moment → List Moment → Type 0) → AllAnswerAll moments →
    ((m : Moment) (earlier : List Moment) → AllAnswerAll (m ∷ earlier) → P m earlier → Q m earlier) →
    Once moments P →
    Once moments Q
once_ask moments P Q all goes one = record {
  moment = one.moment;
  later = one.later;
  earlier = one.earlier;
  is_of = one.is_of;
  so = goes one.moment one.earlier
      (later_ask one.later (one.moment ∷ one.earlier) (subst (λ (ms : List Moment). AllAnswerAll ms) one.is_of all))
      one.so;
}

pub all_seen : (e f : Ends) (m : Moment) (earlier : List Moment) → IsRun e f (m ∷ earlier) →
    AllAnswerAll (m ∷ earlier) → IsBetween m → Once (m ∷ earlier) (λ at before. ShowsAll m at before)
all_seen e f m earlier run all between =
    once_ask (m ∷ earlier) _ (λ at before. ShowsAll m at before) all
    (λ at before asks one. (
      one.0,
      one.1,
      one.3,
      λ x y d p q. one.2 x y d p q (asks.0 one.0 one.1 x y p q),
    ))
    (seen_holds e f m earlier run between)

twice_all : (first second : Composing) (picture : Option (Grid Colour)) →
    ((x y : ℕ) → x < first.screen.width → y < first.screen.height → asked_at first.area x y ≡ true) →
    ShowsTwice first second picture → ShowsAllTwice first second picture
twice_all first second None asked shows = shows
twice_all first second (Some g) asked shows = λ x y d p q here. shows x y d (p, q, asked x y p q) here

pub all_passed : (e f : Ends) (m : Moment) (earlier : List Moment) (l : LinkState) (c : Composing) →
    IsRun e f (m ∷ earlier) → AllAnswerAll (m ∷ earlier) → m.below ≡ Some l → l.latest ≡ Some c →
    Once (m ∷ earlier) (λ at before. IsAllPassedOn c (due_picture f l) at before)
all_passed e f m earlier l c run all is latest =
    once_ask (m ∷ earlier) _ (λ at before. IsAllPassedOn c (due_picture f l) at before) all
    (λ at before asks passed. record {
      screen = passed.screen;
      shows = λ between.
          once_ask (at ∷ before) _ (λ once sooner. ShowsAllThrough c (due_picture f l) at once sooner) asks
          (λ once sooner asked one. (
            one.0,
            one.1,
            twice_all one.0 c (due_picture f l) (asked.0 one.0 one.1) one.2,
            one.3,
          ))
          (passed.shows between);
    })
    (passed_holds e f m earlier l c run is latest)
