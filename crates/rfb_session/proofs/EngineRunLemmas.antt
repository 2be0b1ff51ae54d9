-- Runs of an engine, one after another.
use Rattle.std.proofs.Common.{◌≡◌, ℕ, ◌+◌, List, [], ◌∷◌, ◌++◌, Option, refl, sym, ap, ◌∙◌, subst, append_assoc}
use Rattle.std.proofs.Common.{append-nil, arith}
use Rattle.rfb_wire.specs.stream.End.{FedBy}
use Rattle.rfb_session.specs.EngineRun.{Step, Fed, Did, Driven, Runs, Ran, RunsOn, fed_at, fed_in, sent_in, updates_in}
use Rattle.rfb_session.specs.EngineRun.{AreFed, FeedsOn, TakesNone}

pub counted : (all b m n : ℕ) → all ≡ b + m → all + n ≡ b + (m + n)
counted all b m n is = omega (arith, is)

pub none_more : (b : ℕ) → b ≡ b + 0
none_more b = omega arith

pub only_one : (n : ℕ) → n ≡ 0 + n
only_one n = omega arith

module _ {E A : Type 0} where
  pub fed_append : (before more : List (Step E A)) → fed_in (more ++ before) ≡ fed_in before ++ fed_in more
  fed_append before [] = sym (append-nil (fed_in before))
  fed_append before (step ∷ more) =
      ap (λ (l : List ℕ). l ++ fed_at step) (fed_append before more)
      ∙ append_assoc (fed_in before) (fed_in more) (fed_at step)

  pub are_fed : (before more : List (Step E A)) → AreFed before → AreFed more → AreFed (more ++ before)
  are_fed before [] one two = one
  are_fed before (Fed bytes event ∷ more) one two = are_fed before more one two
  are_fed before (Did act ∷ more) one two = absurd two

module _ {V : Type 0} where
  -- an end that had failed took none of some bytes, and then none of more
  pub takes_none_then : (old mid new : V) (fed sent more_fed more_sent : List ℕ) (n m : ℕ) →
      TakesNone old fed sent n mid → TakesNone mid more_fed more_sent m new →
      TakesNone old (fed ++ more_fed) (sent ++ more_sent) (n + m) new
  takes_none_then old mid new fed sent more_fed more_sent n m one two = record {
    unfed = ap (λ (l : List ℕ). l ++ more_fed) one.unfed ∙ two.unfed;
    unsent = ap (λ (l : List ℕ). l ++ more_sent) one.unsent ∙ two.unsent;
    untold = omega (arith, one.untold, two.untold);
    same = two.same ∙ one.same;
  }

  pub takes_none : (end : V) → TakesNone end [] [] 0 end
  takes_none end = record { unfed = refl; unsent = refl; untold = refl; same = refl }

module _ {V C S P I F E A : Type 0} where
  pub runs_append : (d : Driven V C S P I F E A) (made : C) (s t u : S) (prefix mid rest : List ℕ)
      (before more : List (Step E A)) → Runs d made s prefix before t mid →
      Runs d made t mid more u rest → Runs d made s prefix (more ++ before) u rest
  runs_append d made s t u prefix mid rest before [] one two =
      subst (λ (x : S). Runs d made s prefix before x rest) (sym two.0)
      (subst (λ (x : List ℕ). Runs d made s prefix before t x) (sym two.1) one)
  runs_append d made s t u prefix mid rest before (step ∷ more) one two =
      (two.0, two.1, runs_append d made s t two.0 prefix mid two.1 before more one two.2, two.3)

  pub sent_append : (d : Driven V C S P I F E A) (before more : List (Step E A)) →
      sent_in d (more ++ before) ≡ sent_in d before ++ sent_in d more
  sent_append d before [] = sym (append-nil (sent_in d before))
  sent_append d before (step ∷ more) =
      ap (λ (l : List ℕ). l ++ d.sends step) (sent_append d before more)
      ∙ append_assoc (sent_in d before) (sent_in d more) (d.sends step)

  pub updates_append : (d : Driven V C S P I F E A) (before more : List (Step E A)) →
      updates_in d (more ++ before) ≡ updates_in d before + updates_in d more
  updates_append d before [] = none_more (updates_in d before)
  updates_append d before (step ∷ more) =
      counted (updates_in d (more ++ before)) (updates_in d before) (updates_in d more)
      (d.updates step) (updates_append d before more)

  -- no step
  unfoldable pub ran_none : (d : Driven V C S P I F E A) (end : V) → RunsOn d end [] [] 0 end
  ran_none d end = λ made s prefix stands. record {
    steps = [];
    state = s;
    rest = prefix;
    runs = (refl, refl);
    stands = stands;
    fed_is = refl;
    sent_is = refl;
    updates_are = refl;
  }

  -- steps after steps
  abbrev pub joined : (d : Driven V C S P I F E A) (made : C) (s : S) (prefix : List ℕ) (mid new : V)
      (fed sent more_fed more_sent all_fed all_sent : List ℕ) (n m k : ℕ) →
      all_fed ≡ fed ++ more_fed → all_sent ≡ sent ++ more_sent → k ≡ n + m →
      (a : Ran d made s prefix mid fed sent n) →
      Ran d made a.state a.rest new more_fed more_sent m → Ran d made s prefix new all_fed all_sent k
  joined d made s prefix mid new fed sent more_fed more_sent all_fed all_sent n m k feds sents counts a b =
      record {
        steps = b.steps ++ a.steps;
        state = b.state;
        rest = b.rest;
        runs = runs_append d made s a.state b.state prefix a.rest b.rest a.steps b.steps a.runs b.runs;
        stands = b.stands;
        fed_is = feds ∙ ap (λ (l : List ℕ). l ++ more_fed) a.fed_is
            ∙ ap (λ (l : List ℕ). fed_in a.steps ++ l) b.fed_is ∙ sym (fed_append a.steps b.steps);
        sent_is = sents ∙ ap (λ (l : List ℕ). l ++ more_sent) a.sent_is
            ∙ ap (λ (l : List ℕ). sent_in d a.steps ++ l) b.sent_is
            ∙ sym (sent_append d a.steps b.steps);
        updates_are = counts ∙ ap (λ (x : ℕ). x + m) a.updates_are
            ∙ ap (λ (x : ℕ). updates_in d a.steps + x) b.updates_are
            ∙ sym (updates_append d a.steps b.steps);
      }

  -- a run after a run
  pub ran_then : (d : Driven V C S P I F E A) (old mid new : V) (fed sent more_fed more_sent : List ℕ)
      (n m : ℕ) → RunsOn d old fed sent n mid → RunsOn d mid more_fed more_sent m new →
      RunsOn d old (fed ++ more_fed) (sent ++ more_sent) (n + m) new
  ran_then d old mid new fed sent more_fed more_sent n m one two = λ made s prefix stands.
      let a = one made s prefix stands in
      joined d made s prefix mid new fed sent more_fed more_sent (fed ++ more_fed)
      (sent ++ more_sent) n m (n + m) refl refl refl a (two made a.state a.rest a.stands)

  -- a call that fed the end
  unfoldable pub ran_fed : (d : Driven V C S P I F E A) (old new : V) (bytes : List ℕ) (event : Option E) →
      ((made : C) → FedBy (d.machine made) (d.stands made) old bytes event new) →
      RunsOn d old bytes (d.sends (Fed bytes event)) (d.updates (Fed bytes event)) new
  ran_fed d old new bytes event fed = λ made s prefix stands.
      let one = fed made s prefix stands in
      record {
        steps = Fed bytes event ∷ [];
        state = one.0;
        rest = one.1;
        runs = (s, prefix, (refl, refl), one.3);
        stands = one.2;
        fed_is = refl;
        sent_is = refl;
        updates_are = only_one (d.updates (Fed bytes event));
      }

  -- ---- the same, where nothing but feeding was done

  pub feeds_none : (d : Driven V C S P I F E A) (end : V) → FeedsOn d end [] [] 0 end
  unfolding ran_none
  feeds_none d end = λ made s prefix stands. (ran_none d end made s prefix stands, tt)

  pub feeds_then : (d : Driven V C S P I F E A) (old mid new : V) (fed sent more_fed more_sent : List ℕ)
      (n m : ℕ) → FeedsOn d old fed sent n mid → FeedsOn d mid more_fed more_sent m new →
      FeedsOn d old (fed ++ more_fed) (sent ++ more_sent) (n + m) new
  feeds_then d old mid new fed sent more_fed more_sent n m one two = λ made s prefix stands.
      let a = one made s prefix stands in
      let b = two made a.0.state a.0.rest a.0.stands in (
        joined d made s prefix mid new fed sent more_fed more_sent (fed ++ more_fed)
            (sent ++ more_sent) n m (n + m) refl refl refl a.0 b.0,
        are_fed a.0.steps b.0.steps a.1 b.1,
      )

  pub feeds_once : (d : Driven V C S P I F E A) (old new : V) (bytes : List ℕ) (event : Option E) →
      ((made : C) → FedBy (d.machine made) (d.stands made) old bytes event new) →
      FeedsOn d old bytes (d.sends (Fed bytes event)) (d.updates (Fed bytes event)) new
  unfolding ran_fed
  feeds_once d old new bytes event fed = λ made s prefix stands.
      (ran_fed d old new bytes event fed made s prefix stands, tt)

  pub feeds_runs : (d : Driven V C S P I F E A) (old new : V) (fed sent : List ℕ) (n : ℕ) →
      FeedsOn d old fed sent n new → RunsOn d old fed sent n new
  feeds_runs d old new fed sent n feeds = λ made s prefix stands. (feeds made s prefix stands).0

  -- an act
  pub ran_did : (d : Driven V C S P I F E A) (old new : V) (act : A) →
      ((made : C) (s : S) (prefix : List ℕ) → d.stands made old s prefix →
      (t : S) × d.does s act t × d.stands made new t prefix) →
      RunsOn d old [] (d.sends (Did act)) (d.updates (Did act)) new
  ran_did d old new act does = λ made s prefix stands.
      let one = does made s prefix stands in
      record {
        steps = Did act ∷ [];
        state = one.0;
        rest = prefix;
        runs = (s, prefix, (refl, refl), (one.1, refl));
        stands = one.2;
        fed_is = refl;
        sent_is = refl;
        updates_are = only_one (d.updates (Did act));
      }
