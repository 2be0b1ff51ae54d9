-- What an end of a stream of two grammars takes, refuses and wants memory for, from what
-- the ends of its parts do.
use Rattle.std.proofs.Common.{◌≡◌, ℕ, List, [], ◌∷◌, ◌++◌, inl, inr, Option, Some, None, map, refl, sym, subst, ◌∙◌, ap}
use Rattle.std.specs.Prelude.{IsTrue}
use Rattle.std.specs.Option.{IfSome}
use Rattle.rfb_wire.specs.stream.Prefix.{Next, More}
use Rattle.rfb_wire.specs.stream.Parts.{named}
use Rattle.rfb_wire.specs.stream.Grammar.{Grammar, ReadsAll}
use Rattle.rfb_wire.specs.stream.End.{Machine, IsMachine, acts, EndsWith, Takes, Refuses, RunsOut}
use Rattle.rfb_wire.specs.stream.Sequel.{Stage, First, Second, turn, Two, sequel}
use Rattle.rfb_wire.specs.stream.Both.{event_as, first_point, end_at, DoesAs, ComesTo, StarvesAs, GoesAsFirst}
use Rattle.rfb_wire.specs.stream.Both.{GoesAsSecond, LandsAs}
use Rattle.rfb_wire.proofs.stream_laws.EndLaws.{quiet_first}

-- nothing is left over after an event of the whole, since it is one of the part
whole_as : {D E : Type 0} (event : D → Option E) (told : Option D) (rest : List ℕ) →
    IfSome told (λ _. rest ≡ []) → IfSome (event_as event told) (λ _. rest ≡ [])
whole_as event None rest whole = tt
whole_as {E = E} event (Some d) rest whole = some (event d)
  where
    some : (e : Option E) → IfSome e (λ _. rest ≡ [])
    some None = tt
    some (Some e) = whole

module _ {S R K H E A P I F D : Type 0} {m : Machine S R K H E} {a : Machine A P I F D} {shows : S → Option A}
    {item : I → K} {fault : F → H} {event : D → Option E} (does : DoesAs m a shows item fault event)
  where
    -- ---- items of the other, as the end's own

    pub items_end : (s : S) (u : A) (items : List I) (told : Option D) → shows s ≡ Some u →
        EndsWith a u items told → EndsWith m s (map item items) (event_as event told)
    items_end s u [] told shown ends = ap (λ (e : Option D). event_as event e) ends
    items_end s u (i ∷ []) told shown ends =
        does.tells s u i shown ∙ ap (λ (e : Option D). event_as event e) ends
    items_end s u (i ∷ j ∷ items) told shown ends = (
      does.tells s u i shown ∙ ap (λ (e : Option D). event_as event e) ends.0,
      items_end (m.act s (item i)) (a.act u i) (j ∷ items) told (does.goes_on s u i shown ends.0) ends.1,
    )

    -- where items without an event leave the end
    pub items_quiet : (s : S) (u : A) (items : List I) → shows s ≡ Some u → EndsWith a u items None →
        shows (acts m s (map item items)) ≡ Some (acts a u items)
    items_quiet s u [] shown ends = shown
    items_quiet s u (i ∷ items) shown ends =
        let first = quiet_first a u i items ends in
        items_quiet (m.act s (item i)) (a.act u i) items (does.goes_on s u i shown first.0) first.1

    -- and where items leave it
    pub items_come : (s : S) (u : A) (items : List I) (told : Option D) → shows s ≡ Some u →
        EndsWith a u items told →
        ComesTo m a shows item told (acts m s (map item items)) (acts a u items)
    items_come s u items None shown ends = items_quiet s u items shown ends
    items_come s u [] (Some d) shown ends = absurd cc
    items_come s u (i ∷ []) (Some d) shown ends = (s, u, i, shown, ends, refl, refl)
    items_come s u (i ∷ j ∷ items) (Some d) shown ends =
        items_come (m.act s (item i)) (a.act u i) (j ∷ items) (Some d)
        (does.goes_on s u i shown ends.0) ends.1

    -- what waits for the other waits for the end
    pub waits_as : (s : S) (u : A) (rest : List ℕ) → shows s ≡ Some u →
        a.grammar.next (a.point u) rest ≡ More → m.grammar.next (m.point s) rest ≡ More
    waits_as s u rest shown more =
        does.reads s u rest shown ∙ ap (λ (n : Next I F). named item fault n) more

module _ {S R K H E A P I F D : Type 0} {m : Machine S R K H E} {a : Machine A P I F D} {shows : S → Option A}
    {item : I → K} {fault : F → H} {event : D → Option E} (is : IsMachine m) (other : IsMachine a)
    (does : DoesAs m a shows item fault event) where
  pub items_read : (s : S) (u : A) (bytes : List ℕ) (items : List I) (rest : List ℕ)
      (told : Option D) → shows s ≡ Some u → EndsWith a u items told →
      ReadsAll a.grammar (a.point u) bytes items rest →
      ReadsAll m.grammar (m.point s) bytes (map item items) rest
  items_read s u bytes [] rest told shown ends reads = reads
  items_read s u bytes (i ∷ []) rest told shown ends reads = (
    reads.0,
    does.reads s u bytes shown ∙ ap (λ (n : Next I F). named item fault n) reads.1,
    reads.2,
  )
  items_read s u bytes (i ∷ j ∷ items) rest told shown ends reads =
      let after : ReadsAll a.grammar (a.point (a.act u i)) reads.0 (j ∷ items) rest =
      subst (λ (p : P). ReadsAll a.grammar p reads.0 (j ∷ items) rest) (sym (other.past u i))
      reads.2 in
      let more = items_read (m.act s (item i)) (a.act u i) reads.0 (j ∷ items) rest told
      (does.goes_on s u i shown ends.0) ends.1 after in (
        reads.0,
        does.reads s u bytes shown ∙ ap (λ (n : Next I F). named item fault n) reads.1,
        subst (λ (p : R). ReadsAll m.grammar p reads.0 (map item (j ∷ items)) rest)
            (is.past s (item i)) more,
      )

  -- ---- calls of the other, as the end's own

  partial_as : (t : S) (v : A) (rest : List ℕ) (told : Option D) → ComesTo m a shows item told t v →
      a.grammar.next (a.point v) rest ≡ More → IfSome told (λ _. rest ≡ []) →
      m.grammar.next (m.point t) rest ≡ More
  partial_as t v rest None comes more whole = waits_as does t v rest comes more
  partial_as t v rest (Some d) comes more whole =
      subst (λ (zs : List ℕ). m.grammar.next (m.point t) zs ≡ More) (sym whole)
      (is.laws.empty (m.point t))

  -- the end takes what the other takes; what holds wherever that leads holds then
  pub takes_as : (IsSo : S → A → Type 0) →
      ((told : Option D) (t : S) (v : A) → ComesTo m a shows item told t v → IsSo t v) →
      (s : S) (u v : A) (prefix bytes rest : List ℕ) (told : Option D) → shows s ≡ Some u →
      Takes a u prefix bytes told v rest →
      (t : S) × Takes m s prefix bytes (event_as event told) t rest × IsSo t v
  takes_as IsSo comes_so s u v prefix bytes rest told shown takes =
      let t : S = acts m s (map item takes.items) in
      let comes : ComesTo m a shows item told t v =
      subst (λ (w : A). ComesTo m a shows item told t w) (sym takes.state)
      (items_come does s u takes.items told shown takes.ends) in (
        t,
        record {
          items = map item takes.items;
          reads = items_read s u (prefix ++ bytes) takes.items rest told shown takes.ends
              takes.reads;
          state = refl;
          ends = items_end does s u takes.items told shown takes.ends;
          partial = partial_as t v rest told comes takes.partial takes.whole;
          whole = whole_as event told rest takes.whole;
        },
        comes_so told t v comes,
      )

  -- what it refuses, the end refuses by the fault's name
  pub refuses_as : (s : S) (u : A) (prefix bytes : List ℕ) (f : F) → shows s ≡ Some u →
      Refuses a u prefix bytes f → Refuses m s prefix bytes (fault f)
  refuses_as s u prefix bytes f shown refuses =
      let quiet = items_quiet does s u refuses.items shown refuses.quiet in
      record {
        items = map item refuses.items;
        rest = refuses.rest;
        reads = items_read s u (prefix ++ bytes) refuses.items refuses.rest None shown
            refuses.quiet refuses.reads;
        quiet = items_end does s u refuses.items None shown refuses.quiet;
        bad = does.reads (acts m s (map item refuses.items)) (acts a u refuses.items) refuses.rest
            quiet ∙ ap (λ (n : Next I F). named item fault n) refuses.bad;
      }

  -- where it wants memory, the end does
  pub runs_out_as : (asks : S → List ℕ → Type 0) (wants : A → List ℕ → Type 0) →
      ((s : S) (u : A) (front : List ℕ) → shows s ≡ Some u → wants u front →
      asks s front) → (s : S) (u : A) (prefix bytes : List ℕ) → shows s ≡ Some u →
      RunsOut a wants u prefix bytes → RunsOut m asks s prefix bytes
  runs_out_as asks wants asked s u prefix bytes shown out =
      let quiet = items_quiet does s u out.items shown out.quiet in
      record {
        items = map item out.items;
        front = out.front;
        later = out.later;
        reads = items_read s u (prefix ++ bytes) out.items (out.front ++ out.later) None shown
            out.quiet out.reads;
        quiet = items_end does s u out.items None shown out.quiet;
        asked = asked (acts m s (map item out.items)) (acts a u out.items) out.front quiet
            out.asked;
      }

  -- by a test of the other's state
  pub starves_as : StarvesAs m a shows
  starves_as wants s u prefix bytes shown out =
      runs_out_as (λ t front. (v : A) × (shows t ≡ Some v) × IsTrue (wants v front))
      (λ v front. IsTrue (wants v front)) (λ t v front now test. (v, now, test)) s u prefix
      bytes shown out

module _ {P I F Q J G H : Type 0} where
  -- the point after an item of the first
  past_item : (two : Two P I F Q J G H) (g : Grammar (Stage P Q) (Stage I J) H) (r : Stage P Q)
      (p : P) (i : I) → g ≡ sequel two → r ≡ First p →
      g.past r (First i) ≡ turn (two.leads p i) (two.first.past p i)
  past_item two g r p i both point = rw (both, point) refl

module _ {S P I F Q J G H E : Type 0} {two : Two P I F Q J G H} {m : Machine S (Stage P Q) (Stage I J) H E}
  where
    -- an end of both does as the first's
    pub first_does : {A D : Type 0} {a : Machine A P I F D} {shows : S → Option A} {event : D → Option E} →
        GoesAsFirst two m a shows event → DoesAs m a shows (λ i. First i) two.first_fault event
    first_does goes = record {
      reads = λ s u bytes shown. rw (goes.both, goes.grammar, goes.point s u shown) refl;
      tells = goes.tells;
      goes_on = λ s u i shown quiet. goes.stays s u i shown (goes.told_over u i quiet);
    }

    -- and as the second's, after each item of it
    pub second_does : {B C : Type 0} {b : Machine B Q J G C} {shows : S → Option B} {event : C → Option E} →
        GoesAsSecond two m b shows event → DoesAs m b shows (λ j. Second j) two.second_fault event
    second_does goes = record {
      reads = λ s u bytes shown. rw (goes.both, goes.grammar, goes.point s u shown) refl;
      tells = goes.tells;
      goes_on = λ s u j shown quiet. goes.stays s u j shown;
    }

    -- after an item of the first the end shows the state it leaves, or is in the second
    pub lands : {A D : Type 0} {a : Machine A P I F D} {shows : S → Option A} {event : D → Option E} →
        GoesAsFirst two m a shows event → IsMachine m → (told : Option D) (t : S) (v : A) →
        ComesTo m a shows (λ i. First i) told t v → LandsAs two m a shows t v
    lands goes is None t v comes = inl comes
    lands {A = A} {a = a} {shows = shows} goes is (Some d) t v (s, u, i, shown, tells, state, left) =
        by (two.leads (a.point u) i) refl
      where
        by : (over : Option Q) → two.leads (a.point u) i ≡ over → LandsAs two m a shows t v
        by None e = inl
            (ap shows state ∙ goes.stays s u i shown e ∙ ap (λ (w : A). Some w) (sym left))
        by (Some q) e = inr (record {
          before = s;
          shown = u;
          item = i;
          to = q;
          shows_is = shown;
          leads = e;
          state = state;
          left = left;
          point = ap m.point state ∙ is.past s (First i)
              ∙ past_item two m.grammar (m.point s) (a.point u) i goes.both (goes.point s u shown)
              ∙ ap (λ (over : Option Q). turn over (two.first.past (a.point u) i)) e;
        })

    -- after an item of the second it goes on showing the state it leaves
    pub second_stays : {B C : Type 0} {b : Machine B Q J G C} {shows : S → Option B} {event : C → Option E} →
        GoesAsSecond two m b shows event → (told : Option C) (t : S) (v : B) →
        ComesTo m b shows (λ j. Second j) told t v → shows t ≡ Some v
    second_stays goes None t v comes = comes
    second_stays {B = B} {shows = shows} goes (Some d) t v (s, u, j, shown, tells, state, left) =
        ap shows state ∙ goes.stays s u j shown ∙ ap (λ (w : B). Some w) (sym left)

-- a point that is one of the first
first_is : {P Q : Type 0} (r : Stage P Q) (p : P) → first_point r ≡ Some p → r ≡ First p
first_is {P = P} (First q) p e = let same : q ≡ p = cc in ap (λ (k : P). First k) same
first_is (Second q) p e = absurd cc

module _ {S P I F Q J G H D E : Type 0} where
  -- where the first's end is but a point, an end of both does as it does at the points of the
  -- first. Its event of an item must be the name of the first's event, which each item that
  -- leads over has
  pub at_first : (two : Two P I F Q J G H) (m : Machine S (Stage P Q) (Stage I J) H E)
      (tells : P → I → Option D) (event : D → Option E) → IsMachine m → m.grammar ≡ sequel two →
      ((s : S) (p : P) (i : I) → m.point s ≡ First p →
      m.tells s (First i) ≡ event_as event (tells p i)) →
      ((p : P) (i : I) → tells p i ≡ None → two.leads p i ≡ None) →
      GoesAsFirst two m (end_at two.first tells) (λ s. first_point (m.point s))
      event
  at_first two m tells event is both told told_over = record {
    both = both;
    grammar = refl;
    point = λ s u shown. first_is (m.point s) u shown;
    tells = λ s u i shown. told s u i (first_is (m.point s) u shown);
    stays = λ s u i shown stays.
        let after : m.point (m.act s (First i)) ≡ First (two.first.past u i) =
        is.past s (First i)
        ∙ past_item two m.grammar (m.point s) u i both (first_is (m.point s) u shown)
        ∙ ap (λ (over : Option Q). turn over (two.first.past u i)) stays in
        ap (λ (r : Stage P Q). first_point r) after;
    told_over = told_over;
  }
