-- How the steps of an end make a call, and the calls a run.
use Rattle.std.proofs.Common.{◌≡◌, ℕ, List, [], ◌∷◌, ◌++◌, Option, Some, None, refl, sym, subst, ◌∙◌, ap, append_assoc}
use Rattle.std.proofs.Common.{append-nil, length-append}
use Rattle.std.specs.Option.{IfSome}
use Rattle.rfb_wire.specs.stream.Prefix.{More, Got, Bad}
use Rattle.rfb_wire.specs.stream.Grammar.{ReadsAll, past_all}
use Rattle.rfb_wire.specs.stream.End.{Machine, IsMachine, acts, EndsWith, told, with_event, Takes, Refuses, RunsOut}
use Rattle.rfb_wire.specs.stream.End.{Runs, Call, CallsTo, bytes_of, events_of, DeliversItems, Delivers}
use Rattle.rfb_wire.proofs.stream_laws.GrammarLaws.{all_more, all_append, all_length, all_rest, all_good, all_one}
use Rattle.rfb_wire.proofs.stream_laws.GrammarLaws.{within_first}

module _ {S P I F E : Type 0} where
  -- ---- items

  pub acts_append : (m : Machine S P I F E) (s : S) (xs ys : List I) →
      acts m s (xs ++ ys) ≡ acts m (acts m s xs) ys
  acts_append m s [] ys = refl
  acts_append m s (i ∷ xs) ys = acts_append m (m.act s i) xs ys

  -- the point of a state is the one after its items
  pub point_acts : (m : Machine S P I F E) → IsMachine m → (s : S) (items : List I) →
      m.point (acts m s items) ≡ past_all m.grammar (m.point s) items
  point_acts m is s [] = refl
  point_acts m is s (i ∷ items) =
      point_acts m is (m.act s i) items ∙ ap (λ (p : P). past_all m.grammar p items) (is.past s i)

  -- an item without an event in front
  pub ends_more : (m : Machine S P I F E) (s : S) (i : I) (items : List I) (event : Option E) →
      m.tells s i ≡ None → EndsWith m (m.act s i) items event → EndsWith m s (i ∷ items) event
  ends_more m s i [] event quiet ends = quiet ∙ sym ends
  ends_more m s i (j ∷ items) event quiet ends = (quiet, ends)

  -- items without an event make none at the first
  pub quiet_first : (m : Machine S P I F E) (s : S) (i : I) (items : List I) →
      EndsWith m s (i ∷ items) None → (m.tells s i ≡ None) × EndsWith m (m.act s i) items None
  quiet_first m s i [] ends = (ends, refl)
  quiet_first m s i (j ∷ items) ends = ends

  -- items after items without an event
  pub ends_append : (m : Machine S P I F E) (s : S) (xs ys : List I) (event : Option E) →
      EndsWith m s xs None → EndsWith m (acts m s xs) ys event → EndsWith m s (xs ++ ys) event
  ends_append m s [] ys event quiet ends = ends
  ends_append m s (i ∷ xs) ys event quiet ends =
      let first = quiet_first m s i xs quiet in
      ends_more m s i (xs ++ ys) event first.0 (ends_append m (m.act s i) xs ys event first.1 ends)

  -- items of the bytes after those that other items took
  pub reads_then : (m : Machine S P I F E) → IsMachine m →
      (s t : S) (prefix mid xs ys rest : List ℕ) (one two : List I) → t ≡ acts m s one →
      ReadsAll m.grammar (m.point s) (prefix ++ xs) one mid →
      ReadsAll m.grammar (m.point t) (mid ++ ys) two rest →
      ReadsAll m.grammar (m.point s) (prefix ++ (xs ++ ys)) (one ++ two) rest
  reads_then m is s t prefix mid xs ys rest one two state a b =
      let point : m.point t ≡ past_all m.grammar (m.point s) one =
      ap m.point state ∙ point_acts m is s one in
      let first : ReadsAll m.grammar (m.point s) ((prefix ++ xs) ++ ys) one (mid ++ ys) =
      all_more m.grammar is.laws (m.point s) (prefix ++ xs) ys one mid a in
      let second : ReadsAll m.grammar (past_all m.grammar (m.point s) one) (mid ++ ys) two rest =
      subst (λ (p : P). ReadsAll m.grammar p (mid ++ ys) two rest) point b in
      let both = all_append m.grammar (m.point s) ((prefix ++ xs) ++ ys) one two (mid ++ ys) rest
      first second in
      subst (λ (zs : List ℕ). ReadsAll m.grammar (m.point s) zs (one ++ two) rest)
      (append_assoc prefix xs ys) both

  -- ---- what one call takes

  -- no bytes are taken where the prefix waits
  pub takes_none : (m : Machine S P I F E) (s : S) (prefix : List ℕ) →
      m.grammar.next (m.point s) prefix ≡ More → Takes m s prefix [] None s prefix
  takes_none m s prefix more =
      record {
        items = [];
        reads = append-nil prefix;
        state = refl;
        ends = refl;
        partial = more;
        whole = tt;
      }

  -- bytes after bytes
  pub takes_then : (m : Machine S P I F E) → IsMachine m →
      (s t u : S) (prefix mid rest xs ys : List ℕ) (event : Option E) →
      Takes m s prefix xs None t mid → Takes m t mid ys event u rest →
      Takes m s prefix (xs ++ ys) event u rest
  takes_then m is s t u prefix mid rest xs ys event one two =
      record {
        items = one.items ++ two.items;
        reads = reads_then m is s t prefix mid xs ys rest one.items two.items one.state one.reads
            two.reads;
        state = two.state ∙ ap (λ (v : S). acts m v two.items) one.state
            ∙ sym (acts_append m s one.items two.items);
        ends = ends_append m s one.items two.items event one.ends
            (subst (λ (v : S). EndsWith m v two.items event) one.state two.ends);
        partial = two.partial;
        whole = two.whole;
      }

  -- a fault after bytes
  pub refuses_then : (m : Machine S P I F E) → IsMachine m →
      (s t : S) (prefix mid xs ys : List ℕ) (fault : F) → Takes m s prefix xs None t mid →
      Refuses m t mid ys fault → Refuses m s prefix (xs ++ ys) fault
  refuses_then m is s t prefix mid xs ys fault one two =
      record {
        items = one.items ++ two.items;
        rest = two.rest;
        reads = reads_then m is s t prefix mid xs ys two.rest one.items two.items one.state
            one.reads two.reads;
        quiet = ends_append m s one.items two.items None one.ends
            (subst (λ (v : S). EndsWith m v two.items None) one.state two.quiet);
        bad = rw (acts_append m s one.items two.items)
            (subst (λ (v : S). m.grammar.next (m.point (acts m v two.items)) two.rest ≡ Bad fault)
            one.state two.bad);
      }

  -- further bytes are refused too
  pub refuses_more : (m : Machine S P I F E) → IsMachine m →
      (s : S) (prefix xs ys : List ℕ) (fault : F) → Refuses m s prefix xs fault →
      Refuses m s prefix (xs ++ ys) fault
  refuses_more m is s prefix xs ys fault one = record {
    items = one.items;
    rest = one.rest ++ ys;
    reads = subst (λ (zs : List ℕ). ReadsAll m.grammar (m.point s) zs one.items (one.rest ++ ys))
        (append_assoc prefix xs ys)
        (all_more m.grammar is.laws (m.point s) (prefix ++ xs) ys one.items one.rest one.reads);
    quiet = one.quiet;
    bad = is.laws.bad (m.point (acts m s one.items)) one.rest ys fault one.bad;
  }

  -- want of memory after bytes
  pub runs_out_then : (m : Machine S P I F E) → IsMachine m →
      (asks : S → List ℕ → Type 0) (s t : S) (prefix mid xs ys : List ℕ) →
      Takes m s prefix xs None t mid → RunsOut m asks t mid ys →
      RunsOut m asks s prefix (xs ++ ys)
  runs_out_then m is asks s t prefix mid xs ys one two = record {
    items = one.items ++ two.items;
    front = two.front;
    later = two.later;
    reads = reads_then m is s t prefix mid xs ys (two.front ++ two.later) one.items two.items
        one.state one.reads two.reads;
    quiet = ends_append m s one.items two.items None one.ends
        (subst (λ (v : S). EndsWith m v two.items None) one.state two.quiet);
    asked = rw (acts_append m s one.items two.items)
        (subst (λ (v : S). asks (acts m v two.items) two.front) one.state two.asked);
  }

  -- and before bytes
  pub runs_out_more : (m : Machine S P I F E) → IsMachine m →
      (asks : S → List ℕ → Type 0) (s : S) (prefix xs ys : List ℕ) → RunsOut m asks s prefix xs →
      RunsOut m asks s prefix (xs ++ ys)
  runs_out_more m is asks s prefix xs ys one = record {
    items = one.items;
    front = one.front;
    later = one.later ++ ys;
    reads = subst
        (λ (zs : List ℕ).
        ReadsAll m.grammar (m.point s) zs one.items (one.front ++ (one.later ++ ys)))
        (append_assoc prefix xs ys)
        (subst (λ (zs : List ℕ).
        ReadsAll m.grammar (m.point s) ((prefix ++ xs) ++ ys) one.items zs)
        (append_assoc one.front one.later ys)
        (all_more m.grammar is.laws (m.point s) (prefix ++ xs) ys one.items
        (one.front ++ one.later) one.reads));
    quiet = one.quiet;
    asked = one.asked;
  }

  -- ---- one unit of bytes, of one item

  -- a unit after which more is wanted
  pub takes_part : (m : Machine S P I F E) (s : S) (prefix unit : List ℕ) →
      m.grammar.next (m.point s) (prefix ++ unit) ≡ More →
      Takes m s prefix unit None s (prefix ++ unit)
  takes_part m s prefix unit more =
      record { items = []; reads = refl; state = refl; ends = refl; partial = more; whole = tt }

  -- a unit that is an item's last
  pub takes_last : (m : Machine S P I F E) → IsMachine m → (s : S) (prefix unit : List ℕ) (i : I) →
      m.grammar.next (m.point s) (prefix ++ unit) ≡ Got i [] →
      Takes m s prefix unit (m.tells s i) (m.act s i) []
  takes_last m is s prefix unit i got =
      record {
        items = i ∷ [];
        reads = ([], got, refl);
        state = refl;
        ends = refl;
        partial = is.laws.empty (m.point (m.act s i));
        whole = nothing_left (m.tells s i);
      }
    where
      nothing_left : (event : Option E) → IfSome event (λ _. ◌≡◌ {A = List ℕ} [] [])
      nothing_left None = tt
      nothing_left (Some e) = refl

  -- a unit that shows a fault
  pub refuses_unit : (m : Machine S P I F E) (s : S) (prefix unit : List ℕ) (fault : F) →
      m.grammar.next (m.point s) (prefix ++ unit) ≡ Bad fault → Refuses m s prefix unit fault
  refuses_unit m s prefix unit fault bad =
      record { items = []; rest = prefix ++ unit; reads = refl; quiet = refl; bad = bad }

  -- ---- delivered bytes

  -- whole items that are read of a queue's bytes are taken from the front of the queue
  pub delivered_items : (m : Machine S P I F E) → IsMachine m →
      (s t : S) (prefix bytes later rest : List ℕ) (queue : List I) (Told : List I → Type 0)
      (items : List I) → ReadsAll m.grammar (m.point s) (prefix ++ bytes) items rest →
      t ≡ acts m s items → Told items → m.grammar.next (m.point t) rest ≡ More →
      ReadsAll m.grammar (m.point s) ((prefix ++ bytes) ++ later) queue [] →
      DeliversItems m s prefix queue bytes later Told t rest
  delivered_items m is s t prefix bytes later rest queue Told items read state told partial flight =
      let left = all_rest m.grammar is.laws (m.point s) (prefix ++ bytes) later items queue rest
      read flight in
      let point : past_all m.grammar (m.point s) items ≡ m.point t =
      sym (point_acts m is s items) ∙ ap m.point (sym state) in
      let reads : ReadsAll m.grammar (m.point t) (rest ++ later) left.0 [] =
      subst (λ (p : P). ReadsAll m.grammar p (rest ++ later) left.0 []) point left.2 in
      let size = all_length m.grammar is.laws (m.point s) (prefix ++ bytes) items rest read in
      record {
        done = items;
        left = left.0;
        queue_is = left.1;
        state = state;
        ends = told;
        reads = reads;
        count = sym (length-append prefix bytes) ∙ size;
        within = within_first m.grammar is.laws (m.point t) rest later left.0 partial reads;
      }

  -- what is delivered of a queue's bytes is taken from the front of the queue
  pub delivered : (m : Machine S P I F E) → IsMachine m →
      (s t : S) (prefix bytes later rest : List ℕ) (queue : List I) (event : Option E) →
      Takes m s prefix bytes event t rest →
      ReadsAll m.grammar (m.point s) ((prefix ++ bytes) ++ later) queue [] →
      Delivers m s prefix queue bytes later event t rest
  delivered m is s t prefix bytes later rest queue event takes flight =
      delivered_items m is s t prefix bytes later rest queue (λ done. EndsWith m s done event)
      takes.items takes.reads takes.state takes.ends takes.partial flight

  -- bytes of a queue's items are not refused
  pub not_refused : (m : Machine S P I F E) → IsMachine m →
      (s : S) (prefix bytes later : List ℕ) (queue : List I) (fault : F) →
      ReadsAll m.grammar (m.point s) ((prefix ++ bytes) ++ later) queue [] →
      Refuses m s prefix bytes fault → ⊥
  not_refused m is s prefix bytes later queue fault flight refused =
      let bad : m.grammar.next (past_all m.grammar (m.point s) refused.items) refused.rest
      ≡ Bad fault =
      subst (λ (p : P). m.grammar.next p refused.rest ≡ Bad fault)
      (point_acts m is s refused.items) refused.bad in
      all_good m.grammar is.laws (m.point s) (prefix ++ bytes) later refused.items queue
      refused.rest fault flight refused.reads bad

  -- ---- many calls

  pub told_append : (m : Machine S P I F E) (s : S) (xs ys : List I) →
      told m s (xs ++ ys) ≡ told m s xs ++ told m (acts m s xs) ys
  told_append m s [] ys = refl
  told_append m s (i ∷ xs) ys =
      ap (λ (events : List E). with_event (m.tells s i) events) (told_append m (m.act s i) xs ys)
      ∙ in_front (m.tells s i) (told m (m.act s i) xs) (told m (acts m (m.act s i) xs) ys)
    where
      in_front : (event : Option E) (one two : List E) →
          with_event event (one ++ two) ≡ with_event event one ++ two
      in_front None one two = refl
      in_front (Some e) one two = refl

  -- what a call reports is what its items report
  pub told_ends : (m : Machine S P I F E) (s : S) (items : List I) (event : Option E) →
      EndsWith m s items event → told m s items ≡ with_event event []
  told_ends m s [] event ends = rw ends refl
  told_ends m s (i ∷ []) event ends = rw ends refl
  told_ends m s (i ∷ j ∷ items) event ends =
      rw ends.0 (told_ends m (m.act s i) (j ∷ items) event ends.1)

  -- a call is a run
  pub takes_runs : (m : Machine S P I F E) (s t : S) (prefix bytes rest : List ℕ)
      (event : Option E) → Takes m s prefix bytes event t rest →
      Runs m s prefix bytes (with_event event []) t rest
  takes_runs m s t prefix bytes rest event one =
      record {
        items = one.items;
        reads = one.reads;
        state = one.state;
        told_is = sym (told_ends m s one.items event one.ends);
        partial = one.partial;
      }

  -- the state and the events that items lead to after others
  pub acts_then : (m : Machine S P I F E) (s t u : S) (xs ys : List I) (es fs : List E) →
      t ≡ acts m s xs → es ≡ told m s xs → u ≡ acts m t ys → fs ≡ told m t ys →
      (u ≡ acts m s (xs ++ ys)) × (es ++ fs ≡ told m s (xs ++ ys))
  acts_then m s t u xs ys es fs state told_is after told_after = (
    after ∙ ap (λ (v : S). acts m v ys) state ∙ sym (acts_append m s xs ys),
    ap (λ (events : List E). events ++ fs) told_is
        ∙ ap (λ (events : List E). told m s xs ++ events)
        (told_after ∙ ap (λ (v : S). told m v ys) state) ∙ sym (told_append m s xs ys),
  )

  -- a run after a run is one
  pub runs_then : (m : Machine S P I F E) → IsMachine m →
      (s t u : S) (prefix mid rest xs ys : List ℕ) (one two : List E) →
      Runs m s prefix xs one t mid → Runs m t mid ys two u rest →
      Runs m s prefix (xs ++ ys) (one ++ two) u rest
  runs_then m is s t u prefix mid rest xs ys one two a b =
      let joined = acts_then m s t u a.items b.items one two a.state a.told_is b.state b.told_is in
      record {
        items = a.items ++ b.items;
        reads = reads_then m is s t prefix mid xs ys rest a.items b.items a.state a.reads b.reads;
        state = joined.0;
        told_is = joined.1;
        partial = b.partial;
      }

  -- one run only leads from a state and a prefix through bytes
  pub runs_one : (m : Machine S P I F E) → IsMachine m →
      (s t u : S) (prefix bytes mid rest : List ℕ) (one two : List E) →
      Runs m s prefix bytes one t mid → Runs m s prefix bytes two u rest →
      (one ≡ two) × (t ≡ u) × (mid ≡ rest)
  runs_one m is s t u prefix bytes mid rest one two a b =
      let first : m.grammar.next (past_all m.grammar (m.point s) a.items) mid ≡ More =
      subst (λ (p : P). m.grammar.next p mid ≡ More)
      (ap m.point a.state ∙ point_acts m is s a.items) a.partial in
      let second : m.grammar.next (past_all m.grammar (m.point s) b.items) rest ≡ More =
      subst (λ (p : P). m.grammar.next p rest ≡ More)
      (ap m.point b.state ∙ point_acts m is s b.items) b.partial in
      let same = all_one m.grammar (m.point s) (prefix ++ bytes) a.items b.items mid rest None None
      a.reads first b.reads second in (
        a.told_is ∙ ap (λ (items : List I). told m s items) same.0 ∙ sym b.told_is,
        a.state
            ∙ ap (λ (items : List I). acts m s items) same.0 ∙ sym b.state,
        same.1,
      )

  -- calls are a run over the bytes that they used
  pub calls_run : (m : Machine S P I F E) → IsMachine m →
      (s t : S) (prefix rest : List ℕ) (calls : List (Call E)) →
      m.grammar.next (m.point s) prefix ≡ More → CallsTo m s prefix calls t rest →
      Runs m s prefix (bytes_of calls) (events_of calls) t rest
  calls_run m is s t prefix rest [] more h =
      rw (h.0, h.1) (takes_runs m s s prefix [] prefix None (takes_none m s prefix more))
  calls_run m is s t prefix rest (call ∷ calls) more (mid, left, takes, goes) =
      let first = takes_runs m s mid prefix call.bytes left call.event takes in
      let others = calls_run m is mid t left rest calls takes.partial goes in
      let both = runs_then m is s mid t prefix left rest call.bytes (bytes_of calls)
      (with_event call.event []) (events_of calls) first others in
      subst (λ (events : List E). Runs m s prefix (bytes_of (call ∷ calls)) events t rest)
      (in_front call.event (events_of calls)) both
    where
      in_front : (event : Option E) (events : List E) →
          with_event event [] ++ events ≡ with_event event events
      in_front None events = refl
      in_front (Some e) events = refl

  -- calls over the same bytes, however these are split, report the same events and leave the
  -- same state
  pub calls_agree : (m : Machine S P I F E) → IsMachine m →
      (s t u : S) (prefix mid rest : List ℕ) (one two : List (Call E)) →
      m.grammar.next (m.point s) prefix ≡ More → bytes_of one ≡ bytes_of two →
      CallsTo m s prefix one t mid → CallsTo m s prefix two u rest →
      (events_of one ≡ events_of two) × (t ≡ u) × (mid ≡ rest)
  calls_agree m is s t u prefix mid rest one two more same a b =
      let first = calls_run m is s t prefix mid one more a in
      let second = calls_run m is s u prefix rest two more b in
      runs_one m is s t u prefix (bytes_of two) mid rest (events_of one) (events_of two)
      (subst (λ (zs : List ℕ). Runs m s prefix zs (events_of one) t mid) same first) second
