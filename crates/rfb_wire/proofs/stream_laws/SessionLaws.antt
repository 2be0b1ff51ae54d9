-- Sessions over the same bytes agree, however calls split these; and calls of a delivery are one
-- delivery.
use Rattle.std.proofs.Common.{◌≡◌, ℕ, List, [], ◌++◌, Option, Some, None, sym, subst, ◌∙◌, ap, append_assoc, append-nil}
use Rattle.std.proofs.Common.{length-append, arith}
use Rattle.std.specs.Prelude.{⊤}
use Rattle.rfb_wire.specs.stream.Prefix.{More, Bad}
use Rattle.rfb_wire.specs.stream.Grammar.{ReadsAll, past_all, EndsIn}
use Rattle.rfb_wire.specs.stream.End.{Machine, IsMachine, acts, told, RunsOut, Runs, Call, CallsTo}
use Rattle.rfb_wire.specs.stream.End.{bytes_of, events_of, DeliversItems}
use Rattle.rfb_wire.specs.stream.Session.{Waits, IsSession, IsStarved, DeliversAll}
use Rattle.rfb_wire.proofs.stream_laws.GrammarLaws.{all_more, all_one, all_front, sizes_append}
use Rattle.rfb_wire.proofs.stream_laws.EndLaws.{acts_append, point_acts, reads_then, told_append, told_ends, calls_run}
use Rattle.rfb_wire.proofs.stream_laws.EndLaws.{acts_then, delivered_items, not_refused}

module _ {S P I F E : Type 0} where
  -- ---- sessions

  -- what bytes after a prefix are: items, with these events, and then a
  -- fault or too few for another
  record Makes (m : Machine S P I F E) (s : S) (prefix bytes : List ℕ) (events : List E)
      (fault : Option F) : Type 0 where
    items : List I
    rest : List ℕ
    reads : ReadsAll m.grammar (m.point s) (prefix ++ bytes) items rest
    told_is : events ≡ told m s items
    ends : EndsIn fault (m.grammar.next (past_all m.grammar (m.point s) items) rest)

  -- a run makes its items
  run_makes : (m : Machine S P I F E) → IsMachine m →
      (s t : S) (prefix bytes rest : List ℕ) (events : List E) →
      Runs m s prefix bytes events t rest → Makes m s prefix bytes events None
  run_makes m is s t prefix bytes rest events run = record {
    items = run.items;
    rest = rest;
    reads = run.reads;
    told_is = run.told_is;
    ends = subst (λ (p : P). m.grammar.next p rest ≡ More)
        (ap m.point run.state ∙ point_acts m is s run.items) run.partial;
  }

  -- items without an event after a run report nothing more
  quiet_told : (m : Machine S P I F E) (s t : S) (prefix bytes rest : List ℕ) (events : List E)
      (run : Runs m s prefix bytes events t rest) (items : List I) → told m t items ≡ [] →
      events ≡ told m s (run.items ++ items)
  quiet_told m s t prefix bytes rest events run items quiet =
      let none : told m (acts m s run.items) items ≡ [] =
      subst (λ (v : S). told m v items ≡ []) run.state quiet in
      run.told_is ∙ sym (append-nil (told m s run.items))
      ∙ ap (λ (es : List E). told m s run.items ++ es) (sym none)
      ∙ sym (told_append m s run.items items)

  session_makes : (m : Machine S P I F E) → IsMachine m →
      (s : S) (prefix slice : List ℕ) (calls : List (Call E)) (fault : Option F) →
      Waits m s prefix → IsSession m s prefix calls slice fault →
      Makes m s prefix (bytes_of calls ++ slice) (events_of calls) fault
  session_makes m is s prefix slice calls None waits (none, new, rest, goes) =
      rw (none, append-nil (bytes_of calls))
      (run_makes m is s new prefix (bytes_of calls) rest (events_of calls)
      (calls_run m is s new prefix rest calls waits goes))
  session_makes m is s prefix slice calls (Some f) waits (new, rest, goes, refused) =
      let run = calls_run m is s new prefix rest calls waits goes in
      let point : m.point (acts m new refused.items)
      ≡ past_all m.grammar (m.point s) (run.items ++ refused.items) =
      ap (λ (v : S). m.point (acts m v refused.items)) run.state
      ∙ ap m.point (sym (acts_append m s run.items refused.items))
      ∙ point_acts m is s (run.items ++ refused.items) in
      record {
        items = run.items ++ refused.items;
        rest = refused.rest;
        reads = reads_then m is s new prefix rest (bytes_of calls) slice refused.rest run.items
            refused.items run.state run.reads refused.reads;
        told_is = quiet_told m s new prefix (bytes_of calls) rest (events_of calls) run
            refused.items (told_ends m new refused.items None refused.quiet);
        ends = subst (λ (p : P). m.grammar.next p refused.rest ≡ Bad f) point refused.bad;
      }

  -- a fault stays one
  makes_more : (m : Machine S P I F E) → IsMachine m →
      (s : S) (prefix bytes more : List ℕ) (events : List E) (f : F) →
      Makes m s prefix bytes events (Some f) → Makes m s prefix (bytes ++ more) events (Some f)
  makes_more m is s prefix bytes more events f one = record {
    items = one.items;
    rest = one.rest ++ more;
    reads = subst (λ (zs : List ℕ). ReadsAll m.grammar (m.point s) zs one.items (one.rest ++ more))
        (append_assoc prefix bytes more)
        (all_more m.grammar is.laws (m.point s) (prefix ++ bytes) more one.items one.rest
        one.reads);
    told_is = one.told_is;
    ends = is.laws.bad (past_all m.grammar (m.point s) one.items) one.rest more f one.ends;
  }

  makes_one : (m : Machine S P I F E) (s : S) (prefix bytes : List ℕ) (one two : List E)
      (v w : Option F) → Makes m s prefix bytes one v → Makes m s prefix bytes two w →
      (one ≡ two) × (v ≡ w)
  makes_one m s prefix bytes one two v w a b =
      let same = all_one m.grammar (m.point s) (prefix ++ bytes) a.items b.items a.rest b.rest v w
      a.reads a.ends b.reads b.ends in
      (a.told_is ∙ ap (λ (items : List I). told m s items) same.0 ∙ sym b.told_is, same.2)

  -- items of a front are the first, and so are their events
  makes_front : (m : Machine S P I F E) → IsMachine m →
      (s : S) (prefix bytes more rest : List ℕ) (items : List I) (one two : List E) (w : Option F) →
      ReadsAll m.grammar (m.point s) (prefix ++ bytes) items rest → one ≡ told m s items →
      Makes m s prefix (bytes ++ more) two w → (later : List E) × (two ≡ one ++ later)
  makes_front m is s prefix bytes more rest items one two w reads told_is b =
      let there : ReadsAll m.grammar (m.point s) (prefix ++ (bytes ++ more)) items (rest ++ more) =
      subst (λ (zs : List ℕ). ReadsAll m.grammar (m.point s) zs items (rest ++ more))
      (append_assoc prefix bytes more)
      (all_more m.grammar is.laws (m.point s) (prefix ++ bytes) more items rest
      reads) in
      let first = all_front m.grammar (m.point s) (prefix ++ (bytes ++ more)) b.items items b.rest
      (rest ++ more) w b.reads b.ends there in
      let later : List E = told m (acts m s items) first.0 in (
        later,
        b.told_is ∙ ap (λ (xs : List I). told m s xs) first.1 ∙ told_append m s items first.0
            ∙ ap (λ (es : List E). es ++ later) (sym told_is),
      )

  -- sessions over the same bytes, however these are split, report the same events and then the
  -- same fault
  pub sessions_agree : (m : Machine S P I F E) (s : S) (prefix xs ys : List ℕ)
      (one two : List (Call E)) (v w : Option F) → IsMachine m →
      Waits m s prefix → bytes_of one ++ xs ≡ bytes_of two ++ ys →
      IsSession m s prefix one xs v → IsSession m s prefix two ys w →
      (events_of one ≡ events_of two) × (v ≡ w)
  sessions_agree m s prefix xs ys one two v w is waits same a b =
      let first = session_makes m is s prefix xs one v waits a in
      let second = session_makes m is s prefix ys two w waits b in
      makes_one m s prefix (bytes_of two ++ ys) (events_of one) (events_of two) v w
      (subst (λ (zs : List ℕ). Makes m s prefix zs (events_of one) v) same first) second

  -- once all bytes of a fault are there, so it is with more of them
  pub faults_stay : (m : Machine S P I F E) (s : S) (prefix xs ys more : List ℕ)
      (one two : List (Call E)) (f : F) (w : Option F) → IsMachine m → Waits m s prefix →
      (bytes_of one ++ xs) ++ more ≡ bytes_of two ++ ys →
      IsSession m s prefix one xs (Some f) → IsSession m s prefix two ys w →
      (events_of one ≡ events_of two) × (Some f ≡ w)
  faults_stay m s prefix xs ys more one two f w is waits same a b =
      let first = makes_more m is s prefix (bytes_of one ++ xs) more (events_of one) f
      (session_makes m is s prefix xs one (Some f) waits a) in
      let second = session_makes m is s prefix ys two w waits b in
      makes_one m s prefix (bytes_of two ++ ys) (events_of one) (events_of two) (Some f) w
      (subst (λ (zs : List ℕ). Makes m s prefix zs (events_of one) (Some f)) same first) second

  -- fewer bytes give the first of the events
  pub fronts_tell_first : (m : Machine S P I F E) (s t : S) (prefix ys more rest : List ℕ)
      (one two : List (Call E)) (w : Option F) → IsMachine m →
      Waits m s prefix → bytes_of one ++ more ≡ bytes_of two ++ ys →
      CallsTo m s prefix one t rest → IsSession m s prefix two ys w →
      (later : List E) × (events_of two ≡ events_of one ++ later)
  fronts_tell_first m s t prefix ys more rest one two w is waits same a b =
      let run = calls_run m is s t prefix rest one waits a in
      let second = session_makes m is s prefix ys two w waits b in
      makes_front m is s prefix (bytes_of one) more rest run.items (events_of one) (events_of two) w
      run.reads run.told_is
      (subst (λ (zs : List ℕ). Makes m s prefix zs (events_of two) w) (sym same) second)

  -- whatever is asked for
  pub runs_out_any : (m : Machine S P I F E) (asks : S → List ℕ → Type 0) (s : S)
      (prefix bytes : List ℕ) → RunsOut m asks s prefix bytes → RunsOut m (λ _ _. ⊤) s prefix bytes
  runs_out_any m asks s prefix bytes out =
      record {
        items = out.items;
        front = out.front;
        later = out.later;
        reads = out.reads;
        quiet = out.quiet;
        asked = tt;
      }

  -- and so does a session that wants memory
  pub starved_tell_first : (m : Machine S P I F E) (s : S) (prefix xs ys more : List ℕ)
      (one two : List (Call E)) (w : Option F) → IsMachine m → Waits m s prefix →
      (bytes_of one ++ xs) ++ more ≡ bytes_of two ++ ys →
      IsStarved m s prefix one xs → IsSession m s prefix two ys w →
      (later : List E) × (events_of two ≡ events_of one ++ later)
  starved_tell_first m s prefix xs ys more one two w is waits same (new, rest, goes, out) b =
      let run = calls_run m is s new prefix rest one waits goes in
      let reads = reads_then m is s new prefix rest (bytes_of one) xs (out.front ++ out.later)
      run.items out.items run.state run.reads out.reads in
      let told_is =
      quiet_told m s new prefix (bytes_of one) rest (events_of one) run out.items
      (told_ends m new out.items None out.quiet) in
      let second = session_makes m is s prefix ys two w waits b in
      makes_front m is s prefix (bytes_of one ++ xs) more (out.front ++ out.later)
      (run.items ++ out.items) (events_of one) (events_of two) w reads told_is
      (subst (λ (zs : List ℕ). Makes m s prefix zs (events_of two) w) (sym same) second)

  -- ---- deliveries

  -- what is so of the items of a delivery may be said in another way
  pub delivers_so : (m : Machine S P I F E) (s t : S) (prefix bytes later rest : List ℕ)
      (queue : List I) (IsSo IsToo : List I → Type 0) → ((done : List I) → IsSo done → IsToo done) →
      DeliversItems m s prefix queue bytes later IsSo t rest →
      DeliversItems m s prefix queue bytes later IsToo t rest
  delivers_so m s t prefix bytes later rest queue IsSo IsToo too one = record {
    done = one.done;
    left = one.left;
    queue_is = one.queue_is;
    state = one.state;
    ends = too one.done one.ends;
    reads = one.reads;
    count = one.count;
    within = one.within;
  }

  -- a delivery after a delivery is one
  pub deliveries_join : (m : Machine S P I F E) (s t u : S) (prefix xs ys later mid rest : List ℕ)
      (queue : List I) (es fs : List E)
      (one : DeliversAll m s prefix queue xs (ys ++ later) es t mid) →
      DeliversAll m t mid one.left ys later fs u rest →
      DeliversAll m s prefix queue (xs ++ ys) later (es ++ fs) u rest
  deliveries_join m s t u prefix xs ys later mid rest queue es fs one two =
      let joined = acts_then m s t u one.done two.done es fs one.state one.ends two.state two.ends in
      let bytes = length-append xs ys in
      let items = sizes_append m.grammar one.done two.done in
      let first = one.count in
      let second = two.count in
      record {
        done = one.done ++ two.done;
        left = two.left;
        queue_is = one.queue_is ∙ ap (λ (items : List I). one.done ++ items) two.queue_is
            ∙ sym (append_assoc one.done two.done two.left);
        state = joined.0;
        ends = joined.1;
        reads = two.reads;
        count = omega (arith, bytes, items, first, second);
        within = two.within;
      }

  -- several calls over what was delivered are one delivery
  pub calls_deliver : (m : Machine S P I F E) (s t : S) (prefix later rest : List ℕ)
      (queue : List I) (calls : List (Call E)) → IsMachine m →
      Waits m s prefix → CallsTo m s prefix calls t rest →
      ReadsAll m.grammar (m.point s) ((prefix ++ bytes_of calls) ++ later) queue [] →
      DeliversAll m s prefix queue (bytes_of calls) later (events_of calls) t rest
  calls_deliver m s t prefix later rest queue calls is waits goes flight =
      let run = calls_run m is s t prefix rest calls waits goes in
      delivered_items m is s t prefix (bytes_of calls) later rest queue
      (λ done. events_of calls ≡ told m s done) run.items run.reads run.state run.told_is
      run.partial flight

  -- and none of them is refused
  pub calls_not_refused : (m : Machine S P I F E) (s : S) (prefix slice later : List ℕ)
      (queue : List I) (calls : List (Call E)) (fault : F) → IsMachine m → Waits m s prefix →
      ReadsAll m.grammar (m.point s) ((prefix ++ (bytes_of calls ++ slice)) ++ later) queue
      [] → IsSession m s prefix calls slice (Some fault) → ⊥
  calls_not_refused m s prefix slice later queue calls fault is waits flight
      (new, rest, goes, refused) =
      let all : (prefix ++ (bytes_of calls ++ slice)) ++ later
      ≡ (prefix ++ bytes_of calls) ++ (slice ++ later) =
      ap (λ (ys : List ℕ). ys ++ later) (sym (append_assoc prefix (bytes_of calls) slice))
      ∙ append_assoc (prefix ++ bytes_of calls) slice later in
      let one = calls_deliver m s new prefix (slice ++ later) rest queue calls is waits goes
      (subst (λ (zs : List ℕ). ReadsAll m.grammar (m.point s) zs queue []) all flight) in
      not_refused m is new rest slice later one.left fault
      (subst (λ (zs : List ℕ). ReadsAll m.grammar (m.point new) zs one.left [])
      (sym (append_assoc rest slice later)) one.reads) refused
