-- How an end that steps by units of bytes is fed a slice: a unit is a byte, or a
-- run of them of one item.
use Rattle.std.proofs.Common.{◌≡◌, ℕ, ◌+◌, List, [], ◌++◌, Option, None, Ok, Err, take, drop, refl, sym, subst, ◌∙◌, ap}
use Rattle.std.proofs.Common.{arith, take-append-drop}
use Rattle.std.proofs.lemmas.List.{take-take, drop-take}
use Rattle.rfb_wire.specs.stream.Prefix.{Next, More, Got, Bad}
use Rattle.rfb_wire.specs.stream.End.{Machine, IsMachine, Takes, Refuses, RunsOut, FedBy, RefusedBy, RunsOutBy, Steps}
use Rattle.rfb_wire.specs.stream.End.{StepsBy}
use Rattle.rfb_wire.proofs.stream_laws.EndLaws.{takes_none, takes_part, takes_last, takes_then, refuses_unit}
use Rattle.rfb_wire.proofs.stream_laws.EndLaws.{refuses_then, refuses_more, runs_out_then, runs_out_more}

-- the first bytes, and then the next
pub take_add : (i n : ℕ) (xs : List ℕ) → take (i + n) xs ≡ take i xs ++ take n (drop i xs)
take_add i n xs =
    sym (take-append-drop i (take (i + n) xs))
    ∙ ap (λ (ys : List ℕ). ys ++ drop i (take (i + n) xs))
    (take-take i (i + n) xs (omega arith))
    ∙ ap (λ (ys : List ℕ). take i xs ++ ys) (drop-take i n xs)

module _ {S P I F E V : Type 0} where
  -- no bytes leave an end as it is, where what it stands for waits for more
  pub fed_start : (m : Machine S P I F E) (stands : V → S → List ℕ → Type 0) (v : V) →
      ((s : S) (prefix : List ℕ) → stands v s prefix → m.grammar.next (m.point s) prefix ≡ More) →
      FedBy m stands v [] None v
  fed_start m stands v waits =
      λ s prefix now. (s, prefix, now, takes_none m s prefix (waits s prefix now))

  -- bytes after bytes
  pub fed_then : (m : Machine S P I F E) → IsMachine m →
      (stands : V → S → List ℕ → Type 0) (old mid new : V) (xs ys : List ℕ) (event : Option E) →
      FedBy m stands old xs None mid → FedBy m stands mid ys event new →
      FedBy m stands old (xs ++ ys) event new
  fed_then m is stands old mid new xs ys event one two = λ s prefix now.
      let a = one s prefix now in
      let b = two a.0 a.1 a.2 in
      (b.0, b.1, b.2, takes_then m is s a.0 b.0 prefix a.1 b.1 xs ys event a.3 b.3)

  -- a fault after bytes
  pub refused_then : (m : Machine S P I F E) → IsMachine m →
      (stands : V → S → List ℕ → Type 0) (old mid : V) (xs ys : List ℕ) (fault : F) →
      FedBy m stands old xs None mid → RefusedBy m stands mid ys fault →
      RefusedBy m stands old (xs ++ ys) fault
  refused_then m is stands old mid xs ys fault one two = λ s prefix now.
      let a = one s prefix now in
      refuses_then m is s a.0 prefix a.1 xs ys fault a.3 (two a.0 a.1 a.2)

  -- further bytes are refused too
  pub refused_more : (m : Machine S P I F E) → IsMachine m →
      (stands : V → S → List ℕ → Type 0) (old : V) (xs ys : List ℕ) (fault : F) →
      RefusedBy m stands old xs fault → RefusedBy m stands old (xs ++ ys) fault
  refused_more m is stands old xs ys fault one =
      λ s prefix now. refuses_more m is s prefix xs ys fault (one s prefix now)

  -- a step is a call of its unit
  pub step_feeds : (m : Machine S P I F E) → IsMachine m →
      (stands : V → S → List ℕ → Type 0) (old new : V) (unit : List ℕ) (event : Option E) →
      StepsBy m stands old unit (Ok event) new → FedBy m stands old unit event new
  step_feeds m is stands old new unit event steps =
      λ s prefix now.
      by s prefix (m.grammar.next (m.point s) (prefix ++ unit)) refl (steps s prefix now)
    where
      by : (s : S) (prefix : List ℕ) (next : Next I F) →
          m.grammar.next (m.point s) (prefix ++ unit) ≡ next →
          Steps m stands new s (prefix ++ unit) next (Ok event) → (t : S) × (rest : List ℕ)
          × stands new t rest × Takes m s prefix unit event t rest
      by s prefix More e h = (s, prefix ++ unit, h.1, rw h.0 (takes_part m s prefix unit e))
      by s prefix (Got i rest) e h = (
        m.act s i,
        [],
        h.2,
        subst (λ (told : Option E). Takes m s prefix unit told (m.act s i) []) h.1
            (takes_last m is s prefix unit i (e ∙ ap (λ (ys : List ℕ). Got i ys) h.0)),
      )
      by s prefix (Bad f) e h = absurd h

  pub step_refuses : (m : Machine S P I F E) (stands : V → S → List ℕ → Type 0) (old new : V)
      (unit : List ℕ) (fault : F) → StepsBy m stands old unit (Err fault) new →
      RefusedBy m stands old unit fault
  step_refuses m stands old new unit fault steps =
      λ s prefix now.
      by s prefix (m.grammar.next (m.point s) (prefix ++ unit)) refl (steps s prefix now)
    where
      by : (s : S) (prefix : List ℕ) (next : Next I F) →
          m.grammar.next (m.point s) (prefix ++ unit) ≡ next →
          Steps m stands new s (prefix ++ unit) next (Err fault) → Refuses m s prefix unit fault
      by s prefix More e h = absurd h
      by s prefix (Got i rest) e h = absurd h
      by s prefix (Bad f) e h =
          refuses_unit m s prefix unit fault (e ∙ ap (λ (k : F). Bad k) (sym h))

  -- a step by the first bytes of a slice that shows a fault refuses the slice
  pub front_refuses : (m : Machine S P I F E) → IsMachine m →
      (stands : V → S → List ℕ → Type 0) (old new : V) (n : ℕ) (bytes : List ℕ) (fault : F) →
      StepsBy m stands old (take n bytes) (Err fault) new → RefusedBy m stands old bytes fault
  front_refuses m is stands old new n bytes fault steps =
      subst (λ (zs : List ℕ). RefusedBy m stands old zs fault) (take-append-drop n bytes)
      (refused_more m is stands old (take n bytes) (drop n bytes) fault
      (step_refuses m stands old new (take n bytes) fault steps))

  -- ---- i bytes of a slice are taken, and now n more

  -- the same where what comes next was fed as a call
  pub fed_more : (m : Machine S P I F E) → IsMachine m →
      (stands : V → S → List ℕ → Type 0) (old mid new : V) (i n : ℕ) (bytes : List ℕ)
      (event : Option E) → FedBy m stands old (take i bytes) None mid →
      FedBy m stands mid (take n (drop i bytes)) event new →
      FedBy m stands old (take (i + n) bytes) event new
  fed_more m is stands old mid new i n bytes event one two =
      rw (take_add i n bytes)
      (fed_then m is stands old mid new (take i bytes) (take n (drop i bytes)) event one two)

  -- what comes next is refused, and so all is
  pub refused_later : (m : Machine S P I F E) → IsMachine m →
      (stands : V → S → List ℕ → Type 0) (old mid : V) (i : ℕ) (bytes : List ℕ) (fault : F) →
      FedBy m stands old (take i bytes) None mid → RefusedBy m stands mid (drop i bytes) fault →
      RefusedBy m stands old bytes fault
  refused_later m is stands old mid i bytes fault one two =
      subst (λ (zs : List ℕ). RefusedBy m stands old zs fault) (take-append-drop i bytes)
      (refused_then m is stands old mid (take i bytes) (drop i bytes) fault one two)

  -- what comes next wants memory that there is not
  pub runs_out_later : (m : Machine S P I F E) → IsMachine m →
      (asks : S → List ℕ → Type 0) (stands : V → S → List ℕ → Type 0) (old mid : V) (i : ℕ)
      (bytes : List ℕ) → FedBy m stands old (take i bytes) None mid →
      RunsOutBy m asks stands mid (drop i bytes) → RunsOutBy m asks stands old bytes
  runs_out_later m is asks stands old mid i bytes one two = λ s prefix now.
      let a = one s prefix now in
      subst (λ (zs : List ℕ). RunsOut m asks s prefix zs) (take-append-drop i bytes)
      (runs_out_then m is asks s a.0 prefix a.1 (take i bytes) (drop i bytes) a.3
      (two a.0 a.1 a.2))

  -- the call goes on, or ends with an event
  pub fed_step : (m : Machine S P I F E) → IsMachine m →
      (stands : V → S → List ℕ → Type 0) (old mid new : V) (i n : ℕ) (bytes : List ℕ)
      (event : Option E) → FedBy m stands old (take i bytes) None mid →
      StepsBy m stands mid (take n (drop i bytes)) (Ok event) new →
      FedBy m stands old (take (i + n) bytes) event new
  fed_step m is stands old mid new i n bytes event fed steps =
      rw (take_add i n bytes)
      (fed_then m is stands old mid new (take i bytes) (take n (drop i bytes)) event fed
      (step_feeds m is stands mid new (take n (drop i bytes)) event steps))

  -- the call ends with a fault
  pub fault_step : (m : Machine S P I F E) → IsMachine m →
      (stands : V → S → List ℕ → Type 0) (old mid new : V) (i n : ℕ) (bytes : List ℕ) (fault : F) →
      FedBy m stands old (take i bytes) None mid →
      StepsBy m stands mid (take n (drop i bytes)) (Err fault) new →
      RefusedBy m stands old bytes fault
  fault_step m is stands old mid new i n bytes fault fed steps =
      let here = refused_then m is stands old mid (take i bytes) (take n (drop i bytes)) fault fed
      (step_refuses m stands mid new (take n (drop i bytes)) fault steps) in
      let all = refused_more m is stands old (take i bytes ++ take n (drop i bytes))
      (drop (i + n) bytes) fault here in
      subst (λ (zs : List ℕ). RefusedBy m stands old zs fault)
      (ap (λ (ys : List ℕ). ys ++ drop (i + n) bytes) (sym (take_add i n bytes))
      ∙ take-append-drop (i + n) bytes) all

  -- the call ends with want of memory
  pub memory_step : (m : Machine S P I F E) → IsMachine m →
      (asks : S → List ℕ → Type 0) (stands : V → S → List ℕ → Type 0) (old mid : V) (i n : ℕ)
      (bytes : List ℕ) → FedBy m stands old (take i bytes) None mid →
      RunsOutBy m asks stands mid (take n (drop i bytes)) →
      RunsOutBy m asks stands old bytes
  memory_step m is asks stands old mid i n bytes fed wants = λ s prefix now.
      let a = fed s prefix now in
      let here = runs_out_then m is asks s a.0 prefix a.1 (take i bytes) (take n (drop i bytes)) a.3
      (wants a.0 a.1 a.2) in
      let all = runs_out_more m is asks s prefix (take i bytes ++ take n (drop i bytes))
      (drop (i + n) bytes) here in
      subst (λ (zs : List ℕ). RunsOut m asks s prefix zs)
      (ap (λ (ys : List ℕ). ys ++ drop (i + n) bytes) (sym (take_add i n bytes))
      ∙ take-append-drop (i + n) bytes) all
