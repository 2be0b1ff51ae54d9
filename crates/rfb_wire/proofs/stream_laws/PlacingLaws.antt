-- Where a fault comes in a slice whose first part was taken before.
use Rattle.std.proofs.Common.{◌≡◌, ℕ, ◌+◌, ◌-◌, ◌<◌, List, [], ◌++◌, None, length, take, drop, sym, subst}
use Rattle.std.proofs.Common.{arith, append-nil}
use Rattle.std.proofs.lemmas.List.{take_all}
use Rattle.rfb_wire.specs.stream.Prefix.{More}
use Rattle.rfb_wire.specs.stream.End.{Machine, IsMachine, FedBy, RefusedBy, RunsOutBy}
use Rattle.rfb_wire.specs.stream.FaultPlace.{TakenBy, RefusedWith, RunsOutWith}
use Rattle.rfb_wire.proofs.stream_laws.EndLaws.{takes_part, takes_then, runs_out_then}
use Rattle.rfb_wire.proofs.stream_laws.FeedLaws.{take_add, refused_then}

module _ {S P I F E V : Type 0} where
  -- bytes that are waited with are taken
  pub waiting_taken : (m : Machine S P I F E) (stands : V → S → List ℕ → Type 0) (old : V) (bytes : List ℕ) →
      ((s : S) (prefix : List ℕ) → stands old s prefix → m.grammar.next (m.point s) (prefix ++ bytes) ≡ More) →
      TakenBy m stands old bytes
  waiting_taken m stands old bytes waits =
      λ s prefix now. (s, prefix ++ bytes, takes_part m s prefix bytes (waits s prefix now))

  -- so are none
  pub none_taken : (m : Machine S P I F E) (stands : V → S → List ℕ → Type 0) (old : V) →
      ((s : S) (prefix : List ℕ) → stands old s prefix → m.grammar.next (m.point s) prefix ≡ More) →
      TakenBy m stands old []
  none_taken m stands old waits =
      waiting_taken m stands old [] (λ s prefix now. rw (append-nil prefix) (waits s prefix now))

  -- ---- of i bytes, which were taken, and n more

  pub taken_later : (m : Machine S P I F E) → IsMachine m → (stands : V → S → List ℕ → Type 0) (old mid : V)
      (i n : ℕ) (bytes : List ℕ) → FedBy m stands old (take i bytes) None mid →
      TakenBy m stands mid (take n (drop i bytes)) → TakenBy m stands old (take (i + n) bytes)
  taken_later m is stands old mid i n bytes one two = rw (take_add i n bytes) (λ s prefix now.
      let a = one s prefix now in
      let b = two a.0 a.1 a.2 in
      (b.0, b.1, takes_then m is s a.0 b.0 prefix a.1 b.1 (take i bytes) (take n (drop i bytes)) None a.3 b.2))

  before_last : (m : Machine S P I F E) → IsMachine m → (stands : V → S → List ℕ → Type 0) (old mid : V)
      (i n : ℕ) (bytes : List ℕ) → 0 < n → FedBy m stands old (take i bytes) None mid →
      TakenBy m stands mid (take (n - 1) (drop i bytes)) → TakenBy m stands old (take (i + n - 1) bytes)
  before_last m is stands old mid i n bytes some one two =
      subst (λ (k : ℕ). TakenBy m stands old (take k bytes)) (omega (arith, some))
      (taken_later m is stands old mid i (n - 1) bytes one two)

  pub refused_with_later : (m : Machine S P I F E) → IsMachine m → (stands : V → S → List ℕ → Type 0)
      (old mid : V) (i n : ℕ) (bytes : List ℕ) (fault : F) → 0 < n →
      FedBy m stands old (take i bytes) None mid → RefusedWith m stands mid (drop i bytes) n fault →
      RefusedWith m stands old bytes (i + n) fault
  refused_with_later m is stands old mid i n bytes fault some one two = record {
    refused = rw (take_add i n bytes)
        (refused_then m is stands old mid (take i bytes) (take n (drop i bytes)) fault one two.refused);
    taken = before_last m is stands old mid i n bytes some one two.taken;
  }

  pub runs_out_with_later : (m : Machine S P I F E) → IsMachine m → (asks : S → List ℕ → Type 0)
      (stands : V → S → List ℕ → Type 0) (old mid : V) (i n : ℕ) (bytes : List ℕ) → 0 < n →
      FedBy m stands old (take i bytes) None mid → RunsOutWith m asks stands mid (drop i bytes) n →
      RunsOutWith m asks stands old bytes (i + n)
  runs_out_with_later m is asks stands old mid i n bytes some one two = record {
    asked = rw (take_add i n bytes) (λ s prefix now.
        let a = one s prefix now in
        runs_out_then m is asks s a.0 prefix a.1 (take i bytes) (take n (drop i bytes)) a.3
        (two.asked a.0 a.1 a.2));
    taken = before_last m is stands old mid i n bytes some one two.taken;
  }

  -- ---- a slice of one byte

  pub refused_with_one : (m : Machine S P I F E) (stands : V → S → List ℕ → Type 0) (old : V)
      (bytes : List ℕ) (fault : F) → length bytes ≡ 1 → TakenBy m stands old [] →
      RefusedBy m stands old bytes fault → RefusedWith m stands old bytes 1 fault
  refused_with_one m stands old bytes fault one none refused = record {
    refused = subst (λ (xs : List ℕ). RefusedBy m stands old xs fault) (sym (take_all 1 bytes (omega
        (arith, one)))) refused;
    taken = none;
  }

  pub runs_out_with_one : (m : Machine S P I F E) (asks : S → List ℕ → Type 0)
      (stands : V → S → List ℕ → Type 0) (old : V) (bytes : List ℕ) → length bytes ≡ 1 →
      TakenBy m stands old [] → RunsOutBy m asks stands old bytes → RunsOutWith m asks stands old bytes 1
  runs_out_with_one m asks stands old bytes one none asked = record {
    asked = subst (λ (xs : List ℕ). RunsOutBy m asks stands old xs) (sym (take_all 1 bytes (omega (arith, one)))) asked;
    taken = none;
  }
