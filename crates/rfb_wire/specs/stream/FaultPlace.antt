-- Where bytes are refused: with which byte of a slice a fault comes, and how many bytes were used in
-- all. Bytes are counted from 1.
use Rattle.std.specs.Prelude.{ℕ, ◌+◌, ◌-◌, ◌^◌, ◌<◌, ◌≤◌, ◌≡◌, min, List, length, take, None}
use Rattle.rfb_wire.specs.stream.Prefix.{More, Bad, Reading}
use Rattle.rfb_wire.specs.stream.End.{Machine, Takes, RefusedBy, RunsOutBy}

-- the reading shows the fault with byte n, and without that byte it waits for more
pub record FaultsWith {A F : Type 0} (p : Reading A F) (bytes : List ℕ) (n : ℕ) (fault : F) :
    Type 0 where
  pub some : 0 < n
  pub within : n ≤ length bytes
  pub waits : p (take (n - 1) bytes) ≡ More
  pub bad : p (take n bytes) ≡ Bad fault

module _ {S P I F E V : Type 0} where
  -- whatever the end stood for, the bytes are no more than taken: they are whole items without an
  -- event, and what is too few for another
  abbrev pub TakenBy : Machine S P I F E → (V → S → List ℕ → Type 0) → V → List ℕ → Type 0
  TakenBy m stands old bytes =
      (s : S) (prefix : List ℕ) → stands old s prefix →
      (t : S) × (rest : List ℕ) × Takes m s prefix bytes None t rest

  -- the first n bytes are refused by the fault, and those before the last of them are taken
  pub record RefusedWith (m : Machine S P I F E) (stands : V → S → List ℕ → Type 0) (old : V)
      (bytes : List ℕ) (n : ℕ) (fault : F) : Type 0 where
    pub refused : RefusedBy m stands old (take n bytes) fault
    pub taken : TakenBy m stands old (take (n - 1) bytes)

  -- the first n bytes lead to where it asks for memory, and those before the last of them are taken
  pub record RunsOutWith (m : Machine S P I F E) (asks : S → List ℕ → Type 0)
      (stands : V → S → List ℕ → Type 0) (old : V) (bytes : List ℕ) (n : ℕ) : Type 0 where
    pub asked : RunsOutBy m asks stands old (take n bytes)
    pub taken : TakenBy m stands old (take (n - 1) bytes)

-- a count of bytes with n more, as far as 64 bits go
abbrev pub counted_on : ℕ → ℕ → ℕ
counted_on count n = min (count + n) (2 ^ 64 - 1)
