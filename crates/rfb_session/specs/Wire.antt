-- A reader and a writer in one, and what it does step by step. So the order of its reads and its writes is known.
use Rattle.std.specs.Prelude.{◌≡◌, ℕ, ◌+◌, ◌<◌, List, [], ◌++◌, take, Option, Some, Result, MatchResult, ◌⊎◌}
use Rattle.std.specs.Borrow.{GName}
use Rattle.std.specs.Io.KnownBytes.{Appends, Consumes, Keeps, IsAtEnd}
use Rattle.rfb_session.specs.Devices.{AppendsBeginning}

-- a read gave these bytes, found the end, or failed; a write took these bytes, or failed
pub data WireStep : Type 0 where
  Came : (bytes : List ℕ) → WireStep
  Ended : WireStep
  Missed : WireStep
  Went : (bytes : List ℕ) → WireStep
  Refused : WireStep

-- what is known of a wire: the bytes that reads will give from here on, and those that were written, where these are
-- known; and how many reads and how many writes have failed. If it borrows what it reads from and what it writes to,
-- there are the names of the two references, too
pub record Known : Type 0 where
  pub unread : Option (List ℕ)
  pub written : Option (List ℕ)
  pub failed_reads : ℕ
  pub failed_writes : ℕ
  pub lent : Option (GName × GName)

-- the same of a borrowed reader and a borrowed writer
abbrev pub known_of_both : Option (List ℕ) → ℕ → Option (List ℕ) → ℕ → GName → GName → Known
known_of_both unread failing written stuck source sink = record {
  unread = unread;
  written = written;
  failed_reads = failing;
  failed_writes = stuck;
  lent = Some (source, sink);
}

-- a read leaves what is known of writes, and a write what is known of reads
abbrev pub KeepsWrites : Known → Known → Type 0
KeepsWrites old new =
    (new.written ≡ old.written) × (new.failed_writes ≡ old.failed_writes) × (new.lent ≡ old.lent)

abbrev pub KeepsReads : Known → Known → Type 0
KeepsReads old new =
    (new.unread ≡ old.unread) × (new.failed_reads ≡ old.failed_reads) × (new.lent ≡ old.lent)

-- what a step makes of what is known
abbrev pub Tells : WireStep → Known → Known → Type 0
Tells (Came bytes) old new =
    KeepsWrites old new × Consumes old.unread new.unread bytes
    × (new.failed_reads ≡ old.failed_reads)
Tells Ended old new =
    KeepsWrites old new × Consumes old.unread new.unread [] × (new.failed_reads ≡ old.failed_reads)
    × IsAtEnd new.unread
Tells Missed old new =
    KeepsWrites old new × Keeps old.unread new.unread × (new.failed_reads ≡ old.failed_reads + 1)
Tells (Went bytes) old new =
    KeepsReads old new × Appends old.written new.written bytes
    × (new.failed_writes ≡ old.failed_writes)
Tells Refused old new =
    KeepsReads old new × Appends old.written new.written []
    × (new.failed_writes ≡ old.failed_writes + 1)

-- what a wire may do: how it is, a step, and how it is then
abbrev pub Stepping : Type 0 → Type 1
Stepping W = W → WireStep → W → Type 0

module _ {W : Type 0} where
  -- what a read into a buffer with room did, by its answer and the buffer
  abbrev pub ReadSteps : {E : Type 0} → Stepping W → W → Result ℕ E → List ℕ → W → Type 0
  ReadSteps steps old result buf new = MatchResult result
      (λ n. (0 < n → steps old (Came (take n buf)) new) × (n ≡ 0 → steps old Ended new))
      (λ e. steps old Missed new)

  -- what a write of some bytes did, by its answer
  abbrev pub WriteSteps : {E : Type 0} → Stepping W → W → Result ℕ E → List ℕ → W → Type 0
  WriteSteps steps old result buf new = MatchResult result
      (λ n. (0 < n → steps old (Went (take n buf)) new) × (n ≡ 0 → steps old Refused new))
      (λ e. steps old Refused new)

  -- all of these bytes were written, part by part, and nothing else was done
  pub data Sends (steps : Stepping W) (old : W) : W → List ℕ → Type 0 where
    Nothing : Sends steps old old []
    Then : (mid new : W) (front part : List ℕ) → Sends steps old mid front →
        steps mid (Went part) new → Sends steps old new (front ++ part)

  -- a beginning of them was, and then one write may have failed
  pub record SendsSome (steps : Stepping W) (old new : W) (bytes : List ℕ) : Type 0 where
    pub done : List ℕ
    pub rest : List ℕ
    pub mid : W
    pub parts : bytes ≡ done ++ rest
    pub sent : Sends steps old mid done
    pub stops : (new ≡ mid) ⊎ steps mid Refused new

-- how bytes are written, from one state of what they are written to to another: all of them, or a
-- beginning
pub record Writing (D : Type 0) : Type 1 where
  pub all : D → D → List ℕ → Type 0
  pub some : D → D → List ℕ → Type 0

-- to a sink, by what is known of its bytes
abbrev pub by_bytes : Writing (Option (List ℕ))
by_bytes = record { all = Appends; some = AppendsBeginning }

-- to a wire, step by step
abbrev pub by_steps : {W : Type 0} → Stepping W → Writing W
by_steps steps = record { all = Sends steps; some = SendsSome steps }
