-- What was written to a sink of some bytes; and a reader or writer with a count of its failures.
use Rattle.std.specs.Prelude.{◌≡◌, ℕ, List, ◌++◌, Option}
use Rattle.std.specs.Io.KnownBytes.{Appends}
use Rattle.std.specs.Borrow.{GName}
use Rattle.rfb_session.specs.declared.engine.lent.Lent.{Lent}
use Rattle.rfb_session.specs.declared.engine.tally.Tally.{Tally}

-- what is known of a sink's bytes grew by a text, up to a rest of it
pub record AppendsUpTo (old new : Option (List ℕ)) (text rest : List ℕ) : Type 0 where
  pub done : List ℕ
  pub parts : text ≡ done ++ rest
  pub appended : Appends old new done

-- it grew by a beginning of a text
abbrev pub AppendsBeginning : Option (List ℕ) → Option (List ℕ) → List ℕ → Type 0
AppendsBeginning old new text = (rest : List ℕ) × AppendsUpTo old new text rest

-- how many failures were counted of a reader or writer, and that one itself
abbrev pub counted : {T : Type 0} → Tally T → ℕ
counted tally = tally.failures

abbrev pub within : {T : Type 0} → Tally T → T
within tally = tally.inner

-- of a borrowed writer: how many failures were counted, the writer itself, and the name of the
-- reference to it
abbrev pub lent_failures : {W : Type 0} → Lent W → ℕ
lent_failures lent = lent.failures

abbrev pub lent_writer : {W : Type 0} → Lent W → W
lent_writer lent = lent.writer.now

abbrev pub lent_name : {W : Type 0} → Lent W → GName
lent_name lent = lent.writer.ghost_name
