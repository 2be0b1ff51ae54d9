-- Engines of an end that had failed before.
use Rattle.std.specs.Prelude.{◌≡◌, List, ℕ, [], Option, Some, Result, Err, ◌⊎◌}
use Rattle.std.specs.Io.KnownBytes.{Consumes}
use Rattle.rfb_session.specs.declared.engine.fault.EngineFault.{EngineFault}
use Rattle.rfb_session.specs.declared.engine.fault.EngineFault.TheVariants.{Device}

module _ {A V F : Type 0} where
  -- bytes for one that had failed: its fault is the answer again, and it stays as it was
  abbrev pub FailsAgain : (F → EngineFault) → Option F → V → Result A EngineFault → V → Type 0
  FailsAgain told failed old result new =
      (f : F) → failed ≡ Some f → (result ≡ Err (told f)) × (new ≡ old)

  -- an engine of it: the same where bytes come; where none come, a read or a write has failed, or the
  -- answer is the one at the end of the bytes
  abbrev pub StaysUnfed : (F → EngineFault) → Result A EngineFault → Option F → Option (List ℕ) →
      Option (List ℕ) → V → Result A EngineFault → V → Type 0
  StaysUnfed told ended failed unread left old result new =
      (f : F) → failed ≡ Some f → (new ≡ old) × ((result ≡ Err (told f))
      ⊎ (Consumes unread left [] × ((result ≡ Err Device) ⊎ (result ≡ ended))))
