-- Readers that are listened to, a writer, and what a watcher notes.
use Rattle.std.specs.Prelude.{◌≡◌, ◌+◌, ◌-◌, ◌^◌, ℕ, min, true}
use Rattle.rfb_session.specs.Watcher.{Listening, Greeted, Updated}
use Rattle.rfb.specs.declared.explain.hearing.Hearing.{Hearing}
use Rattle.rfb.specs.declared.explain.keeping.Writing.{Writing}
use Rattle.rfb.specs.declared.explain.telling.Telling.{Telling}

-- that reader itself
abbrev pub heard_by : {R N : Type 0} → Hearing R N → R
heard_by hearing = hearing.reader

-- the writer that is written to
abbrev pub written_by : {W : Type 0} → Writing W → W
written_by writing = writing.writer

-- how many updates it has counted
abbrev pub updates_told : {N : Type 0} → Telling N → ℕ
updates_told telling = telling.updates

-- it notes that the handshake is done, and counts updates
abbrev pub Tells : {N : Type 0} → Listening (Telling N)
Tells old (Greeted width height name) new =
    (new.is_ready ≡ true) × (new.updates ≡ old.updates)
Tells old (Updated now) new =
    (new.is_ready ≡ old.is_ready) × (new.updates ≡ min (old.updates + 1) (2 ^ 64 - 1))
