-- A film of a server: what its viewer shows after each update, one picture after another.
use Rattle.std.specs.Prelude.{◌≡◌, ◌<◌, ◌⊎◌, ◌&&◌, nat_lt, ℕ, Bool, true, false, List, [], Option, None, Some}
use Rattle.std.specs.Prelude.{Result, Ok, Err}
use Rattle.std.specs.Borrow.{GName}
use Rattle.rfb_viewer.specs.declared.viewer.Viewer.{Viewer}
use Rattle.rfb_session.specs.declared.engine.fault.EngineFault.{EngineFault}
use Rattle.rfb_session.specs.declared.engine.fault.EngineFault.TheVariants.{Server, Viewer as ViewerEnded, Truncated}
use Rattle.rfb_session.specs.declared.engine.fault.EngineFault.TheVariants.{Device, NoMemory}
use Rattle.rfb_session.specs.Watcher.{EndsViewing, Greeted, HearsRead, Listening, Updated}
use Rattle.rfb_session.specs.ViewerActs.{StandsBetween}
use Rattle.rfb.specs.declared.explain.telling.Telling.{Telling}
use Rattle.rfb.specs.declared.fault.Failure.{Failure}
use Rattle.rfb.specs.declared.fault.Failure.TheVariants.{BadLine, Undone, Fault, Engine, Picture}
use Rattle.rfb.specs.declared.fault.Fault.{Fault as OwnFault}
use Rattle.rfb.specs.declared.viewing.film.Film.{Film}
use Rattle.rfb.specs.declared.viewing.filming.Filming.{Filming}
use Rattle.rfb.specs.declared.viewing.stopping.Stopping.{Stopping}
use Rattle.rfb.specs.Explain.{Tells}
use Rattle.rfb.specs.Recording.{BeginsPicture, IsFresh, WritesPicture}
use Rattle.rfb.specs.View.{Saw, StopsSeeing}

-- ---- pictures, one after each update

-- how far a film is: what the output has, and why a write failed, if one has
pub record Reel : Type 0 where
  pub bytes : Option (List ℕ)
  pub cut : Option OwnFault

abbrev pub reel : Option (List ℕ) → Option OwnFault → Reel
reel bytes cut = record { bytes = bytes; cut = cut }

-- all of a viewer's picture was written after what stood there before; or, where a write failed, nothing or a
-- beginning of it
abbrev pub IsShot : Viewer → Option (List ℕ) → Option (List ℕ) → Option OwnFault → Type 0
IsShot now before after None = WritesPicture now before after
IsShot now before after (Some fault) = (after ≡ before) ⊎ BeginsPicture now before after

-- where a write has failed nothing more is written
abbrev pub GoesOn : Option OwnFault → Viewer → Reel → Reel → Type 0
GoesOn None now old new = IsShot now old.bytes new.bytes new.cut
GoesOn (Some fault) now old new = new ≡ old

-- at the end of each update the picture that its viewer then shows, and nothing else
abbrev pub Shoots : Listening Reel
Shoots old (Greeted width height name) new = new ≡ old
Shoots old (Updated now) new = GoesOn old.cut now old new

-- a fresh viewer was fed the first bytes of what was read, and after each update its picture was written; then it
-- ended so
pub record Filmed (film : Film) (Ends : ℕ → List ℕ → Viewer → Type 0) (read before after : Option (List ℕ))
    (cut : Option OwnFault) (first : Viewer) : Type 0 where
  pub fresh : IsFresh film.wants.format film.wants.encodings.items first
  pub left : Option (List ℕ)
  pub shot : HearsRead Shoots Ends read left first (reel before None) (reel after cut)

-- ---- how a film ends

-- after how many updates at the latest
abbrev pub most_of : Option ℕ → ℕ
most_of None = 4294967295
most_of (Some count) = count

-- so many updates have ended; or no number was asked for, one has ended at least, and the server's bytes have,
-- between two messages
abbrev pub EndsFilm : Option ℕ → Viewer → ℕ → List ℕ → Viewer → Type 0
EndsFilm asked new updates later last =
    (new ≡ last) × ((updates ≡ most_of asked)
    ⊎ ((asked ≡ None) × (0 < updates) × (later ≡ []) × StandsBetween new true))

-- what the server was asked, and what it sent, up to there
abbrev pub SeesFilm : Film → Option (List ℕ) → Option (List ℕ) → Viewer → Viewer → Type 0
SeesFilm film read answered first last =
    Saw read answered None None first (most_of film.updates) last
    ⊎ StopsSeeing read answered None None first (most_of film.updates) Truncated last

-- a film was made, with a whole picture for each update
pub record Follows (film : Film) (read answered before after : Option (List ℕ)) : Type 0 where
  pub first : Viewer
  pub last : Viewer
  pub filmed : Filmed film (EndsFilm film.updates last) read before after None first
  pub saw : SeesFilm film read answered first last

-- where an engine's fault ends it: the bytes end too early only where no update has ended, or inside a message, or
-- where more updates are asked for
abbrev pub EndsEarly : Option ℕ → EngineFault → Viewer → ℕ → List ℕ → Viewer → Type 0
EndsEarly asked fault new updates later last =
    EndsViewing (most_of asked) (Err fault) new updates later last
    × (fault ≡ Truncated → asked ≡ None → (updates ≡ 0) ⊎ StandsBetween new false)

-- a film that fails: by the engine of its viewer, with a whole picture for each update; or by a write
abbrev pub FailsToFilm : Film → Option (List ℕ) → Option (List ℕ) → Option (List ℕ) → Option (List ℕ) → Viewer →
    Viewer → Failure → Type 0
FailsToFilm film read answered before after first last (Engine fault) =
    Filmed film (EndsEarly film.updates fault last) read before after None first
    × StopsSeeing read answered None None first (most_of film.updates) fault last
FailsToFilm film read answered before after first last (Fault fault) =
    (ended : Result ℕ EngineFault)
    × Filmed film (EndsViewing (most_of film.updates) ended last) read before after (Some fault) first
FailsToFilm film read answered before after first last (BadLine n) = ⊥
FailsToFilm film read answered before after first last (Undone n why) = ⊥
FailsToFilm film read answered before after first last (Picture flaw) = ⊥

abbrev pub FailsToFollow : Film → Option (List ℕ) → Option (List ℕ) → Option (List ℕ) → Option (List ℕ) → Failure →
    Type 0
FailsToFollow film read answered before after failure =
    (first last : Viewer) × FailsToFilm film read answered before after first last failure

-- ---- a connection of whose bytes nothing is known

-- a server was followed over it
abbrev pub FollowsSome : Film → Option (List ℕ) → Option (List ℕ) → Type 0
FollowsSome film before after = (read answered : Option (List ℕ)) × Follows film read answered before after

-- or there was none, and the output is as it was; or the film failed
abbrev pub FailsToFollowSome : Film → Option (List ℕ) → Option (List ℕ) → Failure → Type 0
FailsToFollowSome film before after failure =
    ((fault : OwnFault) × (failure ≡ Fault fault) × (after ≡ before))
    ⊎ ((read answered : Option (List ℕ)) × FailsToFollow film read answered before after failure)

-- for one of these reasons
abbrev pub StopsFollowing : Film → Option (List ℕ) → Option (List ℕ) → Type 0
StopsFollowing film before after = (failure : Failure) × FailsToFollowSome film before after failure

-- ---- who makes it

-- how often a sink has failed that an engine is stopped by
abbrev pub stopped_so_often : Stopping → ℕ
stopped_so_often stopping = stopping.failures

-- what a film is written to, the name of the reference to it, why a write failed, and who reports it
abbrev pub filmed_on : {W C N : Type 0} → Filming W C N → W
filmed_on filming = filming.output.now

abbrev pub film_name : {W C N : Type 0} → Filming W C N → GName
film_name filming = filming.output.ghost_name

abbrev pub cut_of : {W C N : Type 0} → Filming W C N → Option OwnFault
cut_of filming = filming.fault

abbrev pub told_of : {W C N : Type 0} → Filming W C N → Telling N
told_of filming = filming.telling.now

-- how far it is
abbrev pub reel_of : {W C N : Type 0} → (W → Option (List ℕ)) → Filming W C N → Reel
reel_of contents filming = reel (contents (filmed_on filming)) (cut_of filming)

-- it makes a film of what it hears, and counts updates
abbrev pub Films : {W C N : Type 0} → (W → Option (List ℕ)) → Listening (Filming W C N)
Films contents old notice new =
    Shoots (reel_of contents old) notice (reel_of contents new) × (film_name new ≡ film_name old)
    × Tells (told_of old) notice (told_of new)

-- as many updates were counted as ended: none, or some
abbrev pub Counts : ℕ → ℕ → Type 0
Counts told updates = ((told ≡ 0) × (updates ≡ 0)) ⊎ ((0 < told) × (0 < updates))

-- an engine has run, and they were counted
abbrev pub EndsCounted : ℕ → Result ℕ EngineFault → Viewer → ℕ → ℕ → List ℕ → Viewer → Type 0
EndsCounted asked ended new told updates later last =
    EndsViewing asked ended new updates later last × Counts told updates

-- where no number of updates is asked for, one has ended, and the bytes end between two messages, it is over
abbrev pub is_over : Option ℕ → ℕ → Bool → Result ℕ EngineFault → Bool
is_over None updates between (Err Truncated) = nat_lt 0 updates && between
is_over None updates between (Err Device) = false
is_over None updates between (Err NoMemory) = false
is_over None updates between (Err (Server fault)) = false
is_over None updates between (Err (ViewerEnded fault)) = false
is_over None updates between (Ok told) = false
is_over (Some count) updates between ended = false

-- why it fails, if it does
abbrev pub judged : Option OwnFault → Result ℕ EngineFault → Bool → Result (Unit {0}) Failure
judged (Some fault) ended over = Err (Fault fault)
judged None (Ok told) over = Ok tt
judged None (Err fault) true = Ok tt
judged None (Err fault) false = Err (Engine fault)
