-- What a fresh viewer saw of a server.
use Rattle.std.specs.Prelude.{◌≡◌, ◌⊎◌, ⊤, ℕ, true, false, List, Option, None, if◌then◌else◌}
use Rattle.rfb_viewer.specs.declared.viewer.Viewer.{Viewer}
use Rattle.rfb_session.specs.declared.engine.fault.EngineFault.{EngineFault}
use Rattle.rfb_session.specs.ViewEngine.{HasViewed, StopsViewing}
use Rattle.rfb.specs.declared.fault.Failure.{Failure}
use Rattle.rfb.specs.declared.fault.Fault.{Fault as OwnFault}
use Rattle.rfb.specs.declared.fault.Failure.TheVariants.{BadLine, Undone, Fault, Engine, Picture}
use Rattle.rfb.specs.declared.viewing.view_options.Sight.{Sight}
use Rattle.rfb.specs.Recording.{BeginsPicture, IsFresh, ShowsEnd, WritesPicture, shows_end}

-- a viewer asked and was fed, up to the end of the `updates`-th update. Its bytes were there to be
-- read, and what it sent follows what was written before. The output has what it was fed, if that
-- is kept there
pub record Saw (read before blank copied : Option (List ℕ)) (old : Viewer) (updates : ℕ)
    (new : Viewer) : Type 0 where
  pub left : Option (List ℕ)
  pub after : Option (List ℕ)
  pub viewed : HasViewed read left before after blank copied old updates new

-- or why it did not reach that end
pub record StopsSeeing (read before blank copied : Option (List ℕ)) (old : Viewer) (updates : ℕ)
    (fault : EngineFault) (new : Viewer) : Type 0 where
  pub left : Option (List ℕ)
  pub after : Option (List ℕ)
  pub failed : ℕ
  pub stopped : StopsViewing read left before after blank copied 0 failed old updates fault new

-- it was fresh, and made for that sight
abbrev pub IsMadeFor : Sight → Viewer → Type 0
IsMadeFor sight viewer = IsFresh sight.wants.format sight.wants.encodings.items viewer

-- what the server's bytes are kept on: the output, or nothing where no recording is wanted
abbrev pub kept_on : Sight → Option (List ℕ) → Option (List ℕ)
kept_on sight output = if sight.is_recorded then output else None

-- the sight was seen, and this was written of what the viewer then shows; a recording is what the
-- viewer was fed
pub record ViewsTo (Writes : Viewer → Type 0) (sight : Sight)
    (read answered before after : Option (List ℕ)) : Type 0 where
  pub first : Viewer
  pub fresh : IsMadeFor sight first
  pub last : Viewer
  pub saw : Saw read answered (kept_on sight before) (kept_on sight after) first sight.updates last
  pub shown : Writes last

-- if no recording is wanted, the whole picture was written after what stood there before
abbrev pub Views : Sight → Option (List ℕ) → Option (List ℕ) → Option (List ℕ) →
    Option (List ℕ) → Type 0
Views sight read answered before after =
    ViewsTo (λ last. sight.is_recorded ≡ false → WritesPicture last before after) sight
    read answered before after

-- a viewer was fed what came by an early end, which is wanted, and a beginning of what it then
-- shows was written
pub record ViewsPart (sight : Sight) (read answered before after : Option (List ℕ))
    (fault : EngineFault) (first last : Viewer) : Type 0 where
  pub is_picture : sight.is_recorded ≡ false
  pub is_shown : shows_end sight.is_partial fault ≡ true
  pub stops : StopsSeeing read answered None None first sight.updates fault last
  pub begun : BeginsPicture last before after

-- the output is as it was, or a beginning of the picture was written, also of what came by an early
-- end
abbrev pub LeavesView : Sight → Option (List ℕ) → Option (List ℕ) → Option (List ℕ) →
    Option (List ℕ) → Type 0
LeavesView sight read answered before after =
    (after ≡ before)
    ⊎ ViewsTo (λ last. BeginsPicture last before after) sight read answered before after
    ⊎ ((fault : EngineFault) × (first last : Viewer) × IsMadeFor sight first
    × ViewsPart sight read answered before after fault first last)

-- a viewer that was fed is the reason why nothing more is seen; or all was seen, and the machine is
abbrev pub StopsView : Option (List ℕ) → Option (List ℕ) → Option (List ℕ) → Option (List ℕ) →
    Viewer → ℕ → Failure → Viewer → Type 0
StopsView read answered blank copied old updates (Engine fault) new =
    StopsSeeing read answered blank copied old updates fault new
StopsView read answered blank copied old updates (Fault fault) new =
    Saw read answered blank copied old updates new
StopsView read answered blank copied old updates (BadLine n) new = ⊥
StopsView read answered blank copied old updates (Undone n why) new = ⊥
StopsView read answered blank copied old updates (Picture flaw) new = ⊥

-- what it ended with, and, where no recording is wanted, this much of its picture was written
abbrev pub ShowsView : Sight → Viewer → Option (List ℕ) → Option (List ℕ) → Failure → Type 0
ShowsView sight last before after (Engine fault) =
    sight.is_recorded ≡ false → ShowsEnd sight.is_partial last fault before after
ShowsView sight last before after (Fault fault) = ⊤
ShowsView sight last before after (BadLine n) = ⊥
ShowsView sight last before after (Undone n why) = ⊥
ShowsView sight last before after (Picture flaw) = ⊥

-- what a fresh viewer was fed ended it, or ended too early, or it saw all; a recording has what the
-- engine says of it. Or the picture of what came by an early end could not be written
abbrev pub FailsToView : Sight → Option (List ℕ) → Option (List ℕ) → Option (List ℕ) →
    Option (List ℕ) → Failure → Type 0
FailsToView sight read answered before after failure =
    (first last : Viewer) × IsMadeFor sight first × ((StopsView read answered
    (kept_on sight before) (kept_on sight after) first sight.updates failure last
    × ShowsView sight last before after failure)
    ⊎ ((own : OwnFault) × (failure ≡ Fault own) × (fault : EngineFault)
    × ViewsPart sight read answered before after fault first last))

-- ---- a connection of whose bytes nothing is known

-- a sight was seen over it
abbrev pub ViewsSome : Sight → Option (List ℕ) → Option (List ℕ) → Type 0
ViewsSome sight before after =
    (read answered : Option (List ℕ)) × Views sight read answered before after

-- or not, and then the output is so left
abbrev pub LeavesSomeView : Sight → Option (List ℕ) → Option (List ℕ) → Type 0
LeavesSomeView sight before after =
    (after ≡ before)
    ⊎ ((read answered : Option (List ℕ)) × LeavesView sight read answered before after)

-- there was none, and the output is as it was; or what came over it ended a fresh viewer, or ended
-- early, or all was seen and the machine failed
abbrev pub FailsToViewSome : Sight → Option (List ℕ) → Option (List ℕ) → Failure → Type 0
FailsToViewSome sight before after failure =
    ((fault : OwnFault) × (failure ≡ Fault fault) × (after ≡ before))
    ⊎ ((read answered : Option (List ℕ)) × FailsToView sight read answered before after failure)

-- one of these
abbrev pub FailsSomehow : Sight → Option (List ℕ) → Option (List ℕ) → Type 0
FailsSomehow sight before after =
    (failure : Failure) × FailsToViewSome sight before after failure
