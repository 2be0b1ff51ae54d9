-- A session that does not have the memory of its places yet: nothing is known or asked, each is
-- marked.
use Rattle.std.specs.Prelude.{◌≡◌, ◌<◌, ℕ, None}
use Rattle.rfb_hello.specs.ServerModel.{left_of}
use Rattle.rfb_server.specs.declared.late.stage.Stage.{Stage}
use Rattle.rfb_server.specs.declared.late.stage.Stage.TheVariants.{Entering, Within}
use Rattle.rfb_server.specs.declared.session.Session.{Session}
use Rattle.rfb_server.specs.declared.session.places.Places.{Places}
use Rattle.rfb_server.specs.session.Marks.{AreUntouched}
use Rattle.rfb_server.specs.session.Sessions.{IsSame}

-- the same session, wherever it lies
pub record IsMoved (old new : Session) : Type 0 where
  pub same : IsSame old new
  pub marks : new.marks ≡ old.marks
  pub hints : new.hints ≡ old.hints
  pub claim : new.claim ≡ old.claim

-- it has what it needs to be fed so many bytes: the memory of its places, or fewer bytes than the
-- client has left of its handshake; one that has failed needs none
abbrev pub IsReadyFor : ℕ → Stage → Type 0
IsReadyFor count (Entering entrance) = entrance.ended ≡ None → count < left_of entrance.hello
IsReadyFor count (Within session) = Unit {0}

-- these are the places of a stage that lacks them
abbrev pub AreFor : Stage → Places → Type 0
AreFor (Entering entrance) places =
    AreUntouched entrance.width entrance.height places.known places.area places.marks
AreFor (Within session) places = ⊥
