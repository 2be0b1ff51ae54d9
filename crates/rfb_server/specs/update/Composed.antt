-- What a call to compose makes of a session and of the bytes that are to be sent.
use Rattle.std.specs.Prelude.{◌≡◌, ℕ, true, List, [], ◌∷◌, ◌++◌, length}
use Rattle.rfb_pixel.specs.declared.colour.Colour.{Colour}
use Rattle.rfb_picture.specs.Grid.{Grid}
use Rattle.rfb_picture.specs.Area.{nothing}
use Rattle.rfb_picture.specs.Places.{without}
use Rattle.rfb_wire.specs.ServerHead.{SpellsUpdate}
use Rattle.rfb_server.specs.declared.session.Session.{Session}
use Rattle.rfb_server.specs.Progress.{is_ready}
use Rattle.rfb_server.specs.Composition.{IsDue}
use Rattle.rfb_server.specs.UpdateCall.{IsUpdate}
use Rattle.rfb_server.specs.session.Sessions.{KeepsSetting, IsSame}
use Rattle.rfb_server.specs.update.Sends.{state_of}

-- an update is due
pub record IsAwaited (screen : Grid Colour) (session : Session) : Type 0 where
  pub ready : is_ready session.progress ≡ true
  pub due : IsDue (state_of screen session)

-- an update was appended, and no hint is kept; the rest of the session is as it was
pub record HasComposed (screen : Grid Colour) (old new : Session)
    (before after : List ℕ) : Type 0 where
  pub ready : is_ready old.progress ≡ true
  pub update : IsUpdate (state_of screen old) (state_of screen new) old.hints.items before after
  pub hello : new.hello ≡ old.hello
  pub progress : new.progress ≡ old.progress
  pub text_limit : new.text_limit ≡ old.text_limit
  pub hints : new.hints.items ≡ []

-- no update was due, and nothing was appended
pub record StaysIdle (screen : Grid Colour) (old new : Session)
    (before after : List ℕ) : Type 0 where
  pub not_due : is_ready old.progress ≡ true → IsDue (state_of screen old) → ⊥
  pub appended : after ≡ before
  pub same : IsSame old new
  pub hints : new.hints ≡ old.hints

-- nothing is asked any more, what was is not marked, and no hint is kept
pub record IsSettled (old new : Session) : Type 0 where
  pub setting : KeepsSetting old new
  pub known : new.known ≡ old.known
  pub area : new.area ≡ nothing old.area
  pub marks : new.marks ≡ without old.area.asked old.marks
  pub hints : new.hints.items ≡ []
  pub claim : new.claim ≡ old.claim

-- the head at `at` of an update without rectangles has become that of an update with `count`
abbrev pub IsCounted : ℕ → ℕ → List ℕ → List ℕ → Type 0
IsCounted at count old new = (before bytes : List ℕ) → length before ≡ at →
    old ≡ before ++ (0 ∷ 0 ∷ 0 ∷ 0 ∷ bytes) →
    (head : List ℕ) × SpellsUpdate count head × (new ≡ before ++ (head ++ bytes))
