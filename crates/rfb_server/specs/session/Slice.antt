-- What a session makes of bytes that it is fed: of a unit of one item, and of a slice.
use Rattle.std.specs.Prelude.{◌≡◌, ◌≢◌, ℕ, Bool, List, [], ◌++◌, Option, Result, Err}
use Rattle.rfb_wire.specs.stream.Prefix.{More}
use Rattle.rfb_pixel.specs.declared.colour.Colour.{Colour}
use Rattle.rfb_picture.specs.declared.rect.Rect.{Rect}
use Rattle.rfb_picture.specs.Grid.{Grid}
use Rattle.rfb_wire.specs.stream.End.{FedBy, StepsBy}
use Rattle.rfb_wire.specs.ClientHead.{SpellsRequest}
use Rattle.rfb_hello.specs.ServerEnd.{as_reply}
use Rattle.rfb_server.specs.declared.event.ServerEvent.{ServerEvent}
use Rattle.rfb_server.specs.declared.fault.ServerFault.{ServerFault}
use Rattle.rfb_server.specs.declared.fault.ServerFault.TheVariants.{NoMemory}
use Rattle.rfb_server.specs.declared.session.Session.{Session}
use Rattle.rfb_server.specs.declared.session.input.progress.Progress.TheVariants.{Head}
use Rattle.rfb_server.specs.ClientBytes.{client_bytes}
use Rattle.rfb_server.specs.Told.{seen, answer_told}
use Rattle.rfb_server.specs.Server.{Serving, ServerState, server, AsksMemory}
use Rattle.rfb_server.specs.Model.{SessionStandsFor}

-- what a step by a unit of one item answers, where memory is not wanting
abbrev pub StepsAs : Session → List ℕ → Result (Option ServerEvent) ServerFault → Session → Type 0
StepsAs old unit result new =
    result ≢ Err NoMemory → (serving : Serving) (screen : Grid Colour)
    → StepsBy (server serving) (SessionStandsFor serving screen) old unit (answer_told result) new

-- where it is, the unit is the last that comes before memory is asked for
abbrev pub RunsOutAs : Session → List ℕ → Result (Option ServerEvent) ServerFault → Type 0
RunsOutAs old unit result =
    result ≡ Err NoMemory → (serving : Serving) (screen : Grid Colour)
    (s : ServerState) (prefix : List ℕ) → SessionStandsFor serving screen old s prefix
    → AsksMemory s (prefix ++ unit)

-- whatever it stands for, more is waited for after these bytes
abbrev pub AwaitsMore : Session → List ℕ → Type 0
AwaitsMore old bytes =
    (serving : Serving) (screen : Grid Colour) (s : ServerState) (prefix : List ℕ)
    → SessionStandsFor serving screen old s prefix
    → (client_bytes serving.hello.offer).next s.point (prefix ++ bytes) ≡ More

-- what a call leaves that took these bytes
abbrev pub FeedsAs : Session → List ℕ → Option ServerEvent → Session → Type 0
FeedsAs old bytes event new =
    (serving : Serving) (screen : Grid Colour)
    → FedBy (server serving) (SessionStandsFor serving screen) old bytes (seen event) new

-- the bytes are one request, and no more, where no other message has begun
abbrev pub IsRequestAlone : Session → List ℕ → Bool → Rect → Type 0
IsRequestAlone session bytes incremental rect =
    (session.progress ≡ Head (as_reply [])) × SpellsRequest incremental rect bytes
