-- The room that a seat has for the answers of its session, RFC 6143 sections 7.1 and 7.3.2: there
-- is always enough.
use Rattle.std.specs.Prelude.{◌≡◌, ℕ, ◌+◌, ◌≤◌, List, length, None}
use Rattle.std.specs.Vec.{vec_capacity}
use Rattle.rfb_pixel.specs.declared.colour.Colour.{Colour}
use Rattle.rfb_picture.specs.Grid.{Grid}
use Rattle.rfb_wire.specs.stream.Sequel.{First, Second}
use Rattle.rfb_hello.specs.ClientHandshake.{AwaitsVersion, AwaitsChoice, AwaitsInit, Begun}
use Rattle.rfb_server.specs.declared.session.Session.{Session}
use Rattle.rfb_server.specs.ClientBytes.{ClientAt}
use Rattle.rfb_server.specs.Server.{Serving, ServerState}
use Rattle.rfb_server.specs.Model.{SessionStandsFor, session_fault}
use Rattle.rfb_session.specs.declared.share.waiting.Waiting.{Waiting}
use Rattle.rfb_session.specs.declared.share.waiting.Waiting.TheVariants.{Answers, Update, Shared}

-- the bytes that are kept, written ones in front
abbrev pub kept_in : Waiting → List ℕ
kept_in (Answers answers) = answers.items
kept_in (Update bytes) = bytes.items
kept_in (Shared bytes) = bytes.value.items

-- how many bytes of memory are taken for them: none for answers, which lie in the seat itself. Those of
-- a shared update are counted at each seat where it waits
abbrev pub memory_of : Waiting → ℕ
memory_of (Answers answers) = 0
memory_of (Update bytes) = vec_capacity bytes
memory_of (Shared bytes) = vec_capacity bytes.value

-- how many of them are answers
abbrev pub answers_in : Waiting → ℕ
answers_in (Answers answers) = length answers.items
answers_in (Update bytes) = 0
answers_in (Shared bytes) = 0

-- of answers and of a shared update nothing has changed, and of another one an update is left
abbrev pub IsCut : Waiting → Waiting → Type 0
IsCut (Answers old) new = new ≡ Answers old
IsCut (Update old) (Answers new) = ⊥
IsCut (Update old) (Update new) = Unit {0}
IsCut (Update old) (Shared new) = Unit {0}
IsCut (Shared old) new = new ≡ Shared old

-- how many bytes of answers a client may still be sent: at most 6 for its security type and the result, and ServerInit
-- with a name of at most 255 bytes. After the handshake there are none
abbrev pub answers_left : ClientAt → ℕ
answers_left (First AwaitsVersion) = 285
answers_left (First (AwaitsChoice version)) = 283
answers_left (First (AwaitsInit version)) = 279
answers_left (First (Begun version shared)) = 0
answers_left (Second between) = 0

-- these fit after what is kept; where that is an update, there are none
abbrev pub AnswersFit : Waiting → ClientAt → Type 0
AnswersFit (Answers answers) point = length answers.items + answers_left point ≤ 297
AnswersFit (Update bytes) point = answers_left point ≡ 0
AnswersFit (Shared bytes) point = answers_left point ≡ 0

-- of a state that a session stands for over a screen
pub record FitsAState (session : Session) (waiting : Waiting) : Type 0 where
  pub serving : Serving
  pub screen : Grid Colour
  pub state : ServerState
  pub prefix : List ℕ
  pub stands : SessionStandsFor serving screen session state prefix
  pub name : length serving.hello.name ≤ 255
  pub fit : AnswersFit waiting state.point

-- one that has failed answers nothing
abbrev pub HasRoomForAnswers : Session → Waiting → Type 0
HasRoomForAnswers session waiting = session_fault session ≡ None → FitsAState session waiting
