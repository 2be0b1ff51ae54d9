-- A whole handshake as two ends speak it: who sends what and when, by the version that both use,
-- RFC 6143 sections 7.1 to 7.3 and Appendix A.
use Rattle.std.specs.Prelude.{◌≡◌, ℕ, Bool, List, [], ◌∷◌, ◌++◌, Some}
use Rattle.rfb_wire.specs.stream.Grammar.{ReadsAll}
use Rattle.rfb_wire.specs.stream.End.{acts, told}
use Rattle.rfb_hello.specs.declared.version.Version.{Version}
use Rattle.rfb_hello.specs.declared.version.Version.TheVariants.{V33, V37, V38}
use Rattle.rfb_hello.specs.declared.step.ServerStep.{ServerStep}
use Rattle.rfb_hello.specs.declared.step.ViewerStep.{ViewerStep}
use Rattle.rfb_hello.specs.Version.{lower, version_text}
use Rattle.rfb_hello.specs.ClientHandshake.{ClientPoint, ClientItem, ProtocolVersion as ClientVersion, SecurityType}
use Rattle.rfb_hello.specs.ClientHandshake.{ClientInit, client_handshake}
use Rattle.rfb_hello.specs.ServerHandshake.{ServerPoint, ServerItem, ProtocolVersion as ServerVersion, SecurityNone}
use Rattle.rfb_hello.specs.ServerHandshake.{SecurityTypes, SecurityResult}
use Rattle.rfb_hello.specs.ServerItems.{server_handshake}
use Rattle.rfb_hello.specs.ServerEnd.{ServerSetup, server_end, server_init_bytes, answer_bytes}
use Rattle.rfb_hello.specs.ServerAnswers.{init_asked}
use Rattle.rfb_hello.specs.ViewerEnd.{ViewerSetup, viewer_end, shared_flag}
use Rattle.rfb_hello.specs.ViewerAnswers.{reply_bytes}

-- ---- who sends what

-- what one end sends before the other answers: its items, and the bytes of these
pub data Turn : Type 0 where
  FromServer : (items : List ServerItem) → (bytes : List ℕ) → Turn
  FromViewer : (items : List ClientItem) → (bytes : List ℕ) → Turn

-- ClientInit, section 7.3.1
abbrev pub client_init_turn : Bool → Turn
client_init_turn shared = FromViewer (ClientInit shared ∷ []) (shared_flag shared ∷ [])

-- ServerInit with the name, section 7.3.2
abbrev pub server_init_turn : ServerSetup → Turn
server_init_turn setup = FromServer (init_asked setup) (server_init_bytes setup)

-- the security types, a list of None alone, section 7.1.2
abbrev pub types_turn : Turn
types_turn = FromServer (SecurityTypes (1 ∷ []) ∷ []) (1 ∷ 1 ∷ [])

-- SecurityResult, success, section 7.1.3
abbrev pub result_turn : Turn
result_turn = FromServer (SecurityResult ∷ []) (0 ∷ 0 ∷ 0 ∷ 0 ∷ [])

-- after the versions. Under 3.3 the server decides the type, by a word, and ClientInit follows.
-- Under 3.7 the viewer chooses, and sends ClientInit at once, since no SecurityResult comes for
-- None. Under 3.8 it waits for that
abbrev pub turns_after_versions : Version → Bool → ServerSetup → List Turn
turns_after_versions V33 shared setup =
    FromServer (SecurityNone ∷ []) (0 ∷ 0 ∷ 0 ∷ 1 ∷ [])
    ∷ client_init_turn shared
    ∷ server_init_turn setup ∷ []
turns_after_versions V37 shared setup =
    types_turn
    ∷ FromViewer (SecurityType ∷ ClientInit shared ∷ []) (1 ∷ shared_flag shared ∷ [])
    ∷ server_init_turn setup ∷ []
turns_after_versions V38 shared setup =
    types_turn
    ∷ FromViewer (SecurityType ∷ []) (1 ∷ [])
    ∷ result_turn
    ∷ client_init_turn shared
    ∷ server_init_turn setup ∷ []

-- the version that both ends use: the lower of what the server offers and what the viewer goes up
-- to
abbrev pub version_used : ServerSetup → ViewerSetup → Version
version_used server viewer = lower viewer.limit server.offer

-- the whole: each end's version, and what comes after these
abbrev pub conversation : ServerSetup → ViewerSetup → List Turn
conversation server viewer =
    FromServer (ServerVersion server.offer ∷ []) (version_text server.offer)
    ∷ FromViewer (ClientVersion (version_used server viewer) ∷ [])
    (version_text (version_used server viewer))
    ∷ turns_after_versions (version_used server viewer) viewer.shared server

-- ---- that two ends speak it

-- what an end has said and the other has not heard
pub data Said : Type 0 where
  ByServer : (bytes : List ℕ) → Said
  ByViewer : (bytes : List ℕ) → Said

-- the bytes of answers
abbrev pub server_replies : List ServerStep → List ℕ
server_replies [] = []
server_replies (step ∷ steps) = answer_bytes (Some step) ++ server_replies steps

abbrev pub viewer_replies : List ViewerStep → List ℕ
viewer_replies [] = []
viewer_replies (step ∷ steps) = reply_bytes (Some step) ++ viewer_replies steps

-- what an end says to items of the other's
abbrev pub server_answers : ServerSetup → ClientPoint → List ClientItem → Said
server_answers setup point items = ByServer (server_replies (told (server_end setup) point items))

abbrev pub viewer_answers : ViewerSetup → ServerPoint → List ServerItem → Said
viewer_answers setup point items = ByViewer (viewer_replies (told (viewer_end setup) point items))

-- turn by turn. What was said are the bytes of the turn. The end that hears them reads them as its
-- items, with nothing left, and what is said next is its answer to these. At the last the viewer
-- has nothing to say, and each end is at its point
abbrev pub Converse : ServerSetup → ViewerSetup → ClientPoint → ServerPoint → Said → List Turn →
    ClientPoint → ServerPoint → Type 0
Converse server viewer at_server at_viewer said [] server_end_at viewer_end_at =
    (said ≡ ByViewer []) × (at_server ≡ server_end_at) × (at_viewer ≡ viewer_end_at)
Converse server viewer at_server at_viewer said
    (FromServer items bytes ∷ turns) server_end_at viewer_end_at =
    (said ≡ ByServer bytes)
    × ReadsAll (server_handshake viewer.limit viewer.max_places) at_viewer bytes items []
    × Converse server viewer at_server (acts (viewer_end viewer) at_viewer items)
    (viewer_answers viewer at_viewer items) turns server_end_at viewer_end_at
Converse server viewer at_server at_viewer said
    (FromViewer items bytes ∷ turns) server_end_at viewer_end_at =
    (said ≡ ByViewer bytes)
    × ReadsAll (client_handshake server.offer) at_server bytes items []
    × Converse server viewer (acts (server_end server) at_server items) at_viewer
    (server_answers server at_server items) turns server_end_at viewer_end_at
