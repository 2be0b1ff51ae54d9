-- What each end answers to the other's items, as items of its own. In the handshake that is what RFC 6143 sections 7.1
-- and 7.3 and Appendix A ask next, and after it nothing.
use Rattle.std.specs.Prelude.{zero, suc, List, [], ◌∷◌, ◌++◌, map}
use Rattle.rfb_wire.specs.Encoding.{number_of}
use Rattle.rfb_wire.specs.ClientMessage.{SetPixelFormat, SetEncodings}
use Rattle.rfb_wire.specs.stream.Sequel.{Stage, First, Second}
use Rattle.rfb_hello.specs.Version.{lower}
use Rattle.rfb_hello.specs.ClientHandshake.{ClientPoint, AwaitsVersion as AwaitsClientVersion}
use Rattle.rfb_hello.specs.ClientHandshake.{AwaitsChoice, AwaitsInit as AwaitsClientInit}
use Rattle.rfb_hello.specs.ClientHandshake.{ClientItem, ProtocolVersion as ClientVersion}
use Rattle.rfb_hello.specs.ClientHandshake.{SecurityType, ClientInit}
use Rattle.rfb_hello.specs.ServerHandshake.{ServerPoint, AwaitsVersion, AwaitsSecurity}
use Rattle.rfb_hello.specs.ServerHandshake.{AwaitsResult, AwaitsInit, AwaitsName, ServerItem}
use Rattle.rfb_hello.specs.ServerHandshake.{ProtocolVersion, SecurityNone, SecurityTypes}
use Rattle.rfb_hello.specs.ServerHandshake.{SecurityResult, ServerInit, Name}
use Rattle.rfb_hello.specs.ServerAnswers.{types_asked, result_asked, init_asked}
use Rattle.rfb_hello.specs.ViewerAnswers.{choice_asked}
use Rattle.rfb_server.specs.ClientBytes.{ClientAt, FromClient}
use Rattle.rfb_server.specs.Server.{Serving, ServerState, serves}
use Rattle.rfb_viewer.specs.ServerBytes.{ServerAt, FromServer}
use Rattle.rfb_viewer.specs.Viewer.{Viewing, ViewerState, shows}

-- ---- in turn

-- of two streams one after the other, an item of the first is answered so where the first goes on, and
-- nothing else is answered
abbrev pub answers_of_first : {P Q I J A : Type 0} → (P → I → List A) → Stage P Q → Stage I J → List A
answers_of_first answers (First point) (First item) = answers point item
answers_of_first answers point item = []

-- the answers to items one after another, each to the state that those before it made
abbrev pub replies_by : {S I A : Type 0} → (S → I → List A) → (S → I → S) → S → List I → List A
replies_by answers makes s [] = []
replies_by answers makes s (item ∷ items) = answers s item ++ replies_by answers makes (makes s item) items

-- ---- the viewer's

-- the messages that end the handshake: its format, and its encodings
abbrev pub ready_messages : Viewing → List FromClient
ready_messages viewing =
    Second (SetPixelFormat viewing.form)
    ∷ Second (SetEncodings (map (λ encoding. number_of encoding) viewing.encodings)) ∷ []

-- to a step of the handshake
abbrev pub answers_to_step : Viewing → ServerPoint → ServerItem → List FromClient
answers_to_step viewing AwaitsVersion (ProtocolVersion version) =
    First (ClientVersion (lower viewing.hello.limit version)) ∷ []
answers_to_step viewing (AwaitsSecurity version) SecurityNone =
    First (ClientInit viewing.hello.shared) ∷ []
answers_to_step viewing (AwaitsSecurity version) (SecurityTypes types) =
    map (λ step. First step) (choice_asked version viewing.hello.shared)
answers_to_step viewing (AwaitsResult version) SecurityResult =
    First (ClientInit viewing.hello.shared) ∷ []
answers_to_step viewing (AwaitsInit version) (ServerInit width height zero) = ready_messages viewing
answers_to_step viewing (AwaitsInit version) (ServerInit width height (suc n)) = []
answers_to_step viewing (AwaitsName version width height name_length) (Name text) =
    ready_messages viewing
answers_to_step viewing point step = []

-- to an item where the server's bytes are at a point
abbrev pub viewer_answers : Viewing → ServerAt → FromServer → List FromClient
viewer_answers viewing at item = answers_of_first (λ point step. answers_to_step viewing point step) at item

-- to items one after another
abbrev pub viewer_replies : Viewing → ViewerState → List FromServer → List FromClient
viewer_replies viewing s items = replies_by (λ t item. viewer_answers viewing t.point item) (shows viewing) s items

-- ---- the server's

-- to a step of the handshake
abbrev pub answers_to_client : Serving → ClientPoint → ClientItem → List FromServer
answers_to_client serving AwaitsClientVersion (ClientVersion version) =
    map (λ step. First step) (types_asked version)
answers_to_client serving (AwaitsChoice version) SecurityType =
    map (λ step. First step) (result_asked version)
answers_to_client serving (AwaitsClientInit version) (ClientInit shared) =
    map (λ step. First step) (init_asked serving.hello)
answers_to_client serving point step = []

-- to an item where the client's bytes are at a point
abbrev pub server_answers : Serving → ClientAt → FromClient → List FromServer
server_answers serving at item = answers_of_first (λ point step. answers_to_client serving point step) at item

-- to items one after another
abbrev pub server_replies : Serving → ServerState → List FromClient → List FromServer
server_replies serving s items = replies_by (λ t item. server_answers serving t.point item) (serves serving) s items
