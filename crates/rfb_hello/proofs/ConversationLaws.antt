-- Two ends speak the whole handshake.
use Rattle.std.proofs.Common.{◌≡◌, ℕ, Bool, true, false, List, [], ◌∷◌, ◌++◌, length, refl, ap, append-nil}
use Rattle.rfb_wire.specs.stream.Grammar.{ReadsAll}
use Rattle.rfb_wire.specs.stream.End.{acts, told}
use Rattle.rfb_hello.specs.declared.version.Version.{Version}
use Rattle.rfb_hello.specs.declared.version.Version.TheVariants.{V33, V37, V38}
use Rattle.rfb_hello.specs.Version.{version_text}
use Rattle.rfb_hello.specs.ClientHandshake.{AwaitsVersion as AwaitsClientVersion, AwaitsChoice}
use Rattle.rfb_hello.specs.ClientHandshake.{AwaitsInit as AwaitsClientInit, Begun as ClientBegun, SecurityType}
use Rattle.rfb_hello.specs.ClientHandshake.{ClientInit, after_version, client_handshake}
use Rattle.rfb_hello.specs.ServerHandshake.{AwaitsVersion, AwaitsSecurity, AwaitsInit, Begun, after_init}
use Rattle.rfb_hello.specs.ServerEnd.{ServerSetup, server_init_bytes, security_bytes}
use Rattle.rfb_hello.specs.ServerAnswers.{IsSetup, name_asked}
use Rattle.rfb_hello.specs.ViewerEnd.{ViewerSetup, viewer_end, told_of_init, shared_flag}
use Rattle.rfb_hello.specs.Conversation.{conversation, turns_after_versions, version_used, server_init_turn}
use Rattle.rfb_hello.specs.Conversation.{viewer_replies, ByServer, ByViewer, Converse}
use Rattle.rfb_hello.proofs.AnswerLaws.{greeting_read, init_read}
use Rattle.rfb_hello.proofs.ViewerAnswerLaws.{greeting_answered}

-- after ServerInit and the name
begun : (viewer : ViewerSetup) (v : Version) (w h : ℕ) (name : List ℕ) →
    acts (viewer_end viewer) (after_init v w h (length name)) (name_asked name) ≡ Begun v w h
begun viewer v w h [] = refl
begun viewer v w h (byte ∷ name) = refl

-- which are answered by nothing
quiet : (viewer : ViewerSetup) (v : Version) (w h : ℕ) (name : List ℕ) → viewer_replies (told_of_init viewer.text_limit
    v w h (length name) ∷ told (viewer_end viewer) (after_init v w h (length name)) (name_asked name)) ≡ []
quiet viewer v w h [] = refl
quiet viewer v w h (byte ∷ name) = refl

-- the last turn
last : (server : ServerSetup) (viewer : ViewerSetup) (v : Version) → IsSetup viewer.max_places server →
    Converse server viewer (ClientBegun v viewer.shared) (AwaitsInit v) (ByServer (server_init_bytes server ++ []))
    (server_init_turn server ∷ []) (ClientBegun v viewer.shared) (Begun v server.width server.height)
last server viewer v is = (
  ap (λ (bytes : List ℕ). ByServer bytes) (append-nil (server_init_bytes server)),
  init_read server viewer.limit viewer.max_places v viewer.shared is,
  (
    ap (λ (bytes : List ℕ). ByViewer bytes) (quiet viewer v server.width server.height server.name),
    refl,
    begun viewer v server.width server.height server.name,
  ),
)

-- ClientInit, alone and after a choice
init_heard : (offer v : Version) (shared : Bool) →
    ReadsAll (client_handshake offer) (AwaitsClientInit v) (shared_flag shared ∷ []) (ClientInit shared ∷ []) []
init_heard offer v true = ([], refl, refl)
init_heard offer v false = ([], refl, refl)

choice_heard : (offer v : Version) (shared : Bool) → ReadsAll (client_handshake offer) (AwaitsChoice v)
    (1 ∷ shared_flag shared ∷ []) (SecurityType ∷ ClientInit shared ∷ []) []
choice_heard offer v true = (1 ∷ [], refl, ([], refl, refl))
choice_heard offer v false = (0 ∷ [], refl, ([], refl, refl))

-- what comes after the versions
after : (v : Version) (server : ServerSetup) (viewer : ViewerSetup) → IsSetup viewer.max_places server →
    Converse server viewer (after_version v) (AwaitsSecurity v) (ByServer (security_bytes v ++ []))
    (turns_after_versions v viewer.shared server) (ClientBegun v viewer.shared) (Begun v server.width server.height)
after V33 server viewer is =
    (refl, ([], refl, refl), (refl, init_heard server.offer V33 viewer.shared, last server viewer V33 is))
after V37 server viewer is =
    (refl, ([], refl, refl), (refl, choice_heard server.offer V37 viewer.shared, last server viewer V37 is))
after V38 server viewer is = (
  refl,
  ([], refl, refl),
  (
    refl,
    ([], refl, refl),
    (refl, ([], refl, refl), (refl, init_heard server.offer V38 viewer.shared, last server viewer V38 is)),
  ),
)

pub two_ends_speak : (server : ServerSetup) (viewer : ViewerSetup) → IsSetup viewer.max_places server →
    Converse server viewer AwaitsClientVersion AwaitsVersion (ByServer (version_text server.offer))
    (conversation server viewer) (ClientBegun (version_used server viewer) viewer.shared)
    (Begun (version_used server viewer) server.width server.height)
two_ends_speak server viewer is = (
  refl,
  greeting_read server.offer viewer.limit viewer.max_places,
  (
    ap (λ (bytes : List ℕ). ByViewer bytes) (append-nil (version_text (version_used server viewer))),
    greeting_answered viewer server.offer,
    after (version_used server viewer) server viewer is,
  ),
)
