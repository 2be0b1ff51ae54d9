-- A viewer's answers are read as the items that the handshake asks next.
use Rattle.std.proofs.Common.{◌≡◌, ℕ, List, [], ◌∷◌, Bool, true, false, refl}
use Rattle.rfb_wire.specs.stream.Grammar.{ReadsAll}
use Rattle.rfb_hello.specs.declared.version.Version.{Version}
use Rattle.rfb_hello.specs.declared.version.Version.TheVariants.{V33, V37, V38}
use Rattle.rfb_hello.specs.Version.{lower}
use Rattle.rfb_hello.specs.ClientHandshake.{AwaitsVersion, AwaitsChoice, AwaitsInit, ProtocolVersion, ClientInit}
use Rattle.rfb_hello.specs.ClientHandshake.{client_handshake}
use Rattle.rfb_hello.specs.ServerHandshake.{AwaitsVersion as AwaitsServerVersion, AwaitsSecurity, AwaitsResult}
use Rattle.rfb_hello.specs.ServerHandshake.{ProtocolVersion as ServerVersion, SecurityNone, SecurityTypes}
use Rattle.rfb_hello.specs.ServerHandshake.{SecurityResult}
use Rattle.rfb_hello.specs.ViewerEnd.{ViewerSetup, viewer_tells}
use Rattle.rfb_hello.specs.ViewerAnswers.{choice_asked, reply_bytes}

-- the answer to a server's version is one that the server has offered
version_read : (limit offer : Version) (setup : ViewerSetup) → setup.limit ≡ limit →
    ReadsAll (client_handshake offer) AwaitsVersion (reply_bytes
    (viewer_tells setup AwaitsServerVersion (ServerVersion offer))) (ProtocolVersion (lower setup.limit offer) ∷ []) []
version_read V33 V33 setup e = rw e ([], refl, refl)
version_read V33 V37 setup e = rw e ([], refl, refl)
version_read V33 V38 setup e = rw e ([], refl, refl)
version_read V37 V33 setup e = rw e ([], refl, refl)
version_read V37 V37 setup e = rw e ([], refl, refl)
version_read V37 V38 setup e = rw e ([], refl, refl)
version_read V38 V33 setup e = rw e ([], refl, refl)
version_read V38 V37 setup e = rw e ([], refl, refl)
version_read V38 V38 setup e = rw e ([], refl, refl)

pub greeting_answered : (setup : ViewerSetup) (offer : Version) →
    ReadsAll (client_handshake offer) AwaitsVersion (reply_bytes
    (viewer_tells setup AwaitsServerVersion (ServerVersion offer))) (ProtocolVersion (lower setup.limit offer) ∷ []) []
greeting_answered setup offer = version_read setup.limit offer setup refl

-- ClientInit, by its flag
init_read : (shared : Bool) (setup : ViewerSetup) (offer version : Version) →
    setup.shared ≡ shared → ReadsAll (client_handshake offer) (AwaitsInit version)
    (reply_bytes (viewer_tells setup (AwaitsResult version) SecurityResult)) (ClientInit setup.shared ∷ []) []
init_read true setup offer version e = rw e ([], refl, refl)
init_read false setup offer version e = rw e ([], refl, refl)

pub result_answered : (setup : ViewerSetup) (offer version : Version) → ReadsAll (client_handshake offer) (AwaitsInit
    version) (reply_bytes (viewer_tells setup (AwaitsResult version) SecurityResult)) (ClientInit setup.shared ∷ []) []
result_answered setup offer version = init_read setup.shared setup offer version refl

pub none_answered : (setup : ViewerSetup) (offer version : Version) → ReadsAll (client_handshake offer) (AwaitsInit
    version) (reply_bytes (viewer_tells setup (AwaitsSecurity version) SecurityNone)) (ClientInit setup.shared ∷ []) []
none_answered setup offer version = init_read setup.shared setup offer version refl

-- the choice of a list
types_read : (shared : Bool) (version : Version) (setup : ViewerSetup) (offer : Version) (types : List ℕ) →
    setup.shared ≡ shared → ReadsAll (client_handshake offer) (AwaitsChoice version) (reply_bytes
    (viewer_tells setup (AwaitsSecurity version) (SecurityTypes types))) (choice_asked version setup.shared) []
types_read true V33 setup offer types e = rw e (1 ∷ [], refl, ([], refl, refl))
types_read true V37 setup offer types e = rw e (1 ∷ [], refl, ([], refl, refl))
types_read true V38 setup offer types e = ([], refl, refl)
types_read false V33 setup offer types e = rw e (0 ∷ [], refl, ([], refl, refl))
types_read false V37 setup offer types e = rw e (0 ∷ [], refl, ([], refl, refl))
types_read false V38 setup offer types e = ([], refl, refl)

pub types_answered : (setup : ViewerSetup) (offer version : Version) (types : List ℕ) →
    ReadsAll (client_handshake offer) (AwaitsChoice version) (reply_bytes
    (viewer_tells setup (AwaitsSecurity version) (SecurityTypes types))) (choice_asked version setup.shared) []
types_answered setup offer version types = types_read setup.shared version setup offer types refl
