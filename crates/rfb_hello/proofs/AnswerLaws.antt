-- A server's answers are read as the items that the handshake asks next.
use Rattle.std.proofs.Common.{◌≡◌, ℕ, Bool, List, [], ◌∷◌, ◌++◌, length, refl, subst, append-nil, arith}
use Rattle.byteorder.specs.Endian.{big_bytes}
use Rattle.byteorder.specs.Numbers.{big_number-reads_back}
use Rattle.rfb_pixel.specs.Format.{rgb888}
use Rattle.rfb_pixel.specs.FormatBytes.{format_bytes}
use Rattle.rfb_wire.specs.stream.Prefix.{Got}
use Rattle.rfb_wire.specs.stream.Grammar.{ReadsAll}
use Rattle.rfb_hello.specs.declared.version.Version.{Version}
use Rattle.rfb_hello.specs.declared.version.Version.TheVariants.{V33, V37, V38}
use Rattle.rfb_hello.specs.Version.{version_text}
use Rattle.rfb_hello.specs.ClientHandshake.{AwaitsVersion as AwaitsClientVersion, AwaitsChoice}
use Rattle.rfb_hello.specs.ClientHandshake.{AwaitsInit as AwaitsClientInit, ProtocolVersion as ClientVersion}
use Rattle.rfb_hello.specs.ClientHandshake.{SecurityType, ClientInit}
use Rattle.rfb_hello.specs.ServerHandshake.{AwaitsVersion, AwaitsSecurity, AwaitsResult, AwaitsInit, AwaitsName}
use Rattle.rfb_hello.specs.ServerHandshake.{ProtocolVersion, ServerInit, Name, SpellsServerInit, after_init}
use Rattle.rfb_hello.specs.ServerItems.{server_item, server_handshake}
use Rattle.rfb_hello.specs.ServerEnd.{ServerSetup, server_tells, answer_bytes}
use Rattle.rfb_hello.specs.ServerAnswers.{types_asked, result_asked, name_asked, init_asked, IsSetup}
use Rattle.rfb_hello.proofs.ServerStreamLaws.{server_item_reads}

-- the greeting
pub greeting_read : (offer limit : Version) (max : ℕ) →
    ReadsAll (server_handshake limit max) AwaitsVersion (version_text offer) (ProtocolVersion offer ∷ []) []
greeting_read V33 limit max = ([], refl, refl)
greeting_read V37 limit max = ([], refl, refl)
greeting_read V38 limit max = ([], refl, refl)

-- the security types
pub types_read : (setup : ServerSetup) (limit : Version) (max : ℕ) (v : Version) → ReadsAll (server_handshake limit max)
    (AwaitsSecurity v) (answer_bytes (server_tells setup AwaitsClientVersion (ClientVersion v))) (types_asked v) []
types_read setup limit max V33 = ([], refl, refl)
types_read setup limit max V37 = ([], refl, refl)
types_read setup limit max V38 = ([], refl, refl)

-- the SecurityResult
pub result_read : (setup : ServerSetup) (limit : Version) (max : ℕ) (v : Version) → ReadsAll (server_handshake limit
    max) (AwaitsResult v) (answer_bytes (server_tells setup (AwaitsChoice v) SecurityType)) (result_asked v) []
result_read setup limit max V33 = refl
result_read setup limit max V37 = refl
result_read setup limit max V38 = ([], refl, refl)

-- ServerInit up to the name
abbrev init_head : ServerSetup → List ℕ
init_head setup =
    big_bytes 2 setup.width ++ big_bytes 2 setup.height ++ format_bytes rgb888 ++ big_bytes 4 (length setup.name)

init_spelled : (max : ℕ) (setup : ServerSetup) → IsSetup max setup →
    SpellsServerInit setup.width setup.height (length setup.name) (init_head setup)
init_spelled max setup is = record {
  size = refl;
  width_is = big_number-reads_back 2 setup.width [] is.width_fits;
  height_is = big_number-reads_back 2 setup.height [] is.height_fits;
  name_length_is = big_number-reads_back 4 (length setup.name) [] is.name_fits;
}

-- the name, at the point after ServerInit
name_read : (limit : Version) (max : ℕ) (v : Version) (w h : ℕ) (name : List ℕ) →
    ReadsAll (server_handshake limit max) (after_init v w h (length name)) name (name_asked name) []
name_read limit max v w h [] = refl
name_read limit max v w h (byte ∷ name) =
    let read : server_item max (AwaitsName v w h (length (byte ∷ name))) ((byte ∷ name) ++ [])
    ≡ Got (Name (byte ∷ name)) [] = (server_item_reads max (AwaitsName v w h (length (byte ∷ name)))).only
    (Name (byte ∷ name)) (byte ∷ name) [] (refl, refl, omega arith) in (
      [],
      subst (λ (ys : List ℕ). server_item max (AwaitsName v w h (length (byte ∷ name))) ys
          ≡ Got (Name (byte ∷ name)) []) (append-nil (byte ∷ name)) read,
      refl,
    )

-- ServerInit, and the name
pub init_read : (setup : ServerSetup) (limit : Version) (max : ℕ) (v : Version) (shared : Bool) →
    IsSetup max setup → ReadsAll (server_handshake limit max) (AwaitsInit v)
    (answer_bytes (server_tells setup (AwaitsClientInit v) (ClientInit shared))) (init_asked setup) []
init_read setup limit max v shared is = (
  setup.name,
  (server_item_reads max (AwaitsInit v)).only (ServerInit setup.width setup.height (length setup.name))
      (init_head setup) setup.name (init_spelled max setup is, is.admitted),
  name_read limit max v setup.width setup.height setup.name,
)
