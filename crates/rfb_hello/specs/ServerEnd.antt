-- The server's end of the handshake: what it answers to what a client sends, RFC 6143 sections 7.1
-- and 7.3 and Appendix A.
use Rattle.std.specs.Prelude.{ℕ, List, [], ◌∷◌, ◌++◌, length, Option, Some, None}
use Rattle.byteorder.specs.Endian.{big_bytes}
use Rattle.arrayvec.specs.ArrayVec.{ArrayVec}
use Rattle.rfb_pixel.specs.Format.{rgb888}
use Rattle.rfb_pixel.specs.FormatBytes.{format_bytes}
use Rattle.rfb_wire.specs.stream.End.{Machine}
use Rattle.rfb_hello.specs.declared.version.Version.{Version}
use Rattle.rfb_hello.specs.declared.version.Version.TheVariants.{V33, V37, V38}
use Rattle.rfb_hello.specs.declared.fault.HelloFault.{HelloFault}
use Rattle.rfb_hello.specs.declared.step.ServerStep.{ServerStep}
use Rattle.rfb_hello.specs.declared.step.ServerStep.TheVariants.{Reply, Ready}
use Rattle.rfb_hello.specs.ClientHandshake.{ClientPoint, AwaitsVersion, AwaitsChoice, AwaitsInit, ClientItem}
use Rattle.rfb_hello.specs.ClientHandshake.{ProtocolVersion, SecurityType, ClientInit, past_client_item}
use Rattle.rfb_hello.specs.ClientHandshake.{client_handshake}

-- the version that a server offers, and the screen and the name that it sends
pub record ServerSetup : Type 0 where
  pub offer : Version
  pub width : ℕ
  pub height : ℕ
  pub name : List ℕ

-- bytes as an answer holds them
abbrev pub as_reply : List ℕ → ArrayVec ℕ
as_reply bytes = record { items = bytes }

-- the security type None: a word under 3.3, and else a list of one
abbrev pub security_bytes : Version → List ℕ
security_bytes V33 = 0 ∷ 0 ∷ 0 ∷ 1 ∷ []
security_bytes V37 = 1 ∷ 1 ∷ []
security_bytes V38 = 1 ∷ 1 ∷ []

-- ServerInit, section 7.3.2, with the format rgb888
abbrev pub server_init_bytes : ServerSetup → List ℕ
server_init_bytes setup =
    big_bytes 2 setup.width ++ big_bytes 2 setup.height ++ format_bytes rgb888
    ++ big_bytes 4 (length setup.name) ++ setup.name

-- the answer to a choice of None: from 3.8 on a SecurityResult, success, and before it none
abbrev pub answer_to_choice : Version → Option ServerStep
answer_to_choice V33 = None
answer_to_choice V37 = None
answer_to_choice V38 = Some (Reply (as_reply (0 ∷ 0 ∷ 0 ∷ 0 ∷ [])))

-- the server's event of what a client sent
abbrev pub server_tells : ServerSetup → ClientPoint → ClientItem → Option ServerStep
server_tells setup AwaitsVersion (ProtocolVersion version) =
    Some (Reply (as_reply (security_bytes version)))
server_tells setup (AwaitsChoice version) SecurityType = answer_to_choice version
server_tells setup (AwaitsInit version) (ClientInit shared) =
    Some (Ready (as_reply (server_init_bytes setup)) version shared)
server_tells setup point item = None

-- the server's end: its state is where the client's bytes are
abbrev pub server_end : ServerSetup →
    Machine ClientPoint ClientPoint ClientItem HelloFault ServerStep
server_end setup =
    record {
      grammar = client_handshake setup.offer;
      point = λ point. point;
      act = past_client_item;
      tells = server_tells setup;
    }

-- the bytes of an answer
abbrev pub answer_bytes : Option ServerStep → List ℕ
answer_bytes None = []
answer_bytes (Some (Reply reply)) = reply.items
answer_bytes (Some (Ready reply version shared)) = reply.items
