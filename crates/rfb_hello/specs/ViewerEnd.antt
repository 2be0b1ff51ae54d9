-- The viewer's end of the handshake: its answers to what a server sends, and its events, RFC 6143
-- sections 7.1 to 7.3 and Appendix A.
use Rattle.std.specs.Prelude.{◌≡◌, ◌≢◌, ◌<◌, ℕ, zero, suc, List, [], ◌∷◌, ◌++◌, Option, Some, None, Bool, true, false}
use Rattle.rfb_wire.specs.stream.End.{Machine}
use Rattle.rfb_hello.specs.declared.version.Version.{Version}
use Rattle.rfb_hello.specs.declared.version.Version.TheVariants.{V33, V37, V38}
use Rattle.rfb_hello.specs.declared.fault.HelloFault.{HelloFault}
use Rattle.rfb_hello.specs.declared.step.ViewerStep.{ViewerStep}
use Rattle.rfb_hello.specs.declared.step.ViewerStep.TheVariants.{Reply, Screen, Ready}
use Rattle.rfb_hello.specs.declared.viewer_hello.progress.Cause.{Cause}
use Rattle.rfb_hello.specs.declared.viewer_hello.progress.Cause.TheVariants.{Refused, SecurityFailed}
use Rattle.rfb_hello.specs.Version.{lower, version_text}
use Rattle.rfb_hello.specs.KeptText.{kept_of}
use Rattle.rfb_hello.specs.ServerHandshake.{ServerPoint, AwaitsVersion, AwaitsSecurity, AwaitsResult, AwaitsInit}
use Rattle.rfb_hello.specs.ServerHandshake.{AwaitsName, ServerItem, ProtocolVersion, SecurityNone, SecurityTypes}
use Rattle.rfb_hello.specs.ServerHandshake.{SecurityResult, ServerInit, Name, IsWord, SpellsServerInit, IsAdmitted}
use Rattle.rfb_hello.specs.ServerHandshake.{past_server_item}
use Rattle.rfb_hello.specs.ServerItems.{server_handshake}
use Rattle.rfb_hello.specs.ServerEnd.{as_reply}

-- the version that a viewer goes up to, whether it shares the screen with others, how many places
-- it admits, and how many bytes of a text it keeps
pub record ViewerSetup : Type 0 where
  pub limit : Version
  pub shared : Bool
  pub max_places : ℕ
  pub text_limit : ℕ

-- ClientInit: the shared-flag, section 7.3.1
abbrev pub shared_flag : Bool → ℕ
shared_flag true = 1
shared_flag false = 0

-- the answer to security types: None, and from 3.8 on a SecurityResult is waited for; before it
-- ClientInit follows at once
abbrev pub choice_bytes : Version → Bool → List ℕ
choice_bytes V33 shared = 1 ∷ shared_flag shared ∷ []
choice_bytes V37 shared = 1 ∷ shared_flag shared ∷ []
choice_bytes V38 shared = 1 ∷ []

-- ServerInit: the screen, or where there is no name to be waited for, all
abbrev pub told_of_init : ℕ → Version → ℕ → ℕ → ℕ → ViewerStep
told_of_init text_limit version width height zero =
    Ready width height version (kept_of text_limit zero []) zero
told_of_init text_limit version width height (suc n) = Screen width height

-- the viewer's event of what a server sent
abbrev pub viewer_tells : ViewerSetup → ServerPoint → ServerItem → Option ViewerStep
viewer_tells setup AwaitsVersion (ProtocolVersion version) =
    Some (Reply (as_reply (version_text (lower setup.limit version))))
viewer_tells setup (AwaitsSecurity version) SecurityNone =
    Some (Reply (as_reply (shared_flag setup.shared ∷ [])))
viewer_tells setup (AwaitsSecurity version) (SecurityTypes types) =
    Some (Reply (as_reply (choice_bytes version setup.shared)))
viewer_tells setup (AwaitsResult version) SecurityResult =
    Some (Reply (as_reply (shared_flag setup.shared ∷ [])))
viewer_tells setup (AwaitsInit version) (ServerInit width height name_length) =
    Some (told_of_init setup.text_limit version width height name_length)
viewer_tells setup (AwaitsName version width height name_length) (Name text) =
    Some (Ready width height version (kept_of setup.text_limit name_length text) name_length)
viewer_tells setup point item = None

-- the viewer's end: its state is where the server's bytes are
abbrev pub viewer_end : ViewerSetup →
    Machine ServerPoint ServerPoint ServerItem HelloFault ViewerStep
viewer_end setup =
    record {
      grammar = server_handshake setup.limit setup.max_places;
      point = λ point. point;
      act = past_server_item setup.limit;
      tells = viewer_tells setup;
    }

-- these bytes come before a reason at that point: a word or a count of no types, or a
-- SecurityResult that is not success
abbrev pub OpensReason : Cause → ServerPoint → List ℕ → Type 0
OpensReason Refused (AwaitsSecurity V33) bytes = IsWord 0 bytes
OpensReason Refused (AwaitsSecurity V37) bytes = bytes ≡ 0 ∷ []
OpensReason Refused (AwaitsSecurity V38) bytes = bytes ≡ 0 ∷ []
OpensReason SecurityFailed (AwaitsResult version) bytes =
    (word : ℕ) × (word ≢ 0) × IsWord word bytes
OpensReason cause point bytes = ⊥

-- memory is asked for once the length of a text is known that has bytes: so it is at the last byte
-- of a reason's length
abbrev pub AsksForReason : ServerPoint → List ℕ → Type 0
AsksForReason point bytes =
    (cause : Cause) × (intro word : List ℕ) × (n : ℕ) × (bytes ≡ intro ++ word)
    × OpensReason cause point intro × IsWord n word × (0 < n)

-- so it is at a good ServerInit before a name that has bytes: a screen that is refused asks for
-- none
abbrev pub AsksForName : ℕ → List ℕ → Type 0
AsksForName max_places bytes =
    (width height name_length : ℕ) × SpellsServerInit width height name_length bytes
    × IsAdmitted max_places width height × (0 < name_length)

abbrev pub AsksMemory : ViewerSetup → ServerPoint → List ℕ → Type 0
AsksMemory setup (AwaitsInit version) bytes = AsksForName setup.max_places bytes
AsksMemory setup point bytes = AsksForReason point bytes
