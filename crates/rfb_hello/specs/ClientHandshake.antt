-- The handshake as a client's bytes have it, RFC 6143 sections 7.1 and 7.3.1 and Appendix A: its
-- version, from version 3.7 on its choice of a security type, and ClientInit.
use Rattle.std.specs.Prelude.{◌≡◌, ◌≢◌, ℕ, ◌≤◌, ◌<◌, ◌==◌, Bool, true, false, List, [], ◌∷◌, length, Option, Some, None}
use Rattle.std.specs.Prelude.{nat_le, if◌then◌else◌}
use Rattle.rfb_wire.specs.Fields.{u8_at, flag_at}
use Rattle.rfb_wire.specs.stream.Prefix.{Reading, Says}
use Rattle.rfb_wire.specs.stream.Parts.{valued, checked, waiting}
use Rattle.rfb_wire.specs.stream.Grammar.{Grammar}
use Rattle.rfb_hello.specs.declared.version.Version.{Version}
use Rattle.rfb_hello.specs.declared.version.Version.TheVariants.{V33, V37, V38}
use Rattle.rfb_hello.specs.declared.fault.HelloFault.{HelloFault}
use Rattle.rfb_hello.specs.declared.fault.HelloFault.TheVariants.{BadVersion, VersionTooHigh, BadSecurityChoice}
use Rattle.rfb_hello.specs.Version.{IsVersionText, SpellsVersion, is_version_text, version_of, minor_of}

-- where a client's bytes are in the handshake, and after it
pub data ClientPoint : Type 0 where
  AwaitsVersion : ClientPoint
  AwaitsChoice : (version : Version) → ClientPoint
  AwaitsInit : (version : Version) → ClientPoint
  Begun : (version : Version) → (shared : Bool) → ClientPoint

-- the handshake goes on at this point
abbrev pub goes_on : ClientPoint → Bool
goes_on AwaitsVersion = true
goes_on (AwaitsChoice version) = true
goes_on (AwaitsInit version) = true
goes_on (Begun version shared) = false

-- what a client sends: a version, its choice of type None, the shared-flag
pub data ClientItem : Type 0 where
  ProtocolVersion : (version : Version) → ClientItem
  SecurityType : ClientItem
  ClientInit : (shared : Bool) → ClientItem

-- the bytes are this step at this point, where the server has offered a version
abbrev pub SpellsClientItem : Version → ClientPoint → ClientItem → List ℕ → Type 0
SpellsClientItem offer AwaitsVersion (ProtocolVersion version) bytes =
    SpellsVersion version bytes × (minor_of version ≤ minor_of offer)
SpellsClientItem offer (AwaitsChoice version) SecurityType bytes = bytes ≡ 1 ∷ []
SpellsClientItem offer (AwaitsInit version) (ClientInit shared) bytes =
    (length bytes ≡ 1) × (flag_at 0 bytes ≡ shared)
SpellsClientItem offer point step bytes = ⊥

-- the bytes end in this fault at this point: twelve that are no version, a version above the one
-- that was offered, and a choice of another type
abbrev pub FaultsClientItem : Version → ClientPoint → HelloFault → List ℕ → Type 0
FaultsClientItem offer AwaitsVersion BadVersion bytes =
    (length bytes ≡ 12) × (IsVersionText bytes → ⊥)
FaultsClientItem offer AwaitsVersion VersionTooHigh bytes =
    (version : Version) × SpellsVersion version bytes × (minor_of offer < minor_of version)
FaultsClientItem offer (AwaitsChoice version) BadSecurityChoice bytes =
    (choice : ℕ) × (bytes ≡ choice ∷ []) × (choice ≢ 1)
FaultsClientItem offer point fault bytes = ⊥

abbrev pub client_item_says : Version → ClientPoint → Says ClientItem HelloFault
client_item_says offer point =
    record { item = SpellsClientItem offer point; fault = FaultsClientItem offer point }

-- the point after a version: 3.3 leaves no choice
abbrev pub after_version : Version → ClientPoint
after_version V33 = AwaitsInit V33
after_version V37 = AwaitsChoice V37
after_version V38 = AwaitsChoice V38

-- the point after a step
abbrev pub past_client_item : ClientPoint → ClientItem → ClientPoint
past_client_item AwaitsVersion (ProtocolVersion version) = after_version version
past_client_item (AwaitsChoice version) SecurityType = AwaitsInit version
past_client_item (AwaitsInit version) (ClientInit shared) = Begun version shared
past_client_item point step = point

-- how many bytes a step has
abbrev pub client_item_size : ClientItem → ℕ
client_item_size (ProtocolVersion version) = 12
client_item_size SecurityType = 1
client_item_size (ClientInit shared) = 1

-- the fault of twelve bytes, if they have one
abbrev pub client_version_fault : Version → List ℕ → Option HelloFault
client_version_fault offer bytes =
    if is_version_text bytes
    then (if nat_le (minor_of (version_of bytes)) (minor_of offer) then None
    else Some VersionTooHigh)
    else Some BadVersion

-- the fault of a choice, if it has one
abbrev pub choice_fault : List ℕ → Option HelloFault
choice_fault bytes = if u8_at 0 bytes == 1 then None else Some BadSecurityChoice

-- what is read at a point; after ClientInit nothing is
abbrev pub client_item : Version → ClientPoint → Reading ClientItem HelloFault
client_item offer AwaitsVersion =
    checked 12 (client_version_fault offer) (λ bytes. ProtocolVersion (version_of bytes))
client_item offer (AwaitsChoice version) = checked 1 choice_fault (λ bytes. SecurityType)
client_item offer (AwaitsInit version) = valued 1 (λ bytes. ClientInit (flag_at 0 bytes))
client_item offer (Begun version shared) = waiting

-- the handshake of a client's bytes, where the server has offered a version
abbrev pub client_handshake : Version → Grammar ClientPoint ClientItem HelloFault
client_handshake offer =
    record { next = client_item offer; past = past_client_item; size = client_item_size }
