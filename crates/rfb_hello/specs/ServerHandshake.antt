-- The handshake as a server's bytes have it, RFC 6143 sections 7.1 and 7.3.2 and Appendix A: its
-- version, the security types, from version 3.8 on the SecurityResult, and ServerInit with the
-- name.
use Rattle.std.specs.Prelude.{◌≡◌, ◌≢◌, ℕ, zero, suc, ◌+◌, ◌*◌, ◌≤◌, ◌<◌, ◌==◌, ◌||◌, Bool, true, false, List, [], ◌∷◌}
use Rattle.std.specs.Prelude.{◌++◌, length}
use Rattle.rfb_wire.specs.Fields.{u16_at, u32_at}
use Rattle.rfb_wire.specs.stream.Prefix.{Says}
use Rattle.rfb_hello.specs.declared.version.Version.{Version}
use Rattle.rfb_hello.specs.declared.version.Version.TheVariants.{V33, V37, V38}
use Rattle.rfb_hello.specs.declared.fault.HelloFault.{HelloFault}
use Rattle.rfb_hello.specs.declared.fault.HelloFault.TheVariants.{BadVersion, NoneNotOffered, Refused, BadSecurityWord}
use Rattle.rfb_hello.specs.declared.fault.HelloFault.TheVariants.{SecurityFailed, ScreenEmpty, ScreenTooLarge}
use Rattle.rfb_hello.specs.Version.{IsVersionText, SpellsVersion, lower}

-- where a server's bytes are in the handshake, with the version that both ends use and the screen's
-- size once they are known, and after it
pub data ServerPoint : Type 0 where
  AwaitsVersion : ServerPoint
  AwaitsSecurity : (version : Version) → ServerPoint
  AwaitsResult : (version : Version) → ServerPoint
  AwaitsInit : (version : Version) → ServerPoint
  AwaitsName : (version : Version) → (width : ℕ) → (height : ℕ) → (name_length : ℕ) → ServerPoint
  Begun : (version : Version) → (width : ℕ) → (height : ℕ) → ServerPoint

-- the handshake goes on at this point
abbrev pub goes_on : ServerPoint → Bool
goes_on AwaitsVersion = true
goes_on (AwaitsSecurity version) = true
goes_on (AwaitsResult version) = true
goes_on (AwaitsInit version) = true
goes_on (AwaitsName version width height name_length) = true
goes_on (Begun version width height) = false

-- what a server sends: a version; type None alone, as 3.3 has it; types, None among them; success;
-- ServerInit up to the name; the name
pub data ServerItem : Type 0 where
  ProtocolVersion : (version : Version) → ServerItem
  SecurityNone : ServerItem
  SecurityTypes : (types : List ℕ) → ServerItem
  SecurityResult : ServerItem
  ServerInit : (width : ℕ) → (height : ℕ) → (name_length : ℕ) → ServerItem
  Name : (text : List ℕ) → ServerItem

-- the type None is among these
abbrev pub has_none : List ℕ → Bool
has_none [] = false
has_none (type ∷ types) = type == 1 || has_none types

-- a count, and as many security types, section 7.1.2
pub record IsTypes (types bytes : List ℕ) : Type 0 where
  pub some : 0 < length types
  pub whole : bytes ≡ length types ∷ types

-- four bytes that are this word
abbrev pub IsWord : ℕ → List ℕ → Type 0
IsWord word bytes = (length bytes ≡ 4) × (u32_at 0 bytes ≡ word)

-- a reason of that length: its length, and then its text
pub record IsReason (reason_length : ℕ) (bytes : List ℕ) : Type 0 where
  pub head : List ℕ
  pub text : List ℕ
  pub whole : bytes ≡ head ++ text
  pub head_is : IsWord reason_length head
  pub text_is : length text ≡ reason_length

-- a word, and after it a reason
pub record IsWordWithReason (word reason_length : ℕ) (bytes : List ℕ) : Type 0 where
  pub head : List ℕ
  pub reason : List ℕ
  pub whole : bytes ≡ head ++ reason
  pub head_is : IsWord word head
  pub reason_is : IsReason reason_length reason

-- ServerInit up to the name, section 7.3.2: U16 width, U16 height, sixteen bytes of a format, which
-- are not judged, and the U32 length of the name
pub record SpellsServerInit (width height name_length : ℕ) (bytes : List ℕ) : Type 0 where
  pub size : length bytes ≡ 24
  pub width_is : u16_at 0 bytes ≡ width
  pub height_is : u16_at 2 bytes ≡ height
  pub name_length_is : u32_at 20 bytes ≡ name_length

-- a screen with a place, and with no more of them than are admitted
abbrev pub IsAdmitted : ℕ → ℕ → ℕ → Type 0
IsAdmitted max_places width height = (0 < width) × (0 < height) × (width * height ≤ max_places)

-- the bytes are this step at this point
abbrev pub SpellsServerItem : ℕ → ServerPoint → ServerItem → List ℕ → Type 0
SpellsServerItem max_places AwaitsVersion (ProtocolVersion version) bytes =
    SpellsVersion version bytes
SpellsServerItem max_places (AwaitsSecurity V33) SecurityNone bytes = IsWord 1 bytes
SpellsServerItem max_places (AwaitsSecurity V37) (SecurityTypes types) bytes =
    IsTypes types bytes × (has_none types ≡ true)
SpellsServerItem max_places (AwaitsSecurity V38) (SecurityTypes types) bytes =
    IsTypes types bytes × (has_none types ≡ true)
SpellsServerItem max_places (AwaitsResult version) SecurityResult bytes = IsWord 0 bytes
SpellsServerItem max_places (AwaitsInit version) (ServerInit width height name_length) bytes =
    SpellsServerInit width height name_length bytes × IsAdmitted max_places width height
SpellsServerItem max_places (AwaitsName version width height name_length) (Name text) bytes =
    (bytes ≡ text) × (length text ≡ name_length) × (0 < name_length)
SpellsServerItem max_places point step bytes = ⊥

-- types without None, reported at the last of them
abbrev pub IsWithoutNone : List ℕ → Type 0
IsWithoutNone bytes = (types : List ℕ) × IsTypes types bytes × (has_none types ≡ false)

-- a count of no types, and after it a reason
abbrev pub IsRefusal : ℕ → List ℕ → Type 0
IsRefusal reason_length bytes =
    (reason : List ℕ) × (bytes ≡ 0 ∷ reason) × IsReason reason_length reason

-- the bytes end in this fault at this point: a refusal at the last byte of its reason, a screen at
-- the last byte before the name
abbrev pub FaultsServerItem : ℕ → ServerPoint → HelloFault → List ℕ → Type 0
FaultsServerItem max_places AwaitsVersion BadVersion bytes =
    (length bytes ≡ 12) × (IsVersionText bytes → ⊥)
FaultsServerItem max_places (AwaitsSecurity V33) (Refused reason_length) bytes =
    IsWordWithReason 0 reason_length bytes
FaultsServerItem max_places (AwaitsSecurity V33) NoneNotOffered bytes = IsWord 2 bytes
FaultsServerItem max_places (AwaitsSecurity V33) BadSecurityWord bytes =
    (word : ℕ) × IsWord word bytes × (2 < word)
FaultsServerItem max_places (AwaitsSecurity V37) (Refused reason_length) bytes =
    IsRefusal reason_length bytes
FaultsServerItem max_places (AwaitsSecurity V37) NoneNotOffered bytes = IsWithoutNone bytes
FaultsServerItem max_places (AwaitsSecurity V38) (Refused reason_length) bytes =
    IsRefusal reason_length bytes
FaultsServerItem max_places (AwaitsSecurity V38) NoneNotOffered bytes = IsWithoutNone bytes
FaultsServerItem max_places (AwaitsResult version) (SecurityFailed reason_length) bytes =
    (word : ℕ) × (word ≢ 0) × IsWordWithReason word reason_length bytes
FaultsServerItem max_places (AwaitsInit version) ScreenEmpty bytes =
    (width height name_length : ℕ) × SpellsServerInit width height name_length bytes
    × (width * height ≡ 0)
FaultsServerItem max_places (AwaitsInit version) ScreenTooLarge bytes =
    (width height name_length : ℕ) × SpellsServerInit width height name_length bytes
    × (0 < width * height) × (max_places < width * height)
FaultsServerItem max_places point fault bytes = ⊥

abbrev pub server_item_says : ℕ → ServerPoint → Says ServerItem HelloFault
server_item_says max_places point =
    record { item = SpellsServerItem max_places point; fault = FaultsServerItem max_places point }

-- the point after the security types
abbrev pub after_types : Version → ServerPoint
after_types V33 = AwaitsInit V33
after_types V37 = AwaitsInit V37
after_types V38 = AwaitsResult V38

-- the point after ServerInit: a name without bytes is not waited for
abbrev pub after_init : Version → ℕ → ℕ → ℕ → ServerPoint
after_init version width height zero = Begun version width height
after_init version width height (suc n) = AwaitsName version width height (suc n)

-- the point after a step, where the viewer goes up to a version
abbrev pub past_server_item : Version → ServerPoint → ServerItem → ServerPoint
past_server_item limit AwaitsVersion (ProtocolVersion version) =
    AwaitsSecurity (lower limit version)
past_server_item limit (AwaitsSecurity version) SecurityNone = after_types version
past_server_item limit (AwaitsSecurity version) (SecurityTypes types) = after_types version
past_server_item limit (AwaitsResult version) SecurityResult = AwaitsInit version
past_server_item limit (AwaitsInit version) (ServerInit width height name_length) =
    after_init version width height name_length
past_server_item limit (AwaitsName version width height name_length) (Name text) =
    Begun version width height
past_server_item limit point step = point

-- how many bytes a step has
abbrev pub server_item_size : ServerItem → ℕ
server_item_size (ProtocolVersion version) = 12
server_item_size SecurityNone = 4
server_item_size (SecurityTypes types) = 1 + length types
server_item_size SecurityResult = 4
server_item_size (ServerInit width height name_length) = 24
server_item_size (Name text) = length text
