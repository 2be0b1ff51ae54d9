-- How a server's bytes are read in the handshake, part by part.
use Rattle.std.specs.Prelude.{ℕ, zero, suc, ◌*◌, ◌==◌, List, Option, Some, None, nat_lt, if◌then◌else◌}
use Rattle.rfb_wire.specs.Fields.{u8_at, u16_at, u32_at}
use Rattle.rfb_wire.specs.stream.Prefix.{Reading}
use Rattle.rfb_wire.specs.stream.Parts.{piece, done, refused, and_then, valued, checked, waiting}
use Rattle.rfb_wire.specs.stream.Grammar.{Grammar}
use Rattle.rfb_hello.specs.declared.version.Version.{Version}
use Rattle.rfb_hello.specs.declared.version.Version.TheVariants.{V33, V37, V38}
use Rattle.rfb_hello.specs.declared.fault.HelloFault.{HelloFault}
use Rattle.rfb_hello.specs.declared.fault.HelloFault.TheVariants.{BadVersion, NoneNotOffered, Refused, BadSecurityWord}
use Rattle.rfb_hello.specs.declared.fault.HelloFault.TheVariants.{SecurityFailed, ScreenEmpty, ScreenTooLarge}
use Rattle.rfb_hello.specs.Version.{is_version_text, version_of}
use Rattle.rfb_hello.specs.ServerHandshake.{ServerPoint, AwaitsVersion, AwaitsSecurity, AwaitsResult, AwaitsInit}
use Rattle.rfb_hello.specs.ServerHandshake.{AwaitsName, Begun, ServerItem, ProtocolVersion, SecurityNone, SecurityTypes}
use Rattle.rfb_hello.specs.ServerHandshake.{SecurityResult, ServerInit, Name, has_none, past_server_item}
use Rattle.rfb_hello.specs.ServerHandshake.{server_item_size}

-- a reason, and at its last byte the fault that has its length
abbrev pub reason : (ℕ → HelloFault) → Reading ServerItem HelloFault
reason fault =
    and_then (valued 4 (λ bytes. u32_at 0 bytes)) (λ n. and_then (piece n) (λ _. refused (fault n)))

-- after the word that 3.3 has for a security type
abbrev pub after_word : ℕ → Reading ServerItem HelloFault
after_word zero = reason (λ n. Refused n)
after_word (suc zero) = done SecurityNone
after_word (suc (suc zero)) = refused NoneNotOffered
after_word (suc (suc (suc word))) = refused BadSecurityWord

-- the fault of a list of types, if it has one
abbrev pub types_fault : List ℕ → Option HelloFault
types_fault types = if has_none types then None else Some NoneNotOffered

-- after the count of the types
abbrev pub after_count : ℕ → Reading ServerItem HelloFault
after_count zero = reason (λ n. Refused n)
after_count (suc n) = checked (suc n) types_fault (λ types. SecurityTypes types)

-- after the word of SecurityResult
abbrev pub after_result : ℕ → Reading ServerItem HelloFault
after_result zero = done SecurityResult
after_result (suc word) = reason (λ n. SecurityFailed n)

-- the fault of a screen, where at most that many places are admitted, if it has one
abbrev pub screen_fault : ℕ → List ℕ → Option HelloFault
screen_fault max_places bytes =
    if u16_at 0 bytes * u16_at 2 bytes == 0 then Some ScreenEmpty else
    if nat_lt max_places (u16_at 0 bytes * u16_at 2 bytes) then Some ScreenTooLarge else None

-- a name of n bytes, of one at least
abbrev pub name : ℕ → Reading ServerItem HelloFault
name zero = waiting
name (suc n) = valued (suc n) (λ text. Name text)

-- the security types of a version
abbrev pub security : Version → Reading ServerItem HelloFault
security V33 = and_then (valued 4 (λ bytes. u32_at 0 bytes)) after_word
security V37 = and_then (valued 1 (λ bytes. u8_at 0 bytes)) after_count
security V38 = and_then (valued 1 (λ bytes. u8_at 0 bytes)) after_count

-- what is read at a point; after the name nothing is
abbrev pub server_item : ℕ → ServerPoint → Reading ServerItem HelloFault
server_item max_places AwaitsVersion =
    checked 12 (λ bytes. if is_version_text bytes then None else Some BadVersion)
    (λ bytes. ProtocolVersion (version_of bytes))
server_item max_places (AwaitsSecurity version) = security version
server_item max_places (AwaitsResult version) =
    and_then (valued 4 (λ bytes. u32_at 0 bytes)) after_result
server_item max_places (AwaitsInit version) =
    checked 24 (screen_fault max_places)
    (λ bytes. ServerInit (u16_at 0 bytes) (u16_at 2 bytes) (u32_at 20 bytes))
server_item max_places (AwaitsName version width height name_length) = name name_length
server_item max_places (Begun version width height) = waiting

-- the handshake of a server's bytes, where the viewer goes up to a version and admits that many
-- places
abbrev pub server_handshake : Version → ℕ → Grammar ServerPoint ServerItem HelloFault
server_handshake limit max_places =
    record { next = server_item max_places; past = past_server_item limit; size = server_item_size }
