-- Handshakes byte for byte as RFC 6143 lays them out, computed from the readings: a wrong byte here fails
-- the check.
use Rattle.std.proofs.Common.{◌≡◌, ℕ, List, [], ◌∷◌, ◌++◌, true, refl}
use Rattle.rfb_wire.specs.stream.Prefix.{More, Got, Bad}
use Rattle.rfb_wire.specs.stream.Grammar.{ReadsAll}
use Rattle.rfb_hello.specs.declared.version.Version.TheVariants.{V33, V37, V38}
use Rattle.rfb_hello.specs.declared.fault.HelloFault.TheVariants.{BadVersion, VersionTooHigh, BadSecurityChoice}
use Rattle.rfb_hello.specs.declared.fault.HelloFault.TheVariants.{NoneNotOffered, Refused, BadSecurityWord}
use Rattle.rfb_hello.specs.declared.fault.HelloFault.TheVariants.{SecurityFailed, ScreenEmpty, ScreenTooLarge}
use Rattle.rfb_hello.specs.ClientHandshake.{AwaitsVersion as AwaitsClientVersion, AwaitsChoice}
use Rattle.rfb_hello.specs.ClientHandshake.{ProtocolVersion as ClientVersion, SecurityType, ClientInit, client_item}
use Rattle.rfb_hello.specs.ClientHandshake.{client_handshake}
use Rattle.rfb_hello.specs.ServerHandshake.{AwaitsVersion, AwaitsSecurity, AwaitsResult, AwaitsInit, ProtocolVersion}
use Rattle.rfb_hello.specs.ServerHandshake.{SecurityNone, SecurityTypes, SecurityResult, ServerInit, Name}
use Rattle.rfb_hello.specs.ServerItems.{server_item, server_handshake}

-- "RFB 003.00" and a digit
abbrev text : ℕ → List ℕ
text digit = 82 ∷ 70 ∷ 66 ∷ 32 ∷ 48 ∷ 48 ∷ 51 ∷ 46 ∷ 48 ∷ 48 ∷ digit ∷ 10 ∷ []

-- ServerInit of a screen of 2 by 1 at rgb888, with the name "t"
abbrev init : List ℕ
init = 0 ∷ 2 ∷ 0 ∷ 1 ∷ 32 ∷ 24 ∷ 0 ∷ 1 ∷ 0 ∷ 255 ∷ 0 ∷ 255 ∷ 0 ∷ 255 ∷ 16 ∷ 8 ∷ 0 ∷ 0 ∷ 0 ∷ 0 ∷ 0 ∷ 0 ∷ 0 ∷ 1 ∷ 116 ∷ []

-- ---- a client

client_3_8 : ReadsAll (client_handshake V38) AwaitsClientVersion (text 56 ++ 1 ∷ 1 ∷ [])
    (ClientVersion V38 ∷ SecurityType ∷ ClientInit true ∷ []) []
client_3_8 = (1 ∷ 1 ∷ [], refl, (1 ∷ [], refl, ([], refl, refl)))

client_3_3 : ReadsAll (client_handshake V38) AwaitsClientVersion (text 51 ++ 1 ∷ [])
    (ClientVersion V33 ∷ ClientInit true ∷ []) []
client_3_3 = (1 ∷ [], refl, ([], refl, refl))

-- a version above the offer, one of another shape, and a choice of VNC Authentication
too_high : client_item V33 AwaitsClientVersion (text 56) ≡ Bad VersionTooHigh
too_high = refl

no_version : client_item V38 AwaitsClientVersion (82 ∷ 70 ∷ 66 ∷ 32 ∷ 51 ∷ 46 ∷ 56 ∷ 10 ∷ 0 ∷ 0 ∷ 0 ∷ 0 ∷ [])
    ≡ Bad BadVersion
no_version = refl

not_judged_yet : client_item V38 AwaitsClientVersion (82 ∷ 70 ∷ 66 ∷ 32 ∷ 51 ∷ 46 ∷ 56 ∷ 10 ∷ 0 ∷ 0 ∷ 0 ∷ []) ≡ More
not_judged_yet = refl

bad_choice : client_item V38 (AwaitsChoice V38) (2 ∷ []) ≡ Bad BadSecurityChoice
bad_choice = refl

-- ---- a server

server_3_8 : ReadsAll (server_handshake V38 16777216) AwaitsVersion (text 56 ++ 1 ∷ 1 ∷ 0 ∷ 0 ∷ 0 ∷ 0 ∷ init)
    (ProtocolVersion V38 ∷ SecurityTypes (1 ∷ []) ∷ SecurityResult ∷ ServerInit 2 1 1 ∷ Name (116 ∷ []) ∷ []) []
server_3_8 =
    (1 ∷ 1 ∷ 0 ∷ 0 ∷ 0 ∷ 0 ∷ init, refl, (0 ∷ 0 ∷ 0 ∷ 0 ∷ init, refl, (init, refl, (116 ∷ [], refl, ([], refl, refl)))))

-- under 3.7 no SecurityResult comes
server_3_7 : ReadsAll (server_handshake V37 16777216) AwaitsVersion (text 55 ++ 1 ∷ 1 ∷ init)
    (ProtocolVersion V37 ∷ SecurityTypes (1 ∷ []) ∷ ServerInit 2 1 1 ∷ Name (116 ∷ []) ∷ []) []
server_3_7 = (1 ∷ 1 ∷ init, refl, (init, refl, (116 ∷ [], refl, ([], refl, refl))))

server_3_3 : ReadsAll (server_handshake V38 16777216) AwaitsVersion (text 51 ++ 0 ∷ 0 ∷ 0 ∷ 1 ∷ init)
    (ProtocolVersion V33 ∷ SecurityNone ∷ ServerInit 2 1 1 ∷ Name (116 ∷ []) ∷ []) []
server_3_3 = (0 ∷ 0 ∷ 0 ∷ 1 ∷ init, refl, (init, refl, (116 ∷ [], refl, ([], refl, refl))))

-- 3.889 is taken as 3.3
unpublished : server_item 1 AwaitsVersion (82 ∷ 70 ∷ 66 ∷ 32 ∷ 48 ∷ 48 ∷ 51 ∷ 46 ∷ 56 ∷ 56 ∷ 57 ∷ 10 ∷ [])
    ≡ Got (ProtocolVersion V33) []
unpublished = refl

-- a refusal comes at the last byte of its reason
refused : server_item 1 (AwaitsSecurity V38) (0 ∷ 0 ∷ 0 ∷ 0 ∷ 2 ∷ 78 ∷ 111 ∷ []) ≡ Bad (Refused 2)
refused = refl

refused_not_yet : server_item 1 (AwaitsSecurity V38) (0 ∷ 0 ∷ 0 ∷ 0 ∷ 2 ∷ 78 ∷ []) ≡ More
refused_not_yet = refl

refused_3_3 : server_item 1 (AwaitsSecurity V33) (0 ∷ 0 ∷ 0 ∷ 0 ∷ 0 ∷ 0 ∷ 0 ∷ 0 ∷ []) ≡ Bad (Refused 0)
refused_3_3 = refl

failed : server_item 1 (AwaitsResult V38) (0 ∷ 0 ∷ 0 ∷ 1 ∷ 0 ∷ 0 ∷ 0 ∷ 0 ∷ []) ≡ Bad (SecurityFailed 0)
failed = refl

-- VNC Authentication alone, under 3.3 and in a list, and a type that there is not
none_not_offered : server_item 1 (AwaitsSecurity V33) (0 ∷ 0 ∷ 0 ∷ 2 ∷ []) ≡ Bad NoneNotOffered
none_not_offered = refl

none_not_listed : server_item 1 (AwaitsSecurity V38) (1 ∷ 2 ∷ []) ≡ Bad NoneNotOffered
none_not_listed = refl

none_listed_last : server_item 1 (AwaitsSecurity V38) (3 ∷ 16 ∷ 2 ∷ 1 ∷ []) ≡ Got (SecurityTypes (16 ∷ 2 ∷ 1 ∷ [])) []
none_listed_last = refl

bad_word : server_item 1 (AwaitsSecurity V33) (0 ∷ 0 ∷ 0 ∷ 3 ∷ []) ≡ Bad BadSecurityWord
bad_word = refl

-- the rest of ServerInit, after width and height
abbrev rest : List ℕ
rest = 32 ∷ 24 ∷ 0 ∷ 1 ∷ 0 ∷ 255 ∷ 0 ∷ 255 ∷ 0 ∷ 255 ∷ 16 ∷ 8 ∷ 0 ∷ 0 ∷ 0 ∷ 0 ∷ 0 ∷ 0 ∷ 0 ∷ 0 ∷ []

empty : server_item 16777216 (AwaitsInit V38) (0 ∷ 0 ∷ 0 ∷ 1 ∷ rest) ≡ Bad ScreenEmpty
empty = refl

too_large : server_item 16777216 (AwaitsInit V38) (255 ∷ 255 ∷ 255 ∷ 255 ∷ rest) ≡ Bad ScreenTooLarge
too_large = refl

just_admitted : server_item 2 (AwaitsInit V38) (0 ∷ 2 ∷ 0 ∷ 1 ∷ rest) ≡ Got (ServerInit 2 1 0) []
just_admitted = refl
