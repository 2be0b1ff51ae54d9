-- The answers that a client may still be sent become fewer by each that it is sent.
use Rattle.std.proofs.Common.{◌≡◌, ℕ, ◌+◌, ◌≤◌, List, [], ◌∷◌, ◌++◌, length, length-append, Option}
use Rattle.std.proofs.Common.{refl, ap, subst, arith}
use Rattle.byteorder.specs.Endian.{big_bytes}
use Rattle.rfb_pixel.specs.Format.{rgb888}
use Rattle.rfb_pixel.specs.FormatBytes.{format_bytes}
use Rattle.rfb_wire.specs.ClientMessage.{ClientMessage, SetPixelFormat, SetEncodings}
use Rattle.rfb_wire.specs.ClientMessage.{FramebufferUpdateRequest, KeyEvent, PointerEvent}
use Rattle.rfb_wire.specs.ClientMessage.{ClientCutText}
use Rattle.rfb_wire.specs.stream.End.{acts, EndsWith}
use Rattle.rfb_wire.specs.stream.Sequel.{First, Second}
use Rattle.rfb_hello.specs.declared.version.Version.TheVariants.{V33, V37, V38}
use Rattle.rfb_hello.specs.ClientHandshake.{AwaitsVersion, AwaitsChoice, AwaitsInit, Begun}
use Rattle.rfb_hello.specs.ClientHandshake.{ProtocolVersion, SecurityType, ClientInit}
use Rattle.rfb_hello.specs.ServerEnd.{ServerSetup, server_init_bytes}
use Rattle.rfb_server.specs.ClientBytes.{ClientAt, FromClient, client_two}
use Rattle.rfb_server.specs.Server.{Serving, ServerState, server, item_told}
use Rattle.rfb_server.specs.Told.{ServerTold, message_told}
use Rattle.rfb_wire.specs.stream.Sequel.{past_in}
use Rattle.rfb_session.specs.InFlight.{server_reply}
use Rattle.rfb_session.specs.ShareRoom.{answers_left}

-- ServerInit has 24 bytes, and the name
init_size : (setup : ServerSetup) → length (server_init_bytes setup) ≡ 24 + length setup.name
init_size setup =
    let name = setup.name in
    let count = big_bytes 4 (length name) in
    let form = format_bytes rgb888 in
    let high = big_bytes 2 setup.height in
    let wide = big_bytes 2 setup.width in
    omega (
      arith,
      length-append wide (high ++ (form ++ (count ++ name))),
      length-append high (form ++ (count ++ name)),
      length-append form (count ++ name),
      length-append count name,
      two setup.width,
      two setup.height,
      four (length name),
      sixteen,
    )
  where
    two : (n : ℕ) → length (big_bytes 2 n) ≡ 2
    two n = refl

    four : (n : ℕ) → length (big_bytes 4 n) ≡ 4
    four n = refl

    sixteen : length (format_bytes rgb888) ≡ 16
    sixteen = refl

-- a message is not answered
no_answer : (limit : ℕ) (message : ClientMessage) → server_reply (message_told limit message) ≡ []
no_answer limit (SetPixelFormat format) = refl
no_answer limit (SetEncodings numbers) = refl
no_answer limit (FramebufferUpdateRequest incremental rect) = refl
no_answer limit (KeyEvent down key) = refl
no_answer limit (PointerEvent buttons x y) = refl
no_answer limit (ClientCutText text) = refl

-- one item, at each point
fewer_at : (serving : Serving) (point : ClientAt) (item : FromClient) →
    length serving.hello.name ≤ 255 →
    length (server_reply (item_told serving point item))
    + answers_left (past_in (client_two serving.hello.offer) point item) ≤ answers_left point
fewer_at serving (First AwaitsVersion) (First (ProtocolVersion V33)) short = omega arith
fewer_at serving (First AwaitsVersion) (First (ProtocolVersion V37)) short = omega arith
fewer_at serving (First AwaitsVersion) (First (ProtocolVersion V38)) short = omega arith
fewer_at serving (First AwaitsVersion) (First SecurityType) short = omega arith
fewer_at serving (First AwaitsVersion) (First (ClientInit shared)) short = omega arith
fewer_at serving (First AwaitsVersion) (Second message) short = omega arith
fewer_at serving (First (AwaitsChoice version)) (First (ProtocolVersion other)) short = omega arith
fewer_at serving (First (AwaitsChoice V33)) (First SecurityType) short = omega arith
fewer_at serving (First (AwaitsChoice V37)) (First SecurityType) short = omega arith
fewer_at serving (First (AwaitsChoice V38)) (First SecurityType) short = omega arith
fewer_at serving (First (AwaitsChoice version)) (First (ClientInit shared)) short = omega arith
fewer_at serving (First (AwaitsChoice version)) (Second message) short = omega arith
fewer_at serving (First (AwaitsInit version)) (First (ProtocolVersion other)) short = omega arith
fewer_at serving (First (AwaitsInit version)) (First SecurityType) short = omega arith
fewer_at serving (First (AwaitsInit version)) (First (ClientInit shared)) short =
    omega (arith, init_size serving.hello)
fewer_at serving (First (AwaitsInit version)) (Second message) short = omega arith
fewer_at serving (First (Begun version shared)) (First (ProtocolVersion other)) short = omega arith
fewer_at serving (First (Begun version shared)) (First SecurityType) short = omega arith
fewer_at serving (First (Begun version shared)) (First (ClientInit flag)) short = omega arith
fewer_at serving (First (Begun version shared)) (Second message) short = omega arith
fewer_at serving (Second between) (First step) short = omega arith
fewer_at serving (Second between) (Second message) short =
    let none = ap (λ (bytes : List ℕ). length bytes) (no_answer serving.text_limit message) in
    omega (arith, none)

-- items; only the last may be answered
pub fewer_left : (serving : Serving) (s : ServerState) (items : List FromClient)
    (event : Option ServerTold) → length serving.hello.name ≤ 255 →
    EndsWith (server serving) s items event →
    length (server_reply event) + answers_left (acts (server serving) s items).point
    ≤ answers_left s.point
fewer_left serving s [] event short ends = rw ends (omega arith)
fewer_left serving s (item ∷ []) event short ends =
    subst (λ (told : Option ServerTold). length (server_reply told)
    + answers_left (past_in (client_two serving.hello.offer) s.point item) ≤ answers_left s.point)
    ends (fewer_at serving s.point item short)
fewer_left serving s (item ∷ next ∷ items) event short ends =
    let one = fewer_at serving s.point item short in
    let none = ap (λ (told : Option ServerTold). length (server_reply told)) ends.0 in
    let rest = fewer_left serving ((server serving).act s item) (next ∷ items) event short ends.1 in
    omega (arith, one, none, rest)
