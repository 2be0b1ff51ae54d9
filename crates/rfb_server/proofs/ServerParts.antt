-- A server is an end of two streams, and is fed as the ends of its parts.
use Rattle.std.proofs.Common.{◌≡◌, Option, Some, None, refl, sym, ap, ◌∙◌}
use Rattle.rfb_wire.specs.stream.Sequel.{First, Second}
use Rattle.rfb_wire.specs.stream.Both.{event_as, first_point, GoesAsFirst, GoesAsSecond}
use Rattle.rfb_wire.specs.ClientMessage.{ClientMessage}
use Rattle.rfb_wire.proofs.stream_laws.BothLaws.{at_first}
use Rattle.rfb_hello.specs.ClientHandshake.{ClientPoint, AwaitsVersion, AwaitsChoice, AwaitsInit, Begun, ClientItem}
use Rattle.rfb_hello.specs.ClientHandshake.{ProtocolVersion, SecurityType, ClientInit}
use Rattle.rfb_hello.specs.declared.step.ServerStep.{ServerStep}
use Rattle.rfb_hello.specs.ServerEnd.{ServerSetup, server_end, server_tells as handshake_tells}
use Rattle.rfb_server.specs.ClientBytes.{ClientAt, client_two, to_messages}
use Rattle.rfb_server.specs.Told.{ServerTold, step_told, message_told}
use Rattle.rfb_server.specs.Server.{Serving, ServerState, serves, server, item_told, server_tells, messages_end}
use Rattle.rfb_server.specs.Server.{after_handshake}
use Rattle.rfb_server.proofs.ServerLaws.{server_machine}

-- an item without an event does not lead over
over : (setup : ServerSetup) (p : ClientPoint) (i : ClientItem) →
    handshake_tells setup p i ≡ None → to_messages p i ≡ None
over setup (AwaitsInit version) (ClientInit shared) e = cc
over setup (AwaitsInit version) SecurityType e = refl
over setup (AwaitsInit version) (ProtocolVersion v) e = refl
over setup AwaitsVersion i e = refl
over setup (AwaitsChoice version) i e = refl
over setup (Begun version shared) i e = refl

as_told : (o : Option ServerStep) → step_told o ≡ event_as (λ step. step_told (Some step)) o
as_told None = refl
as_told (Some step) = refl

-- in the handshake it is the handshake's end, with the events as a session's
pub serves_first : (serving : Serving) → GoesAsFirst (client_two serving.hello.offer) (server serving)
    (server_end serving.hello) (λ s. first_point s.point) (λ step. step_told (Some step))
serves_first serving = at_first (client_two serving.hello.offer) (server serving) (handshake_tells serving.hello)
    (λ step. step_told (Some step)) (server_machine serving) refl tells (λ p i e. over serving.hello p i e)
  where
    tells : (s : ServerState) (p : ClientPoint) (i : ClientItem) → s.point ≡ First p →
        server_tells serving s (First i) ≡ event_as (λ step. step_told (Some step)) (handshake_tells serving.hello p i)
    tells s p i at =
        ap (λ (r : ClientAt). item_told serving r (First i)) at ∙ as_told (handshake_tells serving.hello p i)

shown_is : (r : ClientAt) (s u : ServerState) → after_handshake r s ≡ Some u → (r ≡ Second tt) × (u ≡ s)
shown_is (First p) s u e = absurd cc
shown_is (Second q) s u e = let same : s ≡ u = cc in (refl, sym same)

as_it : (o : Option ServerTold) → o ≡ event_as (λ told. Some told) o
as_it None = refl
as_it (Some told) = refl

-- and after it the messages' end
pub serves_second : (serving : Serving) → GoesAsSecond (client_two serving.hello.offer) (server serving)
    (messages_end serving) (λ s. after_handshake s.point s) (λ told. Some told)
serves_second serving =
    record { both = refl; grammar = refl; point = λ s u e. (shown_is s.point s u e).0; tells = tells; stays = stays }
  where
    tells : (s u : ServerState) (m : ClientMessage) → after_handshake s.point s ≡ Some u →
        server_tells serving s (Second m) ≡ event_as (λ told. Some told) (message_told serving.text_limit m)
    tells s u m e = ap (λ (r : ClientAt). item_told serving r (Second m)) (shown_is s.point s u e).0
        ∙ as_it (message_told serving.text_limit m)

    stays : (s u : ServerState) (m : ClientMessage) → after_handshake s.point s ≡ Some u → after_handshake
        (serves serving s (Second m)).point (serves serving s (Second m)) ≡ Some (serves serving u (Second m))
    stays s u m e =
        let at = shown_is s.point s u e in
        rw (at.1, at.0) refl
