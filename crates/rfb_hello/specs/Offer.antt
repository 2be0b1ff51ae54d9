-- The security types that a server offered, as a `ViewerHello` keeps them, RFC 6143 section 7.1.2
-- and Appendix A.
use Rattle.std.specs.Prelude.{◌≡◌, List, ℕ, Option, Some}
use Rattle.rfb_wire.specs.stream.End.{RunsOutBy}
use Rattle.rfb_hello.specs.declared.version.Version.TheVariants.{V33, V37, V38}
use Rattle.rfb_hello.specs.declared.fault.HelloFault.{HelloFault}
use Rattle.rfb_hello.specs.declared.fault.HelloFault.TheVariants.{NoneNotOffered, BadSecurityWord}
use Rattle.rfb_hello.specs.declared.offered.Offered.{Offered}
use Rattle.rfb_hello.specs.declared.offered.Offered.TheVariants.{Chosen, Listed}
use Rattle.rfb_hello.specs.declared.step.ViewerStep.{ViewerStep}
use Rattle.rfb_hello.specs.declared.step.ViewerStep.TheVariants.{Reply}
use Rattle.rfb_hello.specs.declared.viewer_hello.ViewerHello.{ViewerHello}
use Rattle.rfb_hello.specs.ServerHandshake.{ServerPoint, AwaitsSecurity, IsWord, IsTypes}
use Rattle.rfb_hello.specs.ViewerEnd.{ViewerSetup, viewer_end}
use Rattle.rfb_hello.specs.ViewerModel.{StandsFor}

-- what the server has offered
abbrev pub offered_of : ViewerHello → Offered
offered_of hello = hello.offered

-- these bytes are the word of the type that is chosen, or the list of exactly those types
abbrev pub IsOfferedAt : Offered → ServerPoint → List ℕ → Type 0
IsOfferedAt (Chosen number) (AwaitsSecurity V33) bytes = IsWord number bytes
IsOfferedAt (Listed types) (AwaitsSecurity V37) bytes = IsTypes types.items bytes
IsOfferedAt (Listed types) (AwaitsSecurity V38) bytes = IsTypes types.items bytes
IsOfferedAt offered point bytes = ⊥

-- from each setup that the end stood for, the bytes have led there
abbrev pub LeadsToOffer : Offered → ViewerHello → List ℕ → Type 0
LeadsToOffer offered old bytes =
    (setup : ViewerSetup)
    → RunsOutBy (viewer_end setup) (IsOfferedAt offered) (StandsFor setup) old bytes

-- after a fault: where types are at fault, the bytes have led to the last byte of them, and the end
-- keeps exactly these; after another fault it keeps what it had
abbrev pub KeepsOffer : HelloFault → ViewerHello → List ℕ → ViewerHello → Type 0
KeepsOffer NoneNotOffered old bytes new = LeadsToOffer (offered_of new) old bytes
KeepsOffer BadSecurityWord old bytes new = LeadsToOffer (offered_of new) old bytes
KeepsOffer fault old bytes new = offered_of new ≡ offered_of old

-- ---- before a fault

-- at the last byte of the types these are kept, and at that of another item what was kept before
abbrev pub IsOfferOn : Offered → Offered → ServerPoint → List ℕ → Type 0
IsOfferOn before now (AwaitsSecurity version) bytes =
    IsOfferedAt now (AwaitsSecurity version) bytes
IsOfferOn before now point bytes = now ≡ before

-- an answer comes at the last byte of an item, and where this is the types it keeps them; without
-- an answer it keeps what it had
abbrev pub TakesOffer : Option ViewerStep → ViewerHello → List ℕ → ViewerHello → Type 0
TakesOffer (Some (Reply reply)) old bytes new =
    (setup : ViewerSetup)
    → RunsOutBy (viewer_end setup) (IsOfferOn (offered_of old) (offered_of new))
    (StandsFor setup) old bytes
TakesOffer event old bytes new = offered_of new ≡ offered_of old
