-- The security types that a server offered, as a `Viewer` keeps them, RFC 6143 section 7.1.2 and
-- Appendix A.
use Rattle.std.specs.Prelude.{◌≡◌, ℕ, List, Option, Some}
use Rattle.rfb_wire.specs.stream.Sequel.{First, Second}
use Rattle.rfb_hello.specs.declared.offered.Offered.{Offered}
use Rattle.rfb_hello.specs.Offer.{IsOfferedAt as IsOfferedIn, IsOfferOn as IsOfferIn}
use Rattle.rfb_viewer.specs.declared.fault.ViewerFault.{ViewerFault}
use Rattle.rfb_viewer.specs.declared.fault.ViewerFault.TheVariants.{NoneNotOffered, BadSecurityWord}
use Rattle.rfb_viewer.specs.declared.viewer.Viewer.{Viewer}
use Rattle.rfb_viewer.specs.ServerBytes.{ServerAt}
use Rattle.rfb_viewer.specs.Told.{ViewerTold, Reply}
use Rattle.rfb_viewer.specs.Failed.{LeadsTo}
use Rattle.rfb_viewer.specs.Model.{offered_of}

-- these bytes are the word of the type that is chosen, or the list of exactly those types
abbrev pub IsOfferedAt : Offered → ServerAt → List ℕ → Type 0
IsOfferedAt offered (First point) bytes = IsOfferedIn offered point bytes
IsOfferedAt offered (Second p) bytes = ⊥

-- the bytes lead there
abbrev pub LeadsToOffer : Offered → Viewer → List ℕ → Type 0
LeadsToOffer offered old bytes =
    LeadsTo (λ viewing s front. IsOfferedAt offered s.point front) old bytes

-- after a fault: where types are at fault, the bytes have led to the last byte of them, and the
-- viewer keeps exactly these; after another fault it keeps what it had
abbrev pub KeepsOffer : ViewerFault → Viewer → List ℕ → Viewer → Type 0
KeepsOffer NoneNotOffered old bytes new = LeadsToOffer (offered_of new) old bytes
KeepsOffer BadSecurityWord old bytes new = LeadsToOffer (offered_of new) old bytes
KeepsOffer fault old bytes new = offered_of new ≡ offered_of old

-- ---- before a fault

-- at the last byte of the types these are kept, and at that of another item of the handshake what
-- was kept before
abbrev pub IsOfferOn : Offered → Offered → ServerAt → List ℕ → Type 0
IsOfferOn before now (First point) bytes = IsOfferIn before now point bytes
IsOfferOn before now (Second p) bytes = ⊥

-- an answer comes at the last byte of an item of the handshake, and where this is the types the
-- viewer keeps them; without an answer it keeps what it had
abbrev pub TakesOffer : Option ViewerTold → Viewer → List ℕ → Viewer → Type 0
TakesOffer (Some (Reply bytes_sent)) old bytes new =
    LeadsTo (λ viewing s front. IsOfferOn (offered_of old) (offered_of new) s.point front)
    old bytes
TakesOffer told old bytes new = offered_of new ≡ offered_of old
