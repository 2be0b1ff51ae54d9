-- What happens in the slots of a hub.
use Rattle.std.proofs.Common.{◌≡◌, ◌≢◌, Bool, true, false, ℕ, List, Option, Some, None, refl, subst}
use Rattle.rfb_pixel.specs.declared.colour.Colour.{Colour}
use Rattle.rfb_picture.specs.Grid.{Grid}
use Rattle.rfb_server.specs.KnownScreen.{Follows}
use Rattle.rfb_session.specs.declared.hub.event.HubFault.{HubFault}
use Rattle.rfb_session.specs.declared.hub.event.SlotEvent.{SlotEvent}
use Rattle.rfb_session.specs.declared.hub.seat.HubSeat.{HubSeat}
use Rattle.rfb_session.specs.declared.told.Delivery.{Delivery}
use Rattle.rfb_session.specs.HubSeats.{SeatDoes, TakesForeign}
use Rattle.rfb_session.specs.HubSlots.{DoesIn, TakesOrNot}
use Rattle.rfb_session.proofs.SlotLemmas.{not_both}

pub some_fault : (o : Option HubFault) (fault : HubFault) → o ≡ Some fault → o ≢ None
some_fault o fault some none = cc

pub same_follows : (screen : Grid Colour) (o : Option HubSeat) (a b : HubSeat) → o ≡ Some a →
    o ≡ Some b → Follows screen a.link.session → Follows screen b.link.session
same_follows screen o a b one two follows =
    let same : a ≡ b = cc in subst (λ (s : HubSeat). Follows screen s.link.session) same follows

-- nothing follows of an empty slot
pub none_follows : (screen : Grid Colour) (o : Option HubSeat) (seat : HubSeat) → o ≡ None → o ≡ Some seat →
    Follows screen seat.link.session
none_follows screen o seat none some = absurd (not_both o seat some none)

pub taken_in : (taken : Bool) (bytes : List ℕ) (a b : Option HubSeat) → TakesOrNot taken bytes a b →
    taken ≡ true → (x y : HubSeat) × (a ≡ Some x) × (b ≡ Some y) × TakesForeign bytes x y
taken_in false bytes a b takes is = absurd (apart_bool is)
  where
    apart_bool : false ≡ true → ⊥
    apart_bool e = cc
taken_in true bytes None None takes is = absurd takes
taken_in true bytes None (Some y) takes is = absurd takes
taken_in true bytes (Some x) None takes is = absurd takes
taken_in true bytes (Some x) (Some y) takes is = (x, y, refl, refl, takes)

pub does_in : (screen : Grid Colour) (event : SlotEvent) (a b : Option HubSeat) (told : Option Delivery)
    (d : Delivery) → DoesIn screen a event told b → told ≡ Some d →
    (x y : HubSeat) × (a ≡ Some x) × (b ≡ Some y) × SeatDoes screen x event d y
does_in screen event None None None d does is = absurd (apart_some d is)
  where
    apart_some : (e : Delivery) → None ≡ Some e → ⊥
    apart_some e same = cc
does_in screen event None None (Some f) d does is = absurd does
does_in screen event None (Some y) None d does is = absurd does
does_in screen event None (Some y) (Some f) d does is = absurd does
does_in screen event (Some x) None None d does is = absurd does
does_in screen event (Some x) None (Some f) d does is = absurd does
does_in screen event (Some x) (Some y) None d does is = absurd does
does_in screen event (Some x) (Some y) (Some f) d does is =
    (x, y, refl, refl, subst (λ (g : Delivery). SeatDoes screen x event g y) (one is) does)
  where
    one : Some f ≡ Some d → f ≡ d
    one e = cc

-- where nothing happened there was no seat, and is none
pub none_in : (screen : Grid Colour) (event : SlotEvent) (a b : Option HubSeat) (told : Option Delivery) →
    DoesIn screen a event told b → told ≡ None → (a ≡ None) × (b ≡ None)
none_in screen event None None None does is = (refl, refl)
none_in screen event None None (Some f) does is = absurd does
none_in screen event None (Some y) None does is = absurd does
none_in screen event None (Some y) (Some f) does is = absurd does
none_in screen event (Some x) None None does is = absurd does
none_in screen event (Some x) None (Some f) does is = absurd does
none_in screen event (Some x) (Some y) None does is = absurd does
none_in screen event (Some x) (Some y) (Some f) does is = absurd (apart_some is)
  where
    apart_some : Some f ≡ None → ⊥
    apart_some e = cc
