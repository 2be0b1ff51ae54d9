-- What an event makes of a seat, from what it makes of the seat's link.
use Rattle.std.proofs.Common.{◌≡◌, ◌≢◌, Bool, false, true, None, ℕ, Result, Ok, Err, IfOk, refl, sym, ap, ◌∙◌, subst}
use Rattle.rfb_pixel.specs.declared.colour.Colour.{Colour}
use Rattle.rfb_picture.specs.Grid.{Grid}
use Rattle.rfb_server.specs.Hints.{hints_in}
use Rattle.rfb_viewer.specs.declared.call.Call.{Call}
use Rattle.rfb_session.specs.declared.event.Event.{Event}
use Rattle.rfb_session.specs.declared.hub.event.SlotEvent.{SlotEvent}
use Rattle.rfb_session.specs.declared.hub.event.SlotEvent.TheVariants.{ToServer}
use Rattle.rfb_session.specs.declared.hub.seat.HubSeat.{HubSeat}
use Rattle.rfb_session.specs.declared.link.Link.{Link}
use Rattle.rfb_session.specs.declared.told.Delivery.{Delivery}
use Rattle.rfb_session.specs.declared.told.NoMemory.{NoMemory}
use Rattle.rfb_session.specs.declared.told.Told.{Told}
use Rattle.rfb_session.specs.LinkCalls.{DoesCall, CallsOnBytes}
use Rattle.rfb_session.specs.LinkModel.{Arrives, LinkDoes, LinkDoesOver, LosesOn}
use Rattle.rfb_session.specs.Told.{TellsAlone}
use Rattle.rfb_session.specs.HubSeats.{event_of, LinkActs, LinkHints, SoleAs, SeatDoes}
use Rattle.rfb_session.proofs.EventCallLemmas.{IsEventOf, does_event}

pub over : (screen : Grid Colour) (old : Link) (event : Event) (told : Told) (new : Link) →
    LinkDoes old event told new → LinkDoesOver screen old event told new
over screen old event told new does = λ e n made reached on stands. does e n made reached stands

-- the seat with another link
pub seat_happens : (screen : Grid Colour) (old : HubSeat) (event this : SlotEvent) (told : Told)
    (d : Delivery) (new : Link) → event ≡ this → d.told ≡ told →
    LinkActs screen old.link (event_of this) told new → TellsAlone (event_of this) told →
    LinkDoesOver screen old.link (event_of this) told new →
    LosesOn old.link (event_of this) told new → LinkHints old.link (event_of this) told new →
    SoleAs old.link (event_of this) d new → (d.sole ≡ true → told.refused ≡ None) →
    (told.refused ≢ None → new ≡ old.link) → SeatDoes screen old event d (record old { link = new })
seat_happens screen old event this told d new is tells acts alone does lost hints sole taken kept =
    subst (λ (ev : SlotEvent). SeatDoes screen old ev d (record old { link = new })) (sym is)
    (record {
      setup_is = refl;
      foreign_is = refl;
      acts = subst (λ (t : Told). LinkActs screen old.link (event_of this) t new) (sym tells) acts;
      tells = subst (λ (t : Told). TellsAlone (event_of this) t) (sym tells) alone;
      does = subst (λ (t : Told). LinkDoesOver screen old.link (event_of this) t new) (sym tells) does;
      lost = subst (λ (t : Told). LosesOn old.link (event_of this) t new) (sym tells) lost;
      hints = subst (λ (t : Told). LinkHints old.link (event_of this) t new) (sym tells) hints;
      sole = sole;
      taken = λ asked. ap (λ (t : Told). t.refused) tells ∙ taken asked;
      kept = λ some. ap (λ (l : Link). record old { link = l })
          (kept (λ none. some (ap (λ (t : Told). t.refused) tells ∙ none)));
    })

pub not_sole : (d : Delivery) (told : Told) → d.sole ≡ false → d.sole ≡ true → told.refused ≡ None
not_sole d told without with_ = absurd (apart without with_)
  where
    apart : {b : Bool} → b ≡ false → b ≡ true → ⊥
    apart one two = cc

-- a call of its viewer's
pub seat_called : (screen : Grid Colour) (old : HubSeat) (event this : SlotEvent) (call : Call)
    (told : Told) (d : Delivery) (new : Link) → event ≡ this → IsEventOf (event_of this) call →
    d.told ≡ told → d.sole ≡ false → CallsOnBytes old.link call told new →
    DoesCall old.link call told new → (told.moved ≡ 0) × (told.composed ≡ false) →
    hints_in new.session ≡ hints_in old.link.session → (told.refused ≢ None → new ≡ old.link) →
    SeatDoes screen old event d (record old { link = new })
seat_called screen old event this call told d new is of same without bytes does tells hints kept =
    let ev = event_of this in
    seat_happens screen old event this told d new is same
    (of.only.link_acts screen old.link told new (of.acts old.link told new bytes)) (of.only.tells told tells)
    (over screen old.link ev told new (does_event ev call old.link told new of tells does))
    (of.only.lost old.link told new) (of.only.link_hints old.link told new hints)
    (of.only.sole old.link d new without) (not_sole d told without) kept

pub not_refused : (told : Told) (new old : Link) → told.refused ≡ None → told.refused ≢ None → new ≡ old
not_refused told new old none some = absurd (some none)

-- a delivery to its session
pub delivered_happens : (screen : Grid Colour) (old : HubSeat) (event : SlotEvent) (count : ℕ)
    (result : Result Delivery NoMemory) (new : Link) → event ≡ ToServer count →
    IfOk result (λ d. Arrives old.link (event_of (ToServer count)) d.told new) →
    ((d : Delivery) → LinkHints old.link (event_of (ToServer count)) d.told new) →
    IfOk result (λ d. SoleAs old.link (event_of (ToServer count)) d new) →
    IfOk result (λ d. SeatDoes screen old event d (record old { link = new }))
delivered_happens screen old event count (Ok d) new is arrives hints sole =
    seat_happens screen old event (ToServer count) d.told d new is refl arrives.bytes arrives.tells
    (over screen old.link (event_of (ToServer count)) d.told new arrives.does) arrives.lost (hints d) sole
    (λ asked. arrives.taken) (not_refused d.told new old.link arrives.taken)
delivered_happens screen old event count (Err error) new is arrives hints sole = tt
