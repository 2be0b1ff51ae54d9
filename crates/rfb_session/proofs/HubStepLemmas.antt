-- Steps of a hub, from what became of its screen and its slots.
use Rattle.std.proofs.Common.{◌≡◌, ◌≢◌, ◌⊎◌, ℕ, Bool, true, false, nat_eq, List, Option, Some, None, inl, inr, refl}
use Rattle.std.proofs.Common.{sym, ap, ◌∙◌, subst}
use Rattle.std.proofs.lemmas.Bool.{cases_eq}
use Rattle.rfb_pixel.specs.declared.colour.Colour.{Colour}
use Rattle.rfb_picture.specs.Grid.{Grid}
use Rattle.rfb_picture.specs.Places.{has_bit}
use Rattle.rfb_session.specs.declared.hub.Hub.{Hub}
use Rattle.rfb_session.specs.declared.hub.event.HubEvent.{HubEvent}
use Rattle.rfb_session.specs.declared.hub.event.HubEvent.TheVariants.{Join, Leave, Of}
use Rattle.rfb_session.specs.declared.hub.event.HubFault.{HubFault}
use Rattle.rfb_session.specs.declared.hub.event.HubFault.TheVariants.{NoSuchSlot}
use Rattle.rfb_session.specs.declared.hub.event.HubTold.{HubTold}
use Rattle.rfb_viewer.specs.declared.setup.ViewerSetup.{ViewerSetup as Setup}
use Rattle.rfb_session.specs.declared.hub.event.SlotEvent.{SlotEvent}
use Rattle.rfb_session.specs.declared.hub.seat.HubSeat.{HubSeat}
use Rattle.rfb_session.specs.declared.told.Delivery.{Delivery}
use Rattle.rfb_session.specs.declared.told.Refused.{Refused}
use Rattle.rfb_session.specs.declared.told.Told.{Told}
use Rattle.rfb_session.specs.Hub.{seat_in, serving_in}
use Rattle.rfb_session.specs.HubSeats.{event_of, SeatDoes, SeatStandsFor}
use Rattle.rfb_session.specs.HubSteps.{JoinsAs, Beyond, Taken, Joined, LeavesAs, NoneLeft, Left, ForeignAs, NoneFed}
use Rattle.rfb_session.specs.HubSteps.{Fed, EndsAs, NoneThere, Happened, StaysAs, IsOther, HubActs, SlotSteps}
use Rattle.rfb_session.specs.HubSteps.{SlotTells, SlotsDo, HubSteps}
use Rattle.rfb_session.specs.Slots.{StaysUnless}
use Rattle.rfb_session.specs.HubAnswers.{IsMere, TellsFor, hub_refusal}
use Rattle.rfb_session.specs.InFlight.{AreMade}
use Rattle.rfb_session.specs.Link.{Ends}
use Rattle.rfb_session.specs.LinkModel.{LinkStandsFor}
use Rattle.rfb_session.specs.Network.{Network, Steps, IsReached}
use Rattle.rfb_session.specs.Told.{Tells}
use Rattle.rfb_session.proofs.HubSlotLemmas.{some_fault}
use Rattle.rfb_session.proofs.SlotLemmas.{one_seat, not_both, not_clear, apart, other, no_bit}

-- what holds of a hub that nothing was changed of
as_before : (old new : Hub) (k : ℕ) → new ≡ old → seat_in new k ≡ seat_in old k
as_before old new k is = ap (λ (h : Hub). seat_in h k) is

-- ---- slots that an event is not of

-- where none is reported as emptied, a slot that is as it was stays
pub stays_mere : (told : HubTold) (k : ℕ) (a b : Option HubSeat) → IsMere told → b ≡ a →
    StaysUnless (has_bit told.ended k) a b
stays_mere told k a b mere same =
    let clear : has_bit told.ended k ≡ false = ap (λ (n : ℕ). has_bit n k) mere.ended ∙ no_bit k in
    (λ set. absurd (not_clear _ set clear), λ not_set. same)

-- a seat that is as it was has the network that it had
pub stands_still : (e : Ends) (old new : Hub) (a b : HubSeat) (n : Network) → new.screen ≡ old.screen →
    b ≡ a → SeatStandsFor e old.screen a n → SeatStandsFor e new.screen b n
stands_still e old new a b n screens same stands =
    subst (λ (s : HubSeat). SeatStandsFor e new.screen s n) (sym same)
    (record {
      ours = stands.ours;
      screen_is = stands.screen_is ∙ sym screens;
      link_is = stands.link_is;
    })

-- an event that is no step of any network
pub mere_does : (old new : Hub) (event : HubEvent) (told : HubTold) →
    ((e : Ends) (n : Network) (k : ℕ) → SlotSteps e n event k n) →
    ((e : Ends) (n : Network) (k : ℕ) → SlotTells e n event k told) → new.screen ≡ old.screen →
    ((k : ℕ) (a b : HubSeat) → seat_in old k ≡ Some a → seat_in new k ≡ Some b → b.foreign ≡ false →
    b ≡ a) → SlotsDo old event told new
mere_does old new event told steps tells screens same = λ k a b was is ours e n made reached stands. (
  n,
  steps e n k,
  tells e n k,
  stands_still e old new a b n screens (same k a b was is ours) stands,
)

-- ---- joining

pub join_steps : (old new : Hub) (j : ℕ) (setup : Setup) (told : HubTold) → IsMere told →
    new.screen ≡ old.screen → serving_in new ≡ serving_in old → new.closed ≡ old.closed →
    JoinsAs old j setup told new →
    ((k : ℕ) → nat_eq k j ≡ false → seat_in new k ≡ seat_in old k) →
    (told.refused ≢ None → new ≡ old) → HubSteps old (Join j setup) told new
join_steps old new j setup told mere screens made closed joins others kept = record {
  made = made;
  closed = closed;
  acts = (screens, mere, joins);
  others = λ k differ. stays_mere told k _ _ mere (others k differ);
  does = mere_does old new (Join j setup) told (λ e n k. refl) (λ e n k. tt) screens
      (λ k a b was is ours. same k a b was is joins (cases_eq k j));
  kept = kept;
}
  where
    still : (k : ℕ) (a b : HubSeat) → seat_in old k ≡ Some a → seat_in new k ≡ Some b → new ≡ old → b ≡ a
    still k a b was is unchanged =
        one_seat (seat_in old k) b a (sym (as_before old new k unchanged) ∙ is) was

    same : (k : ℕ) (a b : HubSeat) → seat_in old k ≡ Some a → seat_in new k ≡ Some b →
        JoinsAs old j setup told new → ((k ≡ j) ⊎ (k ≢ j)) → b ≡ a
    same k a b was is what (inr differ) =
        one_seat (seat_in old k) b a (sym (others k (other k j differ)) ∙ is) was
    same k a b was is (Beyond past refused) (inl own) =
        still k a b was is (kept (some_fault told.refused _ refused))
    same k a b was is (Taken within seat there refused) (inl own) =
        still k a b was is (kept (some_fault told.refused _ refused))
    same k a b was is (Joined within none taken seat there fresh) (inl own) =
        absurd (not_both (seat_in old k) a was (ap (λ (i : ℕ). seat_in old i) own ∙ none))

-- ---- leaving

pub leave_steps : (old new : Hub) (j : ℕ) (told : HubTold) → IsMere told →
    new.screen ≡ old.screen → serving_in new ≡ serving_in old → new.closed ≡ old.closed →
    LeavesAs old j told new → ((k : ℕ) → nat_eq k j ≡ false → seat_in new k ≡ seat_in old k) →
    (told.refused ≢ None → new ≡ old) → HubSteps old (Leave j) told new
leave_steps old new j told mere screens made closed leaves others kept = record {
  made = made;
  closed = closed;
  acts = (screens, mere, leaves);
  others = λ k differ. stays_mere told k _ _ mere (others k differ);
  does = mere_does old new (Leave j) told (λ e n k. refl) (λ e n k. tt) screens
      (λ k a b was is ours. same k a b was is leaves (cases_eq k j));
  kept = kept;
}
  where
    same : (k : ℕ) (a b : HubSeat) → seat_in old k ≡ Some a → seat_in new k ≡ Some b →
        LeavesAs old j told new → ((k ≡ j) ⊎ (k ≢ j)) → b ≡ a
    same k a b was is what (inr differ) =
        one_seat (seat_in old k) b a (sym (others k (other k j differ)) ∙ is) was
    same k a b was is (NoneLeft none refused) (inl own) =
        absurd (not_both (seat_in old k) a was (ap (λ (i : ℕ). seat_in old i) own ∙ none))
    same k a b was is (Left seat there taken gone) (inl own) =
        absurd (not_both (seat_in new k) b is (ap (λ (i : ℕ). seat_in new i) own ∙ gone))

-- ---- foreign bytes

-- its event is known by what it does: its name would name a vector
pub foreign_steps : (old new : Hub) (event : HubEvent) (j : ℕ) (bytes : List ℕ) (told : HubTold) →
    IsMere told → new.screen ≡ old.screen → serving_in new ≡ serving_in old →
    new.closed ≡ old.closed → ForeignAs old j bytes told new → HubActs old event told new →
    ((k : ℕ) → IsOther event k → nat_eq k j ≡ false) →
    ((k : ℕ) (a b : Option HubSeat) → StaysUnless (has_bit told.ended k) a b → StaysAs event told k a b) →
    ((e : Ends) (n : Network) (k : ℕ) → SlotSteps e n event k n) →
    ((e : Ends) (n : Network) (k : ℕ) → SlotTells e n event k told) →
    ((k : ℕ) → nat_eq k j ≡ false → seat_in new k ≡ seat_in old k) →
    (told.refused ≢ None → new ≡ old) → HubSteps old event told new
foreign_steps old new event j bytes told mere screens made closed feeds acts beside stays steps tells others kept =
    record {
      made = made;
      closed = closed;
      acts = acts;
      others = λ k is. stays k _ _ (stays_mere told k _ _ mere (others k (beside k is)));
      does = mere_does old new event told steps tells screens
          (λ k a b was is ours. same k a b was is ours feeds (cases_eq k j));
      kept = kept;
    }
  where
    same : (k : ℕ) (a b : HubSeat) → seat_in old k ≡ Some a → seat_in new k ≡ Some b →
        b.foreign ≡ false → ForeignAs old j bytes told new → ((k ≡ j) ⊎ (k ≢ j)) → b ≡ a
    same k a b was is ours what (inr differ) =
        one_seat (seat_in old k) b a (sym (others k (other k j differ)) ∙ is) was
    same k a b was is ours (NoneFed none refused) (inl own) =
        absurd (not_both (seat_in old k) a was (ap (λ (i : ℕ). seat_in old i) own ∙ none))
    same k a b was is ours (Fed c d there taken now feeds) (inl own) =
        let here : seat_in new k ≡ Some d = ap (λ (i : ℕ). seat_in new i) own ∙ now in
        absurd (not_clear d.foreign feeds.foreign
        (ap (λ (s : HubSeat). s.foreign) (one_seat (seat_in new k) d b here is) ∙ ours))

-- ---- an event of a slot

pub not_refused : (told : Told) (all : HubTold) → TellsFor told all → told.refused ≡ None →
    all.refused ≡ None
not_refused told all tells none =
    tells.refused ∙ ap (λ (o : Option Refused). hub_refusal o) none

pub refused_there : (told : Told) (all : HubTold) → TellsFor told all → all.refused ≢ None →
    told.refused ≢ None
refused_there told all tells some none = some (not_refused told all tells none)

pub none_there : (old new : Hub) (j : ℕ) (event : SlotEvent) (told : HubTold) (fault : HubFault) →
    IsMere told → new ≡ old → seat_in old j ≡ None → told.refused ≡ Some NoSuchSlot →
    HubSteps old (Of j event) told new
none_there old new j event told fault mere is none refused = record {
  made = ap (λ (h : Hub). serving_in h) is;
  closed = ap (λ (h : Hub). h.closed) is;
  acts = (ap (λ (h : Hub). h.screen) is, NoneThere none refused mere);
  others = λ k differ. stays_mere told k _ _ mere (as_before old new k is);
  does = λ k a b was now ours e n made reached stands. (
    n,
    (
      λ own. absurd (not_both (seat_in old k) a was (ap (λ (i : ℕ). seat_in old i) (sym own) ∙ none)),
      λ differ. refl,
    ),
    (λ own. absurd (not_both (seat_in old k) a was (ap (λ (i : ℕ). seat_in old i) (sym own) ∙ none))),
    stands_still e old new a b n (ap (λ (h : Hub). h.screen) is)
        (one_seat (seat_in old k) b a (sym (as_before old new k is) ∙ now) was) stands,
  );
  kept = λ some. is;
}

-- the network that the seat of the event's own slot has afterwards
pub own_does : (e : Ends) (old new : Hub) (event : SlotEvent) (d : Delivery) (a b : HubSeat) (n : Network) →
    new.screen ≡ old.screen → SeatDoes old.screen a event d b → AreMade e → IsReached e n →
    b.foreign ≡ false → SeatStandsFor e old.screen a n →
    (m : Network) × Steps e n (event_of event) m × Tells e n (event_of event) d.told
    × SeatStandsFor e new.screen b m
own_does e old new event d a b n screens does made reached ours stands =
    let one = does.does e n made reached stands.screen_is stands.link_is in (
      one.0,
      one.1,
      one.2,
      record {
        ours = ours;
        screen_is = one.3 ∙ stands.screen_is ∙ sym screens;
        link_is = subst (λ (g : Grid Colour). LinkStandsFor e g b.link one.0.link) (sym one.3) one.4;
      },
    )

pub happened_steps : (old new : Hub) (j : ℕ) (event : SlotEvent) (told : HubTold) (d : Delivery)
    (a b : HubSeat) → seat_in old j ≡ Some a → seat_in new j ≡ Some b →
    SeatDoes old.screen a event d b → TellsFor d.told told → EndsAs d.sole j old told →
    new.screen ≡ old.screen → serving_in new ≡ serving_in old → new.closed ≡ old.closed →
    ((k : ℕ) → nat_eq k j ≡ false →
    StaysUnless (has_bit told.ended k) (seat_in old k) (seat_in new k)) →
    (told.refused ≢ None → new ≡ old) → HubSteps old (Of j event) told new
happened_steps old new j event told d a b was is does tells ends screens made closed others kept = record {
  made = made;
  closed = closed;
  acts = (screens, Happened a b d was is does tells ends);
  others = others;
  does = λ k c f before now ours e n fit reached stands.
      by k c f before now ours e n fit reached stands (cases_eq k j);
  kept = kept;
}
  where
    left : (k : ℕ) (c f : HubSeat) → seat_in old k ≡ Some c → seat_in new k ≡ Some f →
        (flag : Bool) → StaysUnless flag (seat_in old k) (seat_in new k) → f ≡ c
    left k c f before now true stays = absurd (not_both (seat_in new k) f now (stays.0 refl))
    left k c f before now false stays = one_seat (seat_in old k) f c (sym (stays.1 refl) ∙ now) before

    by : (k : ℕ) (c f : HubSeat) → seat_in old k ≡ Some c → seat_in new k ≡ Some f → f.foreign ≡ false →
        (e : Ends) (n : Network) → AreMade e → IsReached e n → SeatStandsFor e old.screen c n →
        ((k ≡ j) ⊎ (k ≢ j)) →
        (m : Network) × SlotSteps e n (Of j event) k m × SlotTells e n (Of j event) k told
        × SeatStandsFor e new.screen f m
    by k c f before now ours e n fit reached stands (inl own) =
        let first : c ≡ a = one_seat (seat_in old k) c a before (ap (λ (i : ℕ). seat_in old i) own ∙ was) in
        let last : f ≡ b = one_seat (seat_in new k) f b now (ap (λ (i : ℕ). seat_in new i) own ∙ is) in
        let one = own_does e old new event d a b n screens does fit reached
        (sym (ap (λ (s : HubSeat). s.foreign) last) ∙ ours)
        (subst (λ (s : HubSeat). SeatStandsFor e old.screen s n) first stands) in (
          one.0,
          (λ same. one.1, λ differ. absurd (apart k j differ own)),
          (λ same. (d.told, one.2, tells)),
          subst (λ (s : HubSeat). SeatStandsFor e new.screen s one.0) (sym last) one.3,
        )
    by k c f before now ours e n fit reached stands (inr differ) = (
      n,
      (λ same. absurd (differ (sym same)), λ apart_. refl),
      (λ same. absurd (differ (sym same))),
      stands_still e old new c f n screens
          (left k c f before now (has_bit told.ended k) (others k (other k j differ))) stands,
    )
