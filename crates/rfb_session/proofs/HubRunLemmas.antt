-- What the slots of a hub stand for, step after step.
use Rattle.std.proofs.Common.{◌≡◌, ◌≢◌, ◌⊎◌, ℕ, Bool, true, false, List, [], ◌∷◌, ◌++◌, Some, None, inl, inr, refl, sym}
use Rattle.std.proofs.Common.{ap, ◌∙◌, subst}
use Rattle.std.proofs.lemmas.Bool.{cases_eq}
use Rattle.rfb_pixel.specs.declared.colour.Colour.{Colour}
use Rattle.rfb_picture.specs.Grid.{Grid}
use Rattle.rfb_server.specs.Strokes.{Stroke, notice_of, Fill as OneFill, Copy as OneCopy, Hint as OneHint}
use Rattle.rfb_server.specs.Server.{Serving}
use Rattle.rfb_server.proofs.ServerLaws.{session_going}
use Rattle.rfb_viewer.proofs.ViewerLaws.{viewer_going}
use Rattle.rfb_session.specs.declared.event.Event.TheVariants.{Fill as OfFill, Put as OfPut, Copy as OfCopy}
use Rattle.rfb_session.specs.declared.event.Event.TheVariants.{Hint as OfHint}
use Rattle.rfb_session.specs.declared.hub.Hub.{Hub}
use Rattle.rfb_session.specs.declared.hub.event.HubEvent.{HubEvent}
use Rattle.rfb_session.specs.declared.hub.event.HubEvent.TheVariants.{Fill, Put, Copy, Hint, Join, Leave, Of, Foreign}
use Rattle.rfb_session.specs.declared.hub.event.HubFault.TheVariants.{Outside}
use Rattle.rfb_session.specs.declared.hub.event.HubTold.{HubTold}
use Rattle.rfb_viewer.specs.declared.setup.ViewerSetup.{ViewerSetup as Setup}
use Rattle.rfb_session.specs.declared.hub.seat.HubSeat.{HubSeat}
use Rattle.rfb_session.specs.Hub.{seat_in, serving_in, IsFreshSeat, Each, HubStands, IsEmptyHub}
use Rattle.rfb_session.specs.HubSeats.{event_of, ends_of, KeepsSeat, IsNotifiedOn, SeatStandsFor, SeatDoes}
use Rattle.rfb_session.specs.HubSteps.{DrawsHub, GivesHub, JoinsAs, Beyond, Taken, Joined, LeavesAs, NoneLeft}
use Rattle.rfb_session.specs.HubSteps.{Left, ForeignAs, NoneFed, Fed, HappensAs, NoneThere, Happened, SlotSteps}
use Rattle.rfb_session.specs.HubSteps.{HubSteps, RunsHub}
use Rattle.rfb_session.specs.Slots.{OnSlot, StaysUnless}
use Rattle.rfb_session.specs.InFlight.{AreMade}
use Rattle.rfb_session.specs.Link.{Ends, first_link}
use Rattle.rfb_session.specs.LinkModel.{server_fault_of, viewer_fault_of}
use Rattle.rfb_session.specs.Network.{Network, IsReached}
use Rattle.rfb_session.proofs.HubSlotLemmas.{some_fault}
use Rattle.rfb_session.proofs.SlotLemmas.{one_seat, not_both, not_clear, other, on_seat}
use Rattle.rfb_session.proofs.NetworkLemmas.{first_reached}
use Rattle.rfb_session.proofs.WorldLemmas.{reached_step, reached_stroke}

-- ---- where a seat comes from

-- it was there, with the same setup and no foreign bytes; or it is fresh
abbrev CameFrom : Hub → ℕ → Hub → HubSeat → Type 0
CameFrom old k new b =
    ((a : HubSeat) × (seat_in old k ≡ Some a) × (b.setup ≡ a.setup) × (a.foreign ≡ false))
    ⊎ (IsFreshSeat old b.setup b × (new.screen ≡ old.screen))

-- where nothing has changed
unchanged : (old new : Hub) (k : ℕ) (b : HubSeat) → new ≡ old → seat_in new k ≡ Some b →
    b.foreign ≡ false → CameFrom old k new b
unchanged old new k b is there ours =
    inl (b, sym (ap (λ (h : Hub). seat_in h k) is) ∙ there, refl, ours)

-- a slot that stayed
stayed : (old new : Hub) (k : ℕ) (b : HubSeat) (flag : Bool) →
    StaysUnless flag (seat_in old k) (seat_in new k) → seat_in new k ≡ Some b →
    b.foreign ≡ false → CameFrom old k new b
stayed old new k b true stays there ours = absurd (not_both (seat_in new k) b there (stays.0 refl))
stayed old new k b false stays there ours = inl (b, sym (stays.1 refl) ∙ there, refl, ours)

kept_seat : (old new : Hub) (k : ℕ) (a b : HubSeat) → KeepsSeat a b → seat_in old k ≡ Some a →
    b.foreign ≡ false → CameFrom old k new b
kept_seat old new k a b keeps was ours = inl (a, was, keeps.setup_is, sym keeps.foreign_is ∙ ours)

drawn_from : (old new : Hub) (k : ℕ) (b : HubSeat) (told : HubTold) (Inside : Type 0)
    (screen : Grid Colour) (R : HubSeat → HubSeat → Type 0) → ((x y : HubSeat) → R x y → KeepsSeat x y) →
    GivesHub Inside screen told new → (told.refused ≢ None → new ≡ old) →
    (told.refused ≡ None → OnSlot R (seat_in old k) (seat_in new k)) → seat_in new k ≡ Some b →
    b.foreign ≡ false → CameFrom old k new b
drawn_from old new k b told Inside screen R keeps acts kept marks there ours = by acts.case
  where
    by : ((Inside × (told.refused ≡ None) × (new.screen ≡ screen)) ⊎ ((Inside → ⊥) × (told.refused ≡ Some Outside))) →
        CameFrom old k new b
    by (inl (inside, taken, is)) =
        let one = on_seat R (seat_in old k) (seat_in new k) b (marks taken) there in
        kept_seat old new k one.0 b (keeps one.0 b one.2) one.1 ours
    by (inr (outside, refused)) =
        unchanged old new k b (kept (some_fault told.refused Outside refused)) there ours

came : (old new : Hub) (event : HubEvent) (told : HubTold) → HubSteps old event told new → (k : ℕ)
    (b : HubSeat) → seat_in new k ≡ Some b → b.foreign ≡ false → CameFrom old k new b
came old new (Fill rect colour) told s k b there ours =
    drawn_from old new k b told _ _ (λ x y. IsNotifiedOn (notice_of (OneFill rect colour)) x y)
    (λ x y is. is.keeps) s.acts s.kept
    (s.others k tt) there ours
came old new (Put x y row) told s k b there ours =
    drawn_from old new k b told _ _ _ (λ v w is. is.keeps) s.acts s.kept (s.others k tt) there ours
came old new (Copy rect sx sy) told s k b there ours =
    drawn_from old new k b told _ _ (λ x y. IsNotifiedOn (notice_of (OneCopy rect sx sy)) x y)
    (λ x y is. is.keeps) s.acts s.kept
    (s.others k tt) there ours
came old new (Hint rect sx sy) told s k b there ours =
    drawn_from old new k b told _ _ (λ x y. IsNotifiedOn (notice_of (OneHint rect sx sy)) x y)
    (λ x y is. is.keeps) s.acts
    s.kept (s.others k tt) there ours
came old new (Join j setup) told s k b there ours = by s.acts.2 (cases_eq k j)
  where
    by : JoinsAs old j setup told new → ((k ≡ j) ⊎ (k ≢ j)) → CameFrom old k new b
    by what (inr differ) = stayed old new k b _ (s.others k (other k j differ)) there ours
    by (Beyond past refused) (inl own) =
        unchanged old new k b (s.kept (some_fault told.refused _ refused)) there ours
    by (Taken within seat was refused) (inl own) =
        unchanged old new k b (s.kept (some_fault told.refused _ refused)) there ours
    by (Joined within none taken seat now fresh) (inl own) =
        let same : seat ≡ b =
        one_seat (seat_in new k) seat b (ap (λ (i : ℕ). seat_in new i) own ∙ now) there in
        let here : IsFreshSeat old setup b =
        subst (λ (x : HubSeat). IsFreshSeat old setup x) same fresh in
        inr (subst (λ (x : Setup). IsFreshSeat old x b) (sym here.setup_is) here, s.acts.0)
came old new (Leave j) told s k b there ours = by s.acts.2 (cases_eq k j)
  where
    by : LeavesAs old j told new → ((k ≡ j) ⊎ (k ≢ j)) → CameFrom old k new b
    by what (inr differ) = stayed old new k b _ (s.others k (other k j differ)) there ours
    by (NoneLeft none refused) (inl own) =
        unchanged old new k b (s.kept (some_fault told.refused _ refused)) there ours
    by (Left seat was taken gone) (inl own) =
        absurd (not_both (seat_in new k) b there (ap (λ (i : ℕ). seat_in new i) own ∙ gone))
came old new (Of j event) told s k b there ours = by s.acts.1 (cases_eq k j)
  where
    by : HappensAs old j event told new → ((k ≡ j) ⊎ (k ≢ j)) → CameFrom old k new b
    by what (inr differ) = stayed old new k b _ (s.others k (other k j differ)) there ours
    by (NoneThere none refused mere) (inl own) =
        unchanged old new k b (s.kept (some_fault told.refused _ refused)) there ours
    by (Happened a c d was now does tells ends) (inl own) =
        let same : c ≡ b =
        one_seat (seat_in new k) c b (ap (λ (i : ℕ). seat_in new i) own ∙ now) there in
        let one = subst (λ (x : HubSeat). SeatDoes old.screen a event d x) same does in
        inl (a, ap (λ (i : ℕ). seat_in old i) own ∙ was, one.setup_is, sym one.foreign_is ∙ ours)
came old new (Foreign j bytes) told s k b there ours = by s.acts.2 (cases_eq k j)
  where
    by : ForeignAs old j bytes.items told new → ((k ≡ j) ⊎ (k ≢ j)) → CameFrom old k new b
    by what (inr differ) = stayed old new k b _ (s.others k (other k j differ)) there ours
    by (NoneFed none refused) (inl own) =
        unchanged old new k b (s.kept (some_fault told.refused _ refused)) there ours
    by (Fed a c was taken now feeds) (inl own) =
        let same : c ≡ b =
        one_seat (seat_in new k) c b (ap (λ (i : ℕ). seat_in new i) own ∙ now) there in
        absurd (not_clear c.foreign feeds.foreign (ap (λ (x : HubSeat). x.foreign) same ∙ ours))

-- ---- what is reached

reached_slot : (e : Ends) (n m : Network) (event : HubEvent) (k : ℕ) → IsReached e n →
    SlotSteps e n event k m → IsReached e m
reached_slot e n m (Fill rect colour) k r step = reached_step e n m (OfFill rect colour) r step
reached_slot e n m (Put x y row) k r step = reached_step e n m (OfPut x y row) r step
reached_slot e n m (Copy rect sx sy) k r step = reached_step e n m (OfCopy rect sx sy) r step
reached_slot e n m (Hint rect sx sy) k r step = reached_step e n m (OfHint rect sx sy) r step
reached_slot e n m (Join j setup) k r is = subst (λ (x : Network). IsReached e x) (sym is) r
reached_slot e n m (Leave j) k r is = subst (λ (x : Network). IsReached e x) (sym is) r
reached_slot e n m (Foreign j bytes) k r is = subst (λ (x : Network). IsReached e x) (sym is) r
reached_slot e n m (Of j event) k r step = by (cases_eq k j)
  where
    by : ((k ≡ j) ⊎ (k ≢ j)) → IsReached e m
    by (inl own) = reached_step e n m (event_of event) r (step.0 (sym own))
    by (inr differ) = subst (λ (x : Network). IsReached e x) (sym (step.1 (other k j differ))) r

-- ---- one step

abbrev Found : Ends → Grid Colour → HubSeat → Type 0
Found e screen b = (n : Network) × IsReached e n × SeatStandsFor e screen b n × Unit {0}

-- a seat stands for a network if it is fresh, or the one that it came from stood for one
stands_came : (old new : Hub) (k : ℕ) (b : HubSeat) → serving_in new ≡ serving_in old → HubStands old →
    ((a : HubSeat) → seat_in old k ≡ Some a → (n : Network) → AreMade (ends_of (serving_in old) b.setup) →
    IsReached (ends_of (serving_in old) b.setup) n →
    SeatStandsFor (ends_of (serving_in old) b.setup) old.screen a n →
    Found (ends_of (serving_in old) b.setup) new.screen b) → CameFrom old k new b →
    AreMade (ends_of (serving_in new) b.setup) → Found (ends_of (serving_in new) b.setup) new.screen b
stands_came old new k b same stands goes came made =
    subst (λ (v : Serving). Found (ends_of v b.setup) new.screen b) (sym same)
    (by came (subst (λ (v : Serving). AreMade (ends_of v b.setup)) same made))
  where
    by : CameFrom old k new b → AreMade (ends_of (serving_in old) b.setup) →
        Found (ends_of (serving_in old) b.setup) new.screen b
    by (inl (a, was, setup, free)) fit =
        let before = subst (λ (x : Setup). AreMade (ends_of (serving_in old) x) →
        (n : Network) × IsReached (ends_of (serving_in old) x) n
        × SeatStandsFor (ends_of (serving_in old) x) old.screen a n × Unit {0}) (sym setup)
        (stands k a was free) fit in
        goes a was before.0 fit before.1 before.2
    by (inr (fresh, screens)) fit =
        let e = ends_of (serving_in old) b.setup in (
          record { screen = old.screen; link = first_link e },
          first_reached e old.screen refl refl,
          record {
            ours = fresh.ours;
            screen_is = sym screens;
            link_is = fresh.fresh;
          },
          tt,
        )

pub stands_step : (old new : Hub) (event : HubEvent) (told : HubTold) →
    HubSteps old event told new → HubStands old → HubStands new
stands_step old new event told s stands = λ k b there ours made.
    stands_came old new k b s.made stands
    (λ a was n fit reached stood.
    let e = ends_of (serving_in old) b.setup in
    let one = s.does k a b was there ours e n fit reached stood in
    (one.0, reached_slot e n one.0 event k reached one.1, one.3, tt))
    (came old new event told s k b there ours) made

-- after a drawing
pub stands_drawn : (old new : Hub) (s : Stroke) (told : HubTold) → DrawsHub old s told new → HubStands old →
    HubStands new
stands_drawn old new s told d stands = λ k b there ours made.
    stands_came old new k b d.made stands
    (λ a was n fit reached stood.
    let e = ends_of (serving_in old) b.setup in
    let one = d.does k a b was there e n stood in (one.0, reached_stroke e n one.0 s reached one.1, one.2, tt))
    (drawn_from old new k b told _ _ (λ x y. IsNotifiedOn (notice_of s) x y) (λ x y is. is.keeps) d.acts d.kept
    (λ taken. d.slots taken k) there ours)
    made

-- of a hub with no viewers
pub empty_stands : (hub : Hub) → IsEmptyHub hub → HubStands hub
empty_stands hub none = λ k seat there ours made.
    absurd (not_both (seat_in hub k) seat there (none k))

-- ---- runs

pub runs_more : (old mid new : Hub) (events : List HubEvent) (event : HubEvent) (told : HubTold) →
    RunsHub old events mid → HubSteps mid event told new → RunsHub old (events ++ event ∷ []) new
runs_more old mid new [] event told is step =
    (new, told, subst (λ (h : Hub). HubSteps h event told new) is step, refl)
runs_more old mid new (first ∷ events) event told (next, one, steps, rest) step =
    (next, one, steps, runs_more next mid new events event told rest step)

-- what holds of all that is reached holds of each slot
pub each_holds : (hub : Hub) (Holds : Ends → HubSeat → Network → Type 0) → HubStands hub →
    ((e : Ends) (seat : HubSeat) (n : Network) → IsReached e n → SeatStandsFor e hub.screen seat n →
    Holds e seat n) → Each hub Holds
each_holds hub Holds stands holds = λ k seat there ours made.
    let one = stands k seat there ours made in
    (one.0, one.1, one.2, holds _ seat one.0 one.1 one.2)

pub none_failed : (e : Ends) (screen : Grid Colour) (seat : HubSeat) (n : Network) →
    SeatStandsFor e screen seat n →
    (server_fault_of seat.link ≡ None) × (viewer_fault_of seat.link ≡ None)
none_failed e screen seat n stands = (
  session_going e.serving n.screen seat.link.session _ _ stands.link_is.carries.server_is,
  viewer_going e.viewing seat.link.viewer _ _ stands.link_is.carries.viewer_is,
)
