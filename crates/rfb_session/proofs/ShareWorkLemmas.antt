-- The seats of a share that have no work, from one call to the next.
use Rattle.std.proofs.Common.{◌≡◌, ◌≢◌, ◌⊎◌, ◌<◌, ℕ, zero, suc, Bool, true, false, not, ◌&&◌, ◌||◌, nat_eq}
use Rattle.std.proofs.Common.{List, [], drop, length, set, Option, Some, None, inl, inr, refl, sym, ap}
use Rattle.std.proofs.Common.{◌∙◌, subst}
use Rattle.std.proofs.Math.Logic.{∥∥₁_elim}
use Rattle.std.proofs.lemmas.Bool.{cases_eq}
use Rattle.std.proofs.lemmas.List.{length-set}
use Rattle.rfb_pixel.specs.declared.colour.Colour.{Colour}
use Rattle.rfb_picture.specs.Grid.{Grid}
use Rattle.rfb_picture.specs.Places.{has_bit}
use Rattle.rfb_server.specs.declared.session.Session.{Session}
use Rattle.rfb_server.specs.Model.{session_fault, with_screen}
use Rattle.rfb_server.specs.UpdateCall.{OwesUpdate, NoneDue}
use Rattle.rfb_server.proofs.ServerLaws.{session_over}
use Rattle.rfb_session.specs.declared.share.Share.{Share}
use Rattle.rfb_session.specs.declared.share.event.Composing.{Composing}
use Rattle.rfb_session.specs.declared.share.event.Composing.TheVariants.{Composed, NotDue}
use Rattle.rfb_session.specs.declared.share.event.Composing.TheVariants.{Waiting, NoSuchSeat}
use Rattle.rfb_session.specs.declared.share.seat.ShareSeat.{ShareSeat}
use Rattle.rfb_session.specs.Share.{seat_in, screen_of, waiting_for}
use Rattle.rfb_session.specs.ShareSeats.{session_at, WritesAt}
use Rattle.rfb_session.specs.ShareSlots.{ComposesIn, WantsRoomIn}
use Rattle.rfb_session.specs.ShareSteps.{HasNoWork, IsIdle}
use Rattle.rfb_session.specs.ShareWork.{Rests, RestsIn, OthersRest}
use Rattle.rfb_session.specs.Slots.{seat_at, OnSlot}
use Rattle.rfb_session.proofs.SlotLemmas.{below, not_both, not_clear, on_seat, other}
use Rattle.rfb_session.proofs.SlotLemmas.{seat_set_same, seat_set_other}

-- ---- bits

none_of_two : (a b : Bool) → (a || b) ≡ false → (a ≡ false) × (b ≡ false)
none_of_two true b clear = absurd (not_clear true refl clear)
none_of_two false b clear = (refl, clear)

kept_but : (a b : Bool) → b ≡ false → (a && not b) ≡ false → a ≡ false
kept_but true true off clear = absurd (not_clear true refl off)
kept_but true false off clear = clear
kept_but false b off clear = refl

-- ---- the seats that are not in the set

-- where all are, there is none
pub rest_of_all : (screen : Grid Colour) (seats : List (Option ShareSeat)) (bits : ℕ) →
    length seats ≡ 8 → ((k : ℕ) → k < 8 → has_bit bits k ≡ true) → OthersRest screen seats bits
rest_of_all screen seats bits eight all k seat clear is =
    absurd (not_clear (has_bit bits k)
    (all k (subst (λ (n : ℕ). k < n) eight (below seats k seat is))) clear)

-- where no seat is taken, too
pub rest_of_none : (screen : Grid Colour) (seats : List (Option ShareSeat)) (bits : ℕ) →
    ((k : ℕ) → seat_at k seats ≡ None) → OthersRest screen seats bits
rest_of_none screen seats bits none k seat clear is =
    absurd (not_both (seat_at k seats) seat is (none k))

-- a seat is in the set now
pub rest_more : (screen : Grid Colour) (seats : List (Option ShareSeat)) (bits more number : ℕ) →
    ((k : ℕ) → has_bit more k ≡ (has_bit bits k || nat_eq k number)) → OthersRest screen seats bits →
    OthersRest screen seats more
rest_more screen seats bits more number bits_are rest k seat clear is =
    rest k seat (none_of_two (has_bit bits k) (nat_eq k number) (sym (bits_are k) ∙ clear)).0 is

-- and whoever sits there now
pub rest_with : (screen : Grid Colour) (seats : List (Option ShareSeat)) (bits more place number : ℕ)
    (x : Option ShareSeat) → place ≡ number →
    ((k : ℕ) → has_bit more k ≡ (has_bit bits k || nat_eq k number)) → OthersRest screen seats bits →
    OthersRest screen (set seats place x) more
rest_with screen seats bits more place number x same bits_are rest k seat clear is =
    let two = none_of_two (has_bit bits k) (nat_eq k number) (sym (bits_are k) ∙ clear) in
    let differ : nat_eq k place ≡ false = ap (λ (n : ℕ). nat_eq k n) same ∙ two.1 in
    rest k seat two.0 (sym (seat_set_other seats place k x differ) ∙ is)

-- one that was is not any more: it rests
pub rest_without : (screen : Grid Colour) (seats : List (Option ShareSeat))
    (bits less place number : ℕ) (x : Option ShareSeat) → place ≡ number → place < length seats →
    length seats ≡ 8 →
    ((k : ℕ) → k < 8 → has_bit less k ≡ (has_bit bits k && not (nat_eq k number))) →
    OthersRest screen (set seats place x) bits →
    ((seat : ShareSeat) → x ≡ Some seat → Rests screen seat) →
    OthersRest screen (set seats place x) less
rest_without screen seats bits less place number x same within eight bits_are rest mine k seat
    clear is = by (cases_eq k place)
  where
    low : k < 8
    low = subst (λ (n : ℕ). k < n) (length-set seats place x ∙ eight)
        (below (set seats place x) k seat is)

    by : ((k ≡ place) ⊎ (k ≢ place)) → Rests screen seat
    by (inl own) =
        mine seat (sym (seat_set_same seats place x within)
        ∙ (ap (λ (j : ℕ). seat_at j (set seats place x)) (sym own) ∙ is))
    by (inr differ) =
        let apart : nat_eq k number ≡ false =
        sym (ap (λ (n : ℕ). nat_eq k n) same) ∙ other k place differ in
        rest k seat (kept_but (has_bit bits k) (nat_eq k number) apart (sym (bits_are k low) ∙ clear))
        is

-- a seat is emptied
pub rest_left : (screen : Grid Colour) (seats : List (Option ShareSeat)) (bits place : ℕ)
    (x : Option ShareSeat) → place < length seats → x ≡ None → OthersRest screen seats bits →
    OthersRest screen (set seats place x) bits
rest_left screen seats bits place x within gone rest k seat clear is = by (cases_eq k place)
  where
    by : ((k ≡ place) ⊎ (k ≢ place)) → Rests screen seat
    by (inl own) =
        absurd (not_both x seat (sym (seat_set_same seats place x within)
        ∙ (ap (λ (j : ℕ). seat_at j (set seats place x)) (sym own) ∙ is)) gone)
    by (inr differ) =
        rest k seat clear (sym (seat_set_other seats place k x (other k place differ)) ∙ is)

-- all others are
pub rest_emptied : (screen : Grid Colour) (old new : List (Option ShareSeat)) (bits own : ℕ) →
    OthersRest screen old bits → seat_at own new ≡ seat_at own old →
    ((k : ℕ) → nat_eq k own ≡ false → seat_at k new ≡ None) → OthersRest screen new bits
rest_emptied screen old new bits own rest same emptied k seat clear is = by (cases_eq k own)
  where
    by : ((k ≡ own) ⊎ (k ≢ own)) → Rests screen seat
    by (inl here) =
        rest k seat clear (ap (λ (j : ℕ). seat_at j old) here
        ∙ (sym same ∙ (ap (λ (j : ℕ). seat_at j new) (sym here) ∙ is)))
    by (inr differ) = absurd (not_both (seat_at k new) seat is (emptied k (other k own differ)))

-- bytes are written, where some waited
drop_none : (n : ℕ) → drop {A = ℕ} n [] ≡ []
drop_none zero = refl
drop_none (suc n) = refl

pub rest_written : (screen : Grid Colour) (seats : List (Option ShareSeat)) (bits place count : ℕ)
    (x : Option ShareSeat) → place < length seats →
    OnSlot (λ a b. WritesAt count a b) (seat_at place seats) x → OthersRest screen seats bits →
    OthersRest screen (set seats place x) bits
rest_written screen seats bits place count x within writes rest k seat clear is =
    by (cases_eq k place)
  where
    by : ((k ≡ place) ⊎ (k ≢ place)) → Rests screen seat
    by (inl own) =
        let now = sym (seat_set_same seats place x within)
        ∙ (ap (λ (j : ℕ). seat_at j (set seats place x)) (sym own) ∙ is) in
        let one = on_seat (λ a b. WritesAt count a b) (seat_at place seats) x seat writes now in
        let was = rest k one.0 clear (ap (λ (j : ℕ). seat_at j seats) own ∙ one.1) in
        record {
          written = one.2.waits ∙ (ap (λ (xs : List ℕ). drop count xs) was.written
              ∙ drop_none count);
          none = subst (λ (s : Session). NoneDue screen s) (sym one.2.session) was.none;
        }
    by (inr differ) =
        rest k seat clear (sym (seat_set_other seats place k x (other k place differ)) ∙ is)

-- ---- composing

-- after a composing that found nothing to do a seat rests
pub idle_rests : (screen : Grid Colour) (told : Composing) (a b : Option ShareSeat) →
    ComposesIn screen told a b → IsIdle told → (seat : ShareSeat) → b ≡ Some seat →
    Rests screen seat
idle_rests screen NotDue (Some a) (Some b) composes idle seat is =
    subst (λ (s : ShareSeat). Rests screen s) (one is)
    (record { written = composes.none.appended; none = composes.none.still })
  where
    one : Some b ≡ Some seat → b ≡ seat
    one e = cc
idle_rests screen NotDue (Some a) None composes idle seat is = absurd composes
idle_rests screen NotDue None b composes idle seat is = absurd composes
idle_rests screen NoSuchSeat (Some a) (Some b) composes idle seat is = absurd composes
idle_rests screen NoSuchSeat (Some a) None composes idle seat is = absurd composes
idle_rests screen NoSuchSeat None (Some b) composes idle seat is = absurd composes
idle_rests screen NoSuchSeat None None composes idle seat is = absurd (apart is)
  where
    apart : None ≡ Some seat → ⊥
    apart e = cc
idle_rests screen Composed a b composes idle seat is = absurd idle
idle_rests screen Waiting a b composes idle seat is = absurd idle

-- a session that has not failed stands for something, so it can't owe one where none is due
pub not_owed : (screen : Grid Colour) (seat : ShareSeat) → session_fault (session_at seat) ≡ None →
    NoneDue screen (session_at seat) → OwesUpdate screen (session_at seat) → ⊥
not_owed screen seat going none owes = ∥∥₁_elim seat.roomy (λ x y. absurd x) (λ room.
    let one = room going in
    let stands = session_over one.serving one.screen screen seat.session one.state one.prefix
    one.stands in
    none one.serving (with_screen screen one.state) one.prefix stands
    (owes one.serving (with_screen screen one.state) one.prefix stands))

-- where a seat rests, composing finds nothing to do
seat_idle : (screen : Grid Colour) (told : Composing) (seat : ShareSeat) (b : Option ShareSeat) →
    Rests screen seat → ComposesIn screen told (Some seat) b → IsIdle told
seat_idle screen Composed seat (Some b) rests sends =
    not_owed screen seat sends.going rests.none
    (λ serving s prefix stands. (sends.update.sent serving s prefix stands).update.due)
seat_idle screen Composed seat None rests sends = sends
seat_idle screen NotDue seat b rests composes = tt
seat_idle screen Waiting seat (Some b) rests waits = waits.some rests.written
seat_idle screen Waiting seat None rests waits = waits
seat_idle screen NoSuchSeat seat b rests composes = tt

none_idle : (screen : Grid Colour) (told : Composing) (b : Option ShareSeat) →
    ComposesIn screen told None b → IsIdle told
none_idle screen Composed b composes = absurd composes
none_idle screen NotDue b composes = tt
none_idle screen Waiting b composes = absurd composes
none_idle screen NoSuchSeat b composes = tt

seat_spared : (screen : Grid Colour) (seat : ShareSeat) (b : Option ShareSeat) →
    Rests screen seat → WantsRoomIn screen (Some seat) b → ⊥
seat_spared screen seat (Some b) rests wants = not_owed screen seat wants.going rests.none wants.due
seat_spared screen seat None rests wants = wants

none_spared : (screen : Grid Colour) (b : Option ShareSeat) → WantsRoomIn screen None b → ⊥
none_spared screen b wants = wants

-- so a seat that is not in the set has no work
pub no_work : (share : Share) (k : ℕ) → OthersRest (screen_of share) share.seats share.stirred →
    has_bit share.stirred k ≡ false → HasNoWork share k
no_work share k rest clear = by (seat_in share k) refl
  where
    by : (o : Option ShareSeat) → seat_in share k ≡ o → HasNoWork share k
    by None is = record {
      written = ap (λ (o : Option ShareSeat). waiting_for o) is;
      idle = λ told new composes.
          none_idle (screen_of share) told (seat_in new k)
          (subst (λ (o : Option ShareSeat). ComposesIn (screen_of share) told o (seat_in new k)) is
          composes.seat);
      spared = λ new wants.
          none_spared (screen_of share) (seat_in new k)
          (subst (λ (o : Option ShareSeat). WantsRoomIn (screen_of share) o (seat_in new k)) is
          wants.seat);
    }
    by (Some seat) is =
        let rests = rest k seat clear is in
        record {
          written = ap (λ (o : Option ShareSeat). waiting_for o) is ∙ rests.written;
          idle = λ told new composes.
              seat_idle (screen_of share) told seat (seat_in new k) rests
              (subst (λ (o : Option ShareSeat). ComposesIn (screen_of share) told o (seat_in new k)) is
              composes.seat);
          spared = λ new wants.
              seat_spared (screen_of share) seat (seat_in new k) rests
              (subst (λ (o : Option ShareSeat). WantsRoomIn (screen_of share) o (seat_in new k)) is
              wants.seat);
        }

-- and whoever sits there rests
pub rests_in : (share : Share) (k : ℕ) → OthersRest (screen_of share) share.seats share.stirred →
    has_bit share.stirred k ≡ false → RestsIn (screen_of share) (seat_in share k)
rests_in share k rest clear = by (seat_in share k) refl
  where
    by : (o : Option ShareSeat) → seat_in share k ≡ o → RestsIn (screen_of share) (seat_in share k)
    by None is = subst (λ (o : Option ShareSeat). RestsIn (screen_of share) o) (sym is) tt
    by (Some seat) is =
        subst (λ (o : Option ShareSeat). RestsIn (screen_of share) o) (sym is) (rest k seat clear is)
