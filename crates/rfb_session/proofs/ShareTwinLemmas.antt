-- Seats that are twins, and what becomes of a share whose twins were given an update.
use Rattle.std.proofs.Common.{◌≡◌, ℕ, ◌||◌, ◌⊎◌, true, false}
use Rattle.std.proofs.Common.{nat_eq, List, Option, Some}
use Rattle.std.proofs.Common.{None, Bool, refl, sym, ap, subst, ◌∙◌, arith, inl, inr}
use Rattle.std.proofs.lemmas.Bool.{cases_eq, both_ways, eqb-true}
use Rattle.rfb_pixel.specs.declared.colour.Colour.{Colour}
use Rattle.rfb_picture.specs.Grid.{Grid}
use Rattle.rfb_picture.specs.Places.{has_bit}
use Rattle.rfb_server.specs.declared.session.Session.{Session}
use Rattle.rfb_server.specs.declared.session.input.progress.Progress.{Progress}
use Rattle.rfb_server.specs.declared.session.input.progress.Progress.TheVariants.{Handshake, Head, Encodings, CutText}
use Rattle.rfb_server.specs.declared.session.input.progress.Progress.TheVariants.{Failed}
use Rattle.rfb_server.specs.KnownScreen.{Follows}
use Rattle.rfb_server.specs.Progress.{is_ready, fault_in}
use Rattle.rfb_server.specs.Room.{room_for, update_room}
use Rattle.rfb_server.specs.Twins.{AreTwins}
use Rattle.rfb_session.specs.declared.share.seat.ShareSeat.{ShareSeat}
use Rattle.rfb_server.specs.UpdateCall.{NoneDue}
use Rattle.rfb_session.specs.ShareSeats.{session_at, Sends}
use Rattle.rfb_session.specs.ShareTwins.{IsTwinIn, IsTwinOf, IsToBeGiven, IsHeirOf}
use Rattle.rfb_session.specs.ShareTwins.{IsGivenTo, IsShared, IsSharedIn}
use Rattle.rfb_session.specs.Slots.{seat_at}
use Rattle.rfb_session.specs.ShareSlots.{ComposesIn}
use Rattle.rfb_session.specs.ShareWork.{Rests, OthersRest}
use Rattle.rfb_session.specs.declared.share.event.Composing.TheVariants.{Composed}
use Rattle.rfb_session.proofs.SlotLemmas.{one_seat, other}

-- a session that is ready has not failed
pub ready_going : (progress : Progress) → is_ready progress ≡ true → fault_in progress ≡ None
ready_going Handshake e = refl
ready_going (Head bytes) e = refl
ready_going (Encodings left number list) e = refl
ready_going (CutText text_length left kept) e = refl
ready_going (Failed fault) e = absurd cc

-- twins take as much room
pub same_room : (was session : Session) → AreTwins was session → update_room was ≡ update_room session
same_room was session twin = ap room_for (sym twin.notes_are)

pub or_true : (a b : Bool) → (a || b) ≡ true → (a ≡ true) ⊎ (b ≡ true)
or_true true b e = inl refl
or_true false b e = inr e

pub or_false : (a b : Bool) → (a || b) ≡ false → (a ≡ false) × (b ≡ false)
or_false true b e = absurd cc
or_false false b e = (refl, e)

pub none_of_or : (a b : Bool) → a ≡ false → b ≡ false → (a || b) ≡ false
none_of_or a b e f = rw (e, f) refl

-- ---- who is a twin

pub twins_more : (slots : List (Option ShareSeat)) (own n twins one_more more : ℕ) (one : ShareSeat) →
    seat_at own slots ≡ Some one → ((k : ℕ) → has_bit more k ≡ (has_bit twins k || has_bit one_more k)) →
    ((k : ℕ) → has_bit one_more k ≡ true → (k ≡ n) × (nat_eq k own ≡ false) × IsTwinOf one
    (seat_at n slots)) →
    ((k : ℕ) → has_bit twins k ≡ true → IsTwinIn slots own k) →
    (k : ℕ) → has_bit more k ≡ true → IsTwinIn slots own k
twins_more slots own n twins one_more more one is bits here before k e =
    elim (or_true (has_bit twins k) (has_bit one_more k) (sym (bits k) ∙ e)) [
      | inl old ↦ before k old
      | inr new ↦
          let (same, apart, twin) = here k new in
          record {
            one = one;
            is_one = is;
            apart = apart;
            twin = subst (λ (j : ℕ). IsTwinOf one (seat_at j slots)) (sym same) twin;
          }
    ]

-- ---- what is shared

-- an update that was sent still is
sends_shared : (screen : Grid Colour) (old sent now : ShareSeat) → Sends screen old sent → IsShared sent now →
    Sends screen old now
sends_shared screen old sent now sends shared = record {
  going = sends.going;
  written = sends.written;
  update = rw (shared.session, shared.waits) sends.update;
  room = rw (shared.waits) sends.room;
  memory = omega (arith, sends.memory, shared.memory);
  spent = rw (shared.session) sends.spent;
}

-- and is what its twins are to be given
pub heir_shared : (screen : Grid Colour) (sent now : ShareSeat) (slot : Option ShareSeat) → IsShared sent now →
    IsHeirOf screen sent slot → IsHeirOf screen now slot
heir_shared screen sent now slot shared heir = record {
  seat = heir.seat;
  is_seat = heir.is_seat;
  follows = heir.follows;
  twin = record {
    was = heir.twin.was;
    twins = heir.twin.twins;
    sends = sends_shared screen heir.twin.was sent now heir.twin.sends shared;
  };
}

-- whoever sits there follows the screen, and rests, as before
follows_shared : (screen : Grid Colour) (old new : Option ShareSeat) (seat : ShareSeat) → IsSharedIn old new →
    new ≡ Some seat → ((was : ShareSeat) → old ≡ Some was → Follows screen (session_at was)) →
    Follows screen (session_at seat)
follows_shared screen None new seat shared is follow = cc (shared, is)
follows_shared screen (Some was) None seat shared is follow = absurd shared
follows_shared screen (Some was) (Some now) seat shared is follow =
    subst (λ (s : ShareSeat). Follows screen (session_at s)) (one_seat (Some now) now seat refl is)
    (subst (λ (s : Session). Follows screen s) (sym shared.session) (follow was refl))

rests_shared : (screen : Grid Colour) (old new : Option ShareSeat) (seat : ShareSeat) → IsSharedIn old new →
    new ≡ Some seat → ((was : ShareSeat) → old ≡ Some was → Rests screen was) → Rests screen seat
rests_shared screen None new seat shared is rest = cc (shared, is)
rests_shared screen (Some was) None seat shared is rest = absurd shared
rests_shared screen (Some was) (Some now) seat shared is rest =
    subst (λ (s : ShareSeat). Rests screen s) (one_seat (Some now) now seat refl is) (record {
      written = shared.waits ∙ (rest was refl).written;
      none = subst (λ (s : Session). NoneDue screen s) (sym shared.session) (rest was refl).none;
    })

-- ---- a set of one seat

pub only_one : (none one n number : ℕ) → number ≡ n → ((k : ℕ) → has_bit none k ≡ false) →
    ((k : ℕ) → has_bit one k ≡ (has_bit none k || nat_eq k number)) → (k : ℕ) → has_bit one k ≡ true →
    k ≡ n
only_one none one n number same clear bits k e =
    elim (or_true (has_bit none k) (nat_eq k number) (sym (bits k) ∙ e)) [
      | inl in_none ↦ absurd (both_ways (has_bit none k) (clear k) in_none)
      | inr is ↦ eqb-true k number is ∙ same
    ]

-- ---- a share

-- a twin is to be given what was composed
pub to_give : (screen : Grid Colour) (slots new : List (Option ShareSeat)) (own k : ℕ) → IsTwinIn slots own k →
    ((j : ℕ) (seat : ShareSeat) → seat_at j slots ≡ Some seat → Follows screen (session_at seat)) →
    ComposesIn screen Composed (seat_at own slots) (seat_at own new) →
    (nat_eq k own ≡ false → seat_at k new ≡ seat_at k slots) → IsToBeGiven screen new own k
to_give screen slots new own k twin follow composed same =
    by (seat_at own new) refl
    (subst (λ (s : Option ShareSeat). ComposesIn screen Composed s (seat_at own new)) twin.is_one composed)
  where
    by : (now : Option ShareSeat) → seat_at own new ≡ now → ComposesIn screen Composed (Some twin.one) now →
        IsToBeGiven screen new own k
    by None e sends = absurd sends
    by (Some sent) e sends = record {
      apart = twin.apart;
      heir = record {
        sent = sent;
        is_sent = e;
        heir = record {
          seat = twin.twin.other;
          is_seat = same twin.apart ∙ twin.twin.is_other;
          follows = follow k twin.twin.other twin.twin.is_other;
          twin = record {
            was = twin.one;
            twins = twin.twin.twins screen (follow own twin.one twin.is_one)
                (follow k twin.twin.other twin.twin.is_other);
            sends = sends;
          };
        };
      };
    }

-- whoever sits at a seat follows the screen after an update is given
pub follow_given : (screen : Grid Colour) (own given : ℕ) (old new : List (Option ShareSeat)) →
    IsGivenTo screen own old new given →
    ((k : ℕ) (seat : ShareSeat) → seat_at k old ≡ Some seat → Follows screen (session_at seat)) →
    (k : ℕ) (seat : ShareSeat) → seat_at k new ≡ Some seat → Follows screen (session_at seat)
follow_given screen own given old new is follow k seat there = by (has_bit given k) refl
  where
    by : (b : Bool) → has_bit given k ≡ b → Follows screen (session_at seat)
    by true e = is.follows k e seat there
    by false e = elim (cases_eq k own) [
      | inl here ↦ follows_shared screen (seat_at own old) (seat_at own new) seat is.own_shared
          (ap (λ (j : ℕ). seat_at j new) (sym here) ∙ there) (follow own)
      | inr differ ↦ follow k seat (sym (is.others k (other k own differ) e) ∙ there)
    ]

-- and seats that were given none and are not stirred rest
pub rest_given : (screen : Grid Colour) (own given bits more : ℕ) (old new : List (Option ShareSeat)) →
    IsGivenTo screen own old new given → ((k : ℕ) → has_bit more k ≡ (has_bit bits k || has_bit given k)) →
    OthersRest screen old bits → OthersRest screen new more
rest_given screen own given bits more old new is bits_are rest k seat clear there =
    let (none, not_given) = or_false (has_bit bits k) (has_bit given k) (sym (bits_are k) ∙ clear) in
    elim (cases_eq k own) [
      | inl here ↦ rests_shared screen (seat_at own old) (seat_at own new) seat is.own_shared
          (ap (λ (j : ℕ). seat_at j new) (sym here) ∙ there)
          (λ was is_was. rest own was (subst (λ (j : ℕ). has_bit bits j ≡ false) here none) is_was)
      | inr differ ↦ rest k seat none (sym (is.others k (other k own differ) not_given) ∙ there)
    ]
