-- What is so of a share between its calls is so again after a step of one.
use Rattle.std.proofs.Common.{◌⊎◌, ◌≢◌, inl, inr, ap, ◌≡◌, ◌≤◌, ◌<◌, ◌||◌}
use Rattle.std.proofs.Common.{◌&&◌, ◌∙◌, not, nat_eq, ℕ, false, List, length, set}
use Rattle.std.proofs.Common.{Option, Some, None, sym, subst, arith, slice_index_or}
use Rattle.std.proofs.lemmas.Bool.{cases_eq}
use Rattle.std.proofs.lemmas.List.{length-set}
use Rattle.std.specs.Option.{ForSome}
use Rattle.rfb_picture.specs.Grid.{Grid}
use Rattle.rfb_picture.specs.Places.{has_bit}
use Rattle.rfb_pixel.specs.declared.colour.Colour.{Colour}
use Rattle.rfb_server.specs.KnownScreen.{Follows}
use Rattle.rfb_server.specs.Model.{notes_in}
use Rattle.rfb_server.specs.declared.session.Session.{Session}
use Rattle.rfb_session.specs.declared.share.Share.{Share}
use Rattle.rfb_session.specs.declared.share.screen.Screen.{Screen}
use Rattle.rfb_session.specs.declared.share.seat.ShareSeat.{ShareSeat}
use Rattle.rfb_session.specs.declared.share.kin.Kin.{Kin}
use Rattle.rfb_session.specs.ShareKin.{KnowAlike, StaysOrLeaves, StillKnows}
use Rattle.rfb_session.specs.ShareScreen.{shown_on}
use Rattle.rfb_session.specs.ShareSeats.{WritesAt}
use Rattle.rfb_session.specs.ShareWork.{OthersRest, Rests}
use Rattle.rfb_session.specs.Slots.{OnSlot, seat_at}
use Rattle.rfb_session.proofs.FollowLemmas.{AllFollow, all_set, all_emptied}
use Rattle.rfb_session.proofs.KinLemmas.{alike_heard, alike_set, alike_still, still_gone, still_same}
use Rattle.rfb_session.proofs.ShareLemmas.{none_follows}
use Rattle.rfb_session.proofs.ShareWorkLemmas.{rest_more, rest_with, rest_without}
use Rattle.rfb_session.proofs.ShareWorkLemmas.{rest_left, rest_written, rest_emptied}
use Rattle.rfb_session.proofs.SlotLemmas.{at_slot, each_seat, on_seat, other}

-- what is so of the screen of a share, its seats, the set of those that may have work, and which are kin
pub record IsSound (screen : Screen) (seats : List (Option ShareSeat)) (stirred : ℕ) (kin : Kin)
    : Type 0 where
  pub eight : length seats ≡ 8
  pub columns : (shown_on screen).width ≤ 4096
  pub rows : (shown_on screen).height ≤ 4096
  pub follow : AllFollow (λ seat. seat.session) (shown_on screen) seats
  pub rest : OthersRest (shown_on screen) seats stirred
  pub alike : KnowAlike kin seats

module _ (s : Share) where
  -- its screen is the one that is named
  pub sound_seen : (screen : Screen) → s.screen ≡ screen → IsSound screen s.seats s.stirred s.kin
  sound_seen screen is =
      subst (λ (x : Screen). IsSound x s.seats s.stirred s.kin) is
      (record {
        eight = s.eight;
        columns = s.columns;
        rows = s.rows;
        follow = s.follow;
        rest = s.rest;
        alike = s.alike;
      })

  -- others are kin
  pub sound_kin : (kin : Kin) → KnowAlike kin s.seats → IsSound s.screen s.seats s.stirred kin
  sound_kin kin alike = record {
    eight = s.eight;
    columns = s.columns;
    rows = s.rows;
    follow = s.follow;
    rest = s.rest;
    alike = alike;
  }

  -- a seat more may have work
  pub sound_more : (more number : ℕ) →
      ((k : ℕ) → has_bit more k ≡ (has_bit s.stirred k || nat_eq k number)) →
      (kin : Kin) → KnowAlike kin s.seats → IsSound s.screen s.seats more kin
  sound_more more number bits_are kin alike = record {
    eight = s.eight;
    columns = s.columns;
    rows = s.rows;
    follow = s.follow;
    rest = rest_more (shown_on s.screen) s.seats s.stirred more number bits_are s.rest;
    alike = alike;
  }

  module _ (place : ℕ) (below : place < 8) where
    within : place < length s.seats
    within = omega (arith, s.eight)

    -- who sits at a place follows the screen
    pub place_follows : (d : Option ShareSeat) →
        ForSome (slice_index_or s.seats place d) (λ seat. Follows (shown_on s.screen) seat.session)
    place_follows d seat is =
        each_seat (λ (y : ShareSeat). Follows (shown_on s.screen) y.session) s.seats s.follow place seat
        (sym (at_slot s.seats place d within) ∙ is)

    module _ (slot : Option ShareSeat) where
      -- another sits at a place: its session follows the screen, and who is not in the set rests
      pub sound_put : (stirred : ℕ) → ForSome slot (λ seat. Follows (shown_on s.screen) seat.session) →
          OthersRest (shown_on s.screen) (set s.seats place slot) stirred →
          (kin : Kin) → KnowAlike kin (set s.seats place slot) →
          IsSound s.screen (set s.seats place slot) stirred kin
      sound_put stirred follows rest kin alike = record {
        eight = length-set s.seats place slot ∙ s.eight;
        columns = s.columns;
        rows = s.rows;
        follow = all_set (λ seat. seat.session) (shown_on s.screen) s.seats place slot within s.follow follows;
        rest = rest;
        alike = alike;
      }

      -- who sits there still knows what was known there
      alike_there : StillKnows (seat_at place s.seats) slot → KnowAlike s.kin (set s.seats place slot)
      alike_there still = alike_set s.kin s.seats place slot within still s.alike

      pub alike_at : (d : Option ShareSeat) → StillKnows (slice_index_or s.seats place d) slot →
          KnowAlike s.kin (set s.seats place slot)
      alike_at d still =
          alike_there (subst (λ (o : Option ShareSeat). StillKnows o slot) (at_slot s.seats place d within) still)

      -- after bytes of who sits there
      pub alike_after : (d : Option ShareSeat) (after : Kin) →
          StaysOrLeaves place s.kin after (slice_index_or s.seats place d) slot →
          KnowAlike after (set s.seats place slot)
      alike_after d after kin =
          alike_heard s.kin after s.seats place slot within
          (subst (λ (o : Option ShareSeat). StaysOrLeaves place s.kin after o slot)
          (at_slot s.seats place d within) kin) s.alike

      -- and the place is in the set now
      pub sound_with : (more number : ℕ) → place ≡ number →
          ((k : ℕ) → has_bit more k ≡ (has_bit s.stirred k || nat_eq k number)) →
          ForSome slot (λ seat. Follows (shown_on s.screen) seat.session) →
          (kin : Kin) → KnowAlike kin (set s.seats place slot) →
          IsSound s.screen (set s.seats place slot) more kin
      sound_with more number same bits_are follows =
          sound_put more follows
          (rest_with (shown_on s.screen) s.seats s.stirred more place number slot same bits_are s.rest)

      -- where what is put there follows each screen that what was there follows
      pub sound_heard : (more number : ℕ) (d : Option ShareSeat) → place ≡ number →
          ((k : ℕ) → has_bit more k ≡ (has_bit s.stirred k || nat_eq k number)) →
          ((screen : Grid Colour) →
          ForSome (slice_index_or s.seats place d) (λ seat. Follows screen seat.session) →
          ForSome slot (λ seat. Follows screen seat.session)) →
          (kin : Kin) → KnowAlike kin (set s.seats place slot) →
          IsSound s.screen (set s.seats place slot) more kin
      sound_heard more number d same bits_are follows =
          sound_with more number same bits_are (follows (shown_on s.screen) (place_follows d))

      -- who sits there now rests, so the place is in the set no more
      pub sound_rests : (more less number : ℕ) → place ≡ number →
          ((k : ℕ) → has_bit more k ≡ (has_bit s.stirred k || nat_eq k number)) →
          ((k : ℕ) → k < 8 → has_bit less k ≡ (has_bit more k && not (nat_eq k number))) →
          ForSome slot (λ seat. Follows (shown_on s.screen) seat.session) →
          ((seat : ShareSeat) → slot ≡ Some seat → Rests (shown_on s.screen) seat) →
          (kin : Kin) → KnowAlike kin (set s.seats place slot) →
          IsSound s.screen (set s.seats place slot) less kin
      sound_rests more less number same more_are less_are follows rests =
          sound_put less follows
          (rest_without (shown_on s.screen) s.seats more less place number slot same within s.eight less_are
          (rest_with (shown_on s.screen) s.seats s.stirred more place number slot same more_are s.rest) rests)

      -- a place is emptied
      pub sound_left : slot ≡ None → IsSound s.screen (set s.seats place slot) s.stirred s.kin
      sound_left gone =
          sound_put s.stirred (λ seat is. none_follows (shown_on s.screen) slot seat gone is)
          (rest_left (shown_on s.screen) s.seats s.stirred place slot within gone s.rest)
          s.kin (alike_there (still_gone _ slot gone))

      -- bytes of who sits there are written
      pub sound_written : (count : ℕ) (d : Option ShareSeat) →
          OnSlot (λ a b. WritesAt count a b) (slice_index_or s.seats place d) slot →
          IsSound s.screen (set s.seats place slot) s.stirred s.kin
      sound_written count d writes =
          sound_put s.stirred
          (λ seat is. let one = on_seat (λ a b. WritesAt count a b) _ slot seat writes is in
          subst (λ (t : Session). Follows (shown_on s.screen) t) (sym one.2.session)
          (place_follows d one.0 one.1))
          (rest_written (shown_on s.screen) s.seats s.stirred place count slot within
          (subst (λ (o : Option ShareSeat). OnSlot (λ a b. WritesAt count a b) o slot)
          (at_slot s.seats place d within) writes) s.rest)
          s.kin (alike_there (λ seat is. let one = on_seat (λ a b. WritesAt count a b) _ slot seat writes is in (
            one.0,
            sym (at_slot s.seats place d within) ∙ one.1,
            ap (λ (t : Session). (notes_in t).known) one.2.session,
          )))

-- all seats but one are emptied
pub sound_emptied : (screen : Screen) (old new : List (Option ShareSeat)) (stirred own : ℕ) (kin : Kin) →
    IsSound screen old stirred kin → length new ≡ length old → seat_at own new ≡ seat_at own old →
    ((k : ℕ) → nat_eq k own ≡ false → seat_at k new ≡ None) → IsSound screen new stirred kin
sound_emptied screen old new stirred own kin was size same emptied = record {
  eight = size ∙ was.eight;
  columns = was.columns;
  rows = was.rows;
  follow = all_emptied (λ seat. seat.session) (shown_on screen) old new own was.follow same emptied;
  rest = rest_emptied (shown_on screen) old new stirred own was.rest same emptied;
  alike = alike_still kin old new (λ k. still k (cases_eq k own)) was.alike;
}
  where
    still : (k : ℕ) → ((k ≡ own) ⊎ (k ≢ own)) → StillKnows (seat_at k old) (seat_at k new)
    still k (inl is) = rw is (still_same _ _ same)
    still k (inr differ) = still_gone _ _ (emptied k (other k own differ))
