-- A turn of a desk, seat by seat.
use Rattle.std.proofs.Common.{◌≡◌, ◌<◌, ◌++◌, ◌∙◌, ◌||◌, ◌&&◌, ℕ, zero, suc, Bool, true}
use Rattle.std.proofs.Common.{false, not, List, [], Option}
use Rattle.std.proofs.Common.{Some, None}
use Rattle.std.proofs.Common.{refl, sym, ap, subst, arith, cond, inl, length}
use Rattle.rfb_picture.specs.Places.{has_bit}
use Rattle.rfb_session.specs.declared.console.desk.Desk.{Desk}
use Rattle.rfb_session.specs.declared.console.desk.Hold.{Hold}
use Rattle.rfb_session.specs.declared.console.guest.Guest.{Guest}
use Rattle.rfb_session.specs.declared.console.plan.Rules.{Rules}
use Rattle.rfb_session.specs.declared.share.Share.{Share}
use Rattle.rfb_session.specs.declared.share.seat.ShareSeat.{ShareSeat}
use Rattle.rfb_session.specs.Rounds.{first_after, is_left}
use Rattle.rfb_session.specs.Share.{seat_in, screen_of, canvas_of, viewer_of, serving_in, waiting_for}
use Rattle.rfb_session.specs.ShareSteps.{KeepsScreen}
use Rattle.rfb_session.specs.owner.ShareLines.{leave_line}
use Rattle.rfb_session.specs.console.SeatLines.{leave_lines}
use Rattle.rfb_session.specs.console.Desk.{nobody, guest_at, lines_of, is_over, tells_in}
use Rattle.rfb_session.specs.console.Time.{stamped, is_slow, is_stuck, waits_for}
use Rattle.rfb_session.specs.console.Viewers.{LetsAllGo}
use Rattle.rfb_session.specs.console.Turns.{ReleasesAll, StampsAll, Stills, GoesRound, Wakes}
use Rattle.rfb_session.specs.console.Turns.{hold_after, holds_at, large_after}
use Rattle.rfb_session.specs.console.Updates.{ComposesRound, KeepsBeside, ServesUnless, OrPutOff}
use Rattle.rfb_session.specs.console.Updates.{EndsLarge, OnlyLarge, IsLarge, IsBusy}
use Rattle.rfb_session.proofs.DeskSeatLemmas.{not_large, not_put_off}
use Rattle.rfb_session.specs.console.Turns.{TurnsAs, seat_kept, guest_then, is_late, tells_late, seat_left}

leave_lines_below : (f g : ℕ → Bool) (n : ℕ) → ((k : ℕ) → k < n → f k ≡ g k) →
    leave_lines f n ≡ leave_lines g n
leave_lines_below f g zero same = refl
leave_lines_below f g (suc n) same =
    ap (λ (l : List ℕ). l ++ cond (f n) (leave_line n) [])
    (leave_lines_below f g n (λ k within. same k (omega (arith, within))))
    ∙ ap (λ (b : Bool). leave_lines g n ++ cond b (leave_line n) []) (same n (omega arith))

-- what a desk has after all that a turn does before updates are composed
module _ (old released begins stays shows : Desk) (now slow stuck late : ℕ) (held : Bool)
    (releases : ReleasesAll old released) (stamps : StampsAll released now begins)
    (slow_is : (k : ℕ) → k < 8 → has_bit slow k ≡ is_slow begins.rules now (guest_at begins k))
    (stuck_is : (k : ℕ) → k < 8 → has_bit stuck k ≡ is_stuck begins.rules now (guest_at begins k))
    (late_is : (k : ℕ) → has_bit late k ≡ (has_bit slow k || has_bit stuck k))
    (goes : LetsAllGo begins late stays) (stills : Stills stays now held shows) where
  begun : (k : ℕ) → k < 8 → guest_at begins k ≡ guest_then old now k
  begun k within = stamps.guests k within
      ∙ ap (λ (o : Option ShareSeat). stamped now (waits_for (waiting_for o)) (guest_at released k))
      (releases.seats k within)
      ∙ ap (λ (g : Guest). stamped now (waits_for (waiting_for (seat_kept old k))) g) (releases.guests k within)

  rules_begin : begins.rules ≡ old.rules
  rules_begin = stamps.rules.rules ∙ releases.rules.rules

  slow_then : (k : ℕ) → k < 8 → has_bit slow k ≡ is_slow old.rules now (guest_then old now k)
  slow_then k within = slow_is k within
      ∙ ap (λ (r : Rules). is_slow r now (guest_at begins k)) rules_begin
      ∙ ap (λ (g : Guest). is_slow old.rules now g) (begun k within)

  stuck_then : (k : ℕ) → k < 8 → has_bit stuck k ≡ is_stuck old.rules now (guest_then old now k)
  stuck_then k within = stuck_is k within
      ∙ ap (λ (r : Rules). is_stuck r now (guest_at begins k)) rules_begin
      ∙ ap (λ (g : Guest). is_stuck old.rules now g) (begun k within)

  late_then : (k : ℕ) → k < 8 → has_bit late k ≡ is_late old now k
  late_then k within = late_is k
      ∙ ap (λ (b : Bool). b || has_bit stuck k) (slow_then k within)
      ∙ ap (λ (b : Bool). is_slow old.rules now (guest_then old now k) || b) (stuck_then k within)

  guest_shown : (k : ℕ) → k < 8 → guest_at shows k ≡ cond (is_late old now k) nobody (guest_then old now k)
  guest_shown k within = stills.guests k ∙ goes.forgets.guests k within
      ∙ ap (λ (b : Bool). cond b nobody (guest_at begins k)) (late_then k within)
      ∙ ap (λ (g : Guest). cond (is_late old now k) nobody g) (begun k within)

  seat_shown : (k : ℕ) → k < 8 → seat_in shows.share k ≡ seat_left old now k
  seat_shown k within = ap (λ (s : Share). seat_in s k) stills.share ∙ goes.seats k within
      ∙ ap (λ (b : Bool). cond b None (seat_in begins.share k)) (late_then k within)
      ∙ ap (λ (s : Share). cond (is_late old now k) None (seat_in s k)) stamps.share
      ∙ ap (λ (o : Option ShareSeat). cond (is_late old now k) None o) (releases.seats k within)

  lines_shown : lines_of shows ≡ lines_of old ++ leave_lines (tells_late old now) 8
  lines_shown = stills.lines ∙ goes.forgets.lines
      ∙ ap (λ (l : List ℕ). l ++ leave_lines (tells_in begins late) 8) (stamps.lines ∙ releases.lines)
      ∙ ap (λ (l : List ℕ). lines_of old ++ l) (leave_lines_below (tells_in begins late) (tells_late old now) 8
      (λ k within. ap (λ (b : Bool). b && not (is_over (guest_at begins k).progress)) (late_then k within)
      ∙ ap (λ (g : Guest). is_late old now k && not (is_over g.progress)) (begun k within)))

  screen_shown : KeepsScreen old.share shows.share
  screen_shown = record {
    screen = ap (λ (s : Share). screen_of s) stills.share ∙ goes.screen.screen
        ∙ ap (λ (s : Share). screen_of s) stamps.share ∙ releases.screen.screen;
    canvas = ap (λ (s : Share). canvas_of s) stills.share ∙ goes.screen.canvas
        ∙ ap (λ (s : Share). canvas_of s) stamps.share ∙ releases.screen.canvas;
    viewer = ap (λ (s : Share). viewer_of s) stills.share ∙ goes.screen.viewer
        ∙ ap (λ (s : Share). viewer_of s) stamps.share ∙ releases.screen.viewer;
    made = ap (λ (s : Share). serving_in s) stills.share ∙ goes.screen.made
        ∙ ap (λ (s : Share). serving_in s) stamps.share ∙ releases.screen.made;
  }

  rules_stay : stays.rules ≡ old.rules
  rules_stay = goes.forgets.rules.rules ∙ rules_begin

  hold_stays : stays.hold ≡ old.hold
  hold_stays = goes.forgets.rules.hold ∙ stamps.rules.hold ∙ releases.rules.hold

  held_then : held ≡ holds_at old.rules.hold now old.hold
  held_then = stills.held_is ∙ ap (λ (r : Rules). holds_at r.hold now stays.hold) rules_stay
      ∙ ap (λ (h : Hold). holds_at old.rules.hold now h) hold_stays

  hold_then : shows.hold ≡ hold_after old.rules.hold now old.hold
  hold_then = stills.hold ∙ ap (λ (r : Rules). hold_after r.hold now stays.hold) rules_stay
      ∙ ap (λ (h : Hold). hold_after old.rules.hold now h) hold_stays

  large_shown : shows.large ≡ old.large
  large_shown = stills.large ∙ goes.forgets.rules.large ∙ stamps.rules.large ∙ releases.rules.large

  busy_shown : IsBusy shows.large now (seat_in shows.share) → IsBusy old.large now (seat_left old now)
  busy_shown busy = record {
    since = busy.since;
    began = sym large_shown ∙ busy.began;
    fresh = busy.fresh;
    seat = busy.seat;
    within = busy.within;
    waits = subst (λ (s : Option ShareSeat). 65536 < length (waiting_for s)) (seat_shown busy.seat busy.within)
        busy.waits;
  }

  first_shown : shows.first ≡ old.first
  first_shown = stills.first ∙ goes.forgets.rules.first ∙ stamps.rules.first ∙ releases.rules.first

  -- and then they are, or they are held back
  pub turns_so : (composed rounds new : Desk) (busy wants : Bool) (last : Option ℕ) →
      (busy ≡ true → IsBusy shows.large now (seat_in shows.share)) → (held ≡ true → composed ≡ shows) →
      (held ≡ true → last ≡ None) → (held ≡ false → ComposesRound shows busy wants last composed) →
      GoesRound composed now last rounds → new.share ≡ rounds.share → KeepsBeside rounds new →
      Wakes new now busy wants last new.next → TurnsAs old now slow stuck new
  turns_so composed rounds new busy wants last busy_is kept none composes round share beside wakes = by held refl
    where
      Served : Bool → ℕ → Option ShareSeat → Type 0
      Served h k seat = OrPutOff busy (ServesUnless (h || is_left old.first last k) (screen_of old.share) wants
          (seat_left old now k) seat) (seat_left old now k) seat

      turns : KeepsBeside shows composed → KeepsScreen shows.share composed.share →
          ((k : ℕ) → k < 8 → Served held k (seat_in composed.share k)) →
          EndsLarge last (seat_left old now) (seat_in composed.share) →
          OnlyLarge last (seat_left old now) (seat_in composed.share) → TurnsAs old now slow stuck new
      turns aside screen seats ends only =
          let same = share ∙ round.share in
          record {
            slow_is = slow_then;
            stuck_is = stuck_then;
            guests = λ k within. beside.guests k ∙ round.guests k ∙ aside.guests k ∙ guest_shown k within;
            lines = beside.lines ∙ round.lines ∙ aside.lines ∙ lines_shown;
            held = held;
            held_is = held_then;
            hold = beside.rules.hold ∙ round.hold ∙ aside.rules.hold ∙ hold_then;
            busy = busy;
            busy_is = λ is. busy_shown (busy_is is);
            wants = wants;
            last = last;
            seats = λ k within. subst (λ (s : Share). Served held k (seat_in s k)) (sym same) (seats k within);
            ends = subst (λ (s : Share). EndsLarge last (seat_left old now) (seat_in s)) (sym same) ends;
            only = subst (λ (s : Share). OnlyLarge last (seat_left old now) (seat_in s)) (sym same) only;
            first = beside.rules.first ∙ round.first
                ∙ ap (λ (n : ℕ). first_after n last) (aside.rules.first ∙ first_shown);
            large = beside.rules.large ∙ round.large
                ∙ ap (λ (o : Option ℕ). large_after now last o) (aside.rules.large ∙ large_shown);
            screen = record {
              screen = ap (λ (s : Share). screen_of s) same ∙ screen.screen ∙ screen_shown.screen;
              canvas = ap (λ (s : Share). canvas_of s) same ∙ screen.canvas ∙ screen_shown.canvas;
              viewer = ap (λ (s : Share). viewer_of s) same ∙ screen.viewer ∙ screen_shown.viewer;
              made = ap (λ (s : Share). serving_in s) same ∙ screen.made ∙ screen_shown.made;
            };
            rules = beside.rules.rules ∙ round.made ∙ aside.rules.rules ∙ stills.made ∙ rules_stay;
            next = wakes;
          }

      same_beside : KeepsBeside shows shows
      same_beside = record {
        guests = λ k. refl;
        lines = refl;
        rules = record { rules = refl; hold = refl; first = refl; large = refl };
      }

      ends_so : (o : Option ℕ) → EndsLarge o (seat_in shows.share) (seat_in composed.share) →
          EndsLarge o (seat_left old now) (seat_in composed.share)
      ends_so None ends = tt
      ends_so (Some k) ends = (
        ends.0,
        subst (λ (s : Option ShareSeat). IsLarge s (seat_in composed.share k)) (seat_shown k ends.0) ends.1,
      )

      by : (b : Bool) → held ≡ b → TurnsAs old now slow stuck new
      by true is =
          let same = kept is in
          let stays : (k : ℕ) → k < 8 → seat_in composed.share k ≡ seat_left old now k =
          λ k within. ap (λ (d : Desk). seat_in d.share k) same ∙ seat_shown k within in
          turns (subst (λ (d : Desk). KeepsBeside shows d) (sym same) same_beside)
          (subst (λ (d : Desk). KeepsScreen shows.share d.share) (sym same)
          (record { screen = refl; canvas = refl; viewer = refl; made = refl }))
          (λ k within. subst (λ (h : Bool). Served h k (seat_in composed.share k)) (sym is)
          (not_put_off busy _ _ _ (inl (stays k within))))
          (subst (λ (o : Option ℕ). EndsLarge o (seat_left old now) (seat_in composed.share)) (sym (none is)) tt)
          (λ k within large. absurd (not_large _ _ (stays k within) large))
      by false is =
          let all = composes is in
          turns all.beside all.screen
          (λ k within. subst (λ (h : Bool). Served h k (seat_in composed.share k)) (sym is)
          (rw (sym first_shown, sym screen_shown.screen, sym (seat_shown k within)) (all.seats k within)))
          (ends_so last all.ends)
          (λ k within large. all.only k within
          (subst (λ (s : Option ShareSeat). IsLarge s (seat_in composed.share k)) (sym (seat_shown k within)) large))
