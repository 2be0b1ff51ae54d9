-- What happens at a relay beside what its server and its viewers send.
use Rattle.std.proofs.Common.{◌≡◌, ◌≢◌, ◌++◌, ◌∙◌, ℕ, zero, suc, List, []}
use Rattle.std.proofs.Common.{Some, refl, sym, ap, subst, arith, length, take, drop, append-nil}
use Rattle.rfb_session.specs.declared.console.desk.Desk.{Desk}
use Rattle.rfb_session.specs.declared.relay.Relay.{Relay}
use Rattle.rfb_session.specs.declared.relay.gone.Gone.{Gone}
use Rattle.rfb_session.specs.declared.relay.presence.Presence.{Presence}
use Rattle.rfb_session.specs.doors.Events.{Event}
use Rattle.rfb_session.specs.doors.Tenants.{Happening}
use Rattle.rfb_session.specs.console.Console.{KeepsButRooms, Stays}
use Rattle.rfb_session.specs.console.History.{left_in}
use Rattle.rfb_session.specs.relay.Doors.{KeepsAllButRooms, KeepsServer}
use Rattle.rfb_session.specs.relay.History.{Sends, HasSent, HasGone}
use Rattle.rfb_session.specs.relay.Sent.{Sent, all_bytes, IsInOrder}
use Rattle.rfb_session.specs.relay.Presence.{is_gone}
use Rattle.rfb_session.specs.relay.Relay.{AtDoor as DoesAt, DoesRelay, RelaySteps, StepsBeside, Then}
use Rattle.rfb_session.specs.relay.Server.{LosesServer}
use Rattle.rfb_session.proofs.ConsoleLemmas.{stays_then}
use Rattle.rfb_session.proofs.ConsoleMoveLemmas.{AtDoor, AtOwner, AtSeat, AtLines, AtOther, at_door}
use Rattle.rfb_session.proofs.RelayKeepLemmas.{KeepsSeen, same_seen}
use Rattle.rfb_session.proofs.RelayPassLemmas.{Waits}
use Rattle.rfb_session.proofs.RelayOrderLemmas.{Still, still_has, has_sent}

pub take_none : (n : ℕ) → take {A = ℕ} n [] ≡ []
take_none zero = refl
take_none (suc n) = refl

pub drop_none : (n : ℕ) → drop {A = ℕ} n [] ≡ []
drop_none zero = refl
drop_none (suc n) = refl

-- ---- the server's door, and the others

-- what follows at the door of the server, and what follows at any other, follows at each
pub of_door : {X : Type 0} {door : ℕ} {server other : Type 0} → DoesAt door server (λ k. other) other →
    (door ≡ 0 → server → X) → (door ≢ 0 → other → X) → X
of_door {X} {door} {server} {other} does at_server beside = by (at_door door)
  where
    by : AtDoor door → X
    by (AtOwner is) = at_server is (does.at_server is)
    by (AtSeat k within is) = beside (λ none. omega (arith, none, is)) (does.at_seat k within is)
    by (AtLines is) = beside (λ none. omega (arith, none, is)) (does.at_other (omega (arith, is)))
    by (AtOther far) = beside (λ none. omega (arith, none, far)) (does.at_other (omega (arith, far)))

module _ {S : Type 0} where
  -- what it sends waits, behind what waited but for what left; or the server has gone away
  pub data Moves (old : Relay S) (sent : List Sent) (h : Happening) (new : Relay S) : Type 0 where
    GoesOn : (more : List Sent) → Sends old h more new →
        new.to_server ≡ drop (length (left_in 0 h)) old.to_server ++ all_bytes more →
        left_in 0 h ≡ take (length (left_in 0 h)) old.to_server → HasSent new (sent ++ more) →
        Moves old sent h new
    GoesAway : HasGone new → Moves old sent h new

  -- nothing left by it
  pub quiet : (old new : Relay S) (sent more : List Sent) (h : Happening) → left_in 0 h ≡ [] → Sends old h more new →
      Waits old sent more new → Stays old.console new.console → new.given ≡ old.given → Moves old sent h new
  quiet old new sent more h none sends w stays given =
      GoesOn more sends (rw none w.waits) (rw none refl)
      (has_sent old new (sent ++ more) w.viewer w.shown w.state w.prefix given stays.rules w.here w.stands w.order)

  -- ---- a server that is lost at its door

  -- and how much is taken at each door has changed
  pub lost_steps : {old mid new : Relay S} {how : Gone} {door : ℕ} (event : Event) →
      (DoesAt door (Then (λ lost. LosesServer old how lost) new) (λ k. StepsBeside old event new)
      (StepsBeside old event new) → DoesRelay old event new) → door ≡ 0 → LosesServer old how mid →
      Stays old.console mid.console → new.given ≡ old.given → KeepsServer mid new →
      KeepsButRooms mid.console new.console → RelaySteps old event new
  lost_steps {old} {mid} {new} event does is loses stays given server console = record {
    does = does (record {
      at_server = λ same. record {
        mid = mid;
        done = loses;
        keeps = record { server = server; console = console };
      };
      at_seat = λ k within same. absurd (omega (arith, is, same));
      at_other = λ far. absurd (omega (arith, is, far));
    });
    stays = stays_then old.console mid.console new.console stays console.stays;
    given = given;
  }

  -- ---- how much is taken at each door

  pub rooms_still : (mid new : Relay S) → KeepsAllButRooms mid new → Still mid new
  rooms_still mid new keeps = record {
    coming = keeps.server.beside.noted.coming;
    presence = keeps.server.presence;
    desk = λ a there. same_seen a mid.console.desk new.console.desk there keeps.console.desk;
  }

  pub rooms_wait : (old mid new : Relay S) (sent more : List Sent) → KeepsAllButRooms mid new →
      Waits old sent more mid → Waits old sent more new
  rooms_wait old mid new sent more keeps w = record {
    waits = keeps.server.beside.waits ∙ w.waits;
    viewer = w.viewer;
    shown = w.shown;
    state = w.state;
    prefix = w.prefix;
    here = still_has mid new w.viewer w.shown (rooms_still mid new keeps) w.here;
    stands = w.stands;
    order = w.order;
  }

  pub server_gone : (mid new : Relay S) → KeepsServer mid new → HasGone mid → HasGone new
  server_gone mid new keeps gone = record {
    gone = ap (λ (p : Presence). is_gone p) keeps.presence ∙ gone.gone;
    coming = keeps.beside.noted.coming ∙ gone.coming;
    waits = keeps.beside.waits ∙ gone.waits;
  }

  -- ---- at the seats' side

  pub beside_waits : (old new : Relay S) (sent : List Sent) → HasSent old sent → KeepsServer old new →
      ((a : Desk) → old.console.desk ≡ Some a → KeepsSeen a new.console.desk) → Waits old sent [] new
  beside_waits old new sent has keeps desk = record {
    waits = keeps.beside.waits ∙ sym (append-nil old.to_server);
    viewer = has.viewer;
    shown = has.shown;
    state = has.state;
    prefix = has.prefix;
    here = still_has old new has.viewer has.shown
        (record { coming = keeps.beside.noted.coming; presence = keeps.presence; desk = desk }) has.here;
    stands = has.stands;
    order = subst
        (λ (l : List Sent).
        IsInOrder old.console.rules.view_only has.shown has.state.point has.state.outstanding l)
        (sym (append-nil sent)) has.order;
  }

  -- so nothing is sent by it, and nothing left by it
  pub beside_moves : (old new : Relay S) (sent : List Sent) (h : Happening) → HasSent old sent →
      left_in 0 h ≡ [] → Sends old h [] new → KeepsServer old new →
      ((a : Desk) → old.console.desk ≡ Some a → KeepsSeen a new.console.desk) →
      Stays old.console new.console → new.given ≡ old.given → Moves old sent h new
  beside_moves old new sent h has none sends keeps desk stays given =
      quiet old new sent [] h none sends (beside_waits old new sent has keeps desk) stays given
