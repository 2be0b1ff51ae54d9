-- The life of a seat at a console, from one happening to the next.
use Rattle.std.proofs.Common.{◌≡◌, ◌≢◌, ◌⊎◌, ◌<◌, ◌+◌, ◌++◌, ◌∙◌, ◌||◌, ℕ, false, List, [], ◌∷◌, Option, Some, None}
use Rattle.std.proofs.Common.{sym, ap, subst, arith, inl, inr, length, take, nat_eq, append-nil}
use Rattle.std.proofs.lemmas.Bool.Decides.{eqb_tells}
use Rattle.rfb_server.specs.Server.{Serving}
use Rattle.rfb_session.specs.declared.console.Console.{Console}
use Rattle.rfb_session.specs.declared.console.desk.Desk.{Desk}
use Rattle.rfb_session.specs.declared.share.Share.{Share}
use Rattle.rfb_session.specs.doors.Events.{came, left}
use Rattle.rfb_session.specs.doors.Tenants.{Happening, IsKept, events_in}
use Rattle.rfb_session.specs.Rounds.{is_left}
use Rattle.rfb_session.specs.Share.{serving_in, waits_at}
use Rattle.rfb_session.specs.ShareSteps.{WritesAs}
use Rattle.rfb_session.specs.console.Console.{OpensAs}
use Rattle.rfb_session.specs.console.Viewers.{HearsAt}
use Rattle.rfb_session.specs.console.Turns.{is_done, is_late}
use Rattle.rfb_session.specs.console.History.{Lasts, HasRead, left_in, SeatLives, IsEmptySeat}
use Rattle.rfb_session.proofs.ShareLawLemmas.{joined_lives}
use Rattle.rfb_session.proofs.ConsoleMoveLemmas.{Moves, None_yet, Begun, Moved, DeskMove, IsSilent, came_in, Alike}
use Rattle.rfb_session.proofs.ConsoleMoveLemmas.{Draws, Goes, Loses, Holds, Shows, Hears, Writes, WritesOut, Turns}
use Rattle.rfb_session.proofs.ConsoleMoveLemmas.{Comes, Refuses, if_other}
use Rattle.rfb_session.proofs.ConsoleStepLemmas.{moves_so, read_on, stays_so, went_on, lasts_on}
use Rattle.rfb_session.proofs.FirstHappeningLemmas.{IsKeptBy, kept_first, bytes_first}
use Rattle.rfb_session.proofs.SeatLifeLemmas.{GoesOn, lives_then, stayed, same_share, go_on, left_by_one, served_on}
use Rattle.rfb_session.proofs.SeatLifeLemmas.{turned_on}
use Rattle.rfb_session.proofs.SeatLifeLemmas.{hears_here, hears_beside, comes_beside, refuses_all, drawn_on, written_on}

-- ---- what happens

apart : (k n : ℕ) → k + 1 ≢ n + 1 → nat_eq k n ≡ false
apart k n differ = elim (eqb_tells k n) [
  | inl same ↦ absurd (differ (ap (λ (m : ℕ). m + 1) same.1))
  | inr other ↦ other.0
]

-- so it is of a seat of whatever desk there is
pub record DeskGoesOn (serving : Serving) (k : ℕ) (x y : List ℕ) (a b : Option Desk) : Type 0 where
  pub lives : (heard taken : List ℕ) → SeatLives serving a k heard taken →
      SeatLives serving b k (heard ++ x) (taken ++ y) ⊎ IsEmptySeat b k
  pub gone : IsEmptySeat a k → IsEmptySeat b k

module _ (serving : Serving) (k : ℕ) (within : k < 8) where
  goes_on : (x y : List ℕ) (a b : Option Desk) (one two : Desk) → a ≡ Some one → b ≡ Some two →
      GoesOn serving k x y one.share two.share → DeskGoesOn serving k x y a b
  goes_on x y a b one two was is goes = record {
    lives = λ heard taken lives.
        elim (goes.lives heard taken (subst (λ (o : Option Desk). SeatLives serving o k heard taken) was lives)) [
          | inl more ↦
              inl (subst (λ (o : Option Desk). SeatLives serving o k (heard ++ x) (taken ++ y)) (sym is) more)
          | inr none ↦ inr (subst (λ (o : Option Desk). IsEmptySeat o k) (sym is) none)
        ];
    gone = λ none. subst (λ (o : Option Desk). IsEmptySeat o k) (sym is)
        (goes.gone (subst (λ (o : Option Desk). IsEmptySeat o k) was none));
  }

  silently : (h : Happening) (a b : Share) → IsSilent h → GoesOn serving k [] [] a b →
      GoesOn serving k (came_in (k + 1) h) (left_in (k + 1) h) a b
  silently h a b silent goes =
      rw (
        silent.came (k + 1) (omega arith) (omega (arith, within)),
        silent.gone (k + 1) (omega arith)
            (omega (arith, within)),
      ) goes

  moved_on : (h : Happening) (a b : Desk) → IsKeptBy (k + 1) h → DeskMove h a b →
      GoesOn serving k (came_in (k + 1) h) (left_in (k + 1) h) a.share b.share
  moved_on h a b kept (Alike silent same) =
      silently h _ _ silent (same_share serving k _ _ (ap (λ (d : Desk). d.share) same))
  moved_on h a b kept (Draws stroke done silent draws) =
      silently h _ _ silent (drawn_on serving k stroke done _ _ draws.drawn)
  moved_on h a b kept (Goes n taken silent lets) =
      silently h _ _ silent (left_by_one serving k n lets.taken _ _ lets.share)
  moved_on h a b kept (Loses n taken silent lets) =
      silently h _ _ silent (left_by_one serving k n lets.taken _ _ lets.share)
  moved_on h a b kept (Holds silent holds) = silently h _ _ silent (same_share serving k _ _ holds.share)
  moved_on h a b kept (Shows silent shows) =
      silently h _ _ silent (go_on serving k [] [] [] [] a.share shows.mid.share b.share
      (same_share serving k _ _ shows.holds.share)
      (served_on serving k shows.wants _ _ shows.composes.screen (shows.composes.seats k within)))
  moved_on h a b kept (Hears n bytes part used ended event low is parts hears) =
      subst (λ (e : Happening). GoesOn serving k (came_in (k + 1) e) (left_in (k + 1) e) a.share b.share) (sym is)
      (elim (eqb_tells (k + 1) (n + 1)) [
        | inl same ↦
            rw same.0 (subst (λ (l : List ℕ). GoesOn serving k l [] a.share b.share) (sym parts)
            (hears_here serving k bytes used ended event a b
            (subst (λ (m : ℕ). HearsAt a m bytes used ended event b) (omega (arith, same.1)) hears)))
        | inr other ↦
            rw other.0 (hears_beside serving k n bytes used ended event a b (apart k n other.1) hears)
      ])
  moved_on h a b kept (Writes n bytes low is waited writes) =
      subst (λ (e : Happening). GoesOn serving k (came_in (k + 1) e) (left_in (k + 1) e) a.share b.share) (sym is)
      (elim (eqb_tells (k + 1) (n + 1)) [
        | inl same ↦
            let here : n ≡ k = omega (arith, same.1) in
            rw same.0 (subst (λ (l : List ℕ). GoesOn serving k [] l a.share b.share)
            (sym (waited ∙ ap (λ (m : ℕ). take (length bytes) (waits_at a.share m)) here))
            (written_on serving k (length bytes) a.share b.share
            (subst (λ (m : ℕ). WritesAs a.share m (length bytes) b.share) here writes.share)))
        | inr other ↦
            rw other.0 (stayed serving k a.share b.share writes.share.keeps
            (writes.share.others k (apart k n other.1)))
      ])
  moved_on h a b kept (WritesOut bytes is waited writes) =
      subst (λ (e : Happening). GoesOn serving k (came_in (k + 1) e) (left_in (k + 1) e) a.share b.share) (sym is)
      (rw (if_other (k + 1) 9 bytes (λ same. omega (arith, within, same)))
      (same_share serving k a.share b.share writes.share))
  moved_on h a b kept (Turns now slow stuck is silent turns) =
      silently h _ _ silent (turned_on serving k turns.busy (turns.held || is_left a.first turns.last k) turns.wants
      (is_late a now k) (is_done a k)
      a.share b.share turns.screen (turns.seats k within))
  moved_on h a b kept (Comes from n left is admits) =
      let other : k + 1 ≢ n + 1 = subst (λ (e : Happening). IsKeptBy (k + 1) e) is kept in
      subst (λ (e : Happening). GoesOn serving k (came_in (k + 1) e) (left_in (k + 1) e) a.share b.share) (sym is)
      (comes_beside serving k from n left a b (apart k n other) admits)
  moved_on h a b kept (Refuses from left silent admits) =
      silently h _ _ silent (refuses_all serving k from left a b admits)

  happened_on : (h : Happening) (a b : Option Desk) → IsKeptBy (k + 1) h → Moves h a b →
      DeskGoesOn serving k (came_in (k + 1) h) (left_in (k + 1) h) a b
  happened_on h a b kept (None_yet quiet was is) = record {
    lives = λ heard taken lives. absurd (subst (λ (o : Option Desk). SeatLives serving o k heard taken) was lives);
    gone = λ none. subst (λ (o : Option Desk). IsEmptySeat o k) (sym is) tt;
  }
  happened_on h a b kept (Begun size name rules desk silent was is fresh) = record {
    lives = λ heard taken lives. absurd (subst (λ (o : Option Desk). SeatLives serving o k heard taken) was lives);
    gone = λ none. subst (λ (o : Option Desk). IsEmptySeat o k) (sym is) (fresh.empty k);
  }
  happened_on h a b kept (Moved one two was is moves) =
      goes_on _ _ a b one two was is (moved_on h one two kept moves)

  both : (x y x' y' : List ℕ) (a b c : Option Desk) → DeskGoesOn serving k x y a b →
      DeskGoesOn serving k x' y' b c → DeskGoesOn serving k (x ++ x') (y ++ y') a c
  both x y x' y' a b c first second = record {
    lives = lives_then (λ o heard taken. SeatLives serving o k heard taken) (λ o. IsEmptySeat o k) x y x' y' a b c
        first.lives second.lives second.gone;
    gone = λ none. second.gone (first.gone none);
  }

  module _ {S : Type 0} where
    pub lives_on : (old new : Console S) (happenings : List Happening) (part : List ℕ) → HasRead old part →
        new.outcome ≡ None → IsKept (k + 1) happenings → Lasts old happenings new →
        DeskGoesOn serving k (came (k + 1) (events_in happenings)) (left (k + 1) (events_in happenings))
        old.desk new.desk
    lives_on old new [] part read goes kept lasts = record {
      lives = λ heard taken lives.
          inl (rw (lasts, append-nil heard, append-nil taken) lives);
      gone = λ none. subst (λ (c : Console S). IsEmptySeat c.desk k) (sym lasts) none;
    }
    lives_on old new (h ∷ more) part read goes kept one =
        let keeps = kept_first (k + 1) h more kept in
        let bytes = bytes_first (k + 1) h more in
        let on = lasts_on one.0 new more one.2 goes in
        let was = went_on old one.0 (stays_so h old one.0 one.1) on in
        let next = read_on old one.0 h part read was on one.1 in
        rw (bytes.0, bytes.1) (both _ _ _ _ old.desk one.0.desk new.desk
        (happened_on h old.desk one.0.desk keeps.0 (moves_so old one.0 h part read was on one.1))
        (lives_on one.0 new more next.0 next.1 goes keeps.1 one.2))

-- ---- a newcomer

module _ {S : Type 0} where
  pub comes_fresh : (old new : Console S) (k : ℕ) (from : List ℕ) → OpensAs old (k + 1) from new →
      (serving : Serving) × SeatLives serving new.desk k [] []
  comes_fresh old new k from opens =
      let mid = opens.admits.mid in
      let here : opens.seat ≡ k = omega (arith, opens.door_is) in (
        serving_in mid.share,
        subst (λ (o : Option Desk). SeatLives (serving_in mid.share) o k [] []) (sym opens.is_there)
            (joined_lives mid.share opens.now.share (Some opens.seat) k opens.admits.admits.joins
            (ap (λ (n : ℕ). Some n) here)),
      )
