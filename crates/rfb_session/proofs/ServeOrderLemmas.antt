-- What is known of a wire after a turn of a server's engine.
use Rattle.std.proofs.Common.{◌≡◌, ℕ, zero, suc, ◌+◌, ◌-◌, ◌^◌, ◌≤◌, min, List, [], Option, refl}
use Rattle.std.proofs.Common.{sym, ◌∙◌, subst, inl, inr}
use Rattle.std.specs.Io.KnownBytes.{Consumes}
use Rattle.rfb_server.specs.declared.server.Server.{Server}
use Rattle.rfb_session.specs.declared.engine.fault.EngineFault.{EngineFault}
use Rattle.rfb_session.specs.declared.engine.fault.EngineFault.TheVariants.{Server as ServerEnded}
use Rattle.rfb_session.specs.declared.engine.fault.EngineFault.TheVariants.{Viewer as ViewerEnded}
use Rattle.rfb_session.specs.declared.engine.fault.EngineFault.TheVariants.{Truncated, Device}
use Rattle.rfb_session.specs.declared.engine.fault.EngineFault.TheVariants.{NoMemory}
use Rattle.rfb_session.specs.Playback.{most}
use Rattle.rfb_session.specs.ServeEngine.{StopsHearing, StopsUpdating}
use Rattle.rfb_session.specs.ServeOrder.{TurnOver, TurnsOver, NoTurn, NextTurn, TurnsToEnd}
use Rattle.rfb_session.specs.ServeOrder.{StopsTurnOver, MissesRead, StopsInHearing, StopsInUpdating}
use Rattle.rfb_session.specs.ServeOrder.{StopsAfterTurns}
use Rattle.rfb_session.specs.Turns.{Showing, IsAnswered, IsAnsweredBy, EndsTurn, Turns, TurnsNoMore}
use Rattle.rfb_session.specs.Turns.{StopsTurn, FailsToRead, FailsToHear, FailsToUpdate}
use Rattle.rfb_session.specs.Wire.{Came, Ended, Missed, Known, KeepsReads, Stepping, by_bytes, by_steps}
use Rattle.rfb_session.proofs.ServingLemmas.{goes_on}
use Rattle.rfb_session.proofs.WireLemmas.{Telling, keeps_then, all_known, some_known}

-- reads that are kept, and no write failed
abbrev pub Quiet : Known → Known → Type 0
Quiet old new = KeepsReads old new × (new.failed_writes ≡ old.failed_writes)

quiet_then : (a b c : Known) → Quiet a b → Quiet b c → Quiet a c
quiet_then a b c one two = (keeps_then a b c one.0 two.0, two.1 ∙ one.1)

-- no read and no write has failed
abbrev pub NoneFailed : Known → Known → Type 0
NoneFailed old new = (new.failed_reads ≡ old.failed_reads)
    × (new.failed_writes ≡ old.failed_writes) × (new.lent ≡ old.lent)

-- by what is known before and after a read that gave bytes
pub came_first : (a b c : Known) (bytes : List ℕ) → Consumes a.unread b.unread bytes → KeepsReads b c →
    Consumes a.unread c.unread bytes
came_first a b c bytes read keeps = subst (λ (o : Option (List ℕ)). Consumes a.unread o bytes) (sym keeps.0) read

module _ {W : Type 0} (steps : Stepping W) (known : W → Known) (tells : Telling steps known) where
  pub answered_known : (old : Server) (bytes : List ℕ) (a b : W) (new : Server) →
      IsAnsweredBy (by_steps steps) old bytes a b new →
      Quiet (known a) (known b) × IsAnswered old bytes (known a).written (known b).written new
  answered_known old bytes a b new answered =
      let wrote = all_known steps known tells a b answered.sent answered.wrote in (
        (wrote.0, wrote.2),
        search (answered, wrote.1),
      )

  -- why hearing stops
  hearing_known : (old : Server) (bytes : List ℕ) (a b : W) (n m : ℕ) (fault : EngineFault) (new : Server) →
      StopsHearing (by_steps steps) old bytes a b n m fault new →
      KeepsReads (known a) (known b)
      × StopsHearing by_bytes old bytes (known a).written (known b).written n m fault new
  hearing_known old bytes a b n m (ServerEnded fault) new stops =
      let wrote = all_known steps known tells a b stops.sent stops.wrote in
      (wrote.0, search (stops, wrote.1))
  hearing_known old bytes a b n m Device new stops =
      let cut = stops.1 in
      let wrote = some_known steps known tells a b cut.sent cut.wrote in
      (wrote.0, (stops.0, search (cut, wrote.1)))
  hearing_known old bytes a b n m (ViewerEnded fault) new stops = absurd stops
  hearing_known old bytes a b n m Truncated new stops = absurd stops
  hearing_known old bytes a b n m NoMemory new stops = absurd stops

  -- why updating stops
  updating_known : (old : Server) (a b : W) (n m : ℕ) (fault : EngineFault) (new : Server) →
      StopsUpdating (by_steps steps) old a b n m fault new →
      KeepsReads (known a) (known b)
      × StopsUpdating by_bytes old (known a).written (known b).written n m fault new
  updating_known old a b n m Device new stops =
      let wrote = some_known steps known tells a b stops.1 stops.3 in
      (wrote.0, (stops.0, stops.1, stops.2, wrote.1))
  updating_known old a b n m NoMemory new stops =
      let wrote = all_known steps known tells a b [] stops.2 in
      (wrote.0, (stops.0, stops.1, wrote.1))
  updating_known old a b n m (ServerEnded fault) new stops = absurd stops
  updating_known old a b n m (ViewerEnded fault) new stops = absurd stops
  updating_known old a b n m Truncated new stops = absurd stops

  pub stop_known : (a b : W) (old : Server) (fault : EngineFault) (new : Server) →
      StopsTurnOver steps known a old fault b new →
      ((known b).lent ≡ (known a).lent)
      × StopsTurn (known a).unread (known b).unread (known a).failed_reads (known b).failed_reads
      (known a).written (known b).written (known a).failed_writes (known b).failed_writes old fault new
  stop_known a b old fault new (MissesRead is step same) =
      let told = tells a b Missed step in
      (told.0.2, FailsToRead is told.1 told.2 told.0.0 told.0.1 same)
  stop_known a b old fault new (StopsInHearing bytes came step few stops) =
      let told = tells a came (Came bytes) step in
      let heard = hearing_known old bytes came b (known came).failed_writes (known b).failed_writes fault new stops in (
        heard.0.2 ∙ told.0.2,
        FailsToHear bytes (came_first (known a) (known came) (known b) bytes told.1 heard.0) few
            (heard.0.1 ∙ told.2)
            (subst (λ (o : Option (List ℕ)). StopsHearing by_bytes old bytes o (known b).written
            (known a).failed_writes (known b).failed_writes fault new) told.0.0
            (subst (λ (n : ℕ). StopsHearing by_bytes old bytes (known came).written (known b).written n
            (known b).failed_writes fault new) told.0.1 heard.1)),
      )
  stop_known a b old fault new (StopsInUpdating bytes came step few heard w answered stops) =
      let told = tells a came (Came bytes) step in
      let one = answered_known old bytes came w heard answered in
      let two = updating_known heard w b (known w).failed_writes (known b).failed_writes fault new stops in
      let kept = keeps_then (known came) (known w) (known b) one.0.0 two.0 in (
        kept.2 ∙ told.0.2,
        FailsToUpdate bytes (came_first (known a) (known came) (known b) bytes told.1 kept) few
            (kept.1 ∙ told.2) heard (known w).written
            (subst (λ (o : Option (List ℕ)). IsAnswered old bytes o (known w).written heard) told.0.0 one.1)
            (subst (λ (n : ℕ). StopsUpdating by_bytes heard (known w).written (known b).written n
            (known b).failed_writes fault new) (one.0.1 ∙ told.0.1) two.1),
      )

  -- the end of a turn
  ends_known : {X : Type 0} (shows : Showing X) (old : Server) (scene : X) (a b : W) (updates : ℕ)
      (new : Server) (last : X) → EndsTurn (by_steps steps) shows old scene a b updates new last →
      Quiet (known a) (known b)
      × EndsTurn by_bytes shows old scene (known a).written (known b).written updates new last
  ends_known shows old scene a b zero new last ends =
      let wrote = all_known steps known tells a b [] ends.wrote in (
        (wrote.0, wrote.2),
        record { unsent = ends.unsent; wrote = wrote.1; undrawn = ends.undrawn },
      )
  ends_known shows old scene a b (suc zero) new last ends =
      let wrote = all_known steps known tells a b ends.bytes ends.wrote in (
        (wrote.0, wrote.2),
        search (ends, wrote.1),
      )
  ends_known shows old scene a b (suc (suc more)) new last ends = absurd ends

  pub turn_known : {X : Type 0} (shows : Showing X) (a : W) (old : Server) (scene : X) (updates : ℕ)
      (b : W) (new : Server) (last : X) → TurnOver steps shows a old scene updates b new last →
      NoneFailed (known a) (known b)
      × Turns shows (known a).unread (known b).unread old scene (known a).written (known b).written
      updates new last
  turn_known shows a old scene updates b new last over =
      let turn = over.turn in
      let told = tells a over.came (Came over.bytes) over.read in
      let one = answered_known old over.bytes over.came turn.answered turn.heard turn.hears in
      let two = ends_known shows turn.heard scene turn.answered b updates new last turn.ends in
      let kept = quiet_then (known over.came) (known turn.answered) (known b) one.0 two.0 in (
        (kept.0.1 ∙ told.2, kept.1 ∙ told.0.1, kept.0.2 ∙ told.0.2),
        record {
          bytes = over.bytes;
          read = came_first (known a) (known over.came) (known b) over.bytes told.1 kept.0;
          turn = record {
            some = turn.some;
            few = turn.few;
            heard = turn.heard;
            answered = (known turn.answered).written;
            hears = subst (λ (o : Option (List ℕ)). IsAnswered old over.bytes o
                (known turn.answered).written turn.heard) told.0.0 one.1;
            ends = two.1;
          };
        },
      )

  -- the end
  pub end_known : {X : Type 0} (a : W) (old : Server) (scene : X) (b : W) (new : Server) (last : X) →
      steps a Ended b × (new ≡ old) × (last ≡ scene) →
      NoneFailed (known a) (known b)
      × TurnsNoMore (known a).unread (known b).unread old scene (known a).written (known b).written
      new last
  end_known a old scene b new last ended =
      let told = tells a b Ended ended.0 in (
        (told.2, told.0.1, told.0.2),
        record {
          read = told.1;
          ended = told.3;
          unwritten = told.0.0;
          unheard = ended.1;
          undrawn = ended.2;
        },
      )

-- ---- turns in order

module _ {W X : Type 0} where
  pub record InOrderSoFar (steps : Stepping W) (shows : Showing X) (before : W) (old : Server) (scene : X)
      (turns told : ℕ) (now : W) (mid : Server) (then : X) : Type 0 where
    pub updates : ℕ
    pub told_is : told ≡ most updates
    pub so_far : TurnsOver steps shows before old scene turns updates now mid then

  pub order_none : (steps : Stepping W) (shows : Showing X) (before : W) (old : Server) (scene : X) →
      InOrderSoFar steps shows before old scene 0 0 before old scene
  order_none steps shows before old scene = record { updates = 0; told_is = refl; so_far = NoTurn }

  pub order_more : (steps : Stepping W) (shows : Showing X) (before : W) (old : Server) (scene : X)
      (turns told : ℕ) (mid : W) (between : Server) (then : X) (more now : ℕ) (after : W) (new : Server) (last : X) →
      InOrderSoFar steps shows before old scene turns told mid between then →
      TurnOver steps shows mid between then more after new last → now ≡ min (told + more) (2 ^ 64 - 1) →
      InOrderSoFar steps shows before old scene (turns + 1) now after new last
  order_more steps shows before old scene turns told mid between then more now after new last was turn is = record {
    updates = was.updates + more;
    told_is = goes_on was.updates more told now was.told_is is;
    so_far = NextTurn turns was.updates more mid after between new then last was.so_far turn;
  }

  pub order_ends : (steps : Stepping W) (shows : Showing X) (before : W) (old : Server) (scene : X)
      (turns told : ℕ) (mid : W) (between : Server) (then : X) (after : W) (new : Server) (last : X) →
      InOrderSoFar steps shows before old scene turns told mid between then →
      steps mid Ended after × (new ≡ between) × (last ≡ then) →
      TurnsToEnd steps shows before old scene told after new last
  order_ends steps shows before old scene turns told mid between then after new last was ended =
      subst (λ (v : Server). TurnsToEnd steps shows before old scene told after v last) (sym ended.1)
      (subst (λ (x : X). TurnsToEnd steps shows before old scene told after between x) (sym ended.2) (record {
        count = turns;
        updates = was.updates;
        told_is = was.told_is;
        mid = mid;
        turns = was.so_far;
        ended = inl ended.0;
      }))

  pub order_out : (steps : Stepping W) (shows : Showing X) (before : W) (old : Server) (scene : X)
      (turns told : ℕ) (now : W) (mid : Server) (then : X) →
      InOrderSoFar steps shows before old scene turns told now mid then → 2 ^ 64 - 1 ≤ turns →
      TurnsToEnd steps shows before old scene told now mid then
  order_out steps shows before old scene turns told now mid then was out = record {
    count = turns;
    updates = was.updates;
    told_is = was.told_is;
    mid = now;
    turns = was.so_far;
    ended = inr (out, refl);
  }

  pub order_stops : (steps : Stepping W) (known : W → Known) (shows : Showing X) (before : W) (old : Server) (scene : X)
      (turns told : ℕ) (mid : W) (between : Server) (then : X) (fault : EngineFault) (after : W) (new : Server)
      (last : X) →
      InOrderSoFar steps shows before old scene turns told mid between then → last ≡ then →
      StopsTurnOver steps known mid between fault after new →
      StopsAfterTurns steps known shows before old scene fault after new last
  order_stops steps known shows before old scene turns told mid between then fault after new last was same stops =
      subst (λ (x : X). StopsAfterTurns steps known shows before old scene fault after new x) (sym same) (record {
        count = turns;
        updates = was.updates;
        mid = mid;
        between = between;
        turns = was.so_far;
        stops = stops;
      })

pub none_failed_then : (a b c : Known) → NoneFailed a b → NoneFailed b c → NoneFailed a c
none_failed_then a b c one two = (two.0 ∙ one.0, two.1 ∙ one.1, two.2 ∙ one.2)

-- what holds of the reads that are kept
pub as_before : (old mid : Known) → KeepsReads old mid → (P : Option (List ℕ) → ℕ → Type 0) →
    P mid.unread mid.failed_reads → P old.unread old.failed_reads
as_before old mid keeps P holds =
    subst (λ (u : Option (List ℕ)). P u old.failed_reads) keeps.0
    (subst (λ (n : ℕ). P mid.unread n) keeps.1 holds)
