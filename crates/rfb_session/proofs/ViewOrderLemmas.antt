-- What is known of a wire after a read of a viewer's engine, and reads in order.
use Rattle.std.proofs.Common.{◌≡◌, ℕ, ◌+◌, ◌-◌, ◌^◌, ◌<◌, ◌≤◌, ◌⊎◌, List, Option, length, refl, ◌∙◌, subst, inl, inr}
use Rattle.std.specs.Io.KnownBytes.{Consumes}
use Rattle.rfb_viewer.specs.declared.viewer.Viewer.{Viewer}
use Rattle.rfb_session.specs.declared.engine.fault.EngineFault.{EngineFault}
use Rattle.rfb_session.specs.declared.engine.fault.EngineFault.TheVariants.{Server as ServerEnded}
use Rattle.rfb_session.specs.declared.engine.fault.EngineFault.TheVariants.{Viewer as ViewerEnded}
use Rattle.rfb_session.specs.declared.engine.fault.EngineFault.TheVariants.{Truncated, Device}
use Rattle.rfb_session.specs.declared.engine.fault.EngineFault.TheVariants.{NoMemory}
use Rattle.rfb_session.specs.EngineRead.{HasLooked, StopsLooking}
use Rattle.rfb_session.specs.ViewEngine.{KeepsFirst}
use Rattle.rfb_session.specs.ViewOrder.{LookOver, LooksOver, StopsLookOver, EndsTooEarly}
use Rattle.rfb_session.specs.ViewOrder.{MissesLook, StopsInLooking, StopsViewInOrder}
use Rattle.rfb_session.specs.Wire.{Came, Ended, Missed, Known, KeepsReads, Stepping, by_bytes, by_steps}
use Rattle.rfb_session.proofs.ServeOrderLemmas.{NoneFailed, Quiet, came_first}
use Rattle.rfb_session.proofs.WireLemmas.{Telling, all_known, some_known}

module _ {W : Type 0} (steps : Stepping W) (known : W → Known) (tells : Telling steps known) where
  pub looked_known : (old : Viewer) (bytes : List ℕ) (left fewer : ℕ) (a b : W) (blank copied : Option (List ℕ))
      (new : Viewer) → HasLooked (by_steps steps) old bytes left fewer a b blank copied new →
      Quiet (known a) (known b)
      × HasLooked by_bytes old bytes left fewer (known a).written (known b).written blank copied new
  looked_known old bytes left fewer a b blank copied new looked =
      let looks = looked.looks in
      let wrote = all_known steps known tells a b looks.sent looks.wrote in (
        (wrote.0, wrote.2),
        record {
          fed = looked.fed;
          later = looked.later;
          bytes_are = looked.bytes_are;
          all = looked.all;
          looks = search (looks, wrote.1);
        },
      )

  first_known : (old : Viewer) (fed : List ℕ) (a b : W) (blank copied : Option (List ℕ)) →
      KeepsFirst (by_steps steps) old fed a b blank copied →
      KeepsFirst by_bytes old fed (known a).written (known b).written blank copied
  first_known old fed a b blank copied (inl all) = inl all
  first_known old fed a b blank copied (inr part) =
      inr (search (part, (all_known steps known tells a b part.sent part.wrote).1))

  pub stops_known : (old : Viewer) (bytes : List ℕ) (a b : W) (blank copied : Option (List ℕ)) (n m : ℕ)
      (fault : EngineFault) (new : Viewer) →
      StopsLooking (by_steps steps) old bytes a b blank copied n m fault new →
      KeepsReads (known a) (known b)
      × StopsLooking by_bytes old bytes (known a).written (known b).written blank copied n m fault new
  stops_known old bytes a b blank copied n m (ViewerEnded fault) new stops =
      let wrote = all_known steps known tells a b stops.sent stops.wrote in
      (wrote.0, search (stops, wrote.1))
  stops_known old bytes a b blank copied n m Device new stops =
      let cut = stops.1 in
      let wrote = some_known steps known tells a b cut.sent cut.wrote in
      (wrote.0, (stops.0, search (cut, wrote.1, first_known old cut.fed a b blank copied cut.first)))
  stops_known old bytes a b blank copied n m (ServerEnded fault) new stops = absurd stops
  stops_known old bytes a b blank copied n m Truncated new stops = absurd stops
  stops_known old bytes a b blank copied n m NoMemory new stops = absurd stops

  -- a read, with all that it asks for
  pub look_known : (a : W) (blank : Option (List ℕ)) (old : Viewer) (left fewer : ℕ) (b : W)
      (copied : Option (List ℕ)) (new : Viewer) → (over : LookOver steps a blank old left fewer b copied new) →
      NoneFailed (known a) (known b) × Consumes (known a).unread (known b).unread over.bytes
      × HasLooked by_bytes old over.bytes left fewer (known a).written (known b).written blank copied new
  look_known a blank old left fewer b copied new over =
      let told = tells a over.came (Came over.bytes) over.read in
      let one = looked_known old over.bytes left fewer over.came b blank copied new over.looked in (
        (one.0.0.1 ∙ told.2, one.0.1 ∙ told.0.1, one.0.0.2 ∙ told.0.2),
        came_first (known a) (known over.came) (known b) over.bytes told.1 one.0.0,
        subst (λ (o : Option (List ℕ)). HasLooked by_bytes old over.bytes left fewer o (known b).written
            blank copied new) told.0.0 one.1,
      )

  -- one that stops
  pub cut_known : (a came b : W) (old : Viewer) (bytes : List ℕ) (blank copied : Option (List ℕ)) (n m : ℕ)
      (fault : EngineFault) (new : Viewer) → steps a (Came bytes) came →
      StopsLooking (by_steps steps) old bytes came b blank copied ((known came).failed_writes + n) m fault new →
      ((known b).failed_reads ≡ (known a).failed_reads) × ((known b).lent ≡ (known a).lent)
      × Consumes (known a).unread (known b).unread bytes
      × StopsLooking by_bytes old bytes (known a).written (known b).written blank copied
      ((known a).failed_writes + n) m fault new
  cut_known a came b old bytes blank copied n m fault new read stops =
      let told = tells a came (Came bytes) read in
      let one = stops_known old bytes came b blank copied ((known came).failed_writes + n) m fault new stops in (
        one.0.1 ∙ told.2,
        one.0.2 ∙ told.0.2,
        came_first (known a) (known came) (known b) bytes told.1 one.0,
        subst (λ (o : Option (List ℕ)). StopsLooking by_bytes old bytes o (known b).written blank copied
            ((known a).failed_writes + n) m fault new) told.0.0
            (subst (λ (k : ℕ). StopsLooking by_bytes old bytes (known came).written (known b).written blank
            copied (k + n) m fault new) told.0.1 one.1),
      )

-- ---- why it stops, after reads in order

module _ {W : Type 0} (steps : Stepping W) (known : W → Known) (before mid : W) (blank kept : Option (List ℕ))
    (old now : Viewer) (updates count left : ℕ)
    (so_far : LooksOver steps before blank old updates count left mid kept now) (going : 0 < left) where
  view_stops : (fault : EngineFault) (after : W) (copied : Option (List ℕ)) (failing failed : ℕ) (new : Viewer) →
      StopsLookOver steps known count mid kept failing now fault after copied failed new →
      StopsViewInOrder steps known before blank failing old updates fault after copied failed new
  view_stops fault after copied failing failed new stops = search (going, so_far, stops)

  pub view_misses : (after : W) (failing failed : ℕ) → steps mid Missed after →
      StopsViewInOrder steps known before blank failing old updates Device after kept failed now
  view_misses after failing failed step =
      view_stops Device after kept failing failed now (MissesLook refl step refl refl)

  pub view_ends : (after : W) (failing failed : ℕ) →
      steps mid Ended after ⊎ ((2 ^ 64 - 1 ≤ count) × (after ≡ mid)) →
      StopsViewInOrder steps known before blank failing old updates Truncated after kept failed now
  view_ends after failing failed ended =
      view_stops Truncated after kept failing failed now (EndsTooEarly refl ended refl refl)

  pub view_cut : (came after : W) (bytes : List ℕ) (fault : EngineFault) (copied : Option (List ℕ))
      (failing failing_mid failed : ℕ) (new : Viewer) → steps mid (Came bytes) came → length bytes ≤ 32768 →
      failing_mid ≡ failing →
      StopsLooking (by_steps steps) now bytes came after kept copied ((known came).failed_writes + failing_mid)
      ((known after).failed_writes + failed) fault new →
      StopsViewInOrder steps known before blank failing old updates fault after copied failed new
  view_cut came after bytes fault copied failing failing_mid failed new step few same stops =
      view_stops fault after copied failing failed new (StopsInLooking bytes came step few
      (subst (λ (n : ℕ). StopsLooking (by_steps steps) now bytes came after kept copied
      ((known came).failed_writes + n) ((known after).failed_writes + failed) fault new) same stops))
