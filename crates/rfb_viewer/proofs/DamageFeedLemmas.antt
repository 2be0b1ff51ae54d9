-- A step of a viewer adds to the damage what its machine says, and keeps what lies outside.
use Rattle.std.proofs.Common.{◌≡◌, ◌≢◌, ℕ, ◌+◌, false, List, [], ◌++◌, take, drop, Option, Some, None, Ok, ◌⊎◌, inl}
use Rattle.std.proofs.Common.{inr, refl, sym, subst, ◌∙◌, ap}
use Rattle.rfb_pixel.specs.declared.colour.Colour.{Colour}
use Rattle.rfb_picture.specs.declared.rect.Rect.{Rect}
use Rattle.rfb_picture.specs.Grid.{Grid}
use Rattle.rfb_wire.specs.stream.Prefix.{Next, More, Got, Bad}
use Rattle.rfb_wire.specs.stream.Parts.{named}
use Rattle.rfb_wire.specs.stream.Sequel.{First, Second}
use Rattle.rfb_wire.specs.stream.End.{IsMachine, FedBy, Steps, StepsBy, RunsOutBy}
use Rattle.rfb_wire.proofs.stream_laws.FeedLaws.{fed_start, fed_step, runs_out_later}
use Rattle.rfb_codec.specs.UpdateStream.{update_stream}
use Rattle.rfb_viewer.specs.declared.fault.ViewerFault.{ViewerFault}
use Rattle.rfb_viewer.specs.declared.fault.ViewerFault.TheVariants.{NoMemory}
use Rattle.rfb_viewer.specs.declared.viewer.Viewer.{Viewer}
use Rattle.rfb_viewer.specs.declared.viewer.damage.Edges.{Edges}
use Rattle.rfb_viewer.specs.Damage.{joined_if, rect_of_damage, holds, colour_at, under_way, ended_of, damage_of, begun}
use Rattle.rfb_viewer.specs.Damage.{damage_after, damaging, IsDamaged, IsSameOutside, KeepsDamage}
use Rattle.rfb_viewer.specs.steps.ItemDamage.{screen_made, ended_with, Damages, KeepsOutside, EndsIn}
use Rattle.rfb_viewer.specs.Failed.{ShowsLast, EndsAt}
use Rattle.rfb_viewer.specs.Fault.{fault_of_update}
use Rattle.rfb_viewer.specs.ServerBytes.{ServerAt, FromServer, server_bytes}
use Rattle.rfb_viewer.specs.ShownPieces.{ShowsAt}
use Rattle.rfb_viewer.specs.Model.{StandsFor, fault_of, picture_of}
use Rattle.rfb_viewer.specs.Told.{ViewerTold}
use Rattle.rfb_viewer.specs.Viewer.{Viewing, ViewerState, viewer, shows, picture_after, AsksAt}
use Rattle.rfb_viewer.proofs.ViewerLaws.{server_bytes_laws}
use Rattle.rfb_viewer.proofs.FeedLemmas.{stands_waits}
use Rattle.rfb_viewer.proofs.LendLemmas.{shows_at}
use Rattle.rfb_viewer.proofs.OutsideLemmas.{front_outside}
use Rattle.rfb_viewer.proofs.DamageLemmas.{joined_if_holds, not_joined, ended_same, ended_none, fresh_begun, head_begun}
use Rattle.rfb_viewer.proofs.DamageLemmas.{begun_stays, begun_decided, none_begun, item_begun, under_begun, failed_none}
use Rattle.rfb_viewer.proofs.DamageStepLemmas.{Adds, Rects, Screens, adds_at, at_screen, made_same, second_next}
use Rattle.rfb_viewer.proofs.DamageStepLemmas.{got_holds, after_outside, after_made, stored_outside, stored_now}
use Rattle.rfb_viewer.proofs.DamageStepLemmas.{no_memory_or}

pub damaging_machine : (viewing : Viewing) → IsMachine (damaging viewing)
damaging_machine viewing = record { laws = server_bytes_laws viewing.form viewing.hello; past = λ s i. refl }

-- a call that is fed no bytes
pub damage_starts : (viewing : Viewing) (v : Viewer) → FedBy (damaging viewing) (IsDamaged viewing) v [] None v
damage_starts viewing v =
    fed_start (damaging viewing) (IsDamaged viewing) v (λ s prefix is. stands_waits viewing v s.state prefix is.stands)

pub outside_starts : (v : Viewer) → KeepsOutside v v
outside_starts v = λ x y out. (out, refl)

pub outside_then : (old mid new : Viewer) → KeepsOutside old mid → KeepsOutside mid new → KeepsOutside old new
outside_then old mid new one two = λ x y out.
    let b = two x y out in
    let a = one x y b.0 in
    (a.0, b.1 ∙ a.1)

pub outside_same : (old new : Viewer) → KeepsOutside old new →
    IsSameOutside (damage_of new) (picture_of old) (picture_of new)
outside_same old new kept = λ x y out. (kept x y out).1

-- ---- a step that takes bytes

module _ (viewing : Viewing) (old new : Viewer) (s : ViewerState) (prefix unit : List ℕ)
    (stands : StandsFor viewing old s prefix) (d : Damages old unit new) where
  added : Adds old new s (prefix ++ unit)
  added = adds_at viewing old new old.progress s s.point prefix unit refl stands.progress_is d

  -- where the item waits for more nothing has ended
  more_adds : StandsFor viewing new s (prefix ++ unit) → ended_of new ≡ ended_of old
  more_adds now = by added
    where
      at_new : under_way new.progress ≡ begun s.point (prefix ++ unit)
      at_new = under_begun viewing new new.progress s.point s.picture (prefix ++ unit) now.progress_is

      by : Adds old new s (prefix ++ unit) → ended_of new ≡ ended_of old
      by (Rects q at e) =
          let same : under_way new.progress ≡ begun (Second q) (prefix ++ unit) =
          at_new ∙ ap (λ (a : ServerAt). begun a (prefix ++ unit)) at in
          e ∙ ap (λ (b : Option Rect). ended_with b (begun (Second q) (prefix ++ unit)) (ended_of old)) same
          ∙ ended_same (begun (Second q) (prefix ++ unit)) (ended_of old)
      by (Screens p at screen was e) =
          let shown : ShowsAt (First p) s.picture (prefix ++ unit) new.picture =
          subst (λ (a : ServerAt). ShowsAt a s.picture (prefix ++ unit) new.picture)
          at (shows_at viewing new new.progress s.point s.picture (prefix ++ unit) now.progress_is) in
          e ∙ ap (λ (k : Option (Grid Colour)). screen_made old.picture k (ended_of old)) (shown ∙ sym was)
          ∙ made_same old.picture (ended_of old)

  -- an item adds what it is
  got_adds : (i : FromServer) → (server_bytes viewing.form viewing.hello).next s.point (prefix ++ unit) ≡ Got i [] →
      StandsFor viewing new (shows viewing s i) [] → ended_of new ≡ damage_after s.point i (ended_of old)
  got_adds i got now = by added
    where
      at_new : under_way new.progress ≡ None
      at_new =
          let t = shows viewing s i in
          under_begun viewing new new.progress t.point t.picture [] now.progress_is ∙ fresh_begun t.point

      by : Adds old new s (prefix ++ unit) → ended_of new ≡ damage_after s.point i (ended_of old)
      by (Rects q at e) =
          let bytes = prefix ++ unit in
          let r = second_next viewing q bytes i []
          (ap (λ (a : ServerAt). (server_bytes viewing.form viewing.hello).next a bytes) (sym at) ∙ got) in
          let after : damage_after s.point i (ended_of old) ≡ damage_after (Second q) (Second r.0) (ended_of old) =
          ap (λ (a : ServerAt). damage_after a i (ended_of old))
          at ∙ ap (λ (j : FromServer). damage_after (Second q) j (ended_of old)) r.1 in
          e ∙ ap (λ (b : Option Rect). ended_with b (begun (Second q) bytes) (ended_of old)) at_new
          ∙ ended_none (begun (Second q) bytes) (ended_of old)
          ∙ item_begun q r.0 bytes [] (ended_of old) r.2 ∙ sym after
      by (Screens p at screen was e) =
          let bytes = prefix ++ unit in
          let got' = ap (λ (a : ServerAt). (server_bytes viewing.form viewing.hello).next a bytes) (sym at) ∙ got in
          let shown : new.picture ≡ picture_after (First p) i s.picture =
          stored_now viewing new (shows viewing s i) now ∙ ap (λ (a : ServerAt). picture_after a i s.picture) at in
          e ∙ ap (λ (k : Option (Grid Colour)). screen_made k new.picture (ended_of old)) was
          ∙ ap (λ (k : Option (Grid Colour)). screen_made s.picture k (ended_of old)) shown
          ∙ after_made viewing p i s.picture bytes [] (ended_of old) screen got'
          ∙ ap (λ (a : ServerAt). damage_after a i (ended_of old)) (sym at)

  -- what was held is held still
  was_held : (x y : ℕ) → holds (rect_of_damage (joined_if (ended_of old) (begun s.point (prefix ++ unit)))) x y
      ≡ false → (holds (damage_of old) x y ≡ false) × (colour_at old.picture x y ≡ colour_at s.picture x y)
  was_held x y all =
      let b = begun s.point prefix in
      let out = (joined_if_holds (ended_of old) (begun s.point (prefix ++ unit)) x y all).0 in
      let old_at : under_way old.progress ≡ b =
      under_begun viewing old old.progress s.point s.picture prefix stands.progress_is in
      let held : holds (rect_of_damage (joined_if (ended_of old) b)) x y ≡ false = not_joined (ended_of old) b
      (begun s.point (prefix ++ unit)) x y (begun_stays s.point prefix unit) out all in (
        subst (λ (r : Option Rect). holds (rect_of_damage (joined_if (ended_of old) r)) x y ≡ false) (sym old_at) held,
        stored_outside viewing old s prefix stands x y (joined_if_holds (ended_of old) b x y held).1,
      )

  more_outside : StandsFor viewing new s (prefix ++ unit) → KeepsOutside old new
  more_outside now = λ x y out.
      let b = begun s.point (prefix ++ unit) in
      let at_new : under_way new.progress ≡ b =
      under_begun viewing new new.progress s.point s.picture (prefix ++ unit) now.progress_is in
      let all : holds (rect_of_damage (joined_if (ended_of old) b)) x y ≡ false =
      subst (λ (e : Option Edges). holds (rect_of_damage (joined_if e b)) x y ≡ false) (more_adds now)
      (subst (λ (r : Option Rect). holds (rect_of_damage (joined_if (ended_of new) r)) x y ≡ false) at_new out) in
      let was = was_held x y all in (
        was.0,
        stored_outside viewing new s (prefix ++ unit) now x y (joined_if_holds (ended_of old) b x y all).1 ∙ sym was.1,
      )

  got_outside : (i : FromServer) → (server_bytes viewing.form viewing.hello).next s.point (prefix ++ unit) ≡ Got i [] →
      StandsFor viewing new (shows viewing s i) [] → KeepsOutside old new
  got_outside i got now = λ x y out.
      let t = shows viewing s i in
      let bytes = prefix ++ unit in
      let at_new : under_way new.progress ≡ None =
      under_begun viewing new new.progress t.point t.picture [] now.progress_is ∙ fresh_begun t.point in
      let ended : holds (rect_of_damage (damage_after s.point i (ended_of old))) x y ≡ false =
      subst (λ (e : Option Edges). holds (rect_of_damage e) x y ≡ false) (got_adds i got now)
      (subst (λ (r : Option Rect). holds (rect_of_damage (joined_if (ended_of new) r)) x y ≡ false) at_new out) in
      let was = was_held x y (got_holds viewing s.point i bytes [] (ended_of old) x y got ended) in
      let screen = at_screen viewing old old.progress s.point s.picture prefix stands.progress_is in (
        was.0,
        ap (λ (k : Option (Grid Colour)). colour_at k x y) (stored_now viewing new t now)
            ∙ after_outside viewing s.point i s.picture bytes [] (ended_of old) x y screen got ended
            ∙ sym was.1,
      )

module _ (viewing : Viewing) (old new : Viewer) (unit : List ℕ) (d : Damages old unit new) where
  pub damage_steps : (event : Option ViewerTold) →
      StepsBy (viewer viewing) (StandsFor viewing) old unit (Ok event) new →
      StepsBy (damaging viewing) (IsDamaged viewing) old unit (Ok event) new
  damage_steps event steps s prefix is = by _ refl (steps s.state prefix is.stands)
    where
      by : (n : Next FromServer ViewerFault) →
          (server_bytes viewing.form viewing.hello).next s.state.point (prefix ++ unit) ≡ n →
          Steps (viewer viewing) (StandsFor viewing) new s.state (prefix ++ unit) n (Ok event) →
          Steps (damaging viewing) (IsDamaged viewing) new s (prefix ++ unit) n (Ok event)
      by More e h = (
        h.0,
        record {
          stands = h.1;
          ended_is = more_adds viewing old new s.state prefix unit is.stands d h.1 ∙ is.ended_is;
        },
      )
      by (Got i rest) e h = (
        h.0,
        h.1,
        record {
          stands = h.2;
          ended_is =
              got_adds viewing old new s.state prefix unit is.stands d i (e ∙ ap (λ (ys : List ℕ). Got i ys) h.0) h.2
              ∙ ap (damage_after s.state.point i) is.ended_is;
        },
      )
      by (Bad fault) e h = absurd h

  pub outside_steps : (event : Option ViewerTold) →
      StepsBy (viewer viewing) (StandsFor viewing) old unit (Ok event) new → (s : ViewerState) (prefix : List ℕ) →
      StandsFor viewing old s prefix → KeepsOutside old new
  outside_steps event steps s prefix stands = by _ refl (steps s prefix stands)
    where
      by : (n : Next FromServer ViewerFault) → (server_bytes viewing.form viewing.hello).next s.point (prefix ++ unit)
          ≡ n → Steps (viewer viewing) (StandsFor viewing) new s (prefix ++ unit) n (Ok event) → KeepsOutside old new
      by More e h = more_outside viewing old new s prefix unit stands d h.1
      by (Got i rest) e h =
          got_outside viewing old new s prefix unit stands d i (e ∙ ap (λ (ys : List ℕ). Got i ys) h.0) h.2
      by (Bad fault) e h = absurd h

-- ---- a step that ends at a fault

-- what is shown there
last_outside : (at : ServerAt) (g : Option (Grid Colour)) (bytes : List ℕ) (stored : Option (Grid Colour)) →
    ShowsLast at g bytes stored → (x y : ℕ) → holds (begun at bytes) x y ≡ false →
    colour_at stored x y ≡ colour_at g x y
last_outside (First point) g bytes stored h x y out = ap (λ (k : Option (Grid Colour)). colour_at k x y) h
last_outside (Second q) g bytes stored (inl h) x y out = ap (λ (k : Option (Grid Colour)). colour_at k x y) h.1
last_outside (Second q) g bytes stored (inr (before, now, was, is, u)) x y out =
    let at : begun (Second q) bytes ≡ Some u.head.rect =
    ap (begun (Second q)) u.bytes_are ∙ head_begun q u.head u.front (u.body ++ u.unit) before u.awaits in
    let r = u.refused in
    ap (λ (k : Option (Grid Colour)). colour_at k x y) is
    ∙ front_outside q.form u.head.rect u.head.encoding before (u.body ++ take r.n u.unit) r.pending now r.shows x y
    (subst (λ (k : Option Rect). holds k x y ≡ false) at out)
    ∙ ap (λ (k : Option (Grid Colour)). colour_at k x y) (sym was)

-- the bytes before a fault have begun what all have
decided_begun : (viewing : Viewing) (at : ServerAt) (front later : List ℕ) (fault : ViewerFault) →
    (fault ≢ NoMemory → (server_bytes viewing.form viewing.hello).next at front ≡ Bad fault) →
    (fault ≡ NoMemory → AsksAt viewing.hello at front) → begun at (front ++ later) ≡ begun at front
decided_begun viewing (First point) front later fault bad asks = refl
decided_begun viewing (Second q) front later fault bad asks = by (no_memory_or fault)
  where
    waits : (server_bytes viewing.form viewing.hello).next (Second q) front ≡ Bad fault →
        update_stream.next q front ≡ More → ⊥
    waits told more = let none = sym (ap (named (λ j. Second j) fault_of_update) more) ∙ told in cc

    by : (fault ≡ NoMemory) ⊎ (fault ≢ NoMemory) → begun (Second q) (front ++ later) ≡ begun (Second q) front
    by (inl is) = let none = (asks is).0 in none_begun q (front ++ later) none ∙ sym (none_begun q front none)
    by (inr other) = begun_decided q front later (waits (bad other))

module _ (viewing : Viewing) (old new : Viewer) (fault : ViewerFault) (bytes : List ℕ) (d : Damages old bytes new)
    (fails : fault_of new ≡ Some fault) (ends : EndsIn fault old bytes new) where
  -- what the bytes have begun up to there
  front_begun : (s : ViewerState) (prefix : List ℕ) → (stands : StandsFor viewing old s prefix) →
      begun s.point (prefix ++ bytes) ≡ begun s.point (ends viewing s prefix stands).0
  front_begun s prefix stands =
      let r = ends viewing s prefix stands in
      ap (begun s.point) r.2 ∙ decided_begun viewing s.point r.0 r.1 fault r.3.bad r.3.asks

  fault_adds : (s : ViewerState) (prefix : List ℕ) → (stands : StandsFor viewing old s prefix) →
      damage_of new ≡ rect_of_damage (joined_if (ended_of old) (begun s.point (prefix ++ bytes)))
  fault_adds s prefix stands =
      by (adds_at viewing old new old.progress s s.point prefix bytes refl stands.progress_is d)
    where
      none : under_way new.progress ≡ None
      none = failed_none new.progress fault fails

      by : Adds old new s (prefix ++ bytes) →
          damage_of new ≡ rect_of_damage (joined_if (ended_of old) (begun s.point (prefix ++ bytes)))
      by (Rects q at e) =
          ap (λ (b : Option Rect). rect_of_damage (joined_if (ended_of new) b)) none
          ∙ ap rect_of_damage (e
          ∙ ap (λ (b : Option Rect). ended_with b (begun (Second q) (prefix ++ bytes)) (ended_of old)) none
          ∙ ended_none (begun (Second q) (prefix ++ bytes)) (ended_of old))
          ∙ ap (λ (a : ServerAt). rect_of_damage (joined_if (ended_of old) (begun a (prefix ++ bytes)))) (sym at)
      by (Screens p at screen was e) =
          let r = ends viewing s prefix stands in
          let shown : ShowsLast (First p) s.picture r.0 new.picture =
          subst (λ (a : ServerAt). ShowsLast a s.picture r.0 new.picture) at r.3.shows in
          ap (λ (b : Option Rect). rect_of_damage (joined_if (ended_of new) b)) none
          ∙ ap rect_of_damage (e ∙ ap (λ (k : Option (Grid Colour)). screen_made old.picture k (ended_of old))
          (shown ∙ sym was) ∙ made_same old.picture (ended_of old))
          ∙ ap (λ (a : ServerAt). rect_of_damage (joined_if (ended_of old) (begun a (prefix ++ bytes)))) (sym at)

  pub fault_damages : RunsOutBy (damaging viewing) (λ s front. EndsAt viewing fault (picture_of new) s.state front
      × (damage_of new ≡ rect_of_damage (joined_if s.ended (begun s.state.point front)))) (IsDamaged viewing) old bytes
  fault_damages s prefix is =
      let r = ends viewing s.state prefix is.stands in
      let damage = fault_adds s.state prefix is.stands
      ∙ ap (λ (b : Option Rect). rect_of_damage (joined_if (ended_of old) b)) (front_begun s.state prefix is.stands)
      ∙ ap (λ (e : Option Edges). rect_of_damage (joined_if e (begun s.state.point r.0))) is.ended_is in
      record { items = []; front = r.0; later = r.1; reads = r.2; quiet = refl; asked = (r.3, damage) }

  pub fault_outside : (s : ViewerState) (prefix : List ℕ) → StandsFor viewing old s prefix → KeepsOutside old new
  fault_outside s prefix stands = λ x y out.
      let r = ends viewing s prefix stands in
      let b = begun s.point (prefix ++ bytes) in
      let all : holds (rect_of_damage (joined_if (ended_of old) b)) x y ≡ false =
      subst (λ (k : Option Rect). holds k x y ≡ false) (fault_adds s prefix stands) out in
      let at : holds (begun s.point r.0) x y ≡ false = subst (λ (k : Option Rect). holds k x y ≡ false)
      (front_begun s prefix stands) (joined_if_holds (ended_of old) b x y all).1 in
      let was = was_held viewing old new s prefix bytes stands d x y all in
      (was.0, last_outside s.point s.picture r.0 new.picture r.3.shows x y at ∙ sym was.1)

-- after bytes that were taken
pub damages_later : (fault : ViewerFault) (old mid new : Viewer) (i : ℕ) (bytes : List ℕ) →
    ((viewing : Viewing) → FedBy (damaging viewing) (IsDamaged viewing) old (take i bytes) None mid) →
    Damages mid (drop i bytes) new → fault_of new ≡ Some fault → EndsIn fault mid (drop i bytes) new →
    KeepsDamage fault old bytes new
damages_later fault old mid new i bytes fed d fails ends = λ viewing.
    runs_out_later (damaging viewing) (damaging_machine viewing)
    (λ s front. EndsAt viewing fault (picture_of new) s.state front
    × (damage_of new ≡ rect_of_damage (joined_if s.ended (begun s.state.point front))))
    (IsDamaged viewing) old mid i bytes (fed viewing) (fault_damages viewing mid new fault (drop i bytes) d fails ends)

-- ---- i bytes of a slice are taken, and now n more

module _ (old mid new : Viewer) (i n : ℕ) (bytes : List ℕ) (event : Option ViewerTold)
    (steps : (viewing : Viewing) →
    StepsBy (viewer viewing) (StandsFor viewing) mid (take n (drop i bytes)) (Ok event) new)
    (d : Damages mid (take n (drop i bytes)) new) where
  pub damage_on : ((viewing : Viewing) → FedBy (damaging viewing) (IsDamaged viewing) old (take i bytes) None mid) →
      (viewing : Viewing) → FedBy (damaging viewing) (IsDamaged viewing) old (take (i + n) bytes) event new
  damage_on fed = λ viewing.
      fed_step (damaging viewing) (damaging_machine viewing) (IsDamaged viewing) old mid new i n bytes event
      (fed viewing) (damage_steps viewing mid new (take n (drop i bytes)) d event (steps viewing))

  pub outside_on : ((viewing : Viewing) → FedBy (viewer viewing) (StandsFor viewing) old (take i bytes) None mid) →
      ((viewing : Viewing) (s : ViewerState) (prefix : List ℕ) → StandsFor viewing old s prefix →
      KeepsOutside old mid) → (viewing : Viewing) (s : ViewerState) (prefix : List ℕ) →
      StandsFor viewing old s prefix → KeepsOutside old new
  outside_on fed kept = λ viewing s prefix stands.
      let f = fed viewing s prefix stands in
      outside_then old mid new (kept viewing s prefix stands)
      (outside_steps viewing mid new (take n (drop i bytes)) d event (steps viewing) f.0 f.1 f.2)

-- a fault there
pub outside_fault : (old mid new : Viewer) (i : ℕ) (bytes : List ℕ) (fault : ViewerFault) →
    ((viewing : Viewing) → FedBy (viewer viewing) (StandsFor viewing) old (take i bytes) None mid) →
    ((viewing : Viewing) (s : ViewerState) (prefix : List ℕ) → StandsFor viewing old s prefix → KeepsOutside old mid) →
    Damages mid (drop i bytes) new → fault_of new ≡ Some fault → EndsIn fault mid (drop i bytes) new →
    (viewing : Viewing) (s : ViewerState) (prefix : List ℕ) → StandsFor viewing old s prefix →
    IsSameOutside (damage_of new) (picture_of old) (picture_of new)
outside_fault old mid new i bytes fault fed kept d fails ends = λ viewing s prefix stands.
    let f = fed viewing s prefix stands in
    outside_same old new (outside_then old mid new (kept viewing s prefix stands)
    (fault_outside viewing mid new fault (drop i bytes) d fails ends f.0 f.1 f.2))

-- what is known of a viewer that stands for a state
pub damage_is : (viewing : Viewing) (v : Viewer) (s : ViewerState) (prefix : List ℕ) → StandsFor viewing v s prefix →
    damage_of v ≡ rect_of_damage (joined_if (ended_of v) (begun s.point prefix))
damage_is viewing v s prefix stands =
    ap (λ (r : Option Rect). rect_of_damage (joined_if (ended_of v) r))
    (under_begun viewing v v.progress s.point s.picture prefix stands.progress_is)
