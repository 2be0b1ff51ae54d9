-- A viewer whose picture is shown to others: what its calls leave.
use Rattle.std.proofs.Common.{◌≡◌, ◌≢◌, ◌⊎◌, ◌≤◌, ◌<◌, ℕ, List, take}
use Rattle.std.proofs.Common.{length, Option, Some, None, Result}
use Rattle.std.proofs.Common.{Ok, Err, IfOk, IfErr, inl, inr, refl, sym, ap, subst, ◌∙◌}
use Rattle.std.proofs.Math.Logic.{∥∥₁_elim, ∥∥₁_map}
use Rattle.std.proofs.lemmas.Bool.{cases_eq}
use Rattle.rfb_pixel.specs.declared.colour.Colour.{Colour}
use Rattle.rfb_picture.specs.Grid.{Grid}
use Rattle.rfb_wire.specs.stream.End.{FedBy, RefusedBy, RunsOutBy, StaysFailed}
use Rattle.rfb_wire.specs.stream.FaultPlace.{counted_on}
use Rattle.rfb_hello.specs.declared.fed.Fed.{Fed}
use Rattle.rfb_viewer.specs.declared.call.Call.{Call}
use Rattle.rfb_viewer.specs.declared.fault.AppendFault.{AppendFault}
use Rattle.rfb_viewer.specs.declared.event.ViewerEvent.{ViewerEvent}
use Rattle.rfb_viewer.specs.declared.fault.ViewerFault.{ViewerFault}
use Rattle.rfb_viewer.specs.declared.fault.ViewerFault.TheVariants.{NoMemory}
use Rattle.rfb_viewer.specs.declared.viewer.Viewer.{Viewer}
use Rattle.rfb_viewer.specs.Call.{called}
use Rattle.rfb_viewer.specs.Counted.{CountsTo}
use Rattle.rfb_viewer.specs.Damage.{damage_of, damaging, IsDamaged, KeepsDamage, IsSameOutside, colour_at}
use Rattle.rfb_viewer.specs.Failed.{KeepsPicture, KeepsReason}
use Rattle.rfb_viewer.specs.Moved.{moving, HasMoved, KeepsMoved}
use Rattle.rfb_viewer.specs.Model.{StandsFor, fault_of, picture_of, making_of, taken_of}
use Rattle.rfb_viewer.specs.Told.{seen}
use Rattle.rfb_viewer.specs.Viewer.{Viewing, ViewerState, AsksMemory, viewer as viewer_end}
use Rattle.rfb_session.specs.Mirrors.{shown_of, seen_by, IsViewing, StandsOrFailed, TakesBytes, FailsAt}
use Rattle.rfb_session.proofs.MirrorSizeLemmas.{IsSized, fed_sized, refused_sized}

-- ---- what is not denied of numbers and colours holds

nat_stable : (a b : ℕ) → (a ≢ b → ⊥) → a ≡ b
nat_stable a b not = by (cases_eq a b)
  where
    by : ((a ≡ b) ⊎ (a ≢ b)) → a ≡ b
    by (inl same) = same
    by (inr differ) = absurd (not differ)

abbrev colour_with : ℕ → ℕ → ℕ → Colour
colour_with r g b = record { r = r; g = g; b = b }

colour_of : (r g b x y z : ℕ) → r ≡ x → g ≡ y → b ≡ z → colour_with r g b ≡ colour_with x y z
colour_of r g b x y z one two three = rw (one, two, three) refl

colour_stable : (a b : Option Colour) → (a ≢ b → ⊥) → a ≡ b
colour_stable None None not = refl
colour_stable None (Some b) not = absurd (not (λ e. cc))
colour_stable (Some a) None not = absurd (not (λ e. cc))
colour_stable (Some a) (Some b) not =
    ap (λ (c : Colour). Some c) (colour_of a.r a.g a.b b.r b.g b.b
    (nat_stable a.r b.r (λ differ. not (λ e. differ (let same : a ≡ b = cc in ap (λ (c : Colour). c.r) same))))
    (nat_stable a.g b.g (λ differ. not (λ e. differ (let same : a ≡ b = cc in ap (λ (c : Colour). c.g) same))))
    (nat_stable a.b b.b (λ differ. not (λ e. differ (let same : a ≡ b = cc in ap (λ (c : Colour). c.b) same)))))

-- ---- a viewer that has not failed stands for something

not_nothing : (viewer : Viewer) → ∥ StandsOrFailed viewer ∥₁ → fault_of viewer ≡ None →
    (IsViewing viewer → ⊥) → ⊥
not_nothing viewer stands going none = ∥∥₁_elim stands (λ x y. absurd x) (λ (s : StandsOrFailed viewer).
    none (s going))

fault_or : (o : Option ViewerFault) → (o ≡ None) ⊎ ((fault : ViewerFault) × (o ≡ Some fault))
fault_or None = inl refl
fault_or (Some fault) = inr (fault, refl)

-- outside of its damage its picture is as it was
pub same_outside : (old new : Viewer) (result : Result (Fed ViewerEvent) ViewerFault) →
    ∥ StandsOrFailed old ∥₁ →
    ((viewing : Viewing) (s : ViewerState) (prefix : List ℕ) → StandsFor viewing old s prefix →
    IsSameOutside (damage_of new) (picture_of old) (picture_of new)) →
    StaysFailed (fault_of old) old result new →
    IsSameOutside (damage_of new) (picture_of old) (picture_of new)
same_outside old new result stands outside failed x y out = by (fault_or (fault_of old))
  where
    by : ((fault_of old ≡ None) ⊎ ((fault : ViewerFault) × (fault_of old ≡ Some fault))) →
        colour_at (picture_of new) x y ≡ colour_at (picture_of old) x y
    by (inl going) = colour_stable _ _ (λ differ. not_nothing old stands going (λ one.
        differ (outside one.viewing one.state one.prefix one.stands x y out)))
    by (inr (fault, is)) = ap (λ (v : Viewer). colour_at (picture_of v) x y) (failed fault is).1

-- ---- its picture keeps its size

sized_shown : (w h : ℕ) (o : Option (Grid Colour)) → IsSized w h o →
    (o ≡ Some (shown_of o)) × ((shown_of o).width ≡ w) × ((shown_of o).height ≡ h)
sized_shown w h None sized = absurd sized
sized_shown w h (Some g) sized = (refl, sized.0, sized.1)

shown_sized : (o : Option (Grid Colour)) → o ≡ Some (shown_of o) →
    IsSized (shown_of o).width (shown_of o).height o
shown_sized None none = absurd (let e = none in cc)
shown_sized (Some g) is = (refl, refl)

sized_stable : (w h : ℕ) (o : Option (Grid Colour)) → ((IsSized w h o → ⊥) → ⊥) → IsSized w h o
sized_stable w h None not = absurd (not (λ sized. sized))
sized_stable w h (Some g) not = (
  nat_stable g.width w (λ differ. not (λ sized. differ sized.0)),
  nat_stable g.height h (λ differ. not (λ sized. differ sized.1)),
)

feed_sized : (w h : ℕ) (old new : Viewer) (bytes : List ℕ) (result : Result (Fed ViewerEvent) ViewerFault) →
    ∥ StandsOrFailed old ∥₁ → StaysFailed (fault_of old) old result new →
    IfOk result (λ fed. (viewing : Viewing) → FedBy (viewer_end viewing) (StandsFor viewing) old (take fed.used
    bytes)
    (seen fed.event) new) → IfErr result (λ fault. fault_of old ≡ None → KeepsPicture fault old bytes new) →
    IsSized w h (picture_of old) → IsSized w h (picture_of new)
feed_sized w h old new bytes result stands failed fed keeps sized = by (fault_or (fault_of old))
  where
    at : (r : Result (Fed ViewerEvent) ViewerFault) → IfOk r (λ fed. (viewing : Viewing) →
        FedBy (viewer_end viewing)
        (StandsFor viewing) old (take fed.used bytes) (seen fed.event) new) →
        IfErr r (λ fault. fault_of old ≡ None → KeepsPicture fault old bytes new) → fault_of old ≡ None →
        IsViewing old → IsSized w h (picture_of new)
    at (Ok told) fed keeps going one =
        fed_sized w h one.viewing old new (take told.used bytes) (seen told.event) one.state one.prefix one.stands
        (fed one.viewing) sized
    at (Err fault) fed keeps going one =
        refused_sized w h one.viewing old new bytes fault one.state one.prefix one.stands (keeps going) sized

    by : ((fault_of old ≡ None) ⊎ ((fault : ViewerFault) × (fault_of old ≡ Some fault))) →
        IsSized w h (picture_of new)
    by (inl going) = sized_stable w h (picture_of new) (λ not.
        not_nothing old stands going (λ one. not (at result fed keeps going one)))
    by (inr (fault, is)) = subst (λ (v : Viewer). IsSized w h (picture_of v)) (sym (failed fault is).1) sized

-- so a viewer that had a picture has one of its size
pub feed_shows : (old new : Viewer) (bytes : List ℕ) (result : Result (Fed ViewerEvent) ViewerFault) →
    picture_of old ≡ Some (seen_by old) → ∥ StandsOrFailed old ∥₁ →
    StaysFailed (fault_of old) old result new → IfOk result (λ fed. (viewing : Viewing) →
    FedBy (viewer_end viewing) (StandsFor viewing) old (take fed.used bytes) (seen fed.event) new) →
    IfErr result (λ fault. fault_of old ≡ None → KeepsPicture fault old bytes new) →
    (picture_of new ≡ Some (seen_by new)) × ((seen_by new).width ≡ (seen_by old).width)
    × ((seen_by new).height ≡ (seen_by old).height)
feed_shows old new bytes result shown stands failed fed keeps =
    let w = (seen_by old).width in
    let h = (seen_by old).height in
    sized_shown w h (picture_of new)
    (feed_sized w h old new bytes result stands failed fed keeps (shown_sized (picture_of old) shown))

-- ---- and it stands for something or has failed

pub feed_stands : (old new : Viewer) (bytes : List ℕ) (result : Result (Fed ViewerEvent) ViewerFault) →
    ∥ StandsOrFailed old ∥₁ → StaysFailed (fault_of old) old result new →
    IfOk result (λ fed. (viewing : Viewing) → FedBy (viewer_end viewing) (StandsFor viewing) old (take fed.used
    bytes)
    (seen fed.event) new) → IfErr result (λ fault. fault_of new ≡ Some fault) → ∥ StandsOrFailed new ∥₁
feed_stands old new bytes (Ok told) stands failed fed fails = ∥∥₁_map stands (λ has going.
    let one = has (not_failed (fault_of old) refl) in
    let two = fed one.viewing one.state one.prefix one.stands in
    record { viewing = one.viewing; state = two.0; prefix = two.1; stands = two.2 })
  where
    not_failed : (o : Option ViewerFault) → fault_of old ≡ o → fault_of old ≡ None
    not_failed None is = is
    not_failed (Some fault) is = absurd (let e = (failed fault is).0 in cc)
feed_stands old new bytes (Err fault) stands failed fed fails =
    ∥∥₁_map stands (λ has going. absurd (let e = sym fails ∙ going in cc))

pub keeps_stands : (old new : Viewer) → fault_of new ≡ fault_of old → ((viewing : Viewing) (s : ViewerState)
    (prefix : List ℕ) → StandsFor viewing old s prefix → StandsFor viewing new s prefix) →
    ∥ StandsOrFailed old ∥₁ → ∥ StandsOrFailed new ∥₁
keeps_stands old new fault goes stands = ∥∥₁_map stands (λ has going.
    let one = has (sym fault ∙ going) in
    record {
      viewing = one.viewing;
      state = one.state;
      prefix = one.prefix;
      stands = goes one.viewing one.state one.prefix one.stands;
    })

-- what it shows is as it was
pub shown_kept : (old new : Viewer) → picture_of new ≡ picture_of old → picture_of old ≡ Some (seen_by old) →
    picture_of new ≡ Some (seen_by new)
shown_kept old new same shown = same ∙ shown ∙ ap (λ (o : Option (Grid Colour)). Some (shown_of o)) (sym same)

-- so a viewer that keeps its fault and its picture, and what it stood for, is one to show as it was
pub keeps_shown : (old new : Viewer) → fault_of new ≡ fault_of old → picture_of new ≡ picture_of old →
    ((viewing : Viewing) (s : ViewerState) (prefix : List ℕ) → StandsFor viewing old s prefix →
    StandsFor viewing new s prefix) → picture_of old ≡ Some (seen_by old) → ∥ StandsOrFailed old ∥₁ →
    (picture_of new ≡ Some (seen_by new)) × ∥ StandsOrFailed new ∥₁
keeps_shown old new fault picture goes shown stands =
    (shown_kept old new picture shown, keeps_stands old new fault goes stands)

-- a call that is made keeps it, and one that is refused changes nothing
pub call_stands : (old new : Viewer) (call : Call) (result : Result (Unit {0}) AppendFault) →
    IfOk result (λ done. (viewing : Viewing) (s : ViewerState) (prefix : List ℕ) →
    StandsFor viewing old s prefix →
    StandsFor viewing new (called call s) prefix) → IfErr result (λ fault. new ≡ old) →
    fault_of new ≡ fault_of old → ∥ StandsOrFailed old ∥₁ → ∥ StandsOrFailed new ∥₁
call_stands old new call (Ok done) goes same fault stands = ∥∥₁_map stands (λ has going.
    let one = has (sym fault ∙ going) in
    record {
      viewing = one.viewing;
      state = called call one.state;
      prefix = one.prefix;
      stands = goes one.viewing one.state one.prefix one.stands;
    })
call_stands old new call (Err refusal) goes same fault stands =
    subst (λ (v : Viewer). ∥ StandsOrFailed v ∥₁) (sym same) stands

-- ---- bytes

pub takes : (old new : Viewer) (bytes : List ℕ) (result : Result (Fed ViewerEvent) ViewerFault) →
    IfOk result (λ fed. fed.used ≤ length bytes) → IfOk result (λ fed. fed.event ≡ None →
    fed.used ≡ length bytes) →
    IfOk result (λ fed. 0 < length bytes → 0 < fed.used) →
    IfOk result (λ fed. (viewing : Viewing) → FedBy (viewer_end viewing) (StandsFor viewing) old (take fed.used
    bytes)
    (seen fed.event) new) →
    IfOk result (λ fed. (viewing : Viewing) → FedBy (damaging viewing) (IsDamaged viewing) old (take fed.used bytes)
    (seen fed.event) new) →
    IfOk result (λ fed. (viewing : Viewing) → FedBy (moving viewing) (HasMoved viewing) old (take fed.used bytes)
    (seen fed.event) new) →
    IfOk result (λ fed. taken_of new ≡ counted_on (taken_of old) fed.used) → making_of new ≡ making_of old →
    IfOk result (λ fed. TakesBytes old bytes fed new)
takes old new bytes (Ok fed) used all some fed_by damage moved counted made = record {
  used = used;
  all = all;
  some = some;
  fed_by = fed_by;
  damage = damage;
  moved = moved;
  made = made;
  counted = counted;
}
takes old new bytes (Err fault) used all some fed_by damage moved counted made = tt

pub fails_at : (old new : Viewer) (bytes : List ℕ) (result : Result (Fed ViewerEvent) ViewerFault) →
    IfErr result (λ fault. fault_of new ≡ Some fault) → StaysFailed (fault_of old) old result new →
    IfErr result (λ fault. fault ≢ NoMemory → (viewing : Viewing) →
    RefusedBy (viewer_end viewing) (StandsFor viewing) old bytes fault) →
    IfErr result (λ fault. fault ≡ NoMemory → (viewing : Viewing) →
    RunsOutBy (viewer_end viewing) (AsksMemory viewing) (StandsFor viewing) old bytes) →
    IfErr result (λ fault. fault_of old ≡ None → KeepsPicture fault old bytes new) →
    IfErr result (λ fault. fault_of old ≡ None → KeepsDamage fault old bytes new) →
    IfErr result (λ fault. fault_of old ≡ None → KeepsMoved fault old bytes new) →
    IfErr result (λ fault. fault_of old ≡ None → KeepsReason fault old bytes new) →
    IfErr result (λ fault. fault_of old ≡ None → CountsTo fault old bytes new) →
    making_of new ≡ making_of old →
    IfErr result (λ fault. FailsAt old bytes fault new)
fails_at old new bytes (Ok fed) fails again refused wants picture damage moved reason counted made = tt
fails_at old new bytes (Err fault) fails again refused wants picture damage moved reason counted made = record {
  ends = record { fails = fails; refused = refused; starved = wants; picture = picture; reason = reason };
  again = λ before is. let same = (again before is).0 in (cc, (again before is).1);
  damage = damage;
  moved = moved;
  counted = counted;
  made = made;
}
