-- A view, from its parts.
use Rattle.std.proofs.Common.{◌≡◌, ◌∙◌, ◌⊎◌, ap, inl, inr, sym, subst, Bool, ℕ, List, Option, None, refl, OnOk, OnErr}
use Rattle.std.proofs.Common.{IfErr, Result, Ok, Err, true, false, if◌then◌else◌}
use Rattle.std.proofs.KnownBytes.{Appends-kept}
use Rattle.std.specs.Io.KnownBytes.{Keeps}
use Rattle.rfb_viewer.specs.declared.viewer.Viewer.{Viewer}
use Rattle.rfb_session.specs.declared.engine.fault.EngineFault.{EngineFault}
use Rattle.rfb_session.specs.declared.engine.fault.EngineFault.TheVariants as ends
use Rattle.rfb_session.specs.Devices.{AppendsBeginning}
use Rattle.rfb_session.specs.ViewEngine.{KeepsFirst, KeepsLast, StopsViewing}
use Rattle.rfb_session.specs.Wire.{by_bytes}
use Rattle.rfb.specs.declared.fault.Fault.{Fault}
use Rattle.rfb.specs.declared.fault.Failure.{Failure}
use Rattle.rfb.specs.declared.fault.Failure.TheVariants as failure
use Rattle.rfb.specs.declared.viewing.view_options.Sight.{Sight}
use Rattle.rfb.specs.Recording.{BeginsPicture, EndsShown, ShowsEnd, WritesPicture, shows_end}
use Rattle.rfb.specs.View.{FailsToView, IsMadeFor, LeavesView, Saw, ShowsView, StopsSeeing, StopsView, Views}

-- ---- what is kept, where it is and where it is not

kept_if : (P : Option (List ℕ) → Option (List ℕ) → Type 0) (b : Bool) (before after : Option (List ℕ)) →
    b ≡ true → P before after → P (if b then before else None) (if b then after else None)
kept_if P true before after is holds = holds
kept_if P false before after is holds = let bad : false ≡ true = is in absurd (cc)

kept_unless : (P : Option (List ℕ) → Option (List ℕ) → Type 0) (b : Bool) (before after : Option (List ℕ)) →
    b ≡ false → P None None → P (if b then before else None) (if b then after else None)
kept_unless P false before after is holds = holds
kept_unless P true before after is holds = let bad : true ≡ false = is in absurd (cc)

-- ---- after a flush, which keeps what was written

beginning_flushed : (a b c : Option (List ℕ)) (text : List ℕ) → AppendsBeginning a b text → Keeps b c →
    AppendsBeginning a c text
beginning_flushed a b c text begun kept = (
  begun.0,
  record {
    done = begun.1.done;
    parts = begun.1.parts;
    appended = Appends-kept a b c begun.1.done begun.1.appended kept;
  },
)

last_flushed : (a b c : Option (List ℕ)) (slice : List ℕ) (failing failed : ℕ) →
    KeepsLast a b slice failing failed → Keeps b c → KeepsLast a c slice failing failed
last_flushed a b c slice failing failed (inl all) kept = inl (all.0, Appends-kept a b c slice all.1 kept)
last_flushed a b c slice failing failed (inr some) kept = inr (some.0, beginning_flushed a b c slice some.1 kept)

first_flushed : (old : Viewer) (fed : List ℕ) (before after blank mid copied : Option (List ℕ)) →
    KeepsFirst by_bytes old fed before after blank mid → Keeps mid copied →
    KeepsFirst by_bytes old fed before after blank copied
first_flushed old fed before after blank mid copied (inl all) kept =
    inl (Appends-kept blank mid copied fed all kept)
first_flushed old fed before after blank mid copied (inr some) kept = inr (record {
  earlier = some.earlier;
  part = some.part;
  sent = some.sent;
  updates = some.updates;
  last = some.last;
  mid = some.mid;
  fed_is = some.fed_is;
  runs = some.runs;
  wrote = some.wrote;
  kept = some.kept;
  begun = beginning_flushed some.mid mid copied some.part some.begun kept;
})

viewing_flushed : (unread left before after blank mid copied : Option (List ℕ)) (failing failed : ℕ) (old : Viewer)
    (updates : ℕ) (fault : EngineFault) (new : Viewer) →
    StopsViewing unread left before after blank mid failing failed old updates fault new → Keeps mid copied →
    StopsViewing unread left before after blank copied failing failed old updates fault new
viewing_flushed unread left before after blank mid copied failing failed old updates ends.Truncated new missed kept =
    record {
      fed = missed.fed;
      sent = missed.sent;
      ended = missed.ended;
      fewer = missed.fewer;
      read = missed.read;
      all = missed.all;
      runs = missed.runs;
      wrote = missed.wrote;
      kept = Appends-kept blank mid copied missed.fed missed.kept kept;
    }
viewing_flushed unread left before after blank mid copied failing failed old updates ends.Device new some kept = (
  some.0,
  record {
    fed = some.1.fed;
    later = some.1.later;
    sent = some.1.sent;
    updates = some.1.updates;
    asks = some.1.asks;
    read = some.1.read;
    runs = some.1.runs;
    wrote = some.1.wrote;
    kept = beginning_flushed blank mid copied some.1.fed some.1.kept kept;
    first = first_flushed old some.1.fed before after blank mid copied some.1.first kept;
  },
)
viewing_flushed unread left before after blank mid copied failing failed old updates
    (ends.Viewer fault) new until kept = record {
      fed = until.fed;
      slice = until.slice;
      sent = until.sent;
      updates = until.updates;
      last = until.last;
      read = until.read;
      runs = until.runs;
      wrote = until.wrote;
      kept = (
        until.kept.0,
        until.kept.1,
        last_flushed until.kept.0 mid copied until.slice failing failed until.kept.2 kept,
      );
      ends = until.ends;
    }
viewing_flushed unread left before after blank mid copied failing failed old updates (ends.Server fault) new none kept =
    none
viewing_flushed unread left before after blank mid copied failing failed old updates ends.NoMemory new none kept = none

pub saw_flushed : (read answered blank mid copied : Option (List ℕ)) (first : Viewer) (updates : ℕ) (last : Viewer) →
    Saw read answered blank mid first updates last → Keeps mid copied →
    Saw read answered blank copied first updates last
saw_flushed read answered blank mid copied first updates last saw kept = record {
  left = saw.left;
  after = saw.after;
  viewed = record {
    fed = saw.viewed.fed;
    later = saw.viewed.later;
    sent = saw.viewed.sent;
    read = saw.viewed.read;
    runs = saw.viewed.runs;
    wrote = saw.viewed.wrote;
    kept = Appends-kept blank mid copied saw.viewed.fed saw.viewed.kept kept;
  };
}

pub stops_flushed : (read answered blank mid copied : Option (List ℕ)) (first : Viewer)
    (updates : ℕ) (fault : EngineFault)
    (last : Viewer) → StopsSeeing read answered blank mid first updates fault last → Keeps mid copied →
    StopsSeeing read answered blank copied first updates fault last
stops_flushed read answered blank mid copied first updates fault last stops kept = record {
  left = stops.left;
  after = stops.after;
  failed = stops.failed;
  stopped = viewing_flushed read stops.left answered stops.after blank mid copied 0 stops.failed first updates
      fault last stops.stopped kept;
}

-- ---- a view

pub views_recorded : (sight : Sight) (read answered before after : Option (List ℕ)) (first last : Viewer)
    (r : Result (Unit {0}) Failure) → IsMadeFor sight first → sight.is_recorded ≡ true →
    OnOk r (Saw read answered before after first sight.updates last) → OnOk r (Views sight read answered before after)
views_recorded sight read answered before after first last (Ok done) fresh is saw = record {
  first = first;
  fresh = fresh;
  last = last;
  saw = kept_if (λ x y. Saw read answered x y first sight.updates last) sight.is_recorded before after is saw;
  shown = λ not. let bad : true ≡ false = sym is ∙ not in absurd (cc);
}
views_recorded sight read answered before after first last (Err f) fresh is saw = tt

pub views_shown : (sight : Sight) (read answered before after : Option (List ℕ)) (first last : Viewer)
    (r : Result (Unit {0}) Failure) → IsMadeFor sight first → sight.is_recorded ≡ false →
    Saw read answered None None first sight.updates last → OnOk r (WritesPicture last before after) →
    OnOk r (Views sight read answered before after)
views_shown sight read answered before after first last (Ok done) fresh not saw written = record {
  first = first;
  fresh = fresh;
  last = last;
  saw = kept_unless (λ x y. Saw read answered x y first sight.updates last) sight.is_recorded before after not saw;
  shown = λ not. written;
}
views_shown sight read answered before after first last (Err f) fresh not saw written = tt

pub leaves_shown : {W : Type 0} (contents : W → Option (List ℕ)) (sight : Sight) (read answered : Option (List ℕ))
    (old new : W) (first last : Viewer)
    (r : Result (Unit {0}) Failure) → IsMadeFor sight first → sight.is_recorded ≡ false →
    Saw read answered None None first sight.updates last →
    OnErr r ((new ≡ old) ⊎ BeginsPicture last (contents old) (contents new)) →
    OnErr r (LeavesView sight read answered (contents old) (contents new))
leaves_shown contents sight read answered old new first last (Ok done) fresh not saw left = tt
leaves_shown contents sight read answered old new first last (Err f) fresh not saw (inl same) = inl (ap contents same)
leaves_shown contents sight read answered old new first last (Err f) fresh not saw (inr begun) = inr (inl (record {
  first = first;
  fresh = fresh;
  last = last;
  saw = kept_unless (λ x y. Saw read answered x y first sight.updates last) sight.is_recorded (contents old)
      (contents new) not saw;
  shown = begun;
}))

pub never_recorded : (b : Bool) (P : Type 0) → b ≡ true → b ≡ false → P
never_recorded b P is not = let bad : true ≡ false = sym is ∙ not in absurd (cc)

-- a recording is no picture
shows_recorded : (sight : Sight) (read answered before after : Option (List ℕ)) (first last : Viewer) (f : Failure) →
    sight.is_recorded ≡ true → StopsView read answered before after first sight.updates f last →
    ShowsView sight last before after f
shows_recorded sight read answered before after first last (failure.Engine fault) is stops = λ not.
    never_recorded sight.is_recorded _ is not
shows_recorded sight read answered before after first last (failure.Fault fault) is stops = tt
shows_recorded sight read answered before after first last (failure.BadLine n) is stops = absurd stops
shows_recorded sight read answered before after first last (failure.Undone n why) is stops = absurd stops
shows_recorded sight read answered before after first last (failure.Picture flaw) is stops = absurd stops

pub fails_recorded : (sight : Sight) (read answered before after : Option (List ℕ)) (first last : Viewer)
    (r : Result (Unit {0}) Failure) → IsMadeFor sight first → sight.is_recorded ≡ true →
    IfErr r (λ f. StopsView read answered before after first sight.updates f last) →
    IfErr r (FailsToView sight read answered before after)
fails_recorded sight read answered before after first last (Ok done) fresh is stops = tt
fails_recorded sight read answered before after first last (Err f) fresh is stops = (
  first,
  last,
  fresh,
  inl (
    kept_if (λ x y. StopsView read answered x y first sight.updates f last) sight.is_recorded before after is stops,
    shows_recorded sight read answered before after first last f is stops,
  ),
)

pub fails_seeing : (sight : Sight) (read answered before after : Option (List ℕ)) (first last : Viewer)
    (fault : EngineFault) (f : Failure) →
    IsMadeFor sight first → sight.is_recorded ≡ false →
    StopsSeeing read answered None None first sight.updates fault last →
    EndsShown sight.is_partial last fault before after f → FailsToView sight read answered before after f
fails_seeing sight read answered before after first last fault (failure.Engine told) fresh not stops ends = (
  first,
  last,
  fresh,
  inl (
    kept_unless (λ x y. StopsView read answered x y first sight.updates (failure.Engine told) last)
        sight.is_recorded before after not
        (subst (λ (e : EngineFault). StopsSeeing read answered None None first sight.updates e last)
        (sym ends.0) stops),
    λ unrecorded. subst (λ (e : EngineFault). ShowsEnd sight.is_partial last e before after) (sym ends.0) ends.1,
  ),
)
fails_seeing sight read answered before after first last fault (failure.Fault own) fresh not stops ends = (
  first,
  last,
  fresh,
  inr (
    own,
    refl,
    fault,
    record { is_picture = not; is_shown = ends.0; stops = stops; begun = ends.1 },
  ),
)
fails_seeing sight read answered before after first last fault (failure.BadLine n) fresh not stops ends = absurd ends
fails_seeing sight read answered before after first last fault (failure.Undone n why) fresh not stops ends = absurd ends
fails_seeing sight read answered before after first last fault (failure.Picture flaw) fresh not stops ends = absurd ends

pub leaves_seeing : (sight : Sight) (read answered before after : Option (List ℕ))
    (first last : Viewer) (fault : EngineFault) →
    IsMadeFor sight first → sight.is_recorded ≡ false →
    StopsSeeing read answered None None first sight.updates fault last →
    (after ≡ before) ⊎ ((shows_end sight.is_partial fault ≡ true) × BeginsPicture last before after) →
    LeavesView sight read answered before after
leaves_seeing sight read answered before after first last fault fresh not stops (inl same) = inl same
leaves_seeing sight read answered before after first last fault fresh not stops (inr (is, begun)) = inr (inr (
  fault,
  first,
  last,
  fresh,
  record { is_picture = not; is_shown = is; stops = stops; begun = begun },
))

pub fails_shown : (sight : Sight) (read answered before after : Option (List ℕ)) (first last : Viewer)
    (r : Result (Unit {0}) Failure) → IsMadeFor sight first → sight.is_recorded ≡ false →
    Saw read answered None None first sight.updates last →
    IfErr r (λ f. (fault : Fault) × (f ≡ failure.Fault fault)) → IfErr r (FailsToView sight read answered before after)
fails_shown sight read answered before after first last (Ok done) fresh not saw is = tt
fails_shown sight read answered before after first last (Err (failure.Fault fault)) fresh not saw is = (
  first,
  last,
  fresh,
  inl (
    kept_unless (λ x y. StopsView read answered x y first sight.updates (failure.Fault fault) last)
        sight.is_recorded before after not saw,
    tt,
  ),
)
fails_shown sight read answered before after first last (Err (failure.BadLine n)) fresh not saw is =
    let e = is.1 in
    absurd (cc)
fails_shown sight read answered before after first last (Err (failure.Undone n why)) fresh not saw is =
    let e = is.1 in
    absurd (cc)
fails_shown sight read answered before after first last (Err (failure.Picture flaw)) fresh not saw is =
    let e = is.1 in
    absurd (cc)
fails_shown sight read answered before after first last (Err (failure.Engine fault)) fresh not saw is =
    let e = is.1 in
    absurd (cc)

-- an engine whose devices had not failed before
pub stops_seeing : (read answered output unread left before after blank copied : Option (List ℕ)) (failing failed : ℕ)
    (old : Viewer) (updates : ℕ) (r : Result ℕ EngineFault) (new : Viewer) →
    unread ≡ read → before ≡ answered → blank ≡ output → failing ≡ 0 →
    IfErr r (λ fault. StopsViewing unread left before after blank copied failing failed old updates fault new) →
    IfErr r (λ fault. StopsSeeing read answered output copied old updates fault new)
stops_seeing read answered output unread left before after blank copied failing failed old updates (Ok told)
    new same there here none is = tt
stops_seeing read answered output unread left before after blank copied failing failed old updates (Err fault) new
    same there here none is = record {
      left = left;
      after = after;
      failed = failed;
      stopped = subst (λ (u : Option (List ℕ)). StopsViewing u left answered after output copied 0
          failed old updates fault new) same
          (subst (λ (b : Option (List ℕ)). StopsViewing unread left b after output copied
          0 failed old updates fault new)
          there
          (subst (λ (b : Option (List ℕ)). StopsViewing unread left before after b copied
          0 failed old updates fault new)
          here
          (subst (λ (n : ℕ). StopsViewing unread left before after blank copied n failed old updates fault new)
          none is)));
    }
