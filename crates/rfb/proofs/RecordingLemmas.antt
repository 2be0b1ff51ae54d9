-- A recording that was played, from its parts.
use Rattle.std.proofs.Common.{◌≡◌, ◌≤◌, ◌<◌, ◌⊎◌, ap, sym, subst, inl, inr, ℕ, Bool, true, false, refl, [], ◌∷◌}
use Rattle.std.proofs.Common.{List, Option, Some, None, OnOk, OnErr, IfErr, IfOk, Result, Ok, Err, arith}
use Rattle.rfb_session.specs.Playback.{AllPlayed}
use Rattle.rfb_session.specs.FirstUpdates.{AreEnough, AreFewer, AreNoMore, PlayedFirst, StopsPlayingUpTo}
use Rattle.rfb_session.specs.ViewerActs.{StandsBetween}
use Rattle.rfb_wire.specs.declared.encoding.Encoding.TheVariants.{Raw}
use Rattle.rfb_viewer.specs.declared.viewer.Viewer.{Viewer}
use Rattle.rfb_session.specs.declared.engine.fault.EngineFault.{EngineFault}
use Rattle.rfb.specs.declared.fault.Fault.{Fault}
use Rattle.rfb.specs.declared.fault.Failure.{Failure}
use Rattle.rfb.specs.declared.fault.Failure.TheVariants as failure
use Rattle.rfb.specs.declared.play.play_options.PlayOptions.{PlayOptions}
use Rattle.rfb_session.proofs.WrittenLaws.{whole_beginning}
use Rattle.rfb.specs.Recording.{BeginsPicture, EndsShown, FailsToPlay, IsFresh, LeavesRecording, MayWritePicture}
use Rattle.rfb.specs.Recording.{PlaysRecording, PlaysTo, ShowsEnd, StopsWatching, Watches, WritesPicture, shows_end}

-- a viewer that was fed what is wanted, and what was written of it
plays_to : (Writes : Viewer → Type 0) (options : PlayOptions) (read : Option (List ℕ)) (first last : Viewer)
    (told : ℕ) → IsFresh options.format (Raw ∷ []) first → Watches options.updates read first told last →
    Writes last → PlaysTo Writes options read
plays_to Writes options read first last told fresh watched written = record {
  first = first;
  fresh = fresh;
  told = told;
  last = last;
  watches = watched;
  written = written;
}

pub plays_recording : (options : PlayOptions) (read before after : Option (List ℕ)) (first last : Viewer) (told : ℕ)
    (r : Result (Unit {0}) Failure) → IsFresh options.format (Raw ∷ []) first →
    Watches options.updates read first told last →
    OnOk r (WritesPicture last before after) → OnOk r (PlaysRecording options read before after)
plays_recording options read before after first last told (Ok done) fresh watched written =
    plays_to (λ viewer. WritesPicture viewer before after) options read first last told fresh watched written
plays_recording options read before after first last told (Err failure) fresh watched written = tt

pub leaves_recording : {W : Type 0} (contents : W → Option (List ℕ)) (options : PlayOptions) (read : Option (List ℕ))
    (old new : W) (first last : Viewer) (told : ℕ)
    (r : Result (Unit {0}) Failure) → IsFresh options.format (Raw ∷ []) first →
    Watches options.updates read first told last →
    OnErr r ((new ≡ old) ⊎ BeginsPicture last (contents old) (contents new)) →
    OnErr r (LeavesRecording options read (contents old) (contents new))
leaves_recording contents options read old new first last told (Ok done) fresh watched left = tt
leaves_recording contents options read old new first last told (Err failure) fresh watched (inl same) =
    inl (ap contents same)
leaves_recording contents options read old new first last told (Err failure) fresh watched (inr begun) =
    inr (inl (plays_to (λ viewer. BeginsPicture viewer (contents old) (contents new)) options read first last told
    fresh watched begun))

pub fails_to_show : (options : PlayOptions) (read before after : Option (List ℕ)) (r : Result (Unit {0}) Failure) →
    IfErr r (λ f. (fault : Fault) × (f ≡ failure.Fault fault)) → IfErr r (FailsToPlay options read before after)
fails_to_show options read before after (Ok done) is = tt
fails_to_show options read before after (Err (failure.Fault fault)) is = tt
fails_to_show options read before after (Err (failure.BadLine n)) is = let e = is.1 in absurd (cc)
fails_to_show options read before after (Err (failure.Undone n why)) is = let e = is.1 in absurd (cc)
fails_to_show options read before after (Err (failure.Picture flaw)) is = let e = is.1 in absurd (cc)
fails_to_show options read before after (Err (failure.Engine fault)) is = let e = is.1 in absurd (cc)

pub shown_no_engine : (engine : EngineFault) (r : Result (Unit {0}) Failure) →
    IfErr r (λ f. (fault : Fault) × (f ≡ failure.Fault fault)) → r ≡ Err (failure.Engine engine) → ⊥
shown_no_engine engine (Ok done) is same = cc
shown_no_engine engine (Err f) is same = let e = is.1 in cc

-- ---- an early end

both_ways : (b : Bool) → (b ≡ true) ⊎ (b ≡ false)
both_ways true = inl refl
both_ways false = inr refl

-- all of a picture is a beginning of it
begins_whole : (last : Viewer) (before after : Option (List ℕ)) →
    WritesPicture last before after → BeginsPicture last before after
begins_whole last before after written =
    (written.0, written.1, whole_beginning before after _ written.2)

-- the output is as it was, or a beginning of the picture was written, where that is wanted
pub begins_early : (is_wanted : Bool) (last : Viewer) (fault : EngineFault)
    (before after : Option (List ℕ)) (f : Failure) →
    EndsShown is_wanted last fault before after f →
    (after ≡ before) ⊎ ((shows_end is_wanted fault ≡ true) × BeginsPicture last before after)
begins_early is_wanted last fault before after (failure.Engine told) (same, shows) =
    begun (both_ways (shows_end is_wanted fault))
  where
    begun : (shows_end is_wanted fault ≡ true) ⊎ (shows_end is_wanted fault ≡ false) →
        (after ≡ before) ⊎ ((shows_end is_wanted fault ≡ true) × BeginsPicture last before after)
    begun (inr not) = inl (shows.1 not)
    begun (inl is) = written is (shows.0 is)
      where
        written : shows_end is_wanted fault ≡ true → MayWritePicture last before after →
            (after ≡ before) ⊎ ((shows_end is_wanted fault ≡ true) × BeginsPicture last before after)
        written is (inl none) = inl none.1
        written is (inr whole) = inr (is, begins_whole last before after whole)
begins_early is_wanted last fault before after (failure.Fault own) begun = inr begun
begins_early is_wanted last fault before after (failure.BadLine n) none = absurd none
begins_early is_wanted last fault before after (failure.Undone n why) none = absurd none
begins_early is_wanted last fault before after (failure.Picture flaw) none = absurd none

-- an engine's fault is reported as it is
pub ends_same : (is_wanted : Bool) (last : Viewer) (fault told : EngineFault)
    (before after : Option (List ℕ)) (f : Failure) →
    EndsShown is_wanted last fault before after f → f ≡ failure.Engine told → told ≡ fault
ends_same is_wanted last fault told before after (failure.Engine other) ends same = let e = ends.0 in cc
ends_same is_wanted last fault told before after (failure.Fault own) ends same = absurd (cc)
ends_same is_wanted last fault told before after (failure.BadLine n) ends same = absurd ends
ends_same is_wanted last fault told before after (failure.Undone n why) ends same = absurd ends
ends_same is_wanted last fault told before after (failure.Picture flaw) ends same = absurd ends

pub fails_early : (options : PlayOptions) (read before after : Option (List ℕ)) (first last : Viewer)
    (fault : EngineFault) (f : Failure) →
    IsFresh options.format (Raw ∷ []) first → StopsWatching options.updates read first fault last →
    EndsShown options.is_partial last fault before after f → FailsToPlay options read before after f
fails_early options read before after first last fault (failure.Engine told) fresh stops ends = (
  first,
  last,
  fresh,
  subst (λ (e : EngineFault). StopsWatching options.updates read first e last) (sym ends.0) stops,
  subst (λ (e : EngineFault). ShowsEnd options.is_partial last e before after) (sym ends.0) ends.1,
)
fails_early options read before after first last fault (failure.Fault own) fresh stops ends = tt
fails_early options read before after first last fault (failure.BadLine n) fresh stops ends = absurd ends
fails_early options read before after first last fault (failure.Undone n why) fresh stops ends = absurd ends
fails_early options read before after first last fault (failure.Picture flaw) fresh stops ends = absurd ends

pub leaves_early : (options : PlayOptions) (read before after : Option (List ℕ))
    (first last : Viewer) (fault : EngineFault) →
    IsFresh options.format (Raw ∷ []) first → StopsWatching options.updates read first fault last →
    (after ≡ before) ⊎ ((shows_end options.is_partial fault ≡ true) × BeginsPicture last before after) →
    LeavesRecording options read before after
leaves_early options read before after first last fault fresh stops (inl same) = inl same
leaves_early options read before after first last fault fresh stops (inr (is, begun)) = inr (inr (
  fault,
  record {
    is_shown = is;
    first = first;
    fresh = fresh;
    last = last;
    stops = stops;
    begun = begun;
  },
))

-- ---- all updates, or so many

fewer_or_enough : (told enough : ℕ) → told ≤ enough → (told < enough) ⊎ (told ≡ enough)
fewer_or_enough told enough few = search (arith, few)

watched_so : (enough : Option ℕ) (read left : Option (List ℕ)) (old : Viewer) (r : Result ℕ EngineFault)
    (new : Viewer) →
    IfOk r (λ told. AreNoMore enough told) →
    IfOk r (λ told. AreEnough enough told → PlayedFirst read left old told new) →
    IfOk r (λ told. AreFewer enough told → AllPlayed read left old told new) →
    IfOk r (λ told. AreFewer enough told → StandsBetween new true) →
    IfOk r (λ told. Watches enough read old told new)
watched_so enough read left old (Err fault) new few first played between = tt
watched_so None read left old (Ok told) new few first played between = record {
  left = left;
  played = played tt;
  between = between tt;
}
watched_so (Some enough) read left old (Ok told) new few first played between =
    either (fewer_or_enough told enough few)
  where
    either : (told < enough) ⊎ (told ≡ enough) → Watches (Some enough) read old told new
    either (inl fewer) = inr (
      fewer,
      record { left = left; played = played fewer; between = between fewer },
    )
    either (inr same) = inl (
      same,
      record {
        left = left;
        played = subst (λ (n : ℕ). PlayedFirst read left old n new) same (first same);
      },
    )

stopped_so : (enough : Option ℕ) (read left : Option (List ℕ)) (failed : ℕ) (old : Viewer)
    (r : Result ℕ EngineFault) (new : Viewer) →
    IfErr r (λ fault. StopsPlayingUpTo enough read left 0 failed old fault new) →
    IfErr r (λ fault. StopsWatching enough read old fault new)
stopped_so enough read left failed old (Ok told) new stops = tt
stopped_so None read left failed old (Err fault) new stops =
    record { left = left; failed = failed; stopped = stops }
stopped_so (Some enough) read left failed old (Err fault) new stops =
    record { left = left; failed = failed; stopped = stops }

-- from an engine over a source that had not failed before
pub watches : (enough wide : Option ℕ) (read unread left : Option (List ℕ)) (old : Viewer)
    (r : Result ℕ EngineFault) (new : Viewer) → wide ≡ enough → unread ≡ read →
    IfOk r (λ told. AreNoMore wide told) →
    IfOk r (λ told. AreEnough wide told → PlayedFirst unread left old told new) →
    IfOk r (λ told. AreFewer wide told → AllPlayed unread left old told new) →
    IfOk r (λ told. AreFewer wide told → StandsBetween new true) →
    IfOk r (λ told. Watches enough read old told new)
watches enough wide read unread left old r new same there few first played between =
    subst (λ (e : Option ℕ). IfOk r (λ told. Watches e read old told new)) same
    (subst (λ (u : Option (List ℕ)). IfOk r (λ told. Watches wide u old told new)) there
    (watched_so wide unread left old r new few first played between))

pub stops_watching : (enough wide : Option ℕ) (read unread left : Option (List ℕ)) (failing failed : ℕ)
    (old : Viewer) (r : Result ℕ EngineFault) (new : Viewer) → wide ≡ enough → unread ≡ read → failing ≡ 0 →
    IfErr r (λ fault. StopsPlayingUpTo wide unread left failing failed old fault new) →
    IfErr r (λ fault. StopsWatching enough read old fault new)
stops_watching enough wide read unread left failing failed old r new same there none stops =
    subst (λ (e : Option ℕ). IfErr r (λ fault. StopsWatching e read old fault new)) same
    (subst (λ (u : Option (List ℕ)). IfErr r (λ fault. StopsWatching wide u old fault new)) there
    (stopped_so wide unread left failed old r new
    (subst (λ (n : ℕ). IfErr r (λ fault. StopsPlayingUpTo wide unread left n failed old fault new)) none stops)))
