-- A film of a viewer, from what a watcher heard and how its engine ended.
use Rattle.std.proofs.Common.{◌≡◌, ◌<◌, ◌⊎◌, ◌∙◌, ◌&&◌, sym, subst, inl, inr, refl, ℕ, Bool}
use Rattle.std.proofs.Common.{true, false, List, Option, None, Some, IfErr, OnOk, Result, Ok, Err, arith}
use Rattle.std.proofs.Common.{nat_lt}
use Rattle.std.proofs.lemmas.Bool.Decides.{nat_tests}
use Rattle.rfb_viewer.specs.declared.viewer.Viewer.{Viewer}
use Rattle.rfb_session.specs.declared.engine.fault.EngineFault.{EngineFault}
use Rattle.rfb_session.specs.declared.engine.fault.EngineFault.TheVariants as engine
use Rattle.rfb_session.specs.ViewerActs.{StandsBetween}
use Rattle.rfb_session.specs.Watcher.{EndsViewing, HearsRead, Listening}
use Rattle.rfb.specs.declared.fault.Failure.{Failure}
use Rattle.rfb.specs.declared.fault.Failure.TheVariants as failure
use Rattle.rfb.specs.declared.fault.Fault.{Fault as OwnFault}
use Rattle.rfb.specs.declared.viewing.film.Film.{Film}
use Rattle.rfb.specs.declared.viewing.filming.Filming.{Filming}
use Rattle.rfb.specs.Explain.{updates_told}
use Rattle.rfb.specs.Film.{Counts, EndsCounted, EndsEarly, EndsFilm, FailsToFollow, Filmed, Follows, Shoots}
use Rattle.rfb.specs.Film.{cut_of, filmed_on, is_over, judged, most_of, reel, reel_of, told_of}
use Rattle.rfb.specs.Recording.{IsFresh}
use Rattle.rfb.specs.View.{Saw, StopsSeeing}
use Rattle.rfb.proofs.FilmingLemmas.{heard_as}

ends_as : {A : Type 0} (steps : Listening A) (Ends Others : ℕ → List ℕ → Viewer → Type 0)
    (unread left : Option (List ℕ)) (first : Viewer) (old new : A) →
    ((updates : ℕ) (later : List ℕ) (last : Viewer) → Ends updates later last → Others updates later last) →
    HearsRead steps Ends unread left first old new → HearsRead steps Others unread left first old new
ends_as steps Ends Others unread left first old new gives =
    heard_as steps steps Ends Others unread left first old new old new (λ fed updates last hears. hears)
    (λ fed later updates last hears ends. gives updates later last ends)

is_some : (told updates : ℕ) → 0 < told → Counts told updates → 0 < updates
is_some told updates some (inl none) = let e = none.0 in omega (arith, some, e)
is_some told updates some (inr both) = both.1

is_none : (told updates : ℕ) → (0 < told → ⊥) → Counts told updates → updates ≡ 0
is_none told updates none (inl both) = both.1
is_none told updates none (inr both) = absurd (none both.0)

-- where it is over
abbrev WellEnded : Option ℕ → ℕ → Result ℕ EngineFault → Viewer → Type 0
WellEnded asked told ended last =
    (updates : ℕ) (later : List ℕ) (now : Viewer) → EndsCounted (most_of asked) ended last told updates later now →
    EndsFilm asked last updates later now

abbrev BadlyEnded : Option ℕ → ℕ → Result ℕ EngineFault → Viewer → Failure → Type 0
BadlyEnded asked told ended last f =
    (fault : EngineFault) × (f ≡ failure.Engine fault) × (ended ≡ Err fault)
    × ((updates : ℕ) (later : List ℕ) (now : Viewer) → EndsCounted (most_of asked) ended last told updates later now →
    EndsEarly asked fault last updates later now)

counted_some : (b : Bool) (told : ℕ) → b ≡ nat_lt 0 told → b ≡ true → 0 < told
counted_some b told is on = let e : nat_lt 0 told ≡ true = sym is ∙ on in grind (arith, nat_tests)

counted_none : (b : Bool) (told : ℕ) → b ≡ nat_lt 0 told → b ≡ false → 0 < told → ⊥
counted_none b told is off some = let e : nat_lt 0 told ≡ false = sym is ∙ off in grind (arith, nat_tests)

ended_well : (b between : Bool) (told : ℕ) (last : Viewer) → (b ≡ true → 0 < told) → StandsBetween last between →
    OnOk (judged None (Err engine.Truncated) (b && between)) (WellEnded None told (Err engine.Truncated) last)
ended_well true true told last some stands = λ updates later now ends.
    (ends.0.1, inr (refl, is_some told updates (some refl) ends.1, ends.0.2, stands))
ended_well true false told last some stands = tt
ended_well false between told last some stands = tt

ended_badly : (b between : Bool) (told : ℕ) (last : Viewer) → (b ≡ false → 0 < told → ⊥) → StandsBetween last between →
    IfErr (judged None (Err engine.Truncated) (b && between)) (BadlyEnded None told (Err engine.Truncated) last)
ended_badly true true told last none stands = tt
ended_badly true false told last none stands =
    (engine.Truncated, refl, refl, λ updates later now ends. (ends.0, λ is asked. inr stands))
ended_badly false between told last none stands = (
  engine.Truncated,
  refl,
  refl,
  λ updates later now ends.
      (ends.0, λ is asked. inl (is_none told updates (none refl) ends.1)),
)

well_ended : (asked : Option ℕ) (told : ℕ) (between : Bool) (ended : Result ℕ EngineFault) (last : Viewer) →
    StandsBetween last between →
    OnOk (judged None ended (is_over asked told between ended)) (WellEnded asked told ended last)
well_ended asked told between (Ok n) last stands = λ updates later now ends.
    (ends.0.1, inl (sym ends.0.0))
well_ended None told between (Err engine.Truncated) last stands =
    ended_well (nat_lt 0 told) between told last (counted_some (nat_lt 0 told) told refl) stands
well_ended (Some count) told between (Err engine.Truncated) last stands = tt
well_ended None told between (Err engine.Device) last stands = tt
well_ended (Some count) told between (Err engine.Device) last stands = tt
well_ended None told between (Err engine.NoMemory) last stands = tt
well_ended (Some count) told between (Err engine.NoMemory) last stands = tt
well_ended None told between (Err (engine.Server fault)) last stands = tt
well_ended (Some count) told between (Err (engine.Server fault)) last stands = tt
well_ended None told between (Err (engine.Viewer fault)) last stands = tt
well_ended (Some count) told between (Err (engine.Viewer fault)) last stands = tt

other_fault : (asked : Option ℕ) (told : ℕ) (fault : EngineFault) (last : Viewer) →
    (fault ≡ engine.Truncated → asked ≡ None → ⊥) →
    BadlyEnded asked told (Err fault) last (failure.Engine fault)
other_fault asked told fault last other =
    (fault, refl, refl, λ updates later now ends. (ends.0, λ is none. absurd (other is none)))

badly_ended : (asked : Option ℕ) (told : ℕ) (between : Bool) (ended : Result ℕ EngineFault) (last : Viewer) →
    StandsBetween last between →
    IfErr (judged None ended (is_over asked told between ended)) (BadlyEnded asked told ended last)
badly_ended None told between (Ok n) last stands = tt
badly_ended (Some count) told between (Ok n) last stands = tt
badly_ended None told between (Err engine.Truncated) last stands =
    ended_badly (nat_lt 0 told) between told last (counted_none (nat_lt 0 told) told refl) stands
badly_ended (Some count) told between (Err engine.Truncated) last stands =
    other_fault (Some count) told engine.Truncated last (λ is none. cc)
badly_ended None told between (Err engine.Device) last stands =
    other_fault None told engine.Device last (λ is none. cc)
badly_ended (Some count) told between (Err engine.Device) last stands =
    other_fault (Some count) told engine.Device last (λ is none. cc)
badly_ended None told between (Err engine.NoMemory) last stands =
    other_fault None told engine.NoMemory last (λ is none. cc)
badly_ended (Some count) told between (Err engine.NoMemory) last stands =
    other_fault (Some count) told engine.NoMemory last (λ is none. cc)
badly_ended None told between (Err (engine.Server fault)) last stands =
    other_fault None told (engine.Server fault) last (λ is none. cc)
badly_ended (Some count) told between (Err (engine.Server fault)) last stands =
    other_fault (Some count) told (engine.Server fault) last (λ is none. cc)
badly_ended None told between (Err (engine.Viewer fault)) last stands =
    other_fault None told (engine.Viewer fault) last (λ is none. cc)
badly_ended (Some count) told between (Err (engine.Viewer fault)) last stands =
    other_fault (Some count) told (engine.Viewer fault) last (λ is none. cc)

-- what is known of a film once its engine has ended
pub record Over (film : Film) (read answered before after : Option (List ℕ)) (cut : Option OwnFault) (told : ℕ)
    (between : Bool) (ended : Result ℕ EngineFault) (first last : Viewer) : Type 0 where
  pub fresh : IsFresh film.wants.format film.wants.encodings.items first
  pub left : Option (List ℕ)
  pub shot : HearsRead Shoots (EndsCounted (most_of film.updates) ended last told) read left first
      (reel before None) (reel after cut)
  pub saw : OnOk ended (Saw read answered None None first (most_of film.updates) last)
  pub stopped : IfErr ended (λ fault. StopsSeeing read answered None None first (most_of film.updates) fault last)
  pub stands : StandsBetween last between

on_any : (r : Result (Unit {0}) Failure) (P : Type 0) → P → OnOk r P
on_any (Ok done) P p = p
on_any (Err f) P p = tt

both_ok : (r : Result (Unit {0}) Failure) (P Q S : Type 0) → (P → Q → S) → OnOk r P → OnOk r Q → OnOk r S
both_ok (Ok done) P Q S gives p q = gives p q
both_ok (Err f) P Q S gives p q = tt

if_err : (r : Result (Unit {0}) Failure) (P Q : Failure → Type 0) → ((f : Failure) → P f → Q f) → IfErr r P → IfErr r Q
if_err (Ok done) P Q gives p = tt
if_err (Err f) P Q gives p = gives f p

seen_so : (asked : Option ℕ) (told : ℕ) (between : Bool) (ended : Result ℕ EngineFault) (S : Type 0)
    (T : EngineFault → Type 0) → OnOk ended S → IfErr ended T →
    OnOk (judged None ended (is_over asked told between ended)) (S ⊎ T engine.Truncated)
seen_so asked told between (Ok n) S T saw stops = inl saw
seen_so asked told between (Err engine.Truncated) S T saw stops =
    on_any (judged None (Err engine.Truncated) (is_over asked told between (Err engine.Truncated)))
    (S ⊎ T engine.Truncated) (inr stops)
seen_so None told between (Err engine.Device) S T saw stops = tt
seen_so (Some count) told between (Err engine.Device) S T saw stops = tt
seen_so None told between (Err engine.NoMemory) S T saw stops = tt
seen_so (Some count) told between (Err engine.NoMemory) S T saw stops = tt
seen_so None told between (Err (engine.Server fault)) S T saw stops = tt
seen_so (Some count) told between (Err (engine.Server fault)) S T saw stops = tt
seen_so None told between (Err (engine.Viewer fault)) S T saw stops = tt
seen_so (Some count) told between (Err (engine.Viewer fault)) S T saw stops = tt

-- it was filmed, and its end is told by what is known of it
filmed_so : (film : Film) (read answered before after : Option (List ℕ)) (cut : Option OwnFault) (told : ℕ)
    (between : Bool) (ended : Result ℕ EngineFault) (first last : Viewer)
    (Ends : ℕ → List ℕ → Viewer → Type 0) →
    Over film read answered before after cut told between ended first last →
    ((updates : ℕ) (later : List ℕ) (now : Viewer) →
    EndsCounted (most_of film.updates) ended last told updates later now → Ends updates later now) →
    Filmed film Ends read before after cut first
filmed_so film read answered before after cut told between ended first last Ends over gives = record {
  fresh = over.fresh;
  left = over.left;
  shot = ends_as Shoots (EndsCounted (most_of film.updates) ended last told) Ends read over.left first
      (reel before None) (reel after cut) gives over.shot;
}

done_so : (film : Film) (read answered before after : Option (List ℕ)) (cut : Option OwnFault) (told : ℕ)
    (between : Bool) (ended : Result ℕ EngineFault) (first last : Viewer) →
    Over film read answered before after cut told between ended first last →
    OnOk (judged cut ended (is_over film.updates told between ended)) (Follows film read answered before after)
done_so film read answered before after (Some fault) told between ended first last over = tt
done_so film read answered before after None told between ended first last over =
    both_ok (judged None ended (is_over film.updates told between ended))
    (WellEnded film.updates told ended last)
    (Saw read answered None None first (most_of film.updates) last
    ⊎ StopsSeeing read answered None None first (most_of film.updates) engine.Truncated last)
    (Follows film read answered before after)
    (λ well saw. record {
      first = first;
      last = last;
      filmed = filmed_so film read answered before after None told between ended first last
          (EndsFilm film.updates last) over well;
      saw = saw;
    })
    (well_ended film.updates told between ended last over.stands)
    (seen_so film.updates told between ended
    (Saw read answered None None first (most_of film.updates) last)
    (λ fault. StopsSeeing read answered None None first (most_of film.updates) fault last) over.saw over.stopped)

of_fault : (ended : Result ℕ EngineFault) (fault : EngineFault) (T : EngineFault → Type 0) → ended ≡ Err fault →
    IfErr ended T → T fault
of_fault ended fault T is stops = subst (λ (e : Result ℕ EngineFault). IfErr e T) is stops

failed_so : (film : Film) (read answered before after : Option (List ℕ)) (cut : Option OwnFault) (told : ℕ)
    (between : Bool) (ended : Result ℕ EngineFault) (first last : Viewer) →
    Over film read answered before after cut told between ended first last →
    IfErr (judged cut ended (is_over film.updates told between ended)) (FailsToFollow film read answered before after)
failed_so film read answered before after (Some fault) told between ended first last over = (
  first,
  last,
  (
    ended,
    filmed_so film read answered before after (Some fault) told between ended first last
        (EndsViewing (most_of film.updates) ended last) over (λ updates later now ends. ends.0),
  ),
)
failed_so film read answered before after None told between ended first last over =
    if_err (judged None ended (is_over film.updates told between ended)) (BadlyEnded film.updates told ended last)
    (FailsToFollow film read answered before after)
    (λ f bad. subst (λ (g : Failure). FailsToFollow film read answered before after g) (sym bad.1) (
      first,
      last,
      (
        filmed_so film read answered before after None told between ended first last
            (EndsEarly film.updates bad.0 last) over bad.3,
        of_fault ended bad.0
            (λ fault. StopsSeeing read answered None None first (most_of film.updates) fault last) bad.2 over.stopped,
      ),
    ))
    (badly_ended film.updates told between ended last over.stands)

-- the same of what was judged
module _ (film : Film) (read answered before after : Option (List ℕ)) (cut : Option OwnFault) (told : ℕ)
    (between : Bool) (ended : Result ℕ EngineFault) (first last : Viewer) (r : Result (Unit {0}) Failure)
    (is : r ≡ judged cut ended (is_over film.updates told between ended))
    (over : Over film read answered before after cut told between ended first last) where
  pub film_done : OnOk r (Follows film read answered before after)
  film_done =
      subst (λ (e : Result (Unit {0}) Failure). OnOk e (Follows film read answered before after)) (sym is)
      (done_so film read answered before after cut told between ended first last over)

  pub film_fails : IfErr r (FailsToFollow film read answered before after)
  film_fails =
      subst (λ (e : Result (Unit {0}) Failure). IfErr e (FailsToFollow film read answered before after)) (sym is)
      (failed_so film read answered before after cut told between ended first last over)

-- from what a watcher that films becomes, which was given the output, and gives it back
module _ {W C N : Type 0} (contents : W → Option (List ℕ)) where
  over_so : (film : Film) (read answered : Option (List ℕ)) (start stop : Filming W C N) (asked : ℕ) (between : Bool)
      (ended : Result ℕ EngineFault) (first last : Viewer) →
      IsFresh film.wants.format film.wants.encodings.items first → cut_of start ≡ None → asked ≡ most_of film.updates →
      (left : Option (List ℕ)) × HearsRead Shoots (EndsCounted asked ended last (updates_told (told_of stop))) read left
      first (reel_of contents start) (reel_of contents stop) →
      OnOk ended (Saw read answered None None first asked last) →
      IfErr ended (λ fault. StopsSeeing read answered None None first asked fault last) → StandsBetween last between →
      Over film read answered (contents (filmed_on start)) (contents (filmed_on stop)) (cut_of stop)
      (updates_told (told_of stop)) between ended first last
  over_so film read answered start stop asked between ended first last fresh whole most heard saw stops stands =
      record {
        fresh = fresh;
        left = heard.0;
        shot = subst (λ (n : ℕ). HearsRead Shoots (EndsCounted n ended last (updates_told (told_of stop))) read heard.0
            first (reel (contents (filmed_on start)) None) (reel_of contents stop)) most
            (subst (λ (cut : Option OwnFault).
            HearsRead Shoots (EndsCounted asked ended last (updates_told (told_of stop))) read heard.0 first
            (reel (contents (filmed_on start)) cut) (reel_of contents stop)) whole heard.1);
        saw = subst (λ (n : ℕ). OnOk ended (Saw read answered None None first n last)) most saw;
        stopped = subst (λ (n : ℕ).
            IfErr ended (λ fault. StopsSeeing read answered None None first n fault last)) most stops;
        stands = stands;
      }

  pub over_is : (film : Film) (read answered : Option (List ℕ)) (old out : W) (start stop : Filming W C N) (asked : ℕ)
      (cut : Option OwnFault) (told : ℕ) (between : Bool) (ended : Result ℕ EngineFault) (first last : Viewer) →
      filmed_on start ≡ old → out ≡ filmed_on stop → cut ≡ cut_of stop → told ≡ updates_told (told_of stop) →
      IsFresh film.wants.format film.wants.encodings.items first → cut_of start ≡ None → asked ≡ most_of film.updates →
      (left : Option (List ℕ)) × HearsRead Shoots (EndsCounted asked ended last (updates_told (told_of stop))) read left
      first (reel_of contents start) (reel_of contents stop) →
      OnOk ended (Saw read answered None None first asked last) →
      IfErr ended (λ fault. StopsSeeing read answered None None first asked fault last) → StandsBetween last between →
      Over film read answered (contents old) (contents out) cut told between ended first last
  over_is film read answered old out start stop asked cut told between ended first last here there cuts counts fresh
      whole most heard saw stops stands =
      subst (λ (w : W). Over film read answered (contents w) (contents out) cut told between ended first last) here
      (subst (λ (w : W). Over film read answered (contents (filmed_on start)) (contents w) cut told between ended first
      last) (sym there)
      (subst (λ (k : Option OwnFault). Over film read answered (contents (filmed_on start))
      (contents (filmed_on stop)) k told between ended first last) (sym cuts)
      (subst (λ (n : ℕ). Over film read answered (contents (filmed_on start)) (contents (filmed_on stop))
      (cut_of stop) n between ended first last) (sym counts)
      (over_so film read answered start stop asked between ended first last fresh whole most heard saw stops stands))))
