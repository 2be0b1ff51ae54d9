-- What a call makes of a slice: it takes step after step, up to one with an event or a fault.
use Rattle.std.proofs.Common.{◌≡◌, ℕ, ◌+◌, ◌<◌, ◌≤◌, List, length, take, drop, length-drop}
use Rattle.std.proofs.Common.{Option, Some, None, Ok, Err}
use Rattle.std.proofs.Common.{refl, subst, ◌∙◌, ap, arith}
use Rattle.std.proofs.lemmas.List.{drop-drop}
use Rattle.rfb_wire.specs.stream.End.{FedBy}
use Rattle.rfb_wire.proofs.stream_laws.FeedLaws.{fed_step}
use Rattle.rfb_viewer.specs.declared.event.ViewerEvent.{ViewerEvent}
use Rattle.rfb_viewer.specs.declared.event.ViewerEvent.TheVariants.{UpdateDone}
use Rattle.rfb_viewer.specs.declared.fault.ViewerFault.{ViewerFault}
use Rattle.rfb_viewer.specs.declared.viewer.Viewer.{Viewer}
use Rattle.rfb_viewer.specs.Damage.{damaging, IsDamaged}
use Rattle.rfb_viewer.specs.Model.{StandsFor, fault_of, making_of, taken_of}
use Rattle.rfb_viewer.specs.Moved.{moving, HasMoved}
use Rattle.rfb_viewer.specs.Offer.{TakesOffer}
use Rattle.rfb_viewer.specs.Told.{seen}
use Rattle.rfb_viewer.specs.Viewer.{Viewing, ViewerState, viewer}
use Rattle.rfb_viewer.specs.steps.ItemDamage.{KeepsOutside}
use Rattle.rfb_viewer.specs.steps.StepPromises.{Fails, HasTaken, Takes, TakesAll, TakesUpdate}
use Rattle.rfb_viewer.proofs.DamageFeedLemmas.{damage_starts, outside_starts, outside_same, damage_on}
use Rattle.rfb_viewer.proofs.DamageFeedLemmas.{outside_on, outside_fault, damages_later}
use Rattle.rfb_viewer.proofs.FailLemmas.{ends_later, kept_later, offer_later, taken_later}
use Rattle.rfb_viewer.proofs.FeedLemmas.{starts}
use Rattle.rfb_viewer.proofs.MovedLemmas.{moving_starts, moved_on, moves_later}
use Rattle.rfb_viewer.proofs.PlaceLemmas.{placed_later, placed_refuses, placed_starves}
use Rattle.rfb_viewer.proofs.ViewerLaws.{viewer_machine}

-- nothing is taken yet
pub none_taken_yet : (old : Viewer) (bytes : List ℕ) (used : ℕ) → used ≡ 0 → fault_of old ≡ None →
    HasTaken old bytes used old
none_taken_yet old bytes used none going = record {
  within = omega (arith, none);
  began = going;
  going = going;
  taken = refl;
  made = refl;
  offered = refl;
  fed = λ viewing. rw none (starts viewing old);
  damage = λ viewing. rw none (damage_starts viewing old);
  moved = λ viewing. rw none (moving_starts viewing old);
  outside = λ viewing s prefix stands. outside_starts old;
}

-- bytes up to an event, or all of them
takes_so : (old new : Viewer) (bytes : List ℕ) (count : ℕ) (event : Option ViewerEvent) →
    count ≤ length bytes →
    (event ≡ None → count ≡ length bytes) → (0 < length bytes → 0 < count) → ((viewing : Viewing) →
    FedBy (viewer viewing) (StandsFor viewing) old (take count bytes) (seen event) new) → ((viewing : Viewing) →
    FedBy (damaging viewing) (IsDamaged viewing) old (take count bytes) (seen event) new) → ((viewing : Viewing) →
    FedBy (moving viewing) (HasMoved viewing) old (take count bytes) (seen event) new) → ((viewing : Viewing)
    (s : ViewerState) (prefix : List ℕ) → StandsFor viewing old s prefix → KeepsOutside old new) →
    TakesOffer (seen event) old bytes new → making_of new ≡ making_of old → taken_of new ≡ taken_of old →
    TakesAll old bytes count (Ok (record { used = count; event = event })) new
takes_so old new bytes count event within all some fed damage moved outside offered made kept = record {
  used = within;
  all = all;
  some = some;
  fed = fed;
  made = made;
  offered = offered;
  outside = λ viewing s prefix stands. outside_same old new (outside viewing s prefix stands);
  damage = damage;
  damaged = tt;
  moved = moved;
  unmoved = tt;
  fault = tt;
  memory = tt;
  picture = tt;
  reason = tt;
  offer = tt;
  fails = tt;
  taken = refl;
  place = tt;
  kept = kept;
}

-- all is taken
pub takes_the_rest : (old mid : Viewer) (bytes : List ℕ) (i : ℕ) → HasTaken old bytes i mid →
    length bytes ≤ i →
    TakesAll old bytes i (Ok (record { used = i; event = None })) mid
takes_the_rest old mid bytes i known ended =
    let within = known.within in
    let all : i ≡ length bytes = omega (arith, within, ended) in
    takes_so old mid bytes i None within (λ none. all) (λ any. omega (arith, all, any)) known.fed known.damage
    known.moved known.outside known.offered known.made known.taken

module _ (old mid new : Viewer) (bytes : List ℕ) (i : ℕ) (known : HasTaken old bytes i mid) (slice : List ℕ)
    (rest : slice ≡ drop i bytes) (n : ℕ) where
  -- a step more, without an event
  pub takes_on : (event : Option ViewerEvent) → event ≡ None → Takes mid slice n event new →
      HasTaken old bytes (i + n) new
  takes_on event none step =
      let t = subst (λ (e : Option ViewerEvent). Takes mid (drop i bytes) n e new) none
      (subst (λ (xs : List ℕ). Takes mid xs n event new) rest step) in
      let within = known.within in
      let more = t.within in
      record {
        within = omega (arith, length-drop i bytes, within, more);
        began = known.began;
        going = t.going;
        taken = t.taken ∙ known.taken;
        made = t.made ∙ known.made;
        offered = t.offered ∙ known.offered;
        fed = λ viewing. fed_step (viewer viewing) (viewer_machine viewing) (StandsFor viewing) old mid new i n
            bytes None (known.fed viewing) (t.steps viewing);
        damage = damage_on old mid new i n bytes None t.steps t.damage known.damage;
        moved = moved_on old mid new i n bytes None t.steps t.moved known.moved;
        outside = outside_on old mid new i n bytes None t.steps t.damage known.fed known.outside;
      }

  -- the last one, which has an event
  pub takes_last : (event : Option ViewerEvent) → (event ≡ None → ⊥) → Takes mid slice n event new →
      TakesAll old bytes (i + n) (Ok (record { used = i + n; event = event })) new
  takes_last event told step =
      let t = subst (λ (xs : List ℕ). Takes mid xs n event new) rest step in
      let within = known.within in
      let more = t.within in
      let some = t.some in
      takes_so old new bytes (i + n) event (omega (arith, length-drop i bytes, within, more))
      (λ none. absurd (told none)) (λ any. omega (arith, some))
      (λ viewing. fed_step (viewer viewing) (viewer_machine viewing) (StandsFor viewing) old mid new i n bytes
      (seen event) (known.fed viewing) (t.steps viewing))
      (damage_on old mid new i n bytes (seen event) t.steps t.damage known.damage)
      (moved_on old mid new i n bytes (seen event) t.steps t.moved known.moved)
      (outside_on old mid new i n bytes (seen event) t.steps t.damage known.fed known.outside)
      (taken_later (seen event) old mid new i bytes known.fed known.offered t.offered) (t.made ∙ known.made)
      (t.taken ∙ known.taken)

  -- one that fails
  pub takes_fault : (fault : ViewerFault) → Fails mid slice n fault new → TakesAll old bytes (i + n) (Err fault) new
  takes_fault fault step =
      let f = subst (λ (xs : List ℕ). Fails mid xs n fault new) rest step in
      let placed = placed_later fault old mid i n bytes known.within known.fed f.placed in
      record {
        used = tt;
        all = tt;
        some = tt;
        fed = tt;
        made = f.made ∙ known.made;
        offered = tt;
        outside = outside_fault old mid new i bytes fault known.fed known.outside f.damage f.failed f.picture;
        damage = tt;
        damaged = λ none. damages_later fault old mid new i bytes known.damage f.damage f.failed f.picture;
        moved = tt;
        unmoved = λ none. moves_later fault old mid new i bytes known.moved f.moved f.picture;
        fault = placed_refuses (i + n) fault old bytes placed;
        memory = placed_starves (i + n) fault old bytes placed;
        picture = λ none. ends_later fault old mid new i bytes known.fed f.picture;
        reason = λ none. kept_later fault old mid new i bytes known.fed f.reason;
        offer = λ none. offer_later fault old mid new i bytes known.fed known.offered f.offer;
        fails = f.failed;
        taken = tt;
        place = placed;
        kept = f.taken ∙ known.taken;
      }

-- an update of one rectangle more
pub takes_update : (old mid new : Viewer) (bytes : List ℕ) (i : ℕ) → HasTaken old bytes i mid →
    (slice : List ℕ) → slice ≡ drop i bytes → (n : ℕ) → TakesUpdate mid slice n new →
    TakesAll old bytes (i + n) (Ok (record { used = i + n; event = Some UpdateDone })) new
takes_update old mid new bytes i known slice rest n update =
    let u = update in
    let left : drop u.front slice ≡ drop (i + u.front) bytes =
    ap (drop u.front) rest ∙ drop-drop u.front i bytes in
    let used_is = u.used_is in
    let count : i + u.front + u.back ≡ i + n = omega (arith, used_is) in
    subst (λ (k : ℕ). TakesAll old bytes k (Ok (record { used = k; event = Some UpdateDone })) new) count
    (takes_last old u.mid new bytes (i + u.front)
    (takes_on old mid u.mid bytes i known slice rest u.front None refl u.head) (drop u.front slice) left u.back
    (Some UpdateDone) (λ none. absurd cc) u.rectangle)
