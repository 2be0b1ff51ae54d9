-- With which byte of a slice a viewer fails.
use Rattle.std.proofs.Common.{◌≡◌, ℕ, ◌+◌, ◌-◌, ◌<◌, ◌≤◌, List, [], ◌++◌, Option, Some, None, Result, Ok, Err}
use Rattle.std.proofs.Common.{length, take, drop, refl, sym, subst, ◌∙◌, ap, arith, append_assoc, length-append}
use Rattle.std.proofs.Common.{length-drop, length-take-le, take-append-drop}
use Rattle.std.proofs.lemmas.List.{take-take}
use Rattle.arrayvec.specs.ArrayVec.{ArrayVec}
use Rattle.rfb_pixel.specs.declared.colour.Colour.{Colour}
use Rattle.rfb_picture.specs.Grid.{Grid}
use Rattle.rfb_wire.specs.declared.rect_head.RectHead.{RectHead as HeadOfRect}
use Rattle.rfb_wire.specs.stream.Prefix.{Next, More, Bad}
use Rattle.rfb_wire.specs.stream.End.{FedBy, RefusedBy, RunsOut, RunsOutBy}
use Rattle.rfb_wire.proofs.stream_laws.EndLaws.{runs_out_more}
use Rattle.rfb_wire.proofs.stream_laws.FeedLaws.{take_add, step_refuses, refused_more}
use Rattle.rfb_wire.proofs.stream_laws.PlacingLaws.{waiting_taken, none_taken, refused_with_later}
use Rattle.rfb_wire.proofs.stream_laws.PlacingLaws.{runs_out_with_later, refused_with_one, runs_out_with_one}
use Rattle.rfb_codec.specs.declared.fault.PaintFault.{PaintFault}
use Rattle.rfb_codec.specs.declared.fault.Flaw.{Flaw}
use Rattle.rfb_codec.specs.Painter.{Painting, data_of}
use Rattle.rfb_codec.specs.RectData.{RectData}
use Rattle.rfb_codec.specs.UnderWay.{UnderWay, painting, StandsFor as PainterStandsFor, ShowsWith}
use Rattle.rfb_codec.specs.UpdateStream.{InData, update_stream}
use Rattle.rfb_codec.proofs.UpdateWaitLaws.{rect_short, body_waits, body_bad}
use Rattle.rfb_hello.specs.declared.fed.Fed.{Fed}
use Rattle.rfb_hello.specs.declared.viewer_hello.progress.Cause.TheVariants.{Refused as RefusedCause}
use Rattle.rfb_hello.specs.declared.viewer_hello.progress.Cause.TheVariants.{SecurityFailed as FailedCause}
use Rattle.rfb_hello.specs.ViewerModel.{reason_of as reason_in}
use Rattle.rfb_viewer.specs.declared.event.ViewerEvent.{ViewerEvent}
use Rattle.rfb_viewer.specs.declared.fault.ViewerFault.{ViewerFault}
use Rattle.rfb_viewer.specs.declared.fault.ViewerFault.TheVariants.{NoMemory, Refused, SecurityFailed}
use Rattle.rfb_viewer.specs.declared.fault.ViewerFault.TheVariants.{NoneNotOffered, BadSecurityWord}
use Rattle.rfb_viewer.specs.declared.viewer.Viewer.{Viewer}
use Rattle.rfb_viewer.specs.declared.viewer.progress.Failure.{Failure}
use Rattle.rfb_viewer.specs.declared.viewer.progress.Progress.{Progress}
use Rattle.rfb_viewer.specs.declared.viewer.progress.Progress.TheVariants.{Handshake, RectHead, Data}
use Rattle.rfb_viewer.specs.Counted.{IsPlacedAt}
use Rattle.rfb_viewer.specs.Failed.{LeadsTo, IsReasonAt, KeepsReason}
use Rattle.rfb_viewer.specs.Fault.{fault_of_paint}
use Rattle.rfb_viewer.specs.Offer.{IsOfferedAt, KeepsOffer, IsOfferOn, TakesOffer}
use Rattle.rfb_viewer.specs.ServerBytes.{ServerAt, server_bytes}
use Rattle.rfb_viewer.specs.Model.{StandsFor, offered_of}
use Rattle.rfb_viewer.specs.Told.{ViewerTold, Reply, seen}
use Rattle.rfb_viewer.specs.Viewer.{Viewing, ViewerState, viewer, AsksMemory}
use Rattle.rfb_viewer.specs.steps.ItemDamage.{Damages, DamagesAt, EndsIn}
use Rattle.rfb_viewer.specs.steps.FedBytes.{StepsOn, RefusesBy, StarvesBy}
use Rattle.rfb_viewer.specs.steps.ItemMoves.{Moves}
use Rattle.rfb_viewer.specs.steps.StepPromises.{Steps}
use Rattle.rfb_viewer.proofs.FailLemmas.{paint_other}
use Rattle.rfb_viewer.proofs.FeedLemmas.{stands_waits, second_waits}
use Rattle.rfb_viewer.proofs.MessageLemmas.{here}
use Rattle.rfb_viewer.proofs.RectLemmas.{IsOpened, opened_at, at_rect_head, at_data, painted_now, joined}
use Rattle.rfb_viewer.proofs.StepLemmas.{bad_step}
use Rattle.rfb_viewer.proofs.ViewerLaws.{viewer_machine}

-- whatever it stands for, more is waited for after these bytes
abbrev AwaitsMore : Viewer → List ℕ → Type 0
AwaitsMore old bytes =
    (viewing : Viewing) (s : ViewerState) (prefix : List ℕ) → StandsFor viewing old s prefix →
    (server_bytes viewing.form viewing.hello).next s.point (prefix ++ bytes) ≡ More

-- ---- a fault at that byte

pub bad_placed : (old : Viewer) (bytes : List ℕ) (n : ℕ) (fault : ViewerFault) → 0 < n → n ≤ length bytes →
    (fault ≡ NoMemory → ⊥) → ((viewing : Viewing) → RefusedBy (viewer viewing) (StandsFor viewing) old
    (take n bytes) fault) → AwaitsMore old (take (n - 1) bytes) → IsPlacedAt n fault old bytes
bad_placed old bytes n fault some within other refused waits = record {
  some = some;
  within = within;
  refused = λ _ viewing. record {
    refused = refused viewing;
    taken = waiting_taken (viewer viewing)
        (StandsFor viewing) old (take (n - 1) bytes) (waits viewing);
  };
  starved = λ is. absurd (other is);
}

-- at the first byte: what a viewer stands for waits for more
pub first_bad_placed : (old : Viewer) (bytes : List ℕ) (fault : ViewerFault) → 0 < length bytes →
    (fault ≡ NoMemory → ⊥) → ((viewing : Viewing) → RefusedBy (viewer viewing) (StandsFor viewing) old
    (take 1 bytes) fault) → IsPlacedAt 1 fault old bytes
first_bad_placed old bytes fault some other refused = record {
  some = omega arith;
  within = omega (arith, some);
  refused = λ _ viewing. record {
    refused = refused viewing;
    taken = none_taken (viewer viewing)
        (StandsFor viewing) old (stands_waits viewing old);
  };
  starved = λ is. absurd (other is);
}

pub first_memory_placed : (old : Viewer) (bytes : List ℕ) → 0 < length bytes → ((viewing : Viewing) → RunsOutBy
    (viewer viewing) (AsksMemory viewing) (StandsFor viewing) old (take 1 bytes)) → IsPlacedAt 1 NoMemory old bytes
first_memory_placed old bytes some asked = record {
  some = omega arith;
  within = omega (arith, some);
  refused = λ other. absurd (other refl);
  starved = λ _ viewing. record {
    asked = asked viewing;
    taken = none_taken (viewer viewing)
        (StandsFor viewing) old (stands_waits viewing old);
  };
}

pub one_placed : (old : Viewer) (bytes : List ℕ) (fault : ViewerFault) → length bytes ≡ 1 →
    RefusesBy old bytes fault → StarvesBy old bytes fault → IsPlacedAt 1 fault old bytes
one_placed old bytes fault one refuses starves = record {
  some = omega arith;
  within = omega (arith, one);
  refused = λ other viewing. refused_with_one (viewer viewing) (StandsFor viewing) old bytes fault one (none_taken
      (viewer viewing) (StandsFor viewing) old (stands_waits viewing old)) (refuses other viewing);
  starved = λ is viewing. runs_out_with_one (viewer viewing) (AsksMemory viewing)
      (StandsFor viewing) old bytes one (none_taken (viewer viewing) (StandsFor viewing) old
      (stands_waits viewing old)) (starves is viewing);
}

-- ---- rectangles

-- up to the last byte of a rectangle's head more is waited for
pub head_awaits : (old : Viewer) (more : ℕ) (part : ArrayVec ℕ) (n : ℕ) (bytes whole : List ℕ) →
    old.progress ≡ RectHead more part → whole ≡ part.items ++ take n bytes → length whole ≡ 12 → 0 < n →
    n ≤ length bytes → AwaitsMore old (take (n - 1) bytes)
head_awaits old more part n bytes whole was is size some within = λ viewing s prefix stands.
    let h = at_rect_head viewing old more part s.point s.picture prefix (here viewing old
    (RectHead more part) s prefix was stands) in
    let left = h.2.left_is in
    let one : length (take n bytes) ≡ n = length-take-le n bytes within in
    let two : length (take (n - 1) bytes) ≡ n - 1 = length-take-le (n - 1) bytes (omega (arith, within)) in
    let all : length part.items + length (take n bytes) ≡ 12 = sym (length-append part.items
    (take n bytes)) ∙ ap length (sym is) ∙ size in
    let long : length (prefix ++ take (n - 1) bytes) ≡ length part.items + length (take
    (n - 1) bytes) = length-append prefix (take (n - 1) bytes) ∙ ap (λ (ys : List ℕ). length ys + length (take
    (n - 1) bytes)) h.4 in
    subst (λ (a : ServerAt). (server_bytes viewing.form viewing.hello).next a (prefix ++ take
    (n - 1) bytes) ≡ More) (sym h.1)
    (second_waits viewing h.0 (prefix ++ take (n - 1) bytes) (rect_short h.0 (prefix ++ take (n - 1) bytes) (omega
    (arith, left)) (omega (arith, one, two, all, long, some))))

-- what a painter's data begin with, with these bytes
abbrev DataAre : UnderWay → Grid Colour → List ℕ → Next RectData PaintFault → Type 0
DataAre painter picture bytes next =
    (before : Grid Colour) (body : List ℕ) → PainterStandsFor painter picture before body →
    data_of (painting painter) before (body ++ bytes) ≡ next

module _ (viewing : Viewing) (old : Viewer) where
  opened_refuses : (more : ℕ) (part : ArrayVec ℕ) (unit whole rest : List ℕ) (head : HeadOfRect)
      (picture : Grid Colour) (painter : UnderWay) (fault : PaintFault) →
      IsOpened old more part unit whole head picture painter → DataAre painter picture rest
      (Bad fault) → RefusedBy (viewer viewing) (StandsFor viewing) old (unit ++ rest) (fault_of_paint fault)
  opened_refuses more part unit whole rest head picture painter fault opened bad =
      step_refuses (viewer viewing) (StandsFor viewing) old old (unit ++ rest) (fault_of_paint fault)
      (bad_step viewing old old (unit ++ rest) (InData fault) (λ s prefix stands.
      let o = opened_at viewing old old s prefix more part unit whole head picture painter opened stands in
      let read = subst (λ (p : Painting). data_of p o.ready.screen ([] ++ rest) ≡ Bad fault) o.painting_is
      (bad o.ready.screen [] o.fresh) in
      (o.q, o.at, rw (o.all rest) (body_bad o.q head whole o.ready.screen o.awaits ([] ++ rest) fault read))))

  opened_awaits : (more : ℕ) (part : ArrayVec ℕ) (unit whole rest : List ℕ) (head : HeadOfRect)
      (picture : Grid Colour) (painter : UnderWay) → IsOpened old more part unit whole head picture
      painter → DataAre painter picture rest More → (s : ViewerState) (prefix : List ℕ) →
      StandsFor viewing old s prefix → (server_bytes viewing.form viewing.hello).next s.point (prefix ++
      (unit ++ rest)) ≡ More
  opened_awaits more part unit whole rest head picture painter opened waits s prefix stands =
      let o = opened_at viewing old old s prefix more part unit whole head picture painter opened stands in
      let read = subst (λ (p : Painting). data_of p o.ready.screen ([] ++ rest) ≡ More) o.painting_is
      (waits o.ready.screen [] o.fresh) in
      let there : update_stream.next o.q (prefix ++ (unit ++ rest)) ≡ More = rw (o.all rest)
      (body_waits o.q head whole o.ready.screen o.awaits ([] ++ rest) read) in
      subst (λ (a : ServerAt). (server_bytes viewing.form viewing.hello).next a (prefix ++ (unit ++ rest)) ≡ More)
      (sym o.at) (second_waits viewing o.q (prefix ++ (unit ++ rest)) there)

  data_refuses : (more : ℕ) (painter : UnderWay) (picture : Grid Colour) (unit : List ℕ) (fault : PaintFault) →
      old.progress ≡ Data more painter → old.picture ≡ Some picture → DataAre painter picture unit (Bad fault) →
      RefusedBy (viewer viewing) (StandsFor viewing) old unit (fault_of_paint fault)
  data_refuses more painter picture unit fault was shown bad =
      step_refuses (viewer viewing) (StandsFor viewing) old old unit (fault_of_paint fault)
      (bad_step viewing old old unit (InData fault) (λ s prefix stands.
      let h = at_data viewing old more painter s.point s.picture prefix (here viewing old
      (Data more painter) s prefix was stands) in
      let p = h.3 in
      let all = joined viewing old old prefix p.front p.body unit p.prefix_is in
      let stood = painted_now viewing old old painter h.0 h.2.screen picture prefix shown p in
      let read = subst (λ (k : Painting). data_of k h.2.screen (p.body ++ unit) ≡ Bad fault) p.painting_is
      (bad h.2.screen p.body stood) in
      (h.0, h.1, rw all (body_bad h.0 p.head p.front h.2.screen p.awaits (p.body ++ unit) fault read))))

  data_awaits : (more : ℕ) (painter : UnderWay) (picture : Grid Colour) (unit : List ℕ) →
      old.progress ≡ Data more painter → old.picture ≡ Some picture → DataAre painter picture unit More →
      (s : ViewerState) (prefix : List ℕ) → StandsFor viewing old s prefix →
      (server_bytes viewing.form viewing.hello).next s.point (prefix ++ unit) ≡ More
  data_awaits more painter picture unit was shown waits s prefix stands =
      let h = at_data viewing old more painter s.point s.picture prefix (here viewing old
      (Data more painter) s prefix was stands) in
      let p = h.3 in
      let all = joined viewing old old prefix p.front p.body unit p.prefix_is in
      let stood = painted_now viewing old old painter h.0 h.2.screen picture prefix shown p in
      let read = subst (λ (k : Painting). data_of k h.2.screen (p.body ++ unit) ≡ More) p.painting_is
      (waits h.2.screen p.body stood) in
      let there : update_stream.next h.0 (prefix ++ unit) ≡ More = rw all
      (body_waits h.0 p.head p.front h.2.screen p.awaits (p.body ++ unit) read) in
      subst (λ (a : ServerAt). (server_bytes viewing.form viewing.hello).next a (prefix ++ unit) ≡ More) (sym h.1)
      (second_waits viewing h.0 (prefix ++ unit) there)

-- data that begin in the slice of their head
pub opened_placed : (old : Viewer) (more : ℕ) (part : ArrayVec ℕ) (front : ℕ) (bytes whole : List ℕ)
    (head : HeadOfRect) (picture : Grid Colour) (painter : UnderWay) (flaw : Flaw) → front ≤ length bytes →
    IsOpened old more part (take front bytes) whole head picture painter →
    0 < flaw.used → flaw.used ≤ length (drop front bytes) → ShowsWith painter picture (drop front bytes) flaw →
    IsPlacedAt (front + flaw.used) (fault_of_paint flaw.fault) old bytes
opened_placed old more part front bytes whole head picture painter flaw few opened some within shows =
    let left : length (drop front bytes) ≡ length bytes - front = length-drop front bytes in
    let last : front + (flaw.used - 1) ≡ front + flaw.used - 1 = omega (arith, some) in
    let awaits : AwaitsMore old (take (front + (flaw.used - 1)) bytes) = rw (take_add front (flaw.used - 1) bytes)
    (λ viewing s prefix stands.
    opened_awaits viewing old more part (take front bytes) whole (take (flaw.used - 1)
    (drop front bytes)) head picture painter opened (λ before body stood.
    (shows before body stood).waits) s prefix stands) in
    bad_placed old bytes (front + flaw.used) (fault_of_paint flaw.fault) (omega (arith, some)) (omega
    (arith, left, within, few)) (paint_other flaw.fault)
    (λ viewing. rw (take_add front flaw.used bytes)
    (opened_refuses viewing old more part (take front bytes) whole (take flaw.used
    (drop front bytes)) head picture painter flaw.fault opened (λ before body stood.
    (shows before body stood).bad)))
    (subst (λ (n : ℕ). AwaitsMore old (take n bytes)) last awaits)

-- data that go on
pub data_placed : (old : Viewer) (more : ℕ) (painter : UnderWay) (picture : Grid Colour) (bytes : List ℕ)
    (flaw : Flaw) → old.progress ≡ Data more painter → old.picture ≡ Some picture → 0 < flaw.used →
    flaw.used ≤ length bytes → ShowsWith painter picture bytes flaw → IsPlacedAt flaw.used
    (fault_of_paint flaw.fault) old bytes
data_placed old more painter picture bytes flaw was shown some within shows =
    bad_placed old bytes flaw.used (fault_of_paint flaw.fault) some within (paint_other flaw.fault)
    (λ viewing. data_refuses viewing old more painter picture (take flaw.used bytes) flaw.fault was shown
    (λ before body stood. (shows before body stood).bad))
    (λ viewing. data_awaits viewing old more painter picture (take (flaw.used - 1) bytes) was shown
    (λ before body stood. (shows before body stood).waits))

-- ---- a slice

-- a part of it was taken before
pub placed_later : (fault : ViewerFault) (old mid : Viewer) (i n : ℕ) (bytes : List ℕ) → i ≤ length bytes →
    ((viewing : Viewing) → FedBy (viewer viewing) (StandsFor viewing) old (take i bytes) None mid) →
    IsPlacedAt n fault mid (drop i bytes) → IsPlacedAt (i + n) fault old bytes
placed_later fault old mid i n bytes begun fed p =
    let some = p.some in
    let within = p.within in
    let left : length (drop i bytes) ≡ length bytes - i = length-drop i bytes in
    record {
      some = omega (arith, some);
      within = omega (arith, left, within, begun);
      refused = λ other viewing. refused_with_later (viewer viewing) (viewer_machine viewing)
          (StandsFor viewing) old mid i n bytes fault some (fed viewing) (p.refused other viewing);
      starved = λ is viewing. runs_out_with_later (viewer viewing) (viewer_machine viewing) (AsksMemory viewing)
          (StandsFor viewing) old mid i n bytes some (fed viewing) (p.starved is viewing);
    }

-- all of it is refused too, or leads to where memory is asked for
pub placed_refuses : (n : ℕ) (fault : ViewerFault) (old : Viewer) (bytes : List ℕ) →
    IsPlacedAt n fault old bytes → RefusesBy old bytes fault
placed_refuses n fault old bytes p = λ other viewing.
    subst (λ (xs : List ℕ). RefusedBy (viewer viewing) (StandsFor viewing) old xs fault) (take-append-drop n bytes)
    (refused_more (viewer viewing) (viewer_machine viewing) (StandsFor viewing) old (take n bytes)
    (drop n bytes) fault (p.refused other viewing).refused)

pub placed_starves : (n : ℕ) (fault : ViewerFault) (old : Viewer) (bytes : List ℕ) →
    IsPlacedAt n fault old bytes → StarvesBy old bytes fault
placed_starves n fault old bytes p = λ is viewing s prefix stands.
    subst (λ (xs : List ℕ). RunsOut (viewer viewing) (AsksMemory viewing) s prefix xs) (take-append-drop n bytes)
    (runs_out_more (viewer viewing) (viewer_machine viewing) (AsksMemory viewing) s prefix (take n bytes)
    (drop n bytes) ((p.starved is viewing).asked s prefix stands))

-- ---- a step of the first byte is one of a slice

leads_longer : (There : Viewing → ViewerState → List ℕ → Type 0) (old : Viewer) (bytes : List ℕ) →
    LeadsTo There old (take 1 bytes) → LeadsTo There old bytes
leads_longer There old bytes leads = λ viewing s prefix stands.
    subst (λ (xs : List ℕ). RunsOut (viewer viewing) (There viewing) s prefix xs) (take-append-drop 1 bytes)
    (runs_out_more (viewer viewing) (viewer_machine viewing) (There viewing) s prefix (take 1 bytes) (drop 1 bytes)
    (leads viewing s prefix stands))

keeps_longer : (fault : ViewerFault) (old new : Viewer) (bytes : List ℕ) → KeepsReason fault old
    (take 1 bytes) new → KeepsReason fault old bytes new
keeps_longer (Refused n) old new bytes kept = leads_longer
    (λ viewing s front. IsReasonAt viewing.hello.text_limit RefusedCause n (reason_in new.hello) s.point front)
    old bytes kept
keeps_longer (SecurityFailed n) old new bytes kept = leads_longer
    (λ viewing s front. IsReasonAt viewing.hello.text_limit FailedCause n (reason_in new.hello) s.point front)
    old bytes kept
keeps_longer fault old new bytes kept = kept

offer_longer : (fault : ViewerFault) (old new : Viewer) (bytes : List ℕ) → KeepsOffer fault old
    (take 1 bytes) new → KeepsOffer fault old bytes new
offer_longer NoneNotOffered old new bytes kept =
    leads_longer (λ viewing s front. IsOfferedAt (offered_of new) s.point front) old bytes kept
offer_longer BadSecurityWord old new bytes kept =
    leads_longer (λ viewing s front. IsOfferedAt (offered_of new) s.point front) old bytes kept
offer_longer fault old new bytes kept = kept

offered_longer : (told : Option ViewerTold) (old new : Viewer) (bytes : List ℕ) → TakesOffer told old
    (take 1 bytes) new → TakesOffer told old bytes new
offered_longer (Some (Reply sent)) old new bytes kept =
    leads_longer (λ viewing s front. IsOfferOn (offered_of old) (offered_of new) s.point front) old bytes kept
offered_longer told old new bytes kept = kept

ends_longer : (fault : ViewerFault) (old new : Viewer) (bytes : List ℕ) → EndsIn fault old (take 1 bytes) new →
    EndsIn fault old bytes new
ends_longer fault old new bytes ends = λ viewing s prefix stands.
    let e = ends viewing s prefix stands in
    let all : prefix ++ bytes ≡ e.0 ++ (e.1 ++ drop 1 bytes) =
    ap (λ (xs : List ℕ). prefix ++ xs) (sym (take-append-drop 1 bytes)) ∙ sym (append_assoc prefix (take 1 bytes)
    (drop 1 bytes))
    ∙ ap (λ (xs : List ℕ). xs ++ drop 1 bytes) e.2 ∙ append_assoc e.0 e.1 (drop 1 bytes) in
    (e.0, e.1 ++ drop 1 bytes, all, e.3)

damages_longer : (old new : Viewer) (xs bytes : List ℕ) → old.progress ≡ Handshake → Damages old xs new →
    Damages old bytes new
damages_longer old new xs bytes was d =
    subst (λ (q : Progress). DamagesAt q old bytes new) (sym was) (subst (λ
    (q : Progress). DamagesAt q old xs new) was d)

pub first_steps : (old new : Viewer) (bytes : List ℕ) (result : Result (Fed ViewerEvent) Failure) →
    0 < length bytes → old.progress ≡ Handshake → Steps old (take 1 bytes) result new → Steps old bytes result new
first_steps old new bytes (Ok fed) some was t =
    let one : length (take 1 bytes) ≡ 1 = length-take-le 1 bytes (omega (arith, some)) in
    let within = t.within in
    let few : fed.used ≤ 1 = omega (arith, one, within) in
    let same : take fed.used (take 1 bytes) ≡ take fed.used bytes = take-take fed.used 1 bytes few in
    record {
      some = t.some;
      within = omega (arith, some, few);
      steps = subst (λ (xs : List ℕ). StepsOn old xs fed.event new) same t.steps;
      damage = subst (λ (xs : List ℕ). Damages old xs new) same t.damage;
      moved = subst (λ (xs : List ℕ). Moves old xs new) same t.moved;
      offered = offered_longer (seen fed.event) old new bytes t.offered;
      going = t.going;
      made = t.made;
      taken = t.taken;
    }
first_steps old new bytes (Err failure) some was f =
    let n = failure.used in
    let one : length (take 1 bytes) ≡ 1 = length-take-le 1 bytes (omega (arith, some)) in
    let within = f.placed.within in
    let few : n ≤ 1 = omega (arith, one, within) in
    let same : take n (take 1 bytes) ≡ take n bytes = take-take n 1 bytes few in
    let same_front : take (n - 1) (take 1 bytes) ≡ take (n - 1) bytes = take-take (n - 1) 1 bytes (omega
    (arith, few)) in
    record {
      placed = record {
        some = f.placed.some;
        within = omega (arith, some, few);
        refused = λ other viewing. let r = f.placed.refused other viewing in record {
          refused = rw same at
              r.refused;
          taken = rw same_front at r.taken;
        };
        starved = λ is viewing. let r = f.placed.starved is viewing in record {
          asked = rw same at r.asked;
          taken =
              rw same_front at r.taken;
        };
      };
      picture = ends_longer failure.fault old new bytes f.picture;
      reason = keeps_longer failure.fault old new bytes f.reason;
      offer = offer_longer failure.fault old new bytes f.offer;
      damage = damages_longer old new (take 1 bytes) bytes was f.damage;
      moved = f.moved;
      failed = f.failed;
      made = f.made;
      taken = f.taken;
    }
