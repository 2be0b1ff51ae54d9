-- What a call leaves whose bytes were counted.
use Rattle.std.proofs.Common.{◌≡◌, ℕ, List, Option, Some, None, Result, Ok, Err, take, sym, subst, ◌∙◌, ap}
use Rattle.std.specs.Prelude.{IfOk, IfErr}
use Rattle.rfb_wire.specs.stream.End.{FedBy, Machine}
use Rattle.rfb_wire.specs.stream.FaultPlace.{counted_on}
use Rattle.rfb_hello.specs.declared.fed.Fed.{Fed}
use Rattle.rfb_hello.specs.declared.viewer_hello.ViewerHello.{ViewerHello}
use Rattle.rfb_hello.specs.declared.viewer_hello.progress.Cause.TheVariants.{Refused as RefusedCause}
use Rattle.rfb_hello.specs.declared.viewer_hello.progress.Cause.TheVariants.{SecurityFailed as FailedCause}
use Rattle.rfb_hello.specs.Offer.{offered_of as offered_in}
use Rattle.rfb_hello.specs.ViewerModel.{reason_of as reason_in}
use Rattle.rfb_viewer.specs.declared.event.ViewerEvent.{ViewerEvent}
use Rattle.rfb_viewer.specs.declared.fault.ViewerFault.{ViewerFault}
use Rattle.rfb_viewer.specs.declared.fault.ViewerFault.TheVariants.{Refused, SecurityFailed, NoneNotOffered}
use Rattle.rfb_viewer.specs.declared.fault.ViewerFault.TheVariants.{BadSecurityWord}
use Rattle.rfb_viewer.specs.declared.viewer.Viewer.{Viewer}
use Rattle.rfb_viewer.specs.Counted.{IsPlacedAt, CountsTo}
use Rattle.rfb_viewer.specs.Failed.{LeadsTo, LeadsToReason, KeepsReason}
use Rattle.rfb_viewer.specs.Offer.{LeadsToOffer, KeepsOffer, IsOfferOn, TakesOffer}
use Rattle.rfb_viewer.specs.Damage.{ended_of, damaging, IsDamaged}
use Rattle.rfb_viewer.specs.Moved.{moved_of, moving, HasMoved}
use Rattle.rfb_viewer.specs.Model.{StandsFor, fault_of, offered_of, taken_of}
use Rattle.rfb_viewer.specs.Told.{ViewerTold, Reply, seen}
use Rattle.rfb_viewer.specs.Viewer.{Viewing, viewer}
use Rattle.rfb_viewer.proofs.CallLemmas.{same_stands}
use Rattle.rfb_viewer.proofs.StepLemmas.{IsMade}

-- one viewer differs from another by its count alone
module _ (old mid new : Viewer) (bytes : List ℕ) (made : IsMade mid new mid.progress mid.request mid.picture)
    (ended : ended_of new ≡ ended_of mid) where
  -- what it was fed it was fed, where what it stands for goes over
  fed_counted : {S P I F E : Type 0} (m : Machine S P I F E) (stands : Viewer → S → List ℕ → Type 0) →
      ((s : S) (prefix : List ℕ) → stands mid s prefix → stands new s prefix) →
      (front : List ℕ) (event : Option E) →
      FedBy m stands old front event mid → FedBy m stands old front event new
  fed_counted m stands over front event fed s prefix now =
      let a = fed s prefix now in
      (a.0, a.1, over a.0 a.1 a.2, a.3)

  pub counted_fed : (result : Result (Fed ViewerEvent) ViewerFault) → IfOk result (λ fed. (viewing : Viewing) →
      FedBy (viewer viewing) (StandsFor viewing) old (take fed.used bytes) (seen fed.event) mid) → IfOk result
      (λ fed. (viewing : Viewing) → FedBy (viewer viewing) (StandsFor viewing) old (take fed.used bytes)
      (seen fed.event) new)
  counted_fed (Ok fed) one = λ viewing. fed_counted (viewer viewing) (StandsFor viewing)
      (λ s prefix is. same_stands viewing mid new s prefix made is) (take fed.used bytes) (seen fed.event)
      (one viewing)
  counted_fed (Err fault) one = tt

  pub counted_damage : (result : Result (Fed ViewerEvent) ViewerFault) → IfOk result (λ fed. (viewing : Viewing) →
      FedBy (damaging viewing) (IsDamaged viewing) old (take fed.used bytes) (seen fed.event) mid) → IfOk result
      (λ fed. (viewing : Viewing) → FedBy (damaging viewing) (IsDamaged viewing) old (take fed.used bytes)
      (seen fed.event) new)
  counted_damage (Ok fed) one = λ viewing. fed_counted (damaging viewing) (IsDamaged viewing) (λ s prefix is. record {
    stands = same_stands viewing mid new s.state prefix made is.stands;
    ended_is = ended ∙ is.ended_is;
  }) (take fed.used bytes) (seen fed.event) (one viewing)
  counted_damage (Err fault) one = tt

  pub counted_moved : moved_of new ≡ moved_of mid → (result : Result (Fed ViewerEvent) ViewerFault) → IfOk result
      (λ fed. (viewing : Viewing) → FedBy (moving viewing) (HasMoved viewing) old (take fed.used bytes)
      (seen fed.event) mid) → IfOk result (λ fed. (viewing : Viewing) → FedBy (moving viewing)
      (HasMoved viewing) old (take fed.used bytes) (seen fed.event) new)
  counted_moved moves (Ok fed) one = λ viewing. fed_counted (moving viewing) (HasMoved viewing)
      (λ s prefix is. record {
        stands = same_stands viewing mid new s.state prefix made is.stands;
        moves_are = moves ∙ is.moves_are;
      }) (take fed.used bytes) (seen fed.event) (one viewing)
  counted_moved moves (Err fault) one = tt

  reason_counted : (fault : ViewerFault) → KeepsReason fault old bytes mid → KeepsReason fault old bytes new
  reason_counted (Refused n) kept = subst (λ (h : ViewerHello). LeadsToReason RefusedCause n
      (reason_in h) old bytes) (sym made.hello) kept
  reason_counted (SecurityFailed n) kept = subst (λ (h : ViewerHello). LeadsToReason FailedCause n
      (reason_in h) old bytes) (sym made.hello) kept
  reason_counted fault kept = λ viewing s prefix stands. ap (λ (h : ViewerHello).
      (reason_in h).bytes) made.hello ∙ kept viewing s prefix stands

  pub counted_reason : (result : Result (Fed ViewerEvent) ViewerFault) → IfErr result
      (λ fault. fault_of old ≡ None → KeepsReason fault old bytes mid) → IfErr result
      (λ fault. fault_of old ≡ None → KeepsReason fault old bytes new)
  counted_reason (Ok fed) one = tt
  counted_reason (Err fault) one = λ none. reason_counted fault (one none)

  offer_counted : (fault : ViewerFault) → KeepsOffer fault old bytes mid → KeepsOffer fault old bytes new
  offer_counted NoneNotOffered kept = subst (λ (h : ViewerHello). LeadsToOffer (offered_in h) old bytes)
      (sym made.hello) kept
  offer_counted BadSecurityWord kept = subst (λ (h : ViewerHello). LeadsToOffer (offered_in h) old bytes)
      (sym made.hello) kept
  offer_counted fault kept = ap (λ (h : ViewerHello). offered_in h) made.hello ∙ kept

  pub counted_offer : (result : Result (Fed ViewerEvent) ViewerFault) → IfErr result
      (λ fault. fault_of old ≡ None → KeepsOffer fault old bytes mid) → IfErr result
      (λ fault. fault_of old ≡ None → KeepsOffer fault old bytes new)
  counted_offer (Ok fed) one = tt
  counted_offer (Err fault) one = λ none. offer_counted fault (one none)

  offered_counted : (told : Option ViewerTold) → TakesOffer told old bytes mid → TakesOffer told old bytes new
  offered_counted (Some (Reply sent)) kept = subst (λ (h : ViewerHello). LeadsTo
      (λ viewing s front. IsOfferOn (offered_of old) (offered_in h) s.point front) old bytes) (sym made.hello) kept
  offered_counted told kept = ap (λ (h : ViewerHello). offered_in h) made.hello ∙ kept

  pub counted_offered : (result : Result (Fed ViewerEvent) ViewerFault) → IfOk result
      (λ fed. TakesOffer (seen fed.event) old bytes mid) → IfOk result
      (λ fed. TakesOffer (seen fed.event) old bytes new)
  counted_offered (Ok fed) one = offered_counted (seen fed.event) one
  counted_offered (Err fault) one = tt

pub count_of_fed : (before after used : ℕ) → after ≡ counted_on before used → (result : Result
    (Fed ViewerEvent) ViewerFault) → IfOk result (λ fed. used ≡ fed.used) → IfOk result
    (λ fed. after ≡ counted_on before fed.used)
count_of_fed before after used is (Ok fed) same = is ∙ ap (counted_on before) same
count_of_fed before after used is (Err fault) same = tt

module _ (old new : Viewer) (bytes : List ℕ) (used : ℕ) (is : taken_of new ≡ counted_on (taken_of old) used) where
  pub count_of_fault : (result : Result (Fed ViewerEvent) ViewerFault) → IfErr result
      (λ fault. IsPlacedAt used fault old bytes) → IfErr result (λ fault. fault_of old ≡ None →
      CountsTo fault old bytes new)
  count_of_fault (Ok fed) placed = tt
  count_of_fault (Err fault) placed = λ _. record { last = used; placed = placed; count = is }
