-- What a viewer keeps that fails in the handshake: its reason, and its types.
use Rattle.std.proofs.Common.{◌≡◌, ◌≢◌, ℕ, true, List, [], ◌++◌, Option, Some, None, take, refl, sym, subst, ◌∙◌, ap}
use Rattle.std.proofs.Common.{append-nil}
use Rattle.arrayvec.specs.ArrayVec.{ArrayVec}
use Rattle.rfb_wire.specs.stream.End.{FedBy, RunsOutBy, RefusedBy}
use Rattle.rfb_hello.specs.declared.fault.HelloFault.{HelloFault}
use Rattle.rfb_hello.specs.declared.fault.HelloFault.TheVariants.{BadVersion, VersionTooHigh, BadSecurityChoice}
use Rattle.rfb_hello.specs.declared.fault.HelloFault.TheVariants.{NoneNotOffered, Refused as HelloRefused}
use Rattle.rfb_hello.specs.declared.fault.HelloFault.TheVariants.{BadSecurityWord, SecurityFailed as HelloFailed}
use Rattle.rfb_hello.specs.declared.fault.HelloFault.TheVariants.{ScreenEmpty, ScreenTooLarge, NoMemory as HelloMemory}
use Rattle.rfb_hello.specs.declared.viewer_hello.ViewerHello.{ViewerHello}
use Rattle.rfb_hello.specs.declared.viewer_hello.progress.Cause.{Cause}
use Rattle.rfb_hello.specs.declared.viewer_hello.progress.Cause.TheVariants.{Refused as RefusedCause}
use Rattle.rfb_hello.specs.declared.viewer_hello.progress.Cause.TheVariants.{SecurityFailed as FailedCause}
use Rattle.rfb_hello.specs.KeptText.{KeptText, no_text}
use Rattle.rfb_hello.specs.ServerHandshake.{ServerPoint, ServerItem, AwaitsInit, ServerInit}
use Rattle.rfb_hello.specs.declared.version.Version.{Version}
use Rattle.rfb_hello.specs.declared.step.ViewerStep.{ViewerStep}
use Rattle.rfb_hello.specs.declared.step.ViewerStep.TheVariants.{Reply as StepReply}
use Rattle.rfb_hello.specs.declared.viewer_hello.progress.Progress.{Progress as HelloProgress}
use Rattle.rfb_hello.specs.declared.viewer_hello.progress.Progress.TheVariants.{Done}
use Rattle.rfb_hello.specs.declared.viewer_hello.progress.Progress.TheVariants.{Failed as FailedPart}
use Rattle.rfb_hello.specs.ViewerEnd.{ViewerSetup, viewer_end, AsksMemory as HelloAsks, viewer_tells as handshake_tells}
use Rattle.rfb_hello.specs.declared.offered.Offered.{Offered}
use Rattle.rfb_hello.specs.Offer.{offered_of as offered_in, IsOfferedAt as IsOfferedIn, IsOfferOn as IsOfferIn}
use Rattle.rfb_hello.specs.Offer.{LeadsToOffer as HelloOffers, KeepsOffer as HelloKeepsOffer}
use Rattle.rfb_hello.specs.Offer.{TakesOffer as HelloTakesOffer}
use Rattle.rfb_hello.specs.ViewerModel.{StandsFor as HelloStandsFor, IsReasonKept, KeepsReason as HelloKeeps}
use Rattle.rfb_hello.specs.ViewerModel.{LeadsToReason as HelloLeads, reason_of as reason_in, is_open}
use Rattle.rfb_hello.specs.ViewerModel.{fault_of as hello_fault}
use Rattle.rfb_hello.specs.ViewerProgress.{is_open as goes_on, fault_in as hello_fault_in}
use Rattle.rfb_viewer.specs.declared.fault.ViewerFault.TheVariants.{NoMemory}
use Rattle.rfb_viewer.specs.declared.viewer.Viewer.{Viewer}
use Rattle.rfb_viewer.specs.declared.viewer.progress.Progress.TheVariants.{Handshake}
use Rattle.rfb_viewer.specs.Fault.{fault_of_hello}
use Rattle.rfb_viewer.specs.ServerBytes.{ServerAt, server_bytes}
use Rattle.rfb_viewer.specs.Viewer.{Viewing, ViewerState, AsksMemory}
use Rattle.rfb_viewer.specs.steps.ItemDamage.{EndsHere}
use Rattle.rfb_viewer.specs.Progress.{IsScreenAt}
use Rattle.rfb_viewer.specs.Model.{StandsFor, offered_of}
use Rattle.rfb_viewer.specs.Offer.{LeadsToOffer, IsOfferedAt, KeepsOffer, IsOfferOn}
use Rattle.rfb_viewer.specs.Failed.{LeadsTo, LeadsToReason, IsReasonAt, KeepsNone, KeepsReason, ShowsLast}
use Rattle.rfb_viewer.proofs.FailLemmas.{starved_ends}
use Rattle.rfb_viewer.proofs.MessageLemmas.{here}
use Rattle.rfb_viewer.proofs.GreetLemmas.{at_hello}
use Rattle.rfb_viewer.proofs.GreetRefusalLemmas.{greet_bad, greet_leads, greet_starves, screen_asks}
use Rattle.rfb_viewer.proofs.LendLemmas.{hello_unreasoned}

module _ (viewing : Viewing) (old : Viewer) where
  -- what is stored there is the picture
  first_shown : (s : ViewerState) (prefix bytes : List ℕ) → old.progress ≡ Handshake → StandsFor viewing old s prefix →
      ShowsLast s.point s.picture bytes old.picture
  first_shown s prefix bytes was stands =
      let h = at_hello viewing old s.point s.picture prefix (here viewing old Handshake s prefix was stands) in
      subst (λ (a : ServerAt). ShowsLast a s.picture bytes old.picture) (sym h.1) h.5

  bad_ends : (bytes : List ℕ) (fault : HelloFault) → (fault_of_hello fault ≡ NoMemory → ⊥) → old.progress ≡ Handshake →
      RefusedBy (viewer_end viewing.hello) (HelloStandsFor viewing.hello) old.hello bytes fault →
      EndsHere viewing (fault_of_hello fault) old.picture old bytes
  bad_ends bytes fault other was refused s prefix stands =
      let r = greet_bad viewing old bytes fault was refused s prefix stands in (
        prefix ++ bytes,
        [],
        sym (append-nil (prefix ++ bytes)),
        record {
          bad = λ _. ap (λ (ys : List ℕ). (server_bytes viewing.form viewing.hello).next s.point ys) r.reads ∙ r.bad;
          asks = λ is. absurd (other is);
          shows = first_shown s prefix (prefix ++ bytes) was stands;
        },
      )

  memory_ends : (bytes : List ℕ) → old.progress ≡ Handshake → ((s : ViewerState) (prefix : List ℕ) →
      StandsFor viewing old s prefix → (front later : List ℕ) × (prefix ++ bytes ≡ front ++ later)
      × AsksMemory viewing s front) → EndsHere viewing NoMemory old.picture old bytes
  memory_ends bytes was =
      starved_ends viewing old bytes (λ s prefix front stands. first_shown s prefix front was stands)

  pub greet_ends : (bytes : List ℕ) (fault : HelloFault) → old.progress ≡ Handshake → (fault ≢ HelloMemory →
      RefusedBy (viewer_end viewing.hello) (HelloStandsFor viewing.hello) old.hello bytes fault) →
      (fault ≡ HelloMemory →
      RunsOutBy (viewer_end viewing.hello) (HelloAsks viewing.hello) (HelloStandsFor viewing.hello) old.hello bytes) →
      EndsHere viewing (fault_of_hello fault) old.picture old bytes
  greet_ends bytes BadVersion was bad out = bad_ends bytes BadVersion (λ e. cc) was (bad (λ e. cc))
  greet_ends bytes VersionTooHigh was bad out = bad_ends bytes VersionTooHigh (λ e. cc) was (bad (λ e. cc))
  greet_ends bytes BadSecurityChoice was bad out = bad_ends bytes BadSecurityChoice (λ e. cc) was (bad (λ e. cc))
  greet_ends bytes NoneNotOffered was bad out = bad_ends bytes NoneNotOffered (λ e. cc) was (bad (λ e. cc))
  greet_ends bytes (HelloRefused n) was bad out = bad_ends bytes (HelloRefused n) (λ e. cc) was (bad (λ e. cc))
  greet_ends bytes BadSecurityWord was bad out = bad_ends bytes BadSecurityWord (λ e. cc) was (bad (λ e. cc))
  greet_ends bytes (HelloFailed n) was bad out = bad_ends bytes (HelloFailed n) (λ e. cc) was (bad (λ e. cc))
  greet_ends bytes ScreenEmpty was bad out = bad_ends bytes ScreenEmpty (λ e. cc) was (bad (λ e. cc))
  greet_ends bytes ScreenTooLarge was bad out = bad_ends bytes ScreenTooLarge (λ e. cc) was (bad (λ e. cc))
  greet_ends bytes HelloMemory was bad out =
      memory_ends bytes was (λ s prefix stands. let r = greet_starves viewing old bytes was (out refl) s prefix
      stands in (r.front, r.later, r.reads, r.asked))

  -- no memory for a screen, where there was none
  pub screen_ends : (bytes : List ℕ) (n : ℕ) (after : ViewerHello) (d : ViewerStep) →
      old.progress ≡ Handshake → old.picture ≡ None →
      FedBy (viewer_end viewing.hello) (HelloStandsFor viewing.hello) old.hello (take n bytes) (Some d) after →
      ((p : ServerPoint) (i : ServerItem) → handshake_tells viewing.hello p i ≡ Some d →
      IsScreenAt p None → (version : Version) × (width height name_length : ℕ) × (p ≡ AwaitsInit version)
      × (i ≡ ServerInit width height name_length)) → EndsHere viewing NoMemory old.picture old bytes
  screen_ends bytes n after d was missing fed is =
      memory_ends bytes was (λ s prefix stands. let r = screen_asks viewing old bytes n after d was missing fed is s
      prefix stands in (r.front, r.later, r.reads, r.asked))

-- ---- the reason of a handshake

reason_leads : (old : Viewer) (cause : Cause) (n : ℕ) (kept : KeptText) (bytes : List ℕ) → old.progress ≡ Handshake →
    HelloLeads cause n kept old.hello bytes → LeadsToReason cause n kept old bytes
reason_leads old cause n kept bytes was leads = λ viewing.
    greet_leads viewing old (IsReasonKept viewing.hello.text_limit cause n kept)
    (IsReasonAt viewing.hello.text_limit cause n kept) (λ p front is. is) bytes was (leads viewing.hello)

no_reason : (old new : Viewer) → reason_in new.hello ≡ no_text → KeepsNone old new
no_reason old new none = λ viewing s prefix stands. ap (λ (k : KeptText). k.bytes) none

pub greet_keeps : (fault : HelloFault) (old new : Viewer) (bytes : List ℕ) → old.progress ≡ Handshake →
    HelloKeeps fault old.hello bytes new.hello → KeepsReason (fault_of_hello fault) old bytes new
greet_keeps BadVersion old new bytes was kept = no_reason old new kept
greet_keeps VersionTooHigh old new bytes was kept = no_reason old new kept
greet_keeps BadSecurityChoice old new bytes was kept = no_reason old new kept
greet_keeps NoneNotOffered old new bytes was kept = no_reason old new kept
greet_keeps (HelloRefused n) old new bytes was kept =
    reason_leads old RefusedCause n (reason_in new.hello) bytes was kept
greet_keeps BadSecurityWord old new bytes was kept = no_reason old new kept
greet_keeps (HelloFailed n) old new bytes was kept = reason_leads old FailedCause n (reason_in new.hello) bytes was kept
greet_keeps ScreenEmpty old new bytes was kept = no_reason old new kept
greet_keeps ScreenTooLarge old new bytes was kept = no_reason old new kept
greet_keeps HelloMemory old new bytes was kept = no_reason old new kept

-- ---- the types of a handshake

offer_leads : (old : Viewer) (offered : Offered) (bytes : List ℕ) → old.progress ≡ Handshake →
    HelloOffers offered old.hello bytes → LeadsToOffer offered old bytes
offer_leads old offered bytes was leads = λ viewing.
    greet_leads viewing old (IsOfferedIn offered) (IsOfferedAt offered) (λ p front is. is) bytes was
    (leads viewing.hello)

pub greet_offers : (fault : HelloFault) (old new : Viewer) (bytes : List ℕ) → old.progress ≡ Handshake →
    HelloKeepsOffer fault old.hello bytes new.hello → KeepsOffer (fault_of_hello fault) old bytes new
greet_offers BadVersion old new bytes was kept = kept
greet_offers VersionTooHigh old new bytes was kept = kept
greet_offers BadSecurityChoice old new bytes was kept = kept
greet_offers NoneNotOffered old new bytes was kept = offer_leads old (offered_of new) bytes was kept
greet_offers (HelloRefused n) old new bytes was kept = kept
greet_offers BadSecurityWord old new bytes was kept = offer_leads old (offered_of new) bytes was kept
greet_offers (HelloFailed n) old new bytes was kept = kept
greet_offers ScreenEmpty old new bytes was kept = kept
greet_offers ScreenTooLarge old new bytes was kept = kept
greet_offers HelloMemory old new bytes was kept = kept

-- the answer of its end is the viewer's
pub answer_offers : (old : Viewer) (after : ViewerHello) (bytes : List ℕ) (reply : ArrayVec ℕ) →
    old.progress ≡ Handshake → HelloTakesOffer (Some (StepReply reply)) old.hello bytes after →
    LeadsTo (λ viewing s front. IsOfferOn (offered_of old) (offered_in after) s.point front) old bytes
answer_offers old after bytes reply was leads = λ viewing.
    greet_leads viewing old (IsOfferIn (offered_of old) (offered_in after))
    (IsOfferOn (offered_of old) (offered_in after)) (λ p front is. is) bytes was (leads viewing.hello)

-- an end that goes on has no reason
pub fed_keeps : (old : Viewer) (after : ViewerHello) (bytes : List ℕ) (event : Option ViewerStep) →
    old.progress ≡ Handshake →
    ((setup : ViewerSetup) → FedBy (viewer_end setup) (HelloStandsFor setup) old.hello bytes event after) →
    (viewing : Viewing) (s : ViewerState) (prefix : List ℕ) → StandsFor viewing old s prefix →
    (reason_in after).bytes ≡ []
fed_keeps old after bytes event was fed viewing s prefix stands =
    let h = at_hello viewing old s.point s.picture prefix (here viewing old Handshake s prefix was stands) in
    let f = fed viewing.hello h.0 prefix h.2 in
    ap (λ (k : KeptText). k.bytes) (hello_unreasoned viewing.hello.text_limit after.progress f.0 f.1 f.2.progress_is)

-- an end that goes on has not failed
pub open_going : (hello : ViewerHello) → is_open hello ≡ true → hello_fault hello ≡ None
open_going hello e = by hello.progress e
  where
    by : (p : HelloProgress) → goes_on p ≡ true → hello_fault_in p ≡ None
    by Done e = absurd cc
    by (FailedPart fault kept) e = absurd cc
    by p e = refl
