-- A composed update that joins what is in flight.
use Rattle.std.proofs.Common.{◌≡◌, ◌≢◌, inl, inr, ℕ, Bool, true, false, List, [], ◌++◌, None, Result, Ok, refl, ap, ◌∙◌}
use Rattle.std.proofs.Common.{append-nil}
use Rattle.rfb_server.specs.declared.server.Server.{Server}
use Rattle.rfb_server.specs.Hints.{hints_of}
use Rattle.rfb_server.specs.Model.{fault_of}
use Rattle.rfb_server.specs.UpdateCall.{StaysUnsent, Updates}
use Rattle.rfb.specs.Loopback.{ComposesInto, SendsNothing}

-- what was appended to an empty buffer is in flight after the others
updates_into : (old new : Server) (empty update before after : List ℕ) → empty ≡ [] →
    after ≡ before ++ update → Updates old new empty update → Updates old new before after
updates_into old new empty update before after none wrote was = record {
  screen_is = was.screen_is;
  fault_is = was.fault_is;
  sent = λ serving s prefix stands.
      let one = was.sent serving s prefix stands in
      record {
        resulting = one.resulting;
        update = record {
          due = one.update.due;
          bytes = one.update.bytes;
          copies = one.update.copies;
          blocks = one.update.blocks;
          appended = wrote ∙ ap (λ (b : List ℕ). before ++ b)
              (one.update.appended ∙ ap (λ (b : List ℕ). b ++ one.update.bytes) none);
          composes = one.update.composes;
          used = one.update.used;
        };
        stands = one.stands;
      };
}

stays_into : (old new : Server) (empty update before after : List ℕ) → empty ≡ [] →
    after ≡ before ++ update → StaysUnsent old new empty update →
    StaysUnsent old new before after
stays_into old new empty update before after none wrote was = record {
  appended = wrote ∙ ap (λ (b : List ℕ). before ++ b) (was.appended ∙ none) ∙ append-nil before;
  kept = was.kept;
  not_due = was.not_due;
}

not_both : {E : Type 0} (answer : Result Bool E) → answer ≡ Ok true → answer ≡ Ok false → ⊥
not_both answer is other = cc

pub composes_into : {E : Type 0} (old new : Server) (empty update before after : List ℕ)
    (did : Bool) (answer : Result Bool E) → answer ≡ Ok did → empty ≡ [] → (did ≡ true → Updates old new empty update) →
    (did ≡ false → StaysUnsent old new empty update) → (did ≡ true → hints_of new ≡ []) →
    (did ≡ false → hints_of new ≡ hints_of old) →
    (fault_of old ≢ None → answer ≡ Ok false) → after ≡ before ++ update →
    ComposesInto old new before after
composes_into old new empty update before after true answer is none composed idle spent hints failed
    wrote =
    record {
      either = inl (
        updates_into old new empty update before after none wrote (composed refl),
        spent refl,
      );
      failed = λ fails. absurd (not_both answer is (failed fails));
    }
composes_into old new empty update before after false answer is none composed idle spent hints failed
    wrote =
    let nothing : SendsNothing old new before after =
    (stays_into old new empty update before after none wrote (idle refl), hints refl) in
    record {
      either = inr nothing;
      failed = λ fails. nothing;
    }
