-- Engines of an end that had failed before.
use Rattle.std.proofs.Common.{◌≡◌, ◌≤◌, ◌-◌, ◌^◌, ℕ, List, [], Option, Some, Result, Ok, Err}
use Rattle.std.proofs.Common.{◌⊎◌, inl, inr, ap, sym, ◌∙◌, subst, arith}
use Rattle.std.specs.Io.KnownBytes.{Consumes, Keeps}
use Rattle.std.proofs.KnownBytes.{Consumes-nil, Consumes-trans, Consumes-kept}
use Rattle.rfb_viewer.specs.declared.fault.ViewerFault.{ViewerFault}
use Rattle.rfb_session.specs.declared.engine.fault.EngineFault.{EngineFault}
use Rattle.rfb_session.specs.declared.engine.fault.EngineFault.TheVariants.{Device, Viewer as ViewerEnded}

-- what is read where none is
pub none_read : (old new : Option (List ℕ)) → new ≡ old → Consumes old new []
none_read old new same = subst (λ (o : Option (List ℕ)). Consumes old o []) (sym same) (Consumes-nil old)

pub none_then : (old mid new : Option (List ℕ)) → Consumes old mid [] → Consumes mid new [] → Consumes old new []
none_then old mid new one two = Consumes-trans old mid new [] [] one two

pub none_kept : (old mid new : Option (List ℕ)) → Consumes old mid [] → Keeps mid new → Consumes old new []
none_kept old mid new one kept = Consumes-kept old mid new [] one kept

pub no_answer : {A E : Type 0} (a : A) (e : E) → Ok a ≡ Err e → ⊥
no_answer a e is = absurd cc

-- an answer that is an error
abbrev err_of : {E : Type 0} (A : Type 0) → E → Result A E
err_of A fault = Err fault

-- the same error is the same answer, whatever else could be answered
err_same : {E : Type 0} (A B : Type 0) (own fault : E) → err_of A fault ≡ err_of A own →
    err_of B fault ≡ err_of B own
err_same A B own fault e = let same : fault ≡ own = cc in ap (λ x. err_of B x) same

module _ {A : Type 0} where
  -- how an engine of an end that had failed may answer
  abbrev pub Unfed : EngineFault → Result A EngineFault → Option (List ℕ) → Option (List ℕ) → Result A EngineFault
      → Type 0
  Unfed own ended unread left result =
      (result ≡ Err own) ⊎ (Consumes unread left [] × ((result ≡ Err Device) ⊎ (result ≡ ended)))

  -- it is no other answer
  pub not_fed : (own : EngineFault) (ended : Result A EngineFault) (unread left : Option (List ℕ))
      (r : Result A EngineFault) (a : A) →
      r ≡ Ok a → (ended ≡ Ok a → ⊥) → Unfed own ended unread left r → ⊥
  not_fed own ended unread left r a is not (inl e) = absurd (one e)
    where
      one : r ≡ Err own → ⊥
      one e = absurd cc
  not_fed own ended unread left r a is not (inr (read, inl e)) = absurd (two e)
    where
      two : r ≡ Err Device → ⊥
      two e = absurd cc
  not_fed own ended unread left r a is not (inr (read, inr e)) = not (sym e ∙ is)

-- an end that had failed before some calls fails so at the next
pub fails_still : {A B V E F : Type 0} (fault_of : V → Option F) (own : F → E) {old mid new : V} (f : F)
    (fault : E) → mid ≡ old → fault_of old ≡ Some f →
    ((g : F) → fault_of mid ≡ Some g → (err_of A fault ≡ err_of A (own g)) × (new ≡ mid)) →
    (err_of B fault ≡ err_of B (own f)) × (new ≡ old)
fails_still {A = A} {B = B} fault_of own f fault same is fails =
    let again = fails f (ap fault_of same ∙ is) in (err_same A B (own f) fault again.0, again.1 ∙ same)

-- an answer of that kind
abbrev pub fails_with : (A : Type 0) → EngineFault → Result A EngineFault
fails_with A fault = Err fault

abbrev pub refuses_with : (A : Type 0) → ViewerFault → Result A ViewerFault
refuses_with A fault = Err fault

module _ {A B : Type 0} where
  pub err_as : (own fault : EngineFault) → fails_with A fault ≡ fails_with A own → fails_with B fault ≡ fails_with B own
  err_as own fault e = err_same A B own fault e

  -- it stops in a part of an engine
  pub unfed_then : (own fault : EngineFault) (a : A) (ended : Result B EngineFault) (old mid new : Option (List ℕ)) →
      Consumes old mid [] → Unfed own (Ok a) mid new (Err fault) → Unfed own ended old new (Err fault)
  unfed_then own fault a ended old mid new none (inl e) = inl (err_as own fault e)
  unfed_then own fault a ended old mid new none (inr (read, inl e)) =
      inr (none_then old mid new none read, inl (err_as Device fault e))
  unfed_then own fault a ended old mid new none (inr (read, inr e)) = absurd (never e)
    where
      never : fails_with A fault ≡ Ok a → ⊥
      never e = absurd cc

pub unread_then : {A : Type 0} (own : EngineFault) (ended : Result A EngineFault) (old mid new : Option (List ℕ))
    (a : A) →
    Consumes old mid [] → Unfed own ended mid new (Ok a) → Consumes old new []
unread_then own ended old mid new a none (inl e) = absurd (never e)
  where
    never : Ok a ≡ Err own → ⊥
    never e = absurd cc
unread_then own ended old mid new a none (inr (read, more)) = none_then old mid new none read

-- as many turns as there can be are not none
pub some_turns : (n : ℕ) → n ≡ 0 → 2 ^ 64 - 1 ≤ n → ⊥
some_turns n none out = omega (arith, none, out)

-- a fault that is told again
pub again_as : {A B : Type 0} (own fault : ViewerFault) → refuses_with A fault ≡ refuses_with A own →
    refuses_with B fault ≡ refuses_with B own
again_as {A = A} {B = B} own fault e = err_same A B own fault e

pub told_as : {A B : Type 0} (own fault : ViewerFault) → refuses_with A fault ≡ refuses_with A own →
    fails_with B (ViewerEnded fault) ≡ fails_with B (ViewerEnded own)
told_as {B = B} own fault e =
    let same : fault ≡ own = cc in ap (λ (x : ViewerFault). fails_with B (ViewerEnded x)) same
