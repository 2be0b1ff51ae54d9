-- Bytes that cross a connection, and what reaches the end behind it.
use Rattle.std.proofs.Common.{◌≡◌, ◌∙◌, ◌+◌, sym, ap, refl, subst, ℕ}
use Rattle.std.proofs.Common.{[], ◌++◌, List, length, take}
use Rattle.std.proofs.Common.{drop, length-append, Option}
use Rattle.std.proofs.KnownBytes.{Appends-nil, Appends-trans, Consumes-nil, Consumes-trans}
use lib.Seq.{take-add, take-append_seam}
use Rattle.rfb.specs.Delivery.{Crosses, Reaches, Receiver}
use Rattle.rfb.proofs.DeliveryLemmas.{IsReceiver, takes_none, takes_then}

-- ---- a connection

pub nothing_crosses : (before unread : Option (List ℕ)) → Crosses [] before before unread unread []
nothing_crosses before unread = record { sent = Appends-nil before; read = Consumes-nil unread; as_many = refl }

pub crosses_then : (bytes more : List ℕ) (before mid after unread between left : Option (List ℕ)) (came next : List ℕ) →
    Crosses bytes before mid unread between came → Crosses more mid after between left next →
    Crosses (bytes ++ more) before after unread left (came ++ next)
crosses_then bytes more before mid after unread between left came next one two = record {
  sent = Appends-trans before mid after bytes more one.sent two.sent;
  read = Consumes-trans unread between left came next one.read two.read;
  as_many = length-append came next ∙ ap (λ (n : ℕ). n + length next) one.as_many
      ∙ ap (λ (n : ℕ). length bytes + n) two.as_many ∙ sym (length-append bytes more);
}

-- the bytes of one part after those before
pub next_part : (all now part rest : List ℕ) (n k m : ℕ) → now ≡ drop n all → now ≡ part ++ rest → length part ≡ k →
    n + k ≡ m → take n all ++ part ≡ take m all
next_part all now part rest n k m is parts size sum =
    let seam : take k now ≡ part =
    ap (take k) parts ∙ ap (λ (m : ℕ). take m (part ++ rest)) (sym size) ∙ take-append_seam part rest in
    ap (λ (l : List ℕ). take n all ++ l) (sym seam ∙ ap (take k) is) ∙ sym (take-add n k all)
    ∙ ap (λ (i : ℕ). take i all) sum

module _ {E F S C : Type 0} {r : Receiver E F S C} (is : IsReceiver r) where
  -- no part yet
  pub reaches_none : (all : List ℕ) (n : ℕ) (unsent unread : Option (List ℕ)) (old : E) (before : List ℕ) →
      0 ≡ n → Reaches r (take n all) unsent unsent unread unread old before before old
  reaches_none all n unsent unread old before none =
      subst (λ (k : ℕ). Reaches r (take k all) unsent unsent unread unread old before before old) none
      (record { came = []; crosses = nothing_crosses unsent unread; takes = takes_none is old before })

  -- one part more
  pub reaches_more : (all now part rest : List ℕ) (n k m : ℕ)
      (unsent mid sent unread between left : Option (List ℕ))
      (old last new : E) (before after later : List ℕ) →
      now ≡ drop n all → now ≡ part ++ rest → length part ≡ k →
      n + k ≡ m → Reaches r (take n all) unsent mid unread between old before after last →
      Reaches r part mid sent between left last after later new →
      Reaches r (take m all) unsent sent unread left old before later new
  reaches_more all now part rest n k m unsent mid sent unread between left old last new before after later here parts
      size sum was more =
      subst (λ (l : List ℕ). Reaches r l unsent sent unread left old before later new)
      (next_part all now part rest n k m here parts size sum)
      (record {
        came = was.came ++ more.came;
        crosses = crosses_then (take n all) part unsent mid sent unread between left was.came
            more.came was.crosses more.crosses;
        takes = takes_then is old last new was.came more.came before after later was.takes more.takes;
      })
