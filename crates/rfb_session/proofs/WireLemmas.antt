-- What was written to a wire, step by step, and what is known of it then.
use Rattle.std.proofs.Common.{◌≡◌, ℕ, ◌-◌, List, [], ◌++◌, Option, take, drop, length, refl, sym}
use Rattle.std.proofs.Common.{ap, ◌∙◌, subst, append_assoc, append-nil, inl, inr, take-append-drop}
use Rattle.std.specs.Io.KnownBytes.{Appends}
use Rattle.std.proofs.KnownBytes.{Appends-nil, Appends-trans}
use Rattle.rfb_session.specs.Devices.{AppendsBeginning, AppendsUpTo}
use Rattle.rfb_session.specs.Wire.{WireStep, Went, Refused, Known, KeepsReads, Tells, Stepping}
use Rattle.rfb_session.specs.Wire.{Sends, Nothing, Then, SendsSome, Writing, by_bytes, by_steps}
use Rattle.rfb_session.proofs.WrittenLemmas.{rest_is, then_stopped, no_beginning}

-- ---- how writings follow one another

module _ {D : Type 0} where
  pub record Joins (writing : Writing D) : Type 0 where
    pub none : (a : D) → writing.all a a []
    pub then : (a b c : D) (xs ys : List ℕ) → writing.all a b xs → writing.all b c ys → writing.all a c (xs ++ ys)
    pub stops : (a b c : D) (xs ys : List ℕ) → writing.all a b xs → writing.some b c ys → writing.some a c (xs ++ ys)
    pub nothing : (a : D) (xs : List ℕ) → writing.some a a xs

-- a beginning of an answer was written after the others
pub begun_after : (before mid after : Option (List ℕ)) (sent answer : List ℕ) → Appends before mid sent →
    AppendsBeginning mid after answer → AppendsBeginning before after (sent ++ answer)
begun_after before mid after sent answer wrote begun =
    then_stopped before mid after (sent ++ answer) answer
    (record { done = sent; parts = refl; appended = wrote }) begun

pub bytes_join : Joins by_bytes
bytes_join = record {
  none = Appends-nil;
  then = Appends-trans;
  stops = begun_after;
  nothing = no_beginning;
}

-- ---- step by step

module _ {W : Type 0} where
  -- bytes that are the same ones
  sends_as : (steps : Stepping W) (old new : W) (bytes all : List ℕ) → bytes ≡ all →
      Sends steps old new bytes → Sends steps old new all
  sends_as steps old new bytes all is sent = subst (λ (l : List ℕ). Sends steps old new l) is sent

  sends_then : (steps : Stepping W) (old mid new : W) (front more : List ℕ) →
      Sends steps old mid front → Sends steps mid new more → Sends steps old new (front ++ more)
  sends_then steps old mid new front more one two = joins new more two
    where
      joins : (new : W) (more : List ℕ) → Sends steps mid new more → Sends steps old new (front ++ more)
      joins new more Nothing = sends_as steps old mid front (front ++ []) (sym (append-nil front)) one
      joins new more (Then last after first part sent step) =
          sends_as steps old new ((front ++ first) ++ part) (front ++ (first ++ part))
          (append_assoc front first part) (Then last new (front ++ first) part (joins last first sent) step)

  sends_some_then : (steps : Stepping W) (old mid new : W) (front more : List ℕ) →
      Sends steps old mid front → SendsSome steps mid new more → SendsSome steps old new (front ++ more)
  sends_some_then steps old mid new front more one two = record {
    done = front ++ two.done;
    rest = two.rest;
    mid = two.mid;
    parts = ap (λ (l : List ℕ). front ++ l) two.parts ∙ sym (append_assoc front two.done two.rest);
    sent = sends_then steps old mid two.mid front two.done one two.sent;
    stops = two.stops;
  }

  pub steps_join : (steps : Stepping W) → Joins (by_steps steps)
  steps_join steps = record {
    none = λ a. Nothing;
    then = sends_then steps;
    stops = sends_some_then steps;
    nothing = λ a xs. record {
      done = [];
      rest = xs;
      mid = a;
      parts = refl;
      sent = Nothing;
      stops = inl refl;
    };
  }

  -- of some bytes these are left to be written
  pub record SendsUpTo (steps : Stepping W) (old new : W) (bytes rest : List ℕ) : Type 0 where
    pub done : List ℕ
    pub parts : bytes ≡ done ++ rest
    pub sent : Sends steps old new done

  pub nothing_sent : (steps : Stepping W) (old : W) (bytes : List ℕ) → SendsUpTo steps old old bytes bytes
  nothing_sent steps old bytes = record { done = []; parts = refl; sent = Nothing }

  pub part_sent : (steps : Stepping W) (old mid new : W) (bytes rest : List ℕ) (n : ℕ) →
      SendsUpTo steps old mid bytes rest → steps mid (Went (take n rest)) new →
      SendsUpTo steps old new bytes (take (length rest - n) (drop n rest))
  part_sent steps old mid new bytes rest n was step = record {
    done = was.done ++ take n rest;
    parts = was.parts ∙ ap (λ (l : List ℕ). was.done ++ l) (sym (take-append-drop n rest))
        ∙ sym (append_assoc was.done (take n rest) (drop n rest))
        ∙ ap (λ (l : List ℕ). (was.done ++ take n rest) ++ l) (sym (rest_is rest n));
    sent = Then mid new was.done (take n rest) was.sent step;
  }

  pub all_sent : (steps : Stepping W) (old new : W) (bytes rest : List ℕ) →
      SendsUpTo steps old new bytes rest → rest ≡ [] → Sends steps old new bytes
  all_sent steps old new bytes rest was none =
      sends_as steps old new was.done bytes
      (sym (was.parts ∙ ap (λ (l : List ℕ). was.done ++ l) none ∙ append-nil was.done)) was.sent

  pub some_sent : (steps : Stepping W) (old mid new : W) (bytes rest : List ℕ) →
      SendsUpTo steps old mid bytes rest → steps mid Refused new → SendsSome steps old new bytes
  some_sent steps old mid new bytes rest was step = record {
    done = was.done;
    rest = rest;
    mid = mid;
    parts = was.parts;
    sent = was.sent;
    stops = inr step;
  }

-- ---- what is known then

-- what each step makes of what is known
abbrev pub Telling : {W : Type 0} → Stepping W → (W → Known) → Type 0
Telling steps known = (old new : _) (step : WireStep) → steps old step new → Tells step (known old) (known new)

pub keeps_then : (a b c : Known) → KeepsReads a b → KeepsReads b c → KeepsReads a c
keeps_then a b c one two = (two.0 ∙ one.0, two.1 ∙ one.1, two.2 ∙ one.2)

module _ {W : Type 0} (steps : Stepping W) (known : W → Known) (tells : Telling steps known) where
  -- all of these bytes were written
  pub all_known : (old new : W) (bytes : List ℕ) → Sends steps old new bytes →
      Tells (Went bytes) (known old) (known new)
  all_known old new bytes Nothing = ((refl, refl, refl), Appends-nil (known old).written, refl)
  all_known old new bytes (Then mid after front part sent step) =
      let one = all_known old mid front sent in
      let two = tells mid new (Went part) step in (
        keeps_then (known old) (known mid) (known new) one.0 two.0,
        Appends-trans (known old).written (known mid).written (known new).written front part one.1 two.1,
        two.2 ∙ one.2,
      )

  -- a beginning of them was
  pub some_known : (old new : W) (bytes : List ℕ) → SendsSome steps old new bytes →
      KeepsReads (known old) (known new) × AppendsBeginning (known old).written (known new).written bytes
  some_known old new bytes some =
      let was = all_known old some.mid some.done some.sent in
      let one : AppendsUpTo (known old).written (known some.mid).written bytes some.rest =
      record { done = some.done; parts = some.parts; appended = was.1 } in
      elim some.stops [
        | inl same ↦ (
          subst (λ (w : W). KeepsReads (known old) (known w)) (sym same) was.0,
          subst (λ (w : W). AppendsBeginning (known old).written (known w).written bytes) (sym same)
              (some.rest, one),
        )
        | inr step ↦
            let two = tells some.mid new Refused step in (
              keeps_then (known old) (known some.mid) (known new) was.0 two.0,
              then_stopped (known old).written (known some.mid).written (known new).written bytes
                  some.rest one (whole_nothing (known some.mid).written (known new).written some.rest two.1),
            )
      ]
    where
      whole_nothing : (a b : Option (List ℕ)) (rest : List ℕ) → Appends a b [] → AppendsBeginning a b rest
      whole_nothing a b rest none = (rest, record { done = []; parts = refl; appended = none })
