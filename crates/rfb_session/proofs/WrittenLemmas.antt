-- What was written to a sink of some bytes, write by write.
use Rattle.std.proofs.Common.{◌≡◌, ℕ, ◌-◌, List, [], ◌∷◌, ◌++◌, length, length-drop, take, drop, refl, ap, sym, ◌∙◌}
use Rattle.std.proofs.Common.{arith}
use Rattle.std.proofs.Common.{Option, Result, Ok, Err, OnErr, OnOk, true, ◌==◌, subst, append-nil, append_assoc}
use Rattle.std.proofs.Common.{take-append-drop}
use Rattle.std.proofs.lemmas.List.{take_all}
use Rattle.std.proofs.lemmas.Bool.Decides.{nat_tests}
use Rattle.std.proofs.KnownBytes.{Appends-nil, Appends-trans, Appends-kept}
use Rattle.std.specs.Io.KnownBytes.{Appends, Keeps}
use Rattle.rfb_session.specs.Devices.{AppendsBeginning, AppendsUpTo}

pub none_written : (old : Option (List ℕ)) (bytes : List ℕ) → AppendsUpTo old old bytes bytes
none_written old bytes = record { done = []; parts = refl; appended = Appends-nil old }

pub nothing_appended : (old new : Option (List ℕ)) → Keeps old new → Appends old new []
nothing_appended old new kept = Appends-kept old old new [] (Appends-nil old) kept

pub nothing_written : (old new : Option (List ℕ)) (bytes : List ℕ) → Keeps old new → AppendsUpTo old new bytes bytes
nothing_written old new bytes kept = record { done = []; parts = refl; appended = nothing_appended old new kept }

pub some_written : (old new : Option (List ℕ)) (bytes : List ℕ) (n : ℕ) → Appends old new (take n bytes) →
    AppendsUpTo old new bytes (drop n bytes)
some_written old new bytes n more =
    record { done = take n bytes; parts = sym (take-append-drop n bytes); appended = more }

pub then_written : (old mid new : Option (List ℕ)) (bytes rest now : List ℕ) → AppendsUpTo old mid bytes rest →
    AppendsUpTo mid new rest now → AppendsUpTo old new bytes now
then_written old mid new bytes rest now so_far more = record {
  done = so_far.done ++ more.done;
  parts =
      so_far.parts ∙ ap (λ (l : List ℕ). so_far.done ++ l) more.parts ∙ sym (append_assoc so_far.done more.done now);
  appended = Appends-trans old mid new so_far.done more.done so_far.appended more.appended;
}

pub stopped_written : (old mid new : Option (List ℕ)) (bytes rest : List ℕ) → AppendsUpTo old mid bytes rest →
    Appends mid new [] → AppendsBeginning old new bytes
stopped_written old mid new bytes rest so_far none =
    (rest, then_written old mid new bytes rest rest so_far (record { done = []; parts = refl; appended = none }))

pub all_written : (old new : Option (List ℕ)) (bytes rest : List ℕ) → AppendsUpTo old new bytes rest →
    rest ≡ [] → Appends old new bytes
all_written old new bytes rest so_far none =
    subst (λ (l : List ℕ). Appends old new l)
    (sym (so_far.parts ∙ ap (λ (l : List ℕ). so_far.done ++ l) none ∙ append-nil so_far.done)) so_far.appended

-- all of a text is a beginning of it, and so is nothing
pub whole_beginning : (old new : Option (List ℕ)) (text : List ℕ) → Appends old new text → AppendsBeginning old new text
whole_beginning old new text all = ([], record { done = text; parts = sym (append-nil text); appended = all })

pub no_beginning : (old : Option (List ℕ)) (text : List ℕ) → AppendsBeginning old old text
no_beginning old text = (text, none_written old text)

pub empty_rest : (bytes : List ℕ) → true ≡ (length bytes == 0) → bytes ≡ []
empty_rest [] e = refl
empty_rest (byte ∷ bytes) e =
    let zero : length (byte ∷ bytes) ≡ 0 = grind (arith, nat_tests) in
    absurd (omega (arith, zero))

pub on_err : {A E : Type 0} (r : Result A E) (P : Type 0) → P → OnErr r P
on_err (Ok a) P p = tt
on_err (Err e) P p = p

-- a slice up to the end is all that is after its first byte
pub rest_is : (xs : List ℕ) (n : ℕ) → take (length xs - n) (drop n xs) ≡ drop n xs
rest_is xs n = take_all (length xs - n) (drop n xs) (omega (arith, length-drop n xs))

-- some bytes more of what is left were written
pub more_written : (old mid new : Option (List ℕ)) (bytes rest : List ℕ) (n : ℕ) →
    AppendsUpTo old mid bytes rest → Appends mid new (take n rest) →
    AppendsUpTo old new bytes (take (length rest - n) (drop n rest))
more_written old mid new bytes rest n so_far more =
    subst (λ (r : List ℕ). AppendsUpTo old new bytes r) (sym (rest_is rest n))
    (then_written old mid new bytes rest (drop n rest) so_far (some_written mid new rest n more))

-- some bytes more wait after the others
pub more_waits : (old new : Option (List ℕ)) (text rest more : List ℕ) →
    AppendsUpTo old new text rest → AppendsUpTo old new (text ++ more) (rest ++ more)
more_waits old new text rest more so_far = record {
  done = so_far.done;
  parts = ap (λ (l : List ℕ). l ++ more) so_far.parts ∙ append_assoc so_far.done rest more;
  appended = so_far.appended;
}

-- a beginning of what waits is one of all
pub then_stopped : (old mid new : Option (List ℕ)) (text rest : List ℕ) →
    AppendsUpTo old mid text rest → AppendsBeginning mid new rest → AppendsBeginning old new text
then_stopped old mid new text rest so_far more =
    (more.0, then_written old mid new text rest more.0 so_far more.1)

-- a beginning of a text is one of a longer text
pub beginning_more : (old new : Option (List ℕ)) (text later : List ℕ) →
    AppendsBeginning old new text → AppendsBeginning old new (text ++ later)
beginning_more old new text later begun =
    (begun.0 ++ later, more_waits old new text begun.0 later begun.1)

-- all of what waits was written
pub then_all : (old mid new : Option (List ℕ)) (text rest : List ℕ) → AppendsUpTo old mid text rest →
    Appends mid new rest → Appends old new text
then_all old mid new text rest so_far more =
    subst (λ (l : List ℕ). Appends old new l) (sym so_far.parts)
    (Appends-trans old mid new so_far.done rest so_far.appended more)

-- where a result is an error, what follows of what it says
pub err_so : {A E : Type 0} (r : Result A E) (P Q : Type 0) → (P → Q) → OnErr r P → OnErr r Q
err_so (Ok a) P Q so p = tt
err_so (Err e) P Q so p = so p

pub ok_so : {A E : Type 0} (r : Result A E) (P Q : Type 0) → (P → Q) → OnOk r P → OnOk r Q
ok_so (Ok a) P Q so p = so p
ok_so (Err e) P Q so p = tt
