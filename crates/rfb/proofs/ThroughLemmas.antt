-- What takes the place of standard input and output.
use Rattle.std.proofs.Common.{◌≡◌, ◌⊎◌, sym, subst, inl, inr, OnOk, OnErr, Result, Ok}
use Rattle.std.proofs.Common.{Err, Option, None, Some, List, ℕ}
use Rattle.std.proofs.Common.{Bor}
use Rattle.clap.specs.Words.{Text}
use Rattle.rfb.specs.declared.fault.Failure.{Failure}
use Rattle.rfb.specs.declared.options.paths.Input.{Input}
use Rattle.rfb.specs.CommandLine.{FromInput, IntoFile}

pub on_ok : (r : Result (Unit {0}) Failure) (P Q : Type 0) → (P → Q) → OnOk r P → OnOk r Q
on_ok (Ok done) P Q gives p = gives p
on_ok (Err failure) P Q gives p = tt

pub on_err : (r : Result (Unit {0}) Failure) (P Q : Type 0) → (P → Q) → OnErr r P → OnErr r Q
on_err (Ok done) P Q gives p = tt
on_err (Err failure) P Q gives p = gives p

-- what is written in place of the output is, where more is known of it
pub into_file : (output : Option (Bor Text)) (Acts Others : Option (List ℕ) → Option (List ℕ) → Type 0)
    (before after : Option (List ℕ)) → ((b a : Option (List ℕ)) → Acts b a → Others b a) →
    IntoFile output Acts before after → IntoFile output Others before after
into_file None Acts Others before after gives acts = gives before after acts
into_file (Some file) Acts Others before after gives (same, blank, full, acts) =
    (same, blank, full, gives blank full acts)

-- what is done with what takes the place of the input is done through it
pub through : (input i : Input) (output : Option (Bor Text))
    (Acts : Option (List ℕ) → Option (List ℕ) → Option (List ℕ) → Type 0)
    (read before after : Option (List ℕ)) →
    input ≡ i → IntoFile output (λ blank full. FromInput i (λ bytes. Acts bytes blank full) read) before after →
    IntoFile output (λ blank full. FromInput input (λ bytes. Acts bytes blank full) read) before after
through input i output Acts read before after is acts =
    subst
    (λ (k : Input). IntoFile output (λ blank full. FromInput k (λ bytes. Acts bytes blank full) read)
    before after)
    (sym is) acts

-- nothing was written, or what follows
pub or_other : (P Q R : Type 0) → (Q → R) → P ⊎ Q → P ⊎ R
or_other P Q R gives (inl p) = inl p
or_other P Q R gives (inr q) = inr (gives q)
