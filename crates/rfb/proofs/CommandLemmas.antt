-- What a command has done, from its parts.
use Rattle.std.proofs.Common.{◌≡◌, ◌∙◌, sym, subst, inl, inr, ℕ, Bool, true, false, [], List, Option, OnOk, OnErr}
use Rattle.std.proofs.Common.{Result, Ok, Err}
use Rattle.clap.specs.Values.{kind_of}
use Rattle.clap.specs.Words.{HasKind, IsAmong, Kinds, Text}
use Rattle.clap.specs.declared.error.Error.{Error}
use Rattle.clap.specs.declared.error.kind.ErrorKind.TheVariants.{OutOfMemory}
use Rattle.rfb.specs.declared.fault.Failure.{Failure}
use Rattle.rfb.specs.declared.options.Order.{Order}
use Rattle.rfb.specs.CommandLine.{DoesAsked, Through}
use Rattle.rfb.specs.Options.{AreOrdered}
use Rattle.rfb.specs.command.Program.{Does}

pub zero_not_one : (n : ℕ) → n ≡ 0 → n ≡ 1 → ⊥
zero_not_one n is not = let both : 0 ≡ 1 = sym is ∙ not in cc

pub does_asked : {P : Type 0} (words : List Text) (order : Order) (read before after : Option (List ℕ)) (status : ℕ)
    (r : Result (Unit {0}) Failure) → AreOrdered words order →
    OnOk r (Through order.paths (Does P order.task) read before after) → OnErr r (status ≡ 1) → status ≡ 0 →
    DoesAsked P words read before after
does_asked words order read before after status (Ok u) asked does failed zero = (order, asked, does)
does_asked words order read before after status (Err failure) asked does failed zero =
    absurd (zero_not_one status zero failed)

-- of a list without kinds the one kind is want of memory
pub only_memory : (kinds : Kinds) (e : Error) → kinds ≡ [] → HasKind kinds e → kind_of e ≡ OutOfMemory
only_memory kinds e none (inl is) = is
only_memory kinds e none (inr among) = absurd (subst (λ (ks : Kinds). IsAmong (kind_of e) ks) none among)

pub not_both : (b : Bool) → b ≡ true → b ≡ false → ⊥
not_both b is not = let both : true ≡ false = sym is ∙ not in cc
