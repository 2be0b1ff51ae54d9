use Rattle.std.proofs.Common.{◌≡◌, ◌&&◌, refl, subst, true, false, Bool, List, ℕ, Result}
use Rattle.std.proofs.lemmas.Result.{IfOk-weaker}
use Rattle.clap.specs.Simple.{App, HasMatchesOf, built, is_simple, subcommand_rows_of}
use Rattle.clap.specs.Faults.{fault_of, is_free_app, is_simple_and_free}
use Rattle.clap.specs.Kinds.{FailsBy}
use Rattle.clap.specs.declared.error.Error.{Error}
use Rattle.clap.specs.declared.parser.matches.ArgMatches.{ArgMatches}
use Rattle.rfb.specs.command.Program.{asked, program}
use Rattle.rfb.proofs.options.parse.Goals as goal

program_is_simple : is_simple_and_free program ≡ true
program_is_simple = refl

left_true : (a b : Bool) → (a && b) ≡ true → a ≡ true
left_true true b e = refl
left_true false b e = let f : false ≡ true = e in absurd (cc)

simple_of : (a : App) → is_simple_and_free a ≡ true → is_simple a ≡ true
simple_of a e = left_true (is_simple a) (is_free_app (built a)) e

program_is_plain : is_simple program ≡ true
program_is_plain = simple_of program program_is_simple

of_program : {T : Type 0} (a : App) (words : List (List ℕ)) (r : Result T Error) → a ≡ program
    → (is_simple_and_free a ≡ true → FailsBy (fault_of a words) r) → FailsBy (fault_of program words) r
of_program a words r made kinds =
    subst (λ (b : App). is_simple_and_free b ≡ true → FailsBy (fault_of b words) r) made kinds program_is_simple

asked_of : (a : App) (words : List (List ℕ)) (m : ArgMatches) → a ≡ program →
    HasMatchesOf a words m → subcommand_rows_of m ≡ asked words
asked_of a words m made has =
    (subst (λ (b : App). HasMatchesOf b words m) made has program_is_plain).1

pub returns-clause-fails : goal.returns-clause-fails
returns-clause-fails g c =
    of_program _ _ c.try_get_matches_from.result c.in_ok-commands.ensures c.try_get_matches_from.ensures.kinds

pub returns-clause-asked : goal.returns-clause-asked
returns-clause-asked g c =
    IfOk-weaker c.try_get_matches_from.result _ _ (λ m has. asked_of _ _ m c.in_ok-commands.ensures has)
    c.try_get_matches_from.ensures.matches
