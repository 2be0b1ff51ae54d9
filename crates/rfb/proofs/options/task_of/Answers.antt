use Rattle.std.proofs.Common.{◌≡◌, ◌∙◌, sym, subst, List, Option, Some, MatchResult}
use Rattle.clap.specs.Walk.{Row, Text, rows_of}
use Rattle.clap.specs.Matches.{found_of}
use Rattle.clap.specs.Simple.{subcommand_rows_of}
use Rattle.rfb.specs.command.Program.{IsTask, HasBadValue}
use Rattle.rfb.proofs.OptionLemmas.{both_there, map_map}
use Rattle.rfb.proofs.options.task_of.Goals as goal

pub returns-in-Some-verb_named : goal.returns-in-Some-verb_named
returns-in-Some-verb_named c =
    let rows = rows_of (found_of c.in-Some.given.now) in
    let there : subcommand_rows_of c.args.matches.now ≡ Some (c.in-Some.name.now, rows) =
    both_there (subcommand_rows_of c.args.matches.now) c.in-Some.name.now rows
    (c.in-Some.ensures.name ∙ sym (map_map (λ (p : Text × List Row). p.0) _ _)) c.in-Some.ensures.rows in
    subst (λ (o : Option (Text × List Row)). MatchResult c.task_in.result (IsTask o) (λ _. HasBadValue o)) (sym there)
    (subst (λ (n : Text). MatchResult c.task_in.result (IsTask (Some (n, rows))) (λ _. HasBadValue (Some (n, rows))))
    (sym c.in-Some-verb_named.ensures.named) c.task_in.ensures)
