use Rattle.std.proofs.Common.{◌≡◌, ◌∙◌, sym, refl, subst, List, Option, Some, None, IfOk}
use Rattle.clap.specs.Walk.{Row, Text, rows_of}
use Rattle.clap.specs.Matches.{found_of}
use Rattle.clap.specs.Simple.{subcommand_rows_of}
use Rattle.rfb.specs.declared.options.paths.Input.TheVariants.{Standard}
use Rattle.rfb.specs.declared.options.paths.Paths.{Paths}
use Rattle.rfb.specs.command.Values.{GivesFiles}
use Rattle.rfb.proofs.OptionLemmas.{both_there, map_map, not_there}
use Rattle.rfb.proofs.options.paths_of.Goals as goal

pub returns-in-Some : goal.returns-in-Some
returns-in-Some c =
    let there : subcommand_rows_of c.args.matches.now
    ≡ Some (c.in-Some._name.now, rows_of (found_of c.in-Some.given.now)) =
    both_there (subcommand_rows_of c.args.matches.now) c.in-Some._name.now (rows_of (found_of c.in-Some.given.now))
    (c.in-Some.ensures.name ∙ sym (map_map (λ (p : Text × List Row). p.0) _ _)) c.in-Some.ensures.rows in
    subst (λ (o : Option (Text × List Row)). IfOk c.paths_in.result (GivesFiles o)) (sym there) c.paths_in.ensures

abbrev standard : Paths
standard = record { input = Standard; output = None }

pub returns-in-None : goal.returns-in-None
returns-in-None c =
    subst (λ (o : Option (Text × List Row)). GivesFiles o standard)
    (sym (not_there (subcommand_rows_of c.args.matches.now) c.in-None.ensures.rows)) (refl, refl)
