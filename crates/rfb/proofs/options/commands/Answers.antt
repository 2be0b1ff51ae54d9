use Rattle.std.proofs.Common.{◌≡◌, ◌∙◌, ap, refl, true}
use Rattle.std.proofs.lemmas.Result.{IfOk-weaker}
use Rattle.clap.specs.Simple.{Shape, app_of, app_of_fields, on_top}
use Rattle.rfb.specs.command.Program.{program, top}
use Rattle.rfb.proofs.UsageLemmas.{with_all, with_shapes}
use Rattle.rfb.proofs.options.commands.Goals as goal

abbrev versioned : Shape → Shape
versioned s = record s { has_version = true }

abbrev required : Shape → Shape
required s = record s { subcommand_required = true }

is_program : with_shapes top program.subs ≡ program
unfolding with_shapes
is_program = refl

pub returns : goal.returns
returns c =
    let first : app_of c.version.result ≡ on_top versioned (app_of c.new.result) = ap app_of_fields c.version.ensures in
    let second : app_of c.after_help.result ≡ app_of c.version.result =
    ap app_of_fields c.after_help.ensures ∙ ap app_of_fields c.about.ensures in
    let third : app_of c.subcommand_required.result ≡ on_top required (app_of c.after_help.result) =
    ap app_of_fields c.subcommand_required.ensures in
    let fresh : app_of c.subcommand_required.result ≡ top =
    third ∙ ap (on_top required) (second ∙ first ∙ ap (on_top versioned) c.new.ensures.app) in
    IfOk-weaker c.subcommands.result _ _ (λ r adds.
    with_all _ r top _ program.subs fresh adds c.in_ok-commands.ensures refl ∙ is_program) c.subcommands.ensures
