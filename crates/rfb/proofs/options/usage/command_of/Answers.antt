use Rattle.std.proofs.Common.{◌≡◌, ◌∙◌, ap}
use Rattle.std.proofs.lemmas.Result.{IfOk-weaker}
use Rattle.clap.specs.Simple.{app_of, app_of_fields, new_app}
use Rattle.rfb.proofs.UsageLemmas.{with_table}
use Rattle.rfb.proofs.options.usage.command_of.Goals as goal

pub returns : goal.returns
returns c =
    let new : app_of c.after_help.result ≡ new_app c.args.usage.now.name.now =
    ap app_of_fields c.after_help.ensures ∙ ap app_of_fields c.about.ensures ∙ c.new.ensures.app in
    IfOk-weaker c.args-2.result _ _ (λ r adds. with_table c.args.usage.now.name.now _ r _ _ new adds
    c.in_ok-args.ensures.rules c.in_ok-args.ensures.local) c.args-2.ensures
