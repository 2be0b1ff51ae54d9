use Rattle.std.proofs.Common.{arith, IfOk, Result, Ok, Err}
use Rattle.rfb_viewer.proofs.SendingLaws.{text_spelled}
use Rattle.rfb_viewer.proofs.viewer.Viewer.cut_text.Goals as goal

any_ok : {A E : Type 0} (P : A → Type 0) (r : Result A E) → ((x : A) → P x) → IfOk r P
any_ok P (Ok x) all = all x
any_ok P (Err e) all = tt

pub returns-clause-spelled : goal.returns-clause-spelled
returns-clause-spelled c =
    any_ok _ c.map_err.result (λ _. text_spelled c.args.text.now (omega (arith, c.requires)))
