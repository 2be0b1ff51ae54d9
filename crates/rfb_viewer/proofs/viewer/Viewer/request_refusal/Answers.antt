use Rattle.std.proofs.Common.{◌∙◌, sym, ap, not, Bool, None}
use Rattle.rfb_viewer.specs.declared.fault.CallFault.TheVariants.{AreaOutside}
use Rattle.rfb_viewer.specs.Calls.{refusal_if}
use Rattle.rfb_viewer.proofs.CallLemmas.{area_refused}
use Rattle.rfb_viewer.proofs.viewer.Viewer.request_refusal.Goals as goal

pub returns-then-not-shows-clause-refusal : goal.returns-then-not-shows-clause-refusal
returns-then-not-shows-clause-refusal c = λ viewing s prefix stands.
    let ready = sym c.is_ready.ensures ∙ c.if-not-is_ready.false in
    let none = sym c.is_outstanding.ensures ∙ c.if-is_outstanding.false in
    let shown = sym c.shows.ensures ∙ c.if-not-shows.true in
    sym (area_refused viewing c.args.self.now s prefix c.args.rect stands ready none
    ∙ ap (λ (b : Bool). refusal_if (not b) AreaOutside None) shown)

pub returns-clause-refusal : goal.returns-clause-refusal
returns-clause-refusal c = λ viewing s prefix stands.
    let ready = sym c.is_ready.ensures ∙ c.if-not-is_ready.false in
    let none = sym c.is_outstanding.ensures ∙ c.if-is_outstanding.false in
    let shown = sym c.shows.ensures ∙ c.if-not-shows.false in
    sym (area_refused viewing c.args.self.now s prefix c.args.rect stands ready none
    ∙ ap (λ (b : Bool). refusal_if (not b) AreaOutside None) shown)
