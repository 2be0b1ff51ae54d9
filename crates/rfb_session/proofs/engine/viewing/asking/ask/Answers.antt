use Rattle.std.proofs.Common.{[]}
use Rattle.std.proofs.lemmas.Result.{on_err_weaker, on_ok_weaker}
use Rattle.rfb_session.specs.EngineRead.{AsksForScreen}
use Rattle.rfb_session.specs.Wire.{Nothing}
use Rattle.rfb_session.proofs.ViewLemmas.{asks_screen, passes_over}
use Rattle.rfb_session.proofs.engine.viewing.asking.ask.Given.{Over}
use Rattle.rfb_session.proofs.engine.viewing.asking.ask.Goals.{In-Ok}
use Rattle.rfb_session.proofs.engine.viewing.asking.ask.Goals as goal

-- the request is one for the whole screen
asked : (g : Over) (c : In-Ok g) →
    AsksForScreen c.args.incremental c.args.viewer.now c.in-Ok.request c.request.new.self
asked g c =
    asks_screen c.args.incremental c.screen-area.result c.args.viewer.now c.request.new.self c.in-Ok.request
    c.in-Ok.ensures.sent c.screen-area.ensures c.in-Ok.ensures.refusal c.in-Ok.ensures.stands

pub returns-in-Ok-clause-asked : goal.returns-in-Ok-clause-asked
returns-in-Ok-clause-asked g c =
    let asks = asked g (goal.at.returns-in-Ok-clause-asked g c).In-Ok in
    on_ok_weaker c.send_over.result (λ wrote. record { sent = c.in-Ok.request; asks = asks; wrote = wrote })
    c.send_over.ensures.done

pub returns-in-Ok-clause-stopped : goal.returns-in-Ok-clause-stopped
returns-in-Ok-clause-stopped g c =
    let asks = asked g (goal.at.returns-in-Ok-clause-stopped g c).In-Ok in
    on_err_weaker c.send_over.result (λ wrote. record { sent = c.in-Ok.request; asks = asks; wrote = wrote })
    c.send_over.ensures.stopped

pub returns-in-Err-clause-asked : goal.returns-in-Err-clause-asked
returns-in-Err-clause-asked g c = record {
  sent = [];
  asks = passes_over c.args.incremental c.screen-area.result c.args.viewer.now
      c.request.new.self c.in-Err.field-0 c.screen-area.ensures c.in-Err.ensures.refusal
      c.in-Err.ensures.refused;
  wrote = Nothing;
}
