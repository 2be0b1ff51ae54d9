use Rattle.std.proofs.Common.{List, ℕ, refl, subst, rules}
use Rattle.std.proofs.lemmas.Result.{err_from_is_err_and}
use Rattle.rfb_server.specs.UpdateCall.{Updates}
use Rattle.rfb_session.specs.Wire.{Nothing, Sends, SendsSome}
use Rattle.rfb_session.proofs.TurnLemmas.{unsent_of_none}
use Rattle.rfb_session.proofs.engine.serving.update.Goals as goal

pub returns-clause-updated : goal.returns-clause-updated
returns-clause-updated g c = record {
  bytes = c.compose.new.out.items;
  composed = c.compose.new.self;
  updates = subst (λ (l : List ℕ). Updates c.args.server.now c.compose.new.self l c.compose.new.out.items)
      c.clear.ensures.items (c.in_ok-composed.ensures.composed (search rules));
  wrote = subst (λ (l : List ℕ). Sends g.W.Wire.steps c.args.wire.now c.send_over.new.wire l)
      c.deref.ensures.value c.in_ok-send_over.ensures.done;
  draws = c.draw.ensures.drawn;
  shown = c.draw.ensures.shown;
}

pub returns-in_err-send_over-clause-stopped : goal.returns-in_err-send_over-clause-stopped
returns-in_err-send_over-clause-stopped g c =
    let p = err_from_is_err_and c.from_residual-in_err-send_over.result c.from_residual-in_err-send_over.ensures.1 in
    rw (p.1, p.2) ((
      c.in_err-send_over.ensures.one_failed,
      c.compose.new.out.items,
      subst (λ (l : List ℕ). Updates c.args.server.now c.compose.new.self l c.compose.new.out.items)
          c.clear.ensures.items (c.in_ok-composed.ensures.composed (search rules)),
      subst (λ (l : List ℕ). SendsSome g.W.Wire.steps c.args.wire.now c.send_over.new.wire l)
          c.deref.ensures.value c.in_err-send_over.ensures.stopped,
    ))

pub returns-then-not-composed-clause-updated : goal.returns-then-not-composed-clause-updated
returns-then-not-composed-clause-updated g c = record {
  unsent = unsent_of_none c.args.server.now c.compose.new.self c.clear.new.self.items
      c.compose.new.out.items (c.in_ok-composed.ensures.idle (search rules));
  wrote = Nothing;
  undrawn = refl;
}

pub returns-in_err-composed-clause-stopped : goal.returns-in_err-composed-clause-stopped
returns-in_err-composed-clause-stopped g c =
    let p = err_from_is_err_and c.from_residual.result c.from_residual.ensures.1 in
    rw (p.1, p.2) ((c.in_err-composed.ensures.due, c.in_err-composed.ensures.same, Nothing))
