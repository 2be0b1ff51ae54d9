use Rattle.std.proofs.Common.{rules, refl, ◌∙◌}
use Rattle.rfb_server.proofs.GreetLemmas.{partial_after, goes_after, done_after, greets}
use Rattle.rfb_server.proofs.EndingLemmas.{greets_end}
use Rattle.rfb_server.proofs.session.Session.greet.Goals as goal

pub invariant_of-self-clause-partial : goal.invariant_of-self-clause-partial
invariant_of-self-clause-partial c =
    rw c.progress_after.ensures (partial_after c.feed.new.self c.is_open.result c.is_open.ensures)

pub returns-in-Ok-clause-fed : goal.returns-in-Ok-clause-fed
returns-in-Ok-clause-fed c = λ serving screen.
    let opens = c.is_open.ensures in
    rw (c.event_of.ensures)
    (greets serving screen c.args.self.now _ _ c.in-Ok.fed.event c.requires.handshake
    (record {
      setup = c.in-Ok.ensures.setup;
      goes = λ e. c.progress_after.ensures ∙ goes_after c.is_open.result (opens ∙ e);
      done = λ e. c.progress_after.ensures ∙ done_after c.is_open.result (opens ∙ e);
      encodings = refl;
      rest = search rules;
    })
    (c.in-Ok.ensures.fed serving.hello))

pub returns-in-Err-clause-ends : goal.returns-in-Err-clause-ends
returns-in-Err-clause-ends c =
    rw (c.of_hello-fault.ensures)
    (greets_end c.args.self.now c.args.bytes.now c.in-Err.fault c.requires.handshake
    (λ serving. c.in-Err.ensures.fault serving.hello))
