use Rattle.std.proofs.lemmas.Result.{err_from_is_err_and}
use Rattle.rfb_hello.proofs.ServerHelloLemmas.{one_fed, one_refused}
use Rattle.rfb_hello.proofs.server_hello.ServerHello.take.Goals as goal

pub returns-in_err-event-in-Choice-clause-fault : goal.returns-in_err-event-in-Choice-clause-fault
returns-in_err-event-in-Choice-clause-fault c =
    let p = err_from_is_err_and c.from_residual.result c.from_residual.ensures.1 in
    rw (p.1, p.2) (λ setup.
    let steps = rw c.in_err-event-in-Choice.was at (c.take_choice.ensures.steps setup) in
    one_refused setup c.args.self.now c.take_choice.new.self c.args.bytes.now
    c.in_err-event-in-Choice.field-0.0 c.requires.some steps)

pub returns-in_ok-event-in-Choice-clause-fed : goal.returns-in_ok-event-in-Choice-clause-fed
returns-in_ok-event-in-Choice-clause-fed c = λ setup.
    let steps = rw c.in_ok-event-in-Choice.was at (c.take_choice.ensures.steps setup) in
    one_fed setup c.args.self.now c.take_choice.new.self c.args.bytes.now
    c.in_ok-event-in-Choice.event c.requires.some steps

pub returns-in-Init-clause-fed : goal.returns-in-Init-clause-fed
returns-in-Init-clause-fed c = λ setup. one_fed setup c.args.self.now c.take_init.new.self c.args.bytes.now _
    c.requires.some (c.take_init.ensures.steps setup)
