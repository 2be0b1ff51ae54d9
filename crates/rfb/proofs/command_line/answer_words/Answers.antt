use Rattle.std.proofs.Common.{◌≡◌, ◌∙◌, true}
use Rattle.clap.specs.declared.error.kind.ErrorKind.TheVariants.{OutOfMemory}
use Rattle.rfb.proofs.CommandLemmas.{not_both, only_memory}
use Rattle.rfb.proofs.command_line.answer_words.Goals as goal

pub returns-then-ask_for_faults-clause-memory : goal.returns-then-ask_for_faults-clause-memory
returns-then-ask_for_faults-clause-memory g c = λ command.
    let is : c.kind.result ≡ OutOfMemory = c.kind.ensures ∙ only_memory _ c.args.answer.now command c.requires.kind in
    let same : c.eq.result ≡ true = rw is at c.eq.ensures in
    absurd (not_both c.eq.result same c.if-eq.false)

pub returns-then-use_stderr-clause-memory : goal.returns-then-use_stderr-clause-memory
returns-then-use_stderr-clause-memory g c = λ command.
    let is : c.kind.result ≡ OutOfMemory = c.kind.ensures ∙ only_memory _ c.args.answer.now command c.requires.kind in
    let same : c.eq.result ≡ true = rw is at c.eq.ensures in
    absurd (not_both c.eq.result same c.if-eq.false)

pub returns-clause-memory : goal.returns-clause-memory
returns-clause-memory g c = λ command.
    let is : c.kind.result ≡ OutOfMemory = c.kind.ensures ∙ only_memory _ c.args.answer.now command c.requires.kind in
    let same : c.eq.result ≡ true = rw is at c.eq.ensures in
    absurd (not_both c.eq.result same c.if-eq.false)
