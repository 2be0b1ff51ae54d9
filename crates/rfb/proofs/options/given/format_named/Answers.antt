use Rattle.rfb.proofs.options.given.format_named.Goals as goal

pub returns-in-None : goal.returns-in-None
returns-in-None c = λ format is. c.in-None.ensures format (rw c.as_bytes.ensures.value is)
