use Rattle.rfb.proofs.options.given.encodings_named.Goals as goal

pub returns-in-Some : goal.returns-in-Some
returns-in-Some c = rw c.as_bytes.ensures.value at c.in-Some.ensures

pub returns-in-None : goal.returns-in-None
returns-in-None c = λ encodings is. c.in-None.ensures encodings (rw c.as_bytes.ensures.value is)
