use Rattle.rfb.proofs.ArgumentLemmas.{no_wants}
use Rattle.rfb.proofs.script.arguments.read_wants.Goals as goal

pub returns-in_err-read_format : goal.returns-in_err-read_format
returns-in_err-read_format c =
    rw c.from_residual-in_err-read_format.ensures (no_wants c.args.words.now c.in_ok-format.format.now
    c.in_ok-format.encodings.now c.in_ok-format.ensures.cases.0 c.in_err-read_format.ensures)
