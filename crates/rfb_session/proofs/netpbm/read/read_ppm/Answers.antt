use Rattle.rfb_session.proofs.NetpbmFileLemmas.{none_refused, one_read}
use Rattle.rfb_session.proofs.netpbm.read.read_ppm.Goals as goal

pub returns-clause-one : goal.returns-clause-one
returns-clause-one g c bytes picture known spells =
    one_read c.read_parts.result (g.R.Read.remaining c.args.input.now) bytes picture
    c.read_parts.ensures.read known spells

pub returns-clause-no_other : goal.returns-clause-no_other
returns-clause-no_other g c bytes picture flaw known spells =
    none_refused c.read_parts.result (g.R.Read.remaining c.args.input.now) bytes picture flaw
    c.read_parts.ensures.refused known spells
