use Rattle.std.proofs.Common.{◌≡◌, refl}
use Rattle.rfb_server.proofs.WantedLemmas.{named_wanted}
use Rattle.rfb_server.proofs.session.Session.wanted_row.Goals as goal

pub returns-clause-value : goal.returns-clause-value
returns-clause-value c = λ wanted some.
    let row = c.args.row in
    let claim = c.in_ok-claim.field-0 in
    let from = c.in_ok-sx in
    let this : c.row.result ≡ wanted = cc in
    rw (← this)
    (named_wanted c.args.screen.now c.args.self.now claim row from.sx from.sy
    (c.requires.claimed claim c.in_ok-claim.was) (from.ensures (from.sx, from.sy) refl)
    c.requires.about c.requires.held c.requires.single c.pixels.result.now c.row.result.now
    c.pixels.ensures.value c.row.ensures.value c.row.ensures.len)
