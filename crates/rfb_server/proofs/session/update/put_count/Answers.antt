use Rattle.std.proofs.Common.{◌≡◌, refl, get_or}
use Rattle.rfb_server.proofs.UpdateLemmas.{counted}
use Rattle.rfb_server.proofs.session.update.put_count.Goals as goal

pub returns-clause-counted : goal.returns-clause-counted
returns-clause-counted c = λ before bytes long e.
    let head = c.spell-head.result.items in
    let spells = c.spell-head.ensures.spells in
    let padding : get_or c.spell-head.result.items 1 0 ≡ 0 = rw (c.spell-head.ensures.value) refl in (
      head,
      spells,
      rw (c.as_slice-bytes.ensures.value, e)
          (counted before bytes head c.args.at long spells.size spells.message_type padding),
    )
