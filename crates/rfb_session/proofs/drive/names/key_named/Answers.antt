use Rattle.rfb_session.specs.drive.KeyNames.{editing_keys, moving_keys, function_keys, holding_keys}
use Rattle.rfb_session.specs.drive.KeyNames.{keypad_keys, marks_keys}
use Rattle.rfb_session.proofs.KeyNameLemmas.{named}
use Rattle.rfb_session.proofs.drive.names.key_named.Goals as goal

pub returns : goal.returns
unfolding editing_keys moving_keys function_keys holding_keys keypad_keys marks_keys
returns c =
    let e = named c.args.name.now c.key_in.result c.key_in-2.result c.key_in-3.result c.key_in-4.result
    c.key_in-5.result c.key_in-6.result c.key_in.ensures c.key_in-2.ensures c.key_in-3.ensures c.key_in-4.ensures
    c.key_in-5.ensures c.key_in-6.ensures in
    cc (c.or.ensures, c.or-2.ensures, c.or-3.ensures, c.or-4.ensures, c.or-5.ensures)
