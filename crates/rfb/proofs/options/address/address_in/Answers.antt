use Rattle.std.proofs.Common.{◌∙◌, codes}
use Rattle.clap.specs.Walk.{rows_of}
use Rattle.clap.specs.Matches.{found_of}
use Rattle.clap.proofs.WalkLemmas.{first_value-rows}
use Rattle.rfb.proofs.AddressLemmas.{address_given}
use Rattle.rfb.proofs.options.address.address_in.Goals as goal

pub returns : goal.returns
returns c =
    address_given (rows_of (found_of c.args.given.now)) _ _ c.port_given.result c.address_of.result
    (c.get_str.ensures ∙ first_value-rows (found_of c.args.given.now) (codes "server"))
    (c.get_str-2.ensures ∙ first_value-rows (found_of c.args.given.now) (codes "host")) c.port_given.ensures
    c.address_of.ensures
