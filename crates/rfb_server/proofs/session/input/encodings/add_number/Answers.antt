use Rattle.rfb_wire.specs.Encoding.{IsNoEncoding}
use Rattle.std.proofs.Common.{refl, subst, rules}
use Rattle.std.specs.Int.{w32}
use Rattle.std.proofs.lemmas.Int.{to_z-of_z}
use Rattle.rfb_server.proofs.ListLemmas.{encoding_none}
use Rattle.rfb_server.proofs.session.input.encodings.add_number.Goals as goal

pub returns-in_default : goal.returns-in_default
returns-in_default c =
    let none : IsNoEncoding c.args.number =
    subst IsNoEncoding (to_z-of_z w32 c.args.number (search rules)) c.in_default.ensures.1.1 in
    rw (encoding_none c.args.number none) refl
