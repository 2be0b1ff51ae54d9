use Rattle.std.proofs.Common.{rules, ◌≡◌, refl}
use Rattle.rfb_server.proofs.MessageLemmas.{text_none, text_begins, text_asks}
use Rattle.rfb_server.proofs.session.Session.begin_text.Goals as goal

pub returns-then-length-eq0-clause-steps : goal.returns-then-length-eq0-clause-steps
returns-then-length-eq0-clause-steps c = λ part unit was spelled _ serving screen.
    let none : c.args.length ≡ 0 = search rules in
    rw none (text_none serving screen c.args.self.now c.begin_message.new.self part unit c.new.result.items was
    (rw none at spelled) c.begin_message.ensures (search rules))

pub returns-in_default-clause-memory : goal.returns-in_default-clause-memory
returns-in_default-clause-memory c = λ part unit was spelled _ serving screen.
    text_asks serving screen c.args.self.now part unit c.args.length was spelled (search rules)

pub returns-clause-steps : goal.returns-clause-steps
returns-clause-steps c = λ part unit was spelled _ serving screen.
    text_begins serving screen c.args.self.now _ part unit c.args.length c.in-Ok.kept was spelled
    (search rules) refl c.in-Ok.ensures
    (record { setup = refl; text_limit = refl; format = refl; encodings = refl; known = refl; area = refl })
