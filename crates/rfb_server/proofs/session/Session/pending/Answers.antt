use Rattle.rfb_server.proofs.FeedingLemmas.{here}
use Rattle.rfb_server.proofs.SliceLemmas.{hello_pending, part_pending, number_pending}
use Rattle.std.proofs.Common.{◌∙◌, ◌≡◌, rules, length}
use Rattle.rfb_server.proofs.session.Session.pending.Goals as goal

pub returns-in-Handshake-clause-value : goal.returns-in-Handshake-clause-value
returns-in-Handshake-clause-value c = λ serving screen s prefix now.
    hello_pending serving c.args.self.now.hello s.point prefix c.pending.result
    (here serving screen c.args.self.now _ s prefix c.in-Handshake.is now)
    (λ p bytes stands. c.pending.ensures.value serving.hello p bytes stands)

pub returns-in-Head-clause-value : goal.returns-in-Head-clause-value
returns-in-Head-clause-value c = λ serving screen s prefix now.
    let len : c.len.result ≡ length c.in-Head.part.items = search rules in
    len ∙ part_pending serving c.args.self.now.hello c.in-Head.part s.point prefix
    (here serving screen c.args.self.now _ s prefix c.in-Head.is now)

pub returns-in-Encodings-clause-value : goal.returns-in-Encodings-clause-value
returns-in-Encodings-clause-value c = λ serving screen s prefix now.
    let e = c.in-Encodings in
    let len : c.len-in-Encodings.result ≡ length e.number.items = search rules in
    len ∙ number_pending serving c.args.self.now.hello _ e.number _ s.point prefix
    (here serving screen c.args.self.now _ s prefix e.is now)
