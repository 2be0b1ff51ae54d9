use Rattle.std.proofs.lemmas.Bool.{OnTrue_at, OnTrue_from}
use Rattle.rfb_server.proofs.RecordLemmas.{width-record_of, height-record_of}
use Rattle.rfb_server.proofs.AlikeLemmas.{known_alike}
use Rattle.rfb_server.proofs.record.Record.has_same.Goals as goal

pub are_same-requires-clause-bound : goal.are_same-requires-clause-bound
are_same-requires-clause-bound c = rw (← c.self.view_is, height-record_of) at c.requires.bound

pub are_same-requires-clause-held : goal.are_same-requires-clause-held
are_same-requires-clause-held c = rw (← c.self.view_is, width-record_of, height-record_of) at c.requires.held

pub are_same-requires-clause-held_too : goal.are_same-requires-clause-held_too
are_same-requires-clause-held_too c = rw (← c.other.view_is, width-record_of, height-record_of) at c.requires.held_too

pub returns : goal.returns
returns c =
    let held = rw (← c.self.view_is, width-record_of, height-record_of) at c.requires.held in
    let held_too = rw (← c.other.view_is, width-record_of, height-record_of) at c.requires.held_too in
    let known = rw (← c.self.view_is) at c.if-not-knows.ensures.known in
    let known_too = rw (← c.other.view_is) at c.if-not-knows-2.ensures.known in
    OnTrue_from c.are_same.result _ (λ e. rw (← c.self.view_is, ← c.other.view_is)
    (known_alike c.self.inside.pixels c.other.inside.pixels c.self.inside.known.asked c.other.inside.known.asked
    c.args.rect held held_too known known_too (OnTrue_at e c.are_same.ensures)))
