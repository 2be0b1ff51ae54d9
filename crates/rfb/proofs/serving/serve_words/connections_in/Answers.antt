use Rattle.clap.specs.Walk.{rows_of}
use Rattle.clap.specs.Words.{found_of}
use Rattle.rfb.proofs.OptionLemmas.{counted, counted_twice, uncounted}
use Rattle.rfb.proofs.serving.serve_words.connections_in.Goals as goal

pub returns-then-not-is_given : goal.returns-then-not-is_given
returns-then-not-is_given c =
    rw c.from.ensures (counted c.is_given.result _ _ c.is_given.ensures c.if-not-is_given.true
    c.number_or-number.ensures.number)

pub returns-then-is_there : goal.returns-then-is_there
returns-then-is_there c =
    counted_twice c.is_given.result (rows_of (found_of c.args.given.now)) c.is_given.ensures c.if-not-is_given.false
    (c.is_there.ensures.there c.if-is_there.true)

pub returns : goal.returns
returns c =
    uncounted c.is_given.result (rows_of (found_of c.args.given.now)) c.is_given.ensures c.if-not-is_given.false
    (c.is_there.ensures.absent c.if-is_there.false)
