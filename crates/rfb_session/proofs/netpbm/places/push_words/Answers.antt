use Rattle.std.proofs.Common.{arith, length-drop}
use Rattle.rfb_session.proofs.NetpbmPlacesLemmas.{words_pushed}
use Rattle.rfb_session.proofs.netpbm.places.push_words.Goals as goal

pub loop-rest-preserved : goal.loop-rest-preserved
loop-rest-preserved c =
    let xs = c.loop-rest.rest.now in
    words_pushed _ _ _ xs _ _ c.in-len6-up.len_at_least (omega (arith, length-drop 6 xs))
    c.word_of.ensures c.word_of-in-len6-up.ensures c.word_of-in-len6-up-2.ensures
    c.in_ok-push.ensures.items c.loop-rest.invariant
