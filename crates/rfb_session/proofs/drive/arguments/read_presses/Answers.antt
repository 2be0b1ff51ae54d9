use Rattle.std.proofs.Common.{arith}
use Rattle.rfb_session.proofs.DriveArgumentLemmas.{all_presses, fit, keys_length, many_words, no_such_presses}
use Rattle.rfb_session.proofs.DriveArgumentLemmas.{extended, few_more, no_words, presses_more, took}
use Rattle.rfb_session.proofs.WordLaws.{empty_of, some_of}
use Rattle.rfb_session.proofs.drive.arguments.read_presses.Goals as goal

pub returns-then-is_empty : goal.returns-then-is_empty
returns-then-is_empty c = no_words c.args.words.now (empty_of _ _ c.is_empty.ensures c.if-is_empty.true)

pub returns-then-words-gt-PIECES_MAX : goal.returns-then-words-gt-PIECES_MAX
returns-then-words-gt-PIECES_MAX c = many_words c.args.words.now (omega arith)

pub returns-in_err-keys : goal.returns-in_err-keys
returns-in_err-keys c =
    rw c.from_residual.ensures
    (no_such_presses c.args.words.now c.loop-word.word-index _ (omega arith) c.in_err-keys.ensures)

pub returns-in_err-ok : goal.returns-in_err-ok
returns-in_err-ok c =
    let sent = keys_length c.in_ok-keys.keys.items c.as_slice.result.now c.pressing.result.items
    c.as_slice-in-loop-word.result.now c.in_ok-keys.ensures.1 c.as_slice.ensures.value c.pressing.ensures
    c.as_slice-in-loop-word.ensures.value in
    absurd (fit _ _ c.try_extend_from_slice.ensures.variant c.in_err-ok.ensures.variant
    (omega (arith, sent, c.loop-word.invariant.few)))

pub loop-word-preserved : goal.loop-word-preserved
loop-word-preserved c =
    let l = c.loop-word in
    let sent = keys_length c.in_ok-keys.keys.items c.as_slice.result.now c.pressing.result.items
    c.as_slice-in-loop-word.result.now c.in_ok-keys.ensures.1 c.as_slice.ensures.value c.pressing.ensures
    c.as_slice-in-loop-word.ensures.value in
    let new = took c.try_extend_from_slice.result _ _ c.try_extend_from_slice.ensures.ok c.in_ok-ok.ensures.value in
    record {
      turn = presses_more c.args.words.now l.word-index _ l.events.items _ c.in_ok-keys.keys.items (omega arith)
          l.invariant.turn c.in_ok-keys.ensures
          (extended l.events.items _ c.in_ok-keys.keys.items c.as_slice.result.now c.pressing.result.items
          c.as_slice-in-loop-word.result.now c.as_slice.ensures.value c.pressing.ensures
          c.as_slice-in-loop-word.ensures.value new);
      few = few_more l.events.items _ c.as_slice-in-loop-word.result.now l.word-index l.invariant.few sent new;
    }

pub returns : goal.returns
returns c =
    let some = some_of _ _ c.is_empty.ensures c.if-is_empty.false in
    all_presses c.args.words.now c.loop-word.word-index _ (omega arith) (omega (arith, some)) (omega arith)
    c.loop-word.invariant.turn
