use Rattle.std.proofs.Common.{◌∙◌, ap, sym, length, List, arith}
use Rattle.rfb_wire.specs.declared.encoding.Encoding.{Encoding}
use Rattle.rfb_session.proofs.EncodingLemmas.{all_named, are_encodings, none_named, unknown_word}
use Rattle.rfb_session.proofs.WordLaws.{empty_of, some_of}
use Rattle.rfb_session.proofs.language.words.read_encodings.Goals as goal

pub returns-in_err-read_encoding : goal.returns-in_err-read_encoding
returns-in_err-read_encoding c =
    rw c.from_residual.ensures (unknown_word c.args.words.now c.loop-word.word-index _ (omega arith)
    c.in_err-read_encoding.ensures)

pub returns-then-is_empty : goal.returns-then-is_empty
returns-then-is_empty c =
    let size = ap (λ (l : List Encoding). length l) c.as_slice.ensures.value in
    none_named c.args.words.now c.loop-word.encodings.items
    (all_named c.args.words.now c.loop-word.word-index _ (omega arith) c.loop-word.invariant)
    (sym size ∙ empty_of _ _ c.is_empty.ensures c.if-is_empty.true)

pub returns : goal.returns
returns c =
    let size = ap (λ (l : List Encoding). length l) c.as_slice.ensures.value in
    are_encodings c.args.words.now c.loop-word.encodings.items
    (all_named c.args.words.now c.loop-word.word-index _ (omega arith) c.loop-word.invariant)
    (λ none. some_of _ _ c.is_empty.ensures c.if-is_empty.false (size ∙ none))
    (omega (arith, size, c.as_slice.ensures.fits))
