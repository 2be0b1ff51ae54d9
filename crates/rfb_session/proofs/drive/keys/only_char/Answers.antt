use Rattle.std.proofs.Common.{◌∙◌, ap, sym, List, ℕ}
use Rattle.std.proofs.lemmas.Iterator.{YieldsList-from_chars}
use Rattle.std.proofs.lemmas.Iterator.Consumers.{YieldsList-end, YieldsList-turn}
use Rattle.rfb_session.specs.drive.Characters.{only_char}
use Rattle.rfb_session.proofs.CharacterLemmas.{all_came, no_text_of, no_utf8, one_more_came, text_of, utf8_too}
use Rattle.rfb_session.proofs.TypingLemmas.{read_as_is}
use Rattle.rfb_session.proofs.drive.keys.only_char.Goals as goal

pub returns-in_err-text : goal.returns-in_err-text
returns-in_err-text c =
    c.from_residual.ensures ∙ no_utf8 c.args.word.now
    (no_text_of c.from_utf8.result c.args.word.now _ _ c.from_utf8.ensures.cases c.in_err-text.ensures.variant)

pub returns-then-is_some : goal.returns-then-is_some
returns-then-is_some c =
    let text = c.in_ok-text.text.now in
    let read = text_of c.from_utf8.result c.in_ok-text.text c.args.word.now _ c.from_utf8.ensures.cases
    c.in_ok-text.ensures.value in
    let good = utf8_too text c.args.word.now read.0 read.1 in
    let turn = YieldsList-turn (YieldsList-from_chars text good (cc)) c.loop-character.yielded _
    c.loop-character.yielded_by _ _ c.in-Some.character c.in-Some.is c.next.ensures.steps in
    one_more_came text c.loop-character.yielded c.loop-character.only good c.loop-character.invariant
    (sym c.if-is_some.ensures)
    turn.0
    ∙ ap (λ (l : List ℕ). only_char l) read.0

pub returns : goal.returns
returns c =
    let text = c.in_ok-text.text.now in
    let read = text_of c.from_utf8.result c.in_ok-text.text c.args.word.now _ c.from_utf8.ensures.cases
    c.in_ok-text.ensures.value in
    let good = utf8_too text c.args.word.now read.0 read.1 in
    let end = YieldsList-end (YieldsList-from_chars text good (cc)) c.loop-character.yielded _
    c.loop-character.yielded_by _ _ c.in-None.is c.next.ensures.steps in
    all_came text c.loop-character.yielded c.loop-character.only good c.loop-character.invariant
    (sym (read_as_is c.loop-character.yielded) ∙ end.0) ∙ ap (λ (l : List ℕ). only_char l) read.0
