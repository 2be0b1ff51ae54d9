use Rattle.std.proofs.Common.{◌≡◌, ◌∙◌, ◌++◌, List, ℕ, ap, sym}
use Rattle.std.proofs.lemmas.Iterator.{YieldsList-from_chars}
use Rattle.std.proofs.lemmas.Iterator.Consumers.{YieldsList-end, YieldsList-so_far}
use Rattle.std.specs.Str.{chars}
use Rattle.rfb_session.specs.drive.Keyboard.{typed}
use Rattle.rfb_session.proofs.TypingLemmas.{begun, read_as_is, typed_more}
use Rattle.rfb_session.proofs.drive.typing.type_text.Goals as goal

pub loop-character-preserved : goal.loop-character-preserved
loop-character-preserved c =
    typed_more c.args.events.now.items c.loop-character.events.items _ c.loop-character.yielded c.in-Some.character
    c.loop-character.invariant
    (cc (c.in_ok-extend_from_slice.ensures.items, c.as_slice.ensures.value, c.type_char.ensures))

pub returns-in_err-extend_from_slice-clause-beginning : goal.returns-in_err-extend_from_slice-clause-beginning
returns-in_err-extend_from_slice-clause-beginning c =
    let so_far = YieldsList-so_far (YieldsList-from_chars c.args.text.now c.utf8.text (cc)) c.loop-character.yielded _
    c.loop-character.yielded_by in
    begun c.from_residual.result c.args.events.now.items c.loop-character.events.items _ c.loop-character.yielded
    (chars c.args.text.now) so_far c.loop-character.invariant c.in_err-extend_from_slice.ensures.items

pub returns-clause-all : goal.returns-clause-all
returns-clause-all c =
    let end = YieldsList-end (YieldsList-from_chars c.args.text.now c.utf8.text (cc)) c.loop-character.yielded _
    c.loop-character.yielded_by _ _ c.in-None.is c.next.ensures.steps in
    let e : c.loop-character.yielded ≡ chars c.args.text.now = sym (read_as_is c.loop-character.yielded) ∙ end.0 in
    c.loop-character.invariant ∙ ap (λ (l : List ℕ). c.args.events.now.items ++ typed l) e
