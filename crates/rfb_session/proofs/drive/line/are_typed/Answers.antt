use Rattle.std.proofs.Common.{◌∙◌, ℕ, Option, ap, arith, length, sym}
use Rattle.std.specs.Option.{is_some}
use Rattle.std.proofs.lemmas.Iterator.{YieldsList-from_chars}
use Rattle.std.proofs.lemmas.Iterator.Consumers.{YieldsList-end, YieldsList-turn}
use Rattle.std.proofs.lemmas.List.{length_push}
use Rattle.std.specs.Str.{chars}
use Rattle.rfb_session.proofs.CutLemmas.{all_typed, not_typed, typed_next}
use Rattle.rfb_session.proofs.drive.line.are_typed.Goals as goal

pub returns-then-is_none : goal.returns-then-is_none
returns-then-is_none c =
    let t = YieldsList-turn (YieldsList-from_chars c.args.text.now c.utf8.text (cc)) c.loop-character.yielded _
    c.loop-character.yielded_by _ _ c.in-Some.character c.in-Some.is c.next.ensures.steps in
    let none = ap (λ (o : Option ℕ). is_some o) (sym c.key_of_char.ensures) ∙ c.if-is_none.ensures in
    not_typed _ _ _ t none c.loop-character.invariant

pub loop-character-preserved : goal.loop-character-preserved
loop-character-preserved c =
    let t = YieldsList-turn (YieldsList-from_chars c.args.text.now c.utf8.text (cc)) c.loop-character.yielded _
    c.loop-character.yielded_by _ _ c.in-Some.character c.in-Some.is c.next.ensures.steps in
    let some = ap (λ (o : Option ℕ). is_some o) (sym c.key_of_char.ensures) ∙ c.if-is_none.ensures in
    typed_next _ _ _ _ t some c.loop-character.invariant (length_push c.loop-character.yielded c.in-Some.character)

pub returns : goal.returns
returns c =
    let t = YieldsList-end (YieldsList-from_chars c.args.text.now c.utf8.text (cc)) c.loop-character.yielded _
    c.loop-character.yielded_by _ _ c.in-None.is c.next.ensures.steps in
    all_typed (chars c.args.text.now) (length c.loop-character.yielded) (omega (arith, t.1)) c.loop-character.invariant
