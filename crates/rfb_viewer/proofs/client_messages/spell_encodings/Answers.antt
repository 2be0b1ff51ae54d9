use Rattle.std.proofs.Common.{◌≡◌, ◌∙◌, ◌++◌, sym, subst, ap, ℕ, List, length, map, take, arith}
use Rattle.std.proofs.lemmas.Grind.{common_steps}
use Rattle.std.proofs.lemmas.List.{take_all}
use Rattle.std.specs.List.{flat_map}
use Rattle.rfb_wire.specs.declared.encoding.Encoding.{Encoding}
use Rattle.rfb_wire.specs.declared.client_head.ClientHead.TheVariants.{SetEncodings}
use Rattle.rfb_wire.specs.ClientHead.{client_head_bytes}
use Rattle.rfb_wire.specs.Encoding.{number_of}
use Rattle.rfb_wire.specs.ClientMessage.{SpellsEncodingsMessage}
use Rattle.rfb_viewer.specs.Messages.{encoding_bytes, encodings_message}
use Rattle.rfb_viewer.proofs.SendingLaws.{encodings_spelled}
use Rattle.rfb_viewer.proofs.client_messages.spell_encodings.Goals as goal

pub returns-clause-spelled : goal.returns-clause-spelled
returns-clause-spelled c =
    let encodings = c.args.encodings.now in
    let all : take c.loop-encoding.encoding-index encodings ≡ encodings =
    take_all c.loop-encoding.encoding-index encodings c.loop-encoding-test.false in
    let message : c.loop-encoding.message.items ≡ encodings_message encodings = c.loop-encoding.invariant.items
    ∙ ap (λ (es : List Encoding). client_head_bytes (SetEncodings (length encodings))
    ++ flat_map encoding_bytes es) all in
    subst (λ (bytes : List ℕ). SpellsEncodingsMessage (map (λ e. number_of e) encodings) bytes) (sym message)
    (encodings_spelled encodings (omega (arith, c.requires)))

pub loop-encoding-preserved : goal.loop-encoding-preserved
loop-encoding-preserved c = grind (arith, common_steps)

pub returns-clause-value : goal.returns-clause-value
returns-clause-value c = grind (arith, common_steps)
