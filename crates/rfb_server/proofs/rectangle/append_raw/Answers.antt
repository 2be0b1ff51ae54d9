use Rattle.std.proofs.Common.{ℕ, List, ◌++◌, ap, ◌∙◌}
use Rattle.rfb_wire.specs.declared.encoding.Encoding.TheVariants.{Raw}
use Rattle.rfb_codec.specs.Raw.{StandsRaw}
use Rattle.rfb_server.proofs.SendingLemmas.{coded_in}
use Rattle.rfb_server.proofs.rectangle.append_raw.Goals as goal

pub returns-clause-sent : goal.returns-clause-sent
returns-clause-sent c =
    coded_in StandsRaw c.args.format.now c.args.rect Raw c.args.block.now c.args.out.now.items
    c.append_within.new.out.items c.encode.new.out.items c.spell.result.items
    (λ width height bytes stands. (c.requires.sized, stands)) (λ bytes stands. stands)
    (c.append_within.ensures.items ∙ ap (λ (xs : List ℕ). c.args.out.now.items ++ xs) c.as_slice.ensures.value)
    c.spell.ensures.spells c.if-not-encode.ensures.spelled
