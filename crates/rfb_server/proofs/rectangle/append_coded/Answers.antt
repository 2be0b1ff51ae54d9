use Rattle.std.proofs.Common.{ℕ, List, ◌++◌, ap, subst, ◌∙◌, arith}
use Rattle.std.proofs.lemmas.Grind.{common_steps}
use Rattle.rfb_wire.specs.declared.encoding.Encoding.{Encoding}
use Rattle.rfb_codec.specs.RectData.{Pixels, SpellsData}
use Rattle.rfb_codec.specs.ByRule.{StandsIn}
use Rattle.rfb_server.proofs.SendingLemmas.{coded_in}
use Rattle.rfb_server.proofs.rectangle.append_coded.Goals as goal

pub returns-then-encode-clause-sent : goal.returns-then-encode-clause-sent
returns-then-encode-clause-sent g c =
    coded_in g.C.Codec.stands c.args.format.now c.args.rect c.args.encoding c.args.block.now c.args.out.now.items
    c.append_within.new.out.items c.encode.new.out.items c.spell.result.items
    (λ width height bytes stands.
    subst (λ (k : Encoding). SpellsData c.args.format.now width height c.args.rect k (Pixels c.args.block.now) bytes)
    c.requires.encoding
    (g.met.C.Codec.read_back c.args.format.now width height c.args.rect c.args.block.now bytes c.requires.sized stands))
    (λ bytes stands.
    subst (λ (k : Encoding). StandsIn k c.args.format.now c.args.block.now bytes) c.requires.encoding
    (g.met.C.Codec.by_rule c.args.format.now c.args.block.now bytes stands))
    (c.append_within.ensures.items ∙ ap (λ (xs : List ℕ). c.args.out.now.items ++ xs) c.as_slice.ensures.value)
    c.spell.ensures.spells c.if-encode.ensures.spelled

pub returns-clause-kept : goal.returns-clause-kept
returns-clause-kept g c = grind (arith, common_steps)
