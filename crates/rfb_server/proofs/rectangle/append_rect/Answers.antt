use Rattle.std.proofs.Common.{◌≡◌, ◌∙◌, sym, true, false, arith}
use Rattle.rfb_wire.specs.declared.encoding.Encoding.TheVariants.{Rre, Hextile}
use Rattle.rfb_codec.specs.Pixels.{IsSized}
use Rattle.rfb_server.proofs.SingleLemmas.{single_sent}
use Rattle.rfb_server.proofs.SendingLemmas.{sent_coded}
use Rattle.rfb_server.proofs.rectangle.append_rect.Goals.{in-Rre, in-Hextile, in-Raw}
use Rattle.rfb_server.proofs.rectangle.append_rect.Goals as goal

pub returns-then-not-sent-clause-sent : goal.returns-then-not-sent-clause-sent
returns-then-not-sent-clause-sent c = grind arith

pub returns-else-not-sent-clause-sent : goal.returns-else-not-sent-clause-sent
returns-else-not-sent-clause-sent c = elim c.match-encoding.branch [
  | in-Rre w ↦ rw w.out-is (sent_coded w.append_coded-sent.result c.args.format.now c.args.rect c.args.encoding Rre
      c.args.block.now c.args.out.now.items w.append_coded-sent.new.out.items
      (sym w.sent-is ∙ c.if-not-sent.false) w.in-Rre.is w.append_coded-sent.ensures.sent
      w.append_coded-sent.ensures.taken)
  | in-Hextile w ↦ rw w.out-is (sent_coded w.append_coded-sent-in-Hextile.result c.args.format.now c.args.rect
      c.args.encoding Hextile c.args.block.now c.args.out.now.items w.append_coded-sent-in-Hextile.new.out.items
      (sym w.sent-is ∙ c.if-not-sent.false) w.in-Hextile.is w.append_coded-sent-in-Hextile.ensures.sent
      w.append_coded-sent-in-Hextile.ensures.taken)
  | in-Raw w ↦ absurd (let no : false ≡ true = sym w.sent-is ∙ c.if-not-sent.false in cc)
]

pub returns-then-rect-eq1-2-clause-sent : goal.returns-then-rect-eq1-2-clause-sent
returns-then-rect-eq1-2-clause-sent c =
    let sized : IsSized 1 1 c.args.block.now = rw (c.if-rect-eq1.true, c.if-rect-eq1-2.true) at c.requires.sized in
    single_sent c.args.format.now c.args.rect c.args.encoding c.args.block.now c.args.out.now.items
    c.append_raw.new.out.items sized c.append_raw.ensures.sent
