use Rattle.std.proofs.Common.{◌≡◌, ◌+◌, length, refl, subst, arith}
use Rattle.rfb_codec.specs.UnderWay.{UnderWay, Waits}
use Rattle.rfb_codec.proofs.JoinLemmas.{byte_joined}
use Rattle.rfb_codec.proofs.painter.Painter.take.Goals as goal

pub returns-then-joins-clause-more : goal.returns-then-joins-clause-more
returns-then-joins-clause-more c = λ ended.
    let old = c.self.inside in
    let rest = c.push.new.self.items in
    let one : length c.args.bytes.now ≡ 1 = omega (arith, c.if-bytes-eq1.true) in
    let long : length rest ≡ length old.pending.items + 1 = c.push.ensures.len in
    let waits = byte_joined old.rectangle.format old.rectangle.rect old.stage old.pending.items rest
    c.args.picture.now c.args.bytes.now one (c.if-joins.ensures.left refl) (rw long (c.if-joins.ensures.sound refl))
    c.push.ensures.items (c.if-joins.ensures.joins refl) in
    let next : UnderWay =
    record { rect = old.rectangle.rect; form = old.rectangle.format; stage = old.stage; pending = rest } in
    subst (λ (p : UnderWay). Waits p c.args.picture.now c.args.bytes.now next c.args.picture.now) c.self.view_is waits
