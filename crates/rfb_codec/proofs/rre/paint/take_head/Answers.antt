use Rattle.std.proofs.Common.{◌≡◌, ◌∙◌, ◌+◌, ◌-◌, length, take, ap, refl, arith}
use Rattle.std.proofs.lemmas.Bool.Decides.{nat_tests}
use Rattle.rfb_pixel.specs.Format.{size_of}
use Rattle.rfb_picture.specs.Grid.{filled}
use Rattle.rfb_codec.proofs.TakePartLemmas.{head_taken}
use Rattle.rfb_codec.proofs.FrontLemmas.{takes_on}
use Rattle.rfb_codec.proofs.rre.paint.take_head.Goals as goal

pub returns : goal.returns
returns c =
    let r = c.args.rectangle.now in
    let size = c.size-size.result in
    let xs = c.as_slice-head.result.now in
    let whole : length xs ≡ 4 + size_of r.format =
    ap length c.as_slice-head.ensures.value ∙ omega (arith, c.size-size.ensures.value) in
    let part : 4 + size - 4 ≡ size_of r.format = omega (arith, c.size-size.ensures.value) in
    let none : length c.clear.new.self.items ≡ 0 = ap length c.clear.ensures in
    takes_on (omega (arith, c.size-size.ensures.value)) c.gather-used.ensures.used (grind (arith, nat_tests)) refl
    (λ before body stands.
    head_taken r.format r.rect c.args.pending.now.items (take c.gather-used.result c.args.bytes.now) xs
    c.clear.new.self.items c.read_u32-left.result (4 + size - 4) c.take-background.result c.args.picture.now
    c.fill.new.picture before body
    (c.as_slice-head.ensures.value ∙ c.gather-used.ensures.items) whole c.clear.ensures c.read_u32-left.ensures
    part c.take-background.ensures
    (c.fill.ensures.value ∙ ap (λ k. filled r.rect k c.args.picture.now) c.unpack.ensures.value) stands)
    c.fill.ensures.width c.fill.ensures.height
