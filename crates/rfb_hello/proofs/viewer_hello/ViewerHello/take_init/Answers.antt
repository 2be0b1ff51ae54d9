use Rattle.std.proofs.Common.{rules, ◌≡◌, ◌∙◌, ap, sym, refl}
use Rattle.std.proofs.lemmas.List.{take_rest}
use Rattle.byteorder.specs.Endian.{big_number}
use Rattle.rfb_wire.specs.Fields.{u16_at, u32_at}
use Rattle.rfb_hello.proofs.ViewerStepLemmas.{takes, starves}
use Rattle.rfb_hello.proofs.ViewerHelloLemmas.{init_told, init_asks, init_keeps}
use Rattle.rfb_hello.proofs.viewer_hello.ViewerHello.take_init.Goals as goal

pub returns-in_default-after_init : goal.returns-in_default-after_init
returns-in_default-after_init c =
    let init = c.as_slice-init.ensures.value in
    let gathered = rw c.in-Some.is at c.gather-used.ensures.whole in
    let good = rw (init, c.in_default-screen_fault.is) at c.screen_fault.ensures in
    let n : c.read_u32-length.result ≡ u32_at 20 c.in-Some.whole.items =
    c.read_u32-length.ensures ∙ ap (big_number 4) (take_rest c.as_slice-init.result.now 20) ∙ ap (u32_at 20) init in
    starves c.gather-used.ensures.used c.fail-in_default-after_init.ensures.value (λ setup. init_asks setup
    c.args.self.now c.in-Init.version c.in-Init.part _ c.in-Some.whole.items c.in-Init.is gathered.0 gathered.1
    (sym good) (rw n at c.in_default-after_init.ensures.asked)) c.fail-in_default-after_init.ensures.after

pub returns : goal.returns
returns c =
    let old = c.args.self.now in
    let slice = c.as_slice-init.result.now in
    let init = c.as_slice-init.ensures.value in
    let gathered = rw c.in-Some.is at c.gather-used.ensures.whole in
    let good = rw (init, c.in_default-screen_fault.is) at c.screen_fault.ensures in
    takes c.gather-used.ensures.used (λ setup. init_told setup old c.in-Init.version c.in-Init.part _
    c.in-Some.whole.items _ _ _ c.in-Ok.step c.in-Ok.progress c.in-Init.is gathered.0 gathered.1 (sym good)
    (c.read_u16-width.ensures ∙ ap (u16_at 0) init)
    (c.read_u16-height.ensures ∙ ap (big_number 2) (take_rest slice 2) ∙ ap (u16_at 2) init)
    (c.read_u32-length.ensures ∙ ap (big_number 4) (take_rest slice 20) ∙ ap (u32_at 20) init)
    c.in-Ok.ensures.told c.in-Ok.ensures.progress) (search rules) (search rules)
    (init_keeps old (record old { progress = c.in-Ok.progress }) _ old.text_limit c.in-Init.version _ _ _ c.in-Ok.step
    c.in-Ok.ensures.told refl) refl
