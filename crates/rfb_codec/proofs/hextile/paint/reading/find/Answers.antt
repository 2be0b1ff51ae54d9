use Rattle.std.proofs.Common.{◌≡◌, ◌+◌, ◌*◌, true, false, arith, ap, refl}
use Rattle.std.proofs.lemmas.Grind.{common_steps}
use Rattle.rfb_codec.specs.Tile.{is_raw, subrects_colored}
use Rattle.rfb_codec.proofs.PaintTileLemmas.{bit_clear, bit_set, found_colored, found_plain}
use Rattle.rfb_codec.proofs.hextile.paint.reading.find.Goals as goal

pub returns-in_ok-count-clause-told : goal.returns-in_ok-count-clause-told
returns-in_ok-count-clause-told c =
    let drawn : is_raw c.args.mask ≡ false = bit_clear 1 c.args.mask c.if-mask-ne0.false in
    let colored : subrects_colored c.args.mask ≡ true = bit_set 16 c.args.mask c.if-mask-ne0-2.true in
    let first = c.in_ok-background.ensures in
    let count = c.in_ok-count.ensures in
    found_colored c.args.format c.args.width c.args.height c.args.mask c.args.bytes.now c.in_ok-background.background
    c.in_ok-background.at c.in_ok-count.count c.in_ok-count.list _ c.whole-then-mask-ne0-2.result
    drawn colored first.0 first.3 (omega (arith, first.1, count.3)) count.0
    (ap (λ n. c.in_ok-count.list + c.in_ok-count.count * (n + 2)) c.size-size.ensures.value)
    c.whole-then-mask-ne0-2.ensures

pub returns-in_ok-count-2-clause-told : goal.returns-in_ok-count-2-clause-told
returns-in_ok-count-2-clause-told c =
    let drawn : is_raw c.args.mask ≡ false = bit_clear 1 c.args.mask c.if-mask-ne0.false in
    let plain : subrects_colored c.args.mask ≡ false = bit_clear 16 c.args.mask c.if-mask-ne0-2.false in
    let first = c.in_ok-background.ensures in
    let second = c.in_ok-foreground.ensures in
    let count = c.in_ok-count-2.ensures in
    found_plain c.args.format c.args.width c.args.height c.args.mask c.args.bytes.now c.in_ok-background.background
    c.in_ok-foreground.foreground c.in_ok-background.at c.in_ok-foreground.at c.in_ok-count-2.count
    c.in_ok-count-2.list _ c.whole-else-mask-ne0-2.result
    drawn plain first.0 second.0 second.3 (omega (arith, first.1, second.1, count.3)) count.0 refl
    c.whole-else-mask-ne0-2.ensures

pub returns-then-mask-ne0-clause-told : goal.returns-then-mask-ne0-clause-told
returns-then-mask-ne0-clause-told c = grind (arith, common_steps)

pub returns-in_err-count-clause-told : goal.returns-in_err-count-clause-told
returns-in_err-count-clause-told c = grind (arith, common_steps)

pub returns-in_err-count-2-clause-told : goal.returns-in_err-count-2-clause-told
returns-in_err-count-2-clause-told c = grind (arith, common_steps)
