use Rattle.std.proofs.Common.{◌≡◌, ◌∙◌, ℕ, ◌+◌, ◌-◌, ◌*◌, ◌%◌, ◌^◌, ◌<◌, Bool, List, bit_and, ap, subst, arith}
use Rattle.std.specs.Int.{w64, bit_not}
use Rattle.std.proofs.lemmas.Nat.{and_le_l}
use Rattle.rfb_pixel.specs.Rows.{TellsDifferences}
use Rattle.rfb_picture.specs.Grid.{Grid}
use Rattle.rfb_picture.specs.Box.{is_in}
use Rattle.rfb_picture.specs.Places.{HasBitsBetween}
use Rattle.rfb_server.specs.update.Gains.{right_before}
use Rattle.rfb_server.specs.Composition.{count_row}
use Rattle.rfb_server.proofs.BitCountLemmas.{ones_between, row_le}
use Rattle.rfb_server.proofs.RightLemmas.{before_bits}
use Rattle.rfb_server.proofs.session.Session.before_by.Goals as goal

pub returns-clause-value : goal.returns-clause-value
returns-clause-value c =
    let screen = c.args.screen.now in
    let s = c.args.self.now in
    let part = c.args.part in
    let to = part.to in
    let pixels = c.pixels-pixels.result.now in
    let wanted = c.args.wanted.now in
    let known = c.row_bits_between.result in
    let other = c.differing.result in
    let bits = subst (λ (g : Grid Bool). HasBitsBetween (is_in g) to.y to.x (to.x + to.w) known) c.asked-known.ensures
    c.row_bits_between.ensures in
    let differ = subst (λ (row : List ℕ). TellsDifferences wanted row other) c.row.ensures.value c.differing.ensures in
    let told = before_bits screen s part pixels wanted c.requires.about c.requires.copy c.requires.single
    c.pixels-pixels.ensures.value c.pixels-pixels.ensures.columns c.pixels-pixels.ensures.rows c.requires.wanted
    c.known.result.now known other c.known.ensures.value bits differ c.requires.len c.requires.cell in
    let word = bit_and known (bit_not w64 (other * 2 ^ (to.x % 64) % 2 ^ 64)) in
    let small : word < 2 ^ 64 = omega (arith, and_le_l known (bit_not w64 (other * 2 ^ (to.x % 64) % 2 ^ 64))) in
    let width : to.x + to.w - to.x ≡ to.w = omega arith in
    ones_between (right_before screen s part) to.y to.x (to.x + to.w) word small (omega arith) c.requires.cell told
    ∙ ap (count_row (right_before screen s part) to.x to.y) width

pub returns-clause-few : goal.returns-clause-few
returns-clause-few c =
    let to = c.args.part.to in
    let value = returns-clause-value c in
    omega (arith, value, row_le (right_before c.args.screen.now c.args.self.now c.args.part) to.x to.y to.w)
