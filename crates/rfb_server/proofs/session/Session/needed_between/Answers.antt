use Rattle.std.proofs.Common.{refl, ◌+◌, ◌-◌, ◌*◌, ◌/◌, ◌<◌, ◌≤◌, ℕ, arith}
use Rattle.std.specs.Int.{w64, trailing_zeros, leading_zeros}
use Rattle.rfb_server.proofs.NeededLemmas.{AreWords, row_words, none_judged, judged_columns, judged_bits, judged}
use Rattle.rfb_server.proofs.session.Session.needed_between.Goals.{After-whole_bits}
use Rattle.rfb_server.proofs.session.Session.needed_between.Goals as goal

-- the words of the sets and of the record for the row
words : (c : After-whole_bits) → AreWords c.args.self.now c.args.y c.args.from c.args.to c.row_bits_between.result
    c.row_bits.result c.row_bits-known.result c.whole_bits.result
words c =
    row_words c.args.self.now c.known.result.now c.args.y c.args.from c.args.to c.row_bits_between.result
    c.row_bits.result c.row_bits-known.result c.whole_bits.result
    c.asked.result.now c.asked-2.result.now c.args.self.now.area.whole c.known.ensures.columns c.known.ensures.value
    c.requires.row c.row_bits_between.ensures
    c.asked.ensures c.row_bits.ensures c.asked-2.ensures c.row_bits-known.ensures refl c.whole_bits.ensures
    c.row_bits_between.type_inv c.row_bits.type_inv c.row_bits-known.type_inv c.whole_bits.type_inv

-- the places that have to be looked at
abbrev looked : After-whole_bits → ℕ
looked c = judged c.row_bits_between.result c.row_bits.result c.row_bits-known.result c.whole_bits.result

-- they lie on the screen, the first of them before the last
columns : (c : After-whole_bits) → 0 < looked c →
    (c.args.from / 64 * 64 + trailing_zeros w64 (looked c) < c.args.from / 64 * 64 + 64 - leading_zeros w64 (looked c))
    × (c.args.from / 64 * 64 + 64 - leading_zeros w64 (looked c) ≤ c.args.self.now.known.width)
columns c =
    judged_columns c.args.screen.now c.args.self.now c.args.y c.args.from c.args.to c.row_bits_between.result
    c.row_bits.result c.row_bits-known.result c.whole_bits.result
    c.requires.about c.requires.row c.requires.columns.1 (words c)

pub returns-then-judged-eq0 : goal.returns-then-judged-eq0
returns-then-judged-eq0 c =
    none_judged c.args.screen.now c.args.self.now c.args.y c.args.from c.args.to c.row_bits_between.result
    c.row_bits.result c.row_bits-known.result c.whole_bits.result
    c.requires.about c.requires.row c.requires.columns.1
    (words (goal.at.returns-then-judged-eq0 c).After-whole_bits) c.if-judged-eq0.true

pub differing_between-requires-clause-columns : goal.differing_between-requires-clause-columns
differing_between-requires-clause-columns c =
    let (order, within) = columns (goal.at.differing_between-requires-clause-columns c).After-whole_bits
    (omega (arith, c.if-judged-eq0.false)) in (
      omega (arith, order, within, c.min-end.ensures, c.width.ensures),
      omega (arith, c.min-end.ensures, c.width.ensures),
    )

pub returns : goal.returns
returns c =
    let here = (goal.at.returns c).After-whole_bits in
    let (order, within) = columns here (omega (arith, c.if-judged-eq0.false)) in
    judged_bits c.args.screen.now c.args.self.now c.args.y c.args.from c.args.to c.row_bits_between.result
    c.row_bits.result c.row_bits-known.result c.whole_bits.result
    c.requires.about c.requires.row c.requires.columns.1 (words here)
    ((c.args.from / 64 * 64 + trailing_zeros w64 (looked here)) / 16 * 16) c.min-end.result
    c.differing_between.result (omega (arith, c.if-judged-eq0.false)) (omega arith) (omega arith)
    (omega (arith, order, within, c.min-end.ensures, c.width.ensures)) c.differing_between.ensures
