use Rattle.std.proofs.Common.{◌≡◌, ◌∙◌, ℕ, ◌+◌, ◌*◌, ◌++◌, [], ◌≤◌, length, refl, sym, subst, take, ap, arith}
use Rattle.std.proofs.Common.{length-take-le}
use Rattle.std.proofs.Math.Nat.{mul-le-mul_right}
use Rattle.std.proofs.lemmas.Bool.Decides.{nat_tests}
use Rattle.rfb_pixel.specs.Format.{size_of}
use Rattle.rfb_codec.specs.declared.painter.stage.Place.{Place}
use Rattle.rfb_codec.specs.Stage.{places_before}
use Rattle.rfb_codec.specs.decoder.Step.{PaintsRun, first_of_row}
use Rattle.rfb_codec.proofs.FrontLemmas.{walked, walked_on, walk_waits, no_items}
use Rattle.rfb_codec.proofs.raw.walk.take_pixels.Goals as goal

pub returns-then-rows-gt0-clause-goes_on : goal.returns-then-rows-gt0-clause-goes_on
returns-then-rows-gt0-clause-goes_on c = λ before body stands.
    let f = c.args.format in
    let rect = c.args.rect in
    let at = c.args.at in
    let pending = c.args.pending.now.items in
    let bytes = c.args.bytes.now in
    let rows = c.whole_rows-rows.result in
    let used = c.from-high.result * (c.from-wide.result * c.size-size.result) in
    let next : Place = record { x = 0; y = at.y + rows } in
    let none : pending ≡ [] = no_items pending (grind (arith, nat_tests)) in
    let used_is : used ≡ rows * (rect.w * size_of f) =
    rw (c.from-high.ensures, c.from-wide.ensures, c.size-size.ensures.value) refl in
    let within : used ≤ length bytes = rw (c.from-high.ensures, c.from-wide.ensures) c.whole_rows-rows.ensures.whole in
    let size : length (take used bytes) ≡ rows * rect.w * size_of f =
    length-take-le used bytes within ∙ used_is ∙ omega arith in
    let same : take used bytes ≡ pending ++ take used bytes = rw none refl in
    let start : places_before rect.w at ≡ first_of_row rect.w at.y = omega arith in
    let high : (at.y + rows) * rect.w ≤ rect.h * rect.w =
    mul-le-mul_right rect.w (omega (arith, c.whole_rows-rows.ensures.most)) in
    let few : places_before rect.w at + rows * rect.w ≤ rect.h * rect.w = omega (arith, high, start) in
    let count : places_before rect.w next ≡ places_before rect.w at + rows * rect.w = omega (arith, start) in
    let paints = subst (λ (k : ℕ). PaintsRun f rect k (rows * rect.w) (take used bytes) c.args.picture.now
    c.paint_lines.new.picture) (sym start) c.paint_lines.ensures.value in
    walked_on f rect at next (rows * rect.w) pending (take used bytes) (take used bytes) pending c.args.picture.now
    c.paint_lines.new.picture before body stands
    few (omega (arith, c.size-size.ensures.value)) same size none count paints

pub returns-then-bytes-size-clause-goes_on : goal.returns-then-bytes-size-clause-goes_on
returns-then-bytes-size-clause-goes_on c = λ before body stands.
    let run = c.whole_pixels-run.result in
    let bytes = c.args.bytes.now in
    let used = c.from-count.result * c.size-size.result in
    let none : c.args.pending.now.items ≡ [] = no_items c.args.pending.now.items (grind (arith, nat_tests)) in
    let used_is : used ≡ run * size_of c.args.format = rw (c.from-count.ensures, c.size-size.ensures.value) refl in
    let within : used ≤ length bytes = rw c.from-count.ensures c.whole_pixels-run.ensures.whole in
    let size : length (take used bytes) ≡ run * size_of c.args.format = length-take-le used bytes within ∙ used_is in
    let same : take used bytes ≡ c.args.pending.now.items ++ take used bytes = rw none refl in
    walked c.args.format c.args.rect c.args.at c.place_after.result run c.args.pending.now.items (take used bytes)
    (take used bytes) c.args.pending.now.items c.args.picture.now c.paint_run.new.picture before body stands
    (omega arith) c.requires.row (omega (arith, c.size-size.ensures.value)) same size none
    c.place_after.ensures.count c.paint_run.ensures.value

pub returns-then-len-size-clause-goes_on : goal.returns-then-len-size-clause-goes_on
returns-then-len-size-clause-goes_on c = λ before body stands.
    walk_waits c.args.format c.args.rect c.args.at c.args.pending.now.items (take c.gather-used.result c.args.bytes.now)
    c.gather-used.new.pending.items c.args.picture.now before body stands c.requires.column c.requires.row
    c.gather-used.ensures.items (omega (arith, c.size-size.ensures.value))

pub returns-clause-goes_on : goal.returns-clause-goes_on
returns-clause-goes_on c = λ before body stands.
    let used = c.gather-used.result in
    let whole : length c.as_slice.result.now ≡ 1 * size_of c.args.format =
    ap length c.as_slice.ensures.value ∙ omega (arith, c.size-size.ensures.value) in
    walked c.args.format c.args.rect c.args.at c.place_after-2.result 1 c.args.pending.now.items
    (take used c.args.bytes.now) c.as_slice.result.now c.clear.new.self.items c.args.picture.now
    c.paint_run-2.new.picture before body stands
    (omega arith) c.requires.row (omega (arith, c.size-size.ensures.value)) (c.as_slice.ensures.value
    ∙ c.gather-used.ensures.items) whole c.clear.ensures c.place_after-2.ensures.count c.paint_run-2.ensures.value
