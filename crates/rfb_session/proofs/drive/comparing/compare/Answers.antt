use Rattle.std.proofs.Common.{◌+◌, ◌*◌, ◌-◌, length, refl, sym, arith, take, drop, subst, ◌≤◌, Option, IfSome}
use Rattle.rfb_session.specs.declared.drive.comparing.Difference.{Difference}
use Rattle.rfb_session.proofs.CompareLemmas.{count_small, cut_is, few_more, part_more, row_inside, rows_more}
use Rattle.rfb_session.proofs.drive.comparing.compare.Goals as goal

pub with_row-found-requires-clause-count : goal.with_row-found-requires-clause-count
with_row-found-requires-clause-count c =
    count_small c.args.within c.row-shown.result.now _ c.compare_rows.result
    (omega (arith, c.row-shown.ensures.len)) c.compare_rows.ensures

pub loop-row-preserved : goal.loop-row-preserved
loop-row-preserved c =
    let l = c.loop-row in
    let w = c.args.expected.now.width in
    let wide = c.from-width.result in
    let places = c.args.expected.now.places.items in
    let start = c.from.result * wide in
    let len = start + wide - start in
    let s = take len (drop start c.deref.result.now) in
    let g = c.args.screen.now in
    record {
      width = c.from-width.ensures;
      rows = rows_more w c.args.x c.args.y l.row g c.row-shown.result.now l.invariant.rows c.row-shown.ensures.value
          c.row-shown.ensures.len;
      found = part_more c.args.within w c.args.x c.args.y l.row len g places c.row-shown.result.now s l.found _
          c.compare_rows.result l.invariant.rows c.row-shown.ensures.value c.row-shown.ensures.len
          (cut_is start c.from.result l.row wide w len c.deref.result.now places c.deref.ensures.value
          c.from.ensures c.from-width.ensures refl) (omega arith)
          (row_inside l.row c.args.expected.now.height w (length places) (omega arith) c.args.expected.now.whole)
          l.invariant.found c.compare_rows.ensures c.with_row-found.ensures;
      few = subst (λ (found : Option Difference). IfSome found (λ above. above.count ≤ 65535 * (l.row + 1)))
          (sym c.with_row-found.ensures) (few_more c.args.within l.row c.row-shown.result.now s l.found
          c.compare_rows.result (omega (arith, c.row-shown.ensures.len)) l.invariant.few c.compare_rows.ensures);
    }
