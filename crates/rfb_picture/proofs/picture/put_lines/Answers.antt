use Rattle.std.proofs.Common.{◌+◌, length, arith, rules}
use Rattle.rfb_picture.specs.layout.Lines.{place_in}
use Rattle.rfb_picture.proofs.LineLemmas.{line_fits}
use Rattle.rfb_picture.proofs.RowsLemmas.{line_put}
use Rattle.rfb_picture.proofs.picture.put_lines.Goals as goal

pub overflow_add-start : goal.overflow_add-start
overflow_add-start g c =
    let fits = line_fits c.args.rect.x (c.args.rect.y + c.loop-row.row) 0 c.requires.kept (omega arith) (omega arith) in
    rw (c.line_of-line.ensures, c.from.ensures, c.from-in-loop-row.ensures) (omega (arith, fits))

pub put_places-requires : goal.put_places-requires
put_places-requires g c =
    let fits = line_fits c.args.rect.x (c.args.rect.y + c.loop-row.row) c.args.rect.w c.requires.kept (omega arith)
    (omega arith) in
    rw (c.line_of-line.ensures, c.from.ensures, c.from-in-loop-row.ensures)
    (omega (arith, fits))

pub loop-row-preserved : goal.loop-row-preserved
loop-row-preserved g c = λ x y d p q.
    let written = rw (c.line_of-line.ensures, c.from.ensures, c.from-in-loop-row.ensures) at
    (c.put_places.ensures (place_in c.args.lines.now c.args.width x y) d) in
    line_put c.args.width (length c.args.lines.now) c.args.lines.now c.args.rect c.loop-row.row x y _ _ d _ _ _
    c.requires.kept.lines_are c.requires.columns (omega arith) p q
    (omega arith) (search rules) (c.loop-row.invariant x y d p q) written
