use Rattle.std.proofs.Common.{◌≡◌, ℕ, ◌+◌, slice_index_or, length, arith}
use Rattle.std.proofs.lemmas.Bool.Decides.{nat_tests}
use Rattle.rfb_picture.specs.layout.Lines.{place_in}
use Rattle.rfb_picture.proofs.CopyLemmas.{row_after, rows_all_done, line_copied}
use Rattle.rfb_picture.proofs.LineLemmas.{line_fits}
use Rattle.rfb_picture.proofs.picture.copying.copy_rows.Goals.{then-dst-sy, else-dst-sy}
use Rattle.rfb_picture.proofs.picture.copying.copy_rows.Goals as goal

pub loop-done-preserved : goal.loop-done-preserved
loop-done-preserved g c =
    λ x y d p q.
    let row_is : c.if-dst-sy.row ≡ row_after c.args.dst c.args.sy c.loop-done.done =
    elim c.if-dst-sy.branch [
      | then-dst-sy w ↦ grind (arith, nat_tests)
      | else-dst-sy w ↦ grind (arith, nat_tests)
    ] in
    let written =
    rw (
      c.from-in-loop-done.ensures,
      c.from.ensures,
      c.from-in-loop-done-2.ensures,
      c.from-in-loop-done-4.ensures,
      c.from-in-loop-done-3.ensures,
      c.from-in-loop-done-5.ensures,
      c.from-in-loop-done-6.ensures,
    ) at (c.copy_places.ensures (place_in c.args.lines.now c.args.width x y) d) in
    line_copied c.args.width (length c.args.lines.now) c.args.lines.now c.args.dst c.args.sx c.args.sy
    c.loop-done.done c.if-dst-sy.row x y _
    (λ (i : ℕ). slice_index_or c.loop-done.places i d)
    (λ (i : ℕ). slice_index_or c.args.places.now i d)
    c.requires.kept.lines_are c.requires.columns c.requires.source_columns c.requires.rows c.requires.source_rows
    (omega arith) row_is p q
    (λ i j k l. c.loop-done.invariant i j d k l)
    written

pub returns : goal.returns
returns g c =
    λ x y d p q.
    let end : c.loop-done.done ≡ c.args.dst.h = omega arith in
    rw (← rows_all_done c.args.dst c.args.sy c.loop-done.done x y end)
    (c.loop-done.invariant x y d p q)

pub overflow_add-from-in-loop-done : goal.overflow_add-from-in-loop-done
overflow_add-from-in-loop-done g c =
    let fits = line_fits c.args.sx
    (c.args.sy + c.if-dst-sy.row) c.args.dst.w c.requires.kept (omega arith) c.requires.source_columns in
    rw (c.from-in-loop-done.ensures, c.from.ensures, c.from-in-loop-done-2.ensures) (omega (arith, fits))

pub overflow_add-to : goal.overflow_add-to
overflow_add-to g c =
    let fits = line_fits c.args.dst.x
    (c.args.dst.y + c.if-dst-sy.row) c.args.dst.w c.requires.kept (omega arith) c.requires.columns in
    rw (c.from-in-loop-done-4.ensures, c.from-in-loop-done-3.ensures, c.from-in-loop-done-5.ensures) (omega
    (arith, fits))

pub copy_places-requires-clause-source : goal.copy_places-requires-clause-source
copy_places-requires-clause-source g c =
    let fits = line_fits c.args.sx
    (c.args.sy + c.if-dst-sy.row) c.args.dst.w c.requires.kept (omega arith) c.requires.source_columns in
    rw (
      c.from-in-loop-done.ensures,
      c.from.ensures,
      c.from-in-loop-done-2.ensures,
      c.from-in-loop-done-6.ensures,
    ) (omega (arith, fits))

pub copy_places-requires-clause-target : goal.copy_places-requires-clause-target
copy_places-requires-clause-target g c =
    let fits = line_fits c.args.dst.x
    (c.args.dst.y + c.if-dst-sy.row) c.args.dst.w c.requires.kept (omega arith) c.requires.columns in
    rw (
      c.from-in-loop-done-4.ensures,
      c.from-in-loop-done-3.ensures,
      c.from-in-loop-done-5.ensures,
      c.from-in-loop-done-6.ensures,
    ) (omega (arith, fits))
