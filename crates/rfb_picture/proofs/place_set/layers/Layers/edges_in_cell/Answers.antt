use Rattle.std.proofs.Common.{◌≡◌, ◌/◌, true, false, sym, ◌∙◌, refl, arith}
use Rattle.rfb_picture.specs.Box.{is_in}
use Rattle.rfb_picture.specs.layout.PlaceSet.{in_set}
use Rattle.rfb_picture.proofs.CellLemmas.{full_edges, same_cell}
use Rattle.rfb_picture.proofs.EdgesLemmas.{same_edges}
use Rattle.rfb_picture.proofs.place_set.layers.Layers.edges_in_cell.Goals as goal

pub returns-then-has : goal.returns-then-has
returns-then-has c =
    let l = c.args.self.now in
    let full : is_in l.full (c.args.zone.x / 64) (c.args.zone.y / 64) ≡ true =
    sym c.has.ensures ∙ c.if-has.true in
    rw c.of.ensures
    (full_edges (in_set l) c.args.zone (omega arith) (omega arith)
    (λ x y inside.
    let cell = same_cell c.args.zone x y c.requires.column c.requires.row inside in
    rw (cell.0, cell.1, full) refl))

pub returns-then-has-2 : goal.returns-then-has-2
returns-then-has-2 c =
    let l = c.args.self.now in
    let full : is_in l.full (c.args.zone.x / 64) (c.args.zone.y / 64) ≡ false =
    sym c.has.ensures ∙ c.if-has.false in
    let used : is_in l.used (c.args.zone.x / 64) (c.args.zone.y / 64) ≡ true =
    sym c.has-2.ensures ∙ c.if-has-2.true in
    same_edges (is_in l.places) (in_set l) c.args.zone c.edges_of_marks.result
    (λ x y inside.
    let cell = same_cell c.args.zone x y c.requires.column c.requires.row inside in
    rw (cell.0, cell.1, full, used) refl)
    c.edges_of_marks.ensures
