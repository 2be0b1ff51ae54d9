use Rattle.std.proofs.Common.{◌/◌, arith}
use Rattle.rfb_picture.specs.Box.{is_in}
use Rattle.rfb_picture.proofs.NotedEdgesLemmas.{none_noted, noted_bounds, edges-noted}
use Rattle.rfb_picture.proofs.place_set.layers.Layers.edges_of_marks.Goals as goal

pub returns-then-rows-eq0 : goal.returns-then-rows-eq0
returns-then-rows-eq0 c =
    none_noted c.args.self.now c.args.zone c.bits_between-rows.result c.requires.sound c.requires.room
    c.requires.column c.requires.row c.bits_between-rows.ensures c.if-rows-eq0.true

pub overflow_sub-last-2 : goal.overflow_sub-last-2
overflow_sub-last-2 c =
    let bounds = noted_bounds (is_in c.args.self.now.noted) c.args.zone (c.args.zone.x / 64)
    c.bits_between-rows.result c.bits_between-rows.ensures (omega arith) (omega arith) in
    rw c.from.ensures (omega arith)

pub edges_in-requires-clause-room : goal.edges_in-requires-clause-room
edges_in-requires-clause-room c =
    let bounds = noted_bounds (is_in c.args.self.now.noted) c.args.zone (c.args.zone.x / 64)
    c.bits_between-rows.result c.bits_between-rows.ensures (omega arith) (omega arith) in
    rw c.from.ensures (c.requires.room.0, omega (arith, c.requires.room.1))

pub returns : goal.returns
returns c =
    edges-noted c.args.self.now c.args.zone c.bits_between-rows.result c.edges_in.result c.requires.sound
    c.requires.room c.requires.column c.requires.row c.bits_between-rows.ensures (omega arith) (omega arith)
    (rw c.from.ensures at c.edges_in.ensures)
