use Rattle.std.proofs.Common.{◌≡◌, ◌-◌, length, slice_index_or, if◌then◌else◌, arith, ap, ◌∙◌}
use Rattle.std.proofs.lemmas.List.{with_items_is}
use Rattle.rfb_picture.specs.Rect.{contains}
use Rattle.rfb_picture.specs.layout.Lines.{place_in}
use Rattle.rfb_picture.proofs.ShownLemmas.{line_written, shown_changed}
use Rattle.rfb_picture.proofs.picture.Picture.put_row.Goals as goal

pub returns-clause-value : goal.returns-clause-value
returns-clause-value g c =
    let len : length c.put_places.new.places ≡ c.self.inside.places.len = omega arith in
    let same : length c.put_places.new.places ≡ length c.self.inside.places.items =
    c.put_places.auto.places ∙ ap length c.deref_mut.ensures.value in
    let room = rw (← c.self.view_is) at c.requires.columns in
    let row = rw (← c.self.view_is) at c.requires.row in
    rw (with_items_is c.self.inside.places c.put_places.new.places len, ← c.self.view_is)
    (shown_changed c.self.inside.width c.self.inside.height c.self.inside.lines.items
    (λ i j old. if contains
    (record { x = c.args.x; y = c.args.y; w = length c.args.row.now; h = 1 }) i j
    then slice_index_or c.args.row.now (i - c.args.x) old else old)
    c.self.inside.places.items c.put_places.new.places c.self.invariant.kept same
    (λ i j d p q.
    let written =
    rw (c.place_of-start.ensures, c.deref.ensures.value, c.deref_mut.ensures.value) at (c.put_places.ensures
    (place_in c.self.inside.lines.items c.self.inside.width i j) d) in
    line_written c.self.inside.width c.self.inside.height c.self.inside.lines.items c.self.inside.places.items
    c.args.x c.args.y i j c.args.row.now d _ _ c.self.invariant.kept room row p q written))
