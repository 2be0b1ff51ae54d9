use Rattle.std.proofs.Common.{◌≡◌, ◌+◌, ◌-◌, ◌*◌, length, slice_index_or}
use Rattle.std.proofs.Common.{if◌then◌else◌, arith, ap, ◌∙◌}
use Rattle.std.proofs.lemmas.List.{with_items_is}
use Rattle.rfb_picture.specs.Rect.{contains}
use Rattle.rfb_picture.proofs.RowsLemmas.{rows_read}
use Rattle.rfb_picture.proofs.ShownLemmas.{rows_changed}
use Rattle.rfb_picture.proofs.picture.Picture.put_rows.Goals as goal

pub returns-clause-value : goal.returns-clause-value
returns-clause-value g c =
    let len : length c.put_rows.new.places ≡ c.self.inside.places.len = omega arith in
    let put = rw (c.from-width.ensures, c.deref_mut.ensures.value, c.deref.ensures.value) at c.put_rows.ensures in
    rw (with_items_is c.self.inside.places c.put_rows.new.places len, ← c.self.view_is)
    (rows_changed c.self.inside.width c.self.inside.height c.self.inside.lines.items
    (λ x y old. if contains c.args.rect x y
    then slice_index_or c.args.rows.now
    ((y - c.args.rect.y) * c.args.rect.w + (x - c.args.rect.x)) old else old)
    c.self.inside.places.items c.put_rows.new.places c.self.invariant.kept
    (c.put_rows.auto.places ∙ ap length c.deref_mut.ensures.value)
    (λ x y d p q. rows_read c.args.rect c.args.rows.now x y _ _ d _ c.requires.size (put x y d p q)))
