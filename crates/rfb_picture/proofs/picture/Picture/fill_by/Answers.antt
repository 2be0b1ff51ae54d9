use Rattle.std.proofs.Common.{◌≡◌, length, if◌then◌else◌, arith, ap, ◌∙◌}
use Rattle.std.proofs.lemmas.List.{with_items_is}
use Rattle.rfb_picture.specs.Rect.{contains}
use Rattle.rfb_picture.proofs.ShownLemmas.{rows_changed}
use Rattle.rfb_picture.proofs.picture.Picture.fill_by.Goals as goal

pub returns-clause-value : goal.returns-clause-value
returns-clause-value g c =
    let len : length c.fill_rows.new.places ≡ c.self.inside.places.len = omega arith in
    rw (with_items_is c.self.inside.places c.fill_rows.new.places len, ← c.self.view_is)
    (rows_changed c.self.inside.width c.self.inside.height c.self.inside.lines.items
    (λ x y old. if contains c.args.rect x y then c.args.value else old)
    c.self.inside.places.items c.fill_rows.new.places c.self.invariant.kept
    (c.fill_rows.auto.places ∙ ap length c.deref_mut.ensures.value)
    (rw (c.from-width.ensures, c.deref_mut.ensures.value, c.deref.ensures.value) at c.fill_rows.ensures))
