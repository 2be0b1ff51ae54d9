use Rattle.std.proofs.Common.{◌≡◌, length, arith, ap, ◌∙◌}
use Rattle.std.proofs.lemmas.List.{with_items_is}
use Rattle.rfb_picture.proofs.ShownLemmas.{copy_shown}
use Rattle.rfb_picture.proofs.picture.Picture.copy.Goals as goal

pub returns-clause-value : goal.returns-clause-value
returns-clause-value g c =
    let len : length c.copy_rows.new.places ≡ c.self.inside.places.len = omega arith in
    rw (with_items_is c.self.inside.places c.copy_rows.new.places len, ← c.self.view_is)
    (copy_shown c.self.inside.width c.self.inside.height c.self.inside.lines.items c.args.dst c.args.sx c.args.sy
    c.self.inside.places.items c.copy_rows.new.places c.self.invariant.kept
    (c.copy_rows.auto.places ∙ ap length c.deref_mut.ensures.value)
    (rw (← c.self.view_is) at c.requires.source)
    (rw (c.from-width.ensures, c.deref_mut.ensures.value, c.deref.ensures.value) at c.copy_rows.ensures))
