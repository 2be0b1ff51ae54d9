use Rattle.std.proofs.Common.{true, false, refl, sym, ◌∙◌}
use Rattle.rfb_picture.proofs.PlaceSetLemmas.{at-cells}
use Rattle.rfb_picture.proofs.place_set.PlaceSet.has.Goals as goal

pub returns-then-has : goal.returns-then-has
returns-then-has c =
    rw (← c.self.view_is) (c.if-has.true ∙ sym (at-cells c.self.inside.layers c.args.x c.args.y true _
    (rw (← c.self.view_is) at c.requires.column) (rw (← c.self.view_is) at c.requires.row)
    (sym c.has.ensures ∙ c.if-has.true) refl))

pub returns-then-has-2 : goal.returns-then-has-2
returns-then-has-2 c =
    rw (← c.self.view_is) (c.has-then-has-2.ensures ∙ sym (at-cells c.self.inside.layers c.args.x c.args.y false true
    (rw (← c.self.view_is) at c.requires.column) (rw (← c.self.view_is) at c.requires.row)
    (sym c.has.ensures ∙ c.if-has.false) (sym c.has-else-has.ensures ∙ c.if-has-2.true)))

pub returns-else-has-2 : goal.returns-else-has-2
returns-else-has-2 c =
    rw (← c.self.view_is) (c.if-has-2.false ∙ sym (at-cells c.self.inside.layers c.args.x c.args.y false false
    (rw (← c.self.view_is) at c.requires.column) (rw (← c.self.view_is) at c.requires.row)
    (sym c.has.ensures ∙ c.if-has.false) (sym c.has-else-has.ensures ∙ c.if-has-2.false)))
