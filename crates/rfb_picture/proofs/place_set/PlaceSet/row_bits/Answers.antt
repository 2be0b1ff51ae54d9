use Rattle.std.proofs.Common.{◌≡◌, ◌+◌, ◌&&◌, Bool, true, false, refl, sym, ◌∙◌, nat_lt}
use Rattle.std.proofs.lemmas.Nat.Bits.{bit_at-zero}
use Rattle.rfb_picture.proofs.CoverLemmas.{row_of_cell, row_bits-layered}
use Rattle.rfb_picture.proofs.TakenWordLemmas.{and_true}
use Rattle.rfb_picture.proofs.place_set.PlaceSet.row_bits.Goals as goal

pub returns-then-has : goal.returns-then-has
returns-then-has c =
    let m = c.self.inside.layers in
    rw (← c.self.view_is)
    (row_bits-layered m c.args.x c.args.y c.columns_between.result true _ c.requires.start
    (rw (← c.self.view_is) at c.requires.row) (sym c.has.ensures ∙ c.if-has.true) refl
    (λ i l.
    let mask = rw (c.from.ensures, c.from-then-has.ensures, c.from-width.ensures, c.width.ensures.value) at
    (c.columns_between.ensures i l) in
    row_of_cell m.places.width c.args.x i c.columns_between.result c.requires.start mask
    ∙ sym (and_true (nat_lt (c.args.x + i) m.places.width))))

pub returns-then-has-2 : goal.returns-then-has-2
returns-then-has-2 c =
    rw (← c.self.view_is)
    (row_bits-layered c.self.inside.layers c.args.x c.args.y c.row_bits.result false true c.requires.start
    (rw (← c.self.view_is) at c.requires.row) (sym c.has.ensures ∙ c.if-has.false)
    (sym c.has-else-has.ensures ∙ c.if-has-2.true) c.row_bits.ensures)

pub returns-else-has-2 : goal.returns-else-has-2
returns-else-has-2 c =
    rw (← c.self.view_is)
    (row_bits-layered c.self.inside.layers c.args.x c.args.y 0 false false c.requires.start
    (rw (← c.self.view_is) at c.requires.row) (sym c.has.ensures ∙ c.if-has.false)
    (sym c.has-else-has.ensures ∙ c.if-has-2.false)
    (λ i l. rw (bit_at-zero i) (no_bit (nat_lt (c.args.x + i) c.self.inside.layers.places.width))))
  where
    no_bit : (b : Bool) → false ≡ (b && false)
    no_bit true = refl
    no_bit false = refl
