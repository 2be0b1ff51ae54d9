use Rattle.std.proofs.Common.{◌≡◌, ◌<◌, ◌+◌, ◌*◌, ◌-◌, ℕ, length, arith, ap, refl, rules}
use Rattle.std.proofs.Common.{◌∙◌, slice_index_or}
use Rattle.std.proofs.lemmas.List.{with_items_is}
use Rattle.std.specs.Vec.{with_items}
use Rattle.rfb_picture.specs.layout.Lines.{AreInOrder, place_in}
use Rattle.rfb_picture.proofs.LoanLemmas.{row_lent, run_lent, still_picture}
use Rattle.rfb_picture.proofs.ShownLemmas.{whole-shown}
use Rattle.rfb_picture.proofs.picture.Picture.row_mut.Given.{Over}
use Rattle.rfb_picture.proofs.picture.Picture.row_mut.Goals as goal

-- what is known once the places are in order
module _ (g : Over) (c : goal.After-slice_mut g) where
  lines_are : (with_items c.self.inside.lines c.put_in_order.new.lines).items ≡ c.put_in_order.new.lines
  lines_are =
      let len : length c.put_in_order.new.lines ≡ c.self.inside.lines.len = omega arith in
      with_items_is c.self.inside.lines c.put_in_order.new.lines len

  places_are : (with_items c.self.inside.places c.put_in_order.new.places).items ≡ c.put_in_order.new.places
  places_are =
      let len : length c.put_in_order.new.places ≡ c.self.inside.places.len = omega arith in
      with_items_is c.self.inside.places c.put_in_order.new.places len

  order : AreInOrder c.self.inside.height c.put_in_order.new.lines
  order =
      rw (c.deref_mut.ensures.value, c.self.invariant.kept.lines_are.each) at c.put_in_order.ensures.order

  same : length (with_items c.self.inside.places c.put_in_order.new.places).items ≡ length c.self.inside.places.items
  same = ap length places_are ∙ c.put_in_order.auto.places ∙ ap length c.deref_mut-2.ensures.value

  each : (i j : ℕ) (d : g.row.T.Denot) → i < c.self.inside.width → j < c.self.inside.height →
      slice_index_or (with_items c.self.inside.places c.put_in_order.new.places).items (j * c.self.inside.width + i) d
      ≡ slice_index_or c.self.inside.places.items (place_in c.self.inside.lines.items c.self.inside.width i j) d
  each i j d p q =
      let wide = rw (← c.from-width.ensures) at p in
      let high : j < length c.deref_mut.result.now =
      rw (c.deref_mut.ensures.value, c.self.invariant.kept.lines_are.each) q in
      rw places_are
      (rw (c.from-width.ensures, c.deref_mut.ensures.value, c.deref_mut-2.ensures.value) at
      (c.put_in_order.ensures.same i j d wide high))

pub invariant_of-self-lent : goal.invariant_of-self-lent
invariant_of-self-lent g c = λ run.
    rw (lines_are g c)
    (still_picture
    (with_items c.self.inside.places c.put_in_order.new.places) c.self.inside.width c.self.inside.height
    c.self.inside.lines.items c.put_in_order.new.lines c.self.inside.places.items c.self.invariant.kept (order g c)
    (same g c) (each g c) (c.from.result * c.from-width.result + c.from-2.result) run c.put_in_order.new.is_turned)

pub returns : goal.returns
returns g c =
    let columns = rw (← c.self.view_is) at c.requires.columns in
    let row = rw (← c.self.view_is) at c.requires.row in
    let v = with_items c.self.inside.places c.put_in_order.new.places in
    let count : c.args.y * c.self.inside.width + c.args.x + c.args.w - (c.args.y * c.self.inside.width + c.args.x)
    ≡ c.args.w = omega arith in
    let read = rw
    (c.from.ensures, c.from-width.ensures, c.from-2.ensures, c.from-3.ensures, count) at c.slice_mut.ensures.value in (
      (
        refl,
        λ run.
            rw (lines_are g c.before, c.from.ensures, c.from-width.ensures, c.from-2.ensures, ← c.self.view_is)
            (run_lent v c.self.inside.width c.self.inside.height
            c.self.inside.lines.items c.put_in_order.new.lines c.self.inside.places.items c.self.invariant.kept
            (order g c.before) (same g c.before) (each g c.before) c.args.x c.args.y run (omega
            (arith, columns)) row),
      ),
      record {
        writes_back = tt;
        value = rw (← c.self.view_is) (read
            ∙ row_lent v c.self.inside.width c.self.inside.height c.self.inside.lines.items
            c.put_in_order.new.lines c.self.inside.places.items c.self.invariant.kept (order g c.before)
            (same g c.before) (each g c.before) c.args.x c.args.y c.args.w);
        len = search rules;
        whole = rw (← c.self.view_is) (whole-shown c.self.inside.width c.self.inside.height c.self.inside.lines.items
            c.self.inside.places.items c.self.invariant.kept);
      },
    )
