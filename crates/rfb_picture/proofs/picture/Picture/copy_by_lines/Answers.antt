use Rattle.std.proofs.Common.{◌≡◌, ◌≤◌, ◌+◌, length, arith, ap, ◌∙◌, sym}
use Rattle.std.proofs.lemmas.List.{with_items_is}
use Rattle.std.specs.Vec.{with_items}
use Rattle.rfb_picture.specs.Grid.{Grid, copied}
use Rattle.rfb_picture.specs.layout.Turn.{Turned}
use Rattle.rfb_picture.proofs.TurnCopyLemmas.{still_kept, turned_copy}
use Rattle.rfb_picture.proofs.picture.Picture.copy_by_lines.Given.{Over}
use Rattle.rfb_picture.proofs.picture.Picture.copy_by_lines.Goals as goal

-- what is known once the lines went round
module _ (g : Over) (c : goal.After-self-2-1 g) where
  lines_are : (with_items c.self-2.inside.lines c.turn-rest.new.lines).items ≡ c.turn-rest.new.lines
  lines_are =
      let len : length c.turn-rest.new.lines ≡ c.self-2.inside.lines.len = omega arith in
      with_items_is c.self-2.inside.lines c.turn-rest.new.lines len

  wide : c.args.dst.w ≡ c.self-2.inside.width
  wide =
      let target = rw (← c.self-2.view_is) at c.requires.target.0 in
      let same : c.self.inside.width ≡ c.self-2.inside.width =
      ap (λ (p : Grid g.row.T.Denot). p.width) (c.self.view_is ∙ sym c.self-2.view_is) in
      omega (arith, target, c.if-dst-self.false, same)

  first : c.args.dst.x ≡ 0
  first = let target = rw (← c.self-2.view_is) at c.requires.target.0 in omega (arith, target, wide)

  from_first : c.args.sx ≡ 0
  from_first = let source = rw (← c.self-2.view_is) at c.requires.source.0 in omega (arith, source, wide)

  to_fits : c.args.dst.y + c.args.dst.h ≤ c.self-2.inside.height
  to_fits = rw (← c.self-2.view_is) at c.requires.target.1

  from_fits : c.args.sy + c.args.dst.h ≤ c.self-2.inside.height
  from_fits = rw (← c.self-2.view_is) at c.requires.source.1

  down_near : c.args.dst.y ≤ c.args.sy + c.args.dst.h
  down_near = omega (arith, c.if-dst-sy.false)

  up_near : c.args.sy ≤ c.args.dst.y + c.args.dst.h
  up_near = omega (arith, c.if-sy-dst.false)

  turned : Turned (record { to = c.args.dst.y; from = c.args.sy; count = c.args.dst.h }) c.self-2.inside.lines.items
      c.turn-rest.new.lines
  turned = rw c.deref_mut.ensures.value at c.turn-rest.ensures.turned

pub invariant_of-self : goal.invariant_of-self
invariant_of-self g c =
    rw (lines_are g c)
    (record {
      kept = still_kept c.self-2.inside.width c.self-2.inside.height c.args.dst c.args.sx c.args.sy
          c.self-2.inside.lines.items c.turn-rest.new.lines c.self-2.inside.places.items (first g c) (wide g c)
          (from_first g c) (to_fits g c) (from_fits g c) (down_near g c) (up_near g c) c.self-2.invariant.kept
          (turned g c);
      order = λ no. absurd (cc);
    })

pub returns-clause-value : goal.returns-clause-value
returns-clause-value g c =
    rw (c.turn-rest.ensures.rest, lines_are g c.before.before) at c.copy-2.ensures.value
    ∙ turned_copy c.self-2.inside.width c.self-2.inside.height c.args.dst c.args.sx c.args.sy
    c.self-2.inside.lines.items c.turn-rest.new.lines c.self-2.inside.places.items (first g c.before.before)
    (wide g c.before.before)
    (from_first g c.before.before) (to_fits g c.before.before) (from_fits g c.before.before)
    (down_near g c.before.before) (up_near g c.before.before)
    c.self-2.invariant.kept (turned g c.before.before)
    ∙ ap (copied c.args.dst c.args.sx c.args.sy) c.self-2.view_is
