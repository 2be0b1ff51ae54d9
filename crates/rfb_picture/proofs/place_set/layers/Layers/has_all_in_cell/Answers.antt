use Rattle.std.proofs.Common.{◌≡◌, ◌/◌, true, false, sym, ◌∙◌, arith}
use Rattle.rfb_picture.specs.Box.{is_in}
use Rattle.rfb_picture.proofs.CoverLemmas.{all_marked}
use Rattle.rfb_picture.proofs.place_set.layers.Layers.has_all_in_cell.Goals as goal

pub returns-then-has-2 : goal.returns-then-has-2
returns-then-has-2 c =
    let l = c.args.self.now in
    let z = c.args.zone in
    let full : is_in l.full (z.x / 64) (z.y / 64) ≡ false = sym c.has.ensures ∙ c.if-has.false in
    let used : is_in l.used (z.x / 64) (z.y / 64) ≡ true = sym c.has-2.ensures ∙ c.if-has-2.true in
    let same = all_marked l z c.requires.column c.requires.row full used in (
      λ yes x y inside. same x y inside ∙ c.has_all.ensures.0 yes x y inside,
      λ all. c.has_all.ensures.1 (λ x y inside. sym (same x y inside) ∙ all x y inside),
    )

pub returns-then-zone-eq0 : goal.returns-then-zone-eq0
returns-then-zone-eq0 c = grind arith
