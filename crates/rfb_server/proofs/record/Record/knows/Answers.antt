use Rattle.std.proofs.Common.{◌≡◌, Bool, true, None, subst, sym, arith, refl}
use Rattle.std.proofs.lemmas.Bool.{both_ways}
use Rattle.rfb_picture.specs.Grid.{Grid}
use Rattle.rfb_picture.specs.Box.{is_in}
use Rattle.rfb_picture.specs.Places.{AllMarked}
use Rattle.rfb_picture.specs.Grid.{at_or}
use Rattle.rfb_picture.proofs.GridLaws.{contains_true}
use Rattle.rfb_server.proofs.RecordLemmas.{width-record_of, height-record_of, at-record_of, known_in}
use Rattle.rfb_server.proofs.record.Record.knows.Goals as goal

pub has_all-requires : goal.has_all-requires
has_all-requires c =
    let held = rw (← c.self.view_is, width-record_of, height-record_of) at c.requires in (
      rw (c.asked.ensures, c.self.invariant.wide) held.0,
      rw (c.asked.ensures, c.self.invariant.high) held.1,
    )

pub returns-clause-known : goal.returns-clause-known
returns-clause-known c = λ x y inside.
    let held = rw (← c.self.view_is, width-record_of, height-record_of) at c.requires in
    let (a, b, d, e) = contains_true c.args.rect x y inside in
    let all : AllMarked (is_in c.self.inside.known.asked) c.args.rect = subst (λ (g : Grid Bool). AllMarked (is_in g)
    c.args.rect) c.asked.ensures (c.has_all.ensures.0 c.if-not-has_all.false) in
    let known : is_in c.self.inside.known.asked x y ≡ true = all x y inside in (
      at_or c.self.inside.pixels x y 0,
      rw (
        ← c.self.view_is,
        at-record_of c.self.inside.pixels c.self.inside.known.asked x y None
            (omega (arith, held.0)) (omega (arith, held.1)),
        known,
      ) refl,
    )

pub returns-then-not-has_all-clause-unknown : goal.returns-then-not-has_all-clause-unknown
returns-then-not-has_all-clause-unknown c = λ are.
    let held = rw (← c.self.view_is, width-record_of, height-record_of) at c.requires in
    let all : AllMarked (is_in c.self.inside.known.asked) c.args.rect = λ x y inside.
    let (a, b, d, e) = contains_true c.args.rect x y inside in
    let (pixel, there) = are x y inside in
    known_in c.self.inside.pixels c.self.inside.known.asked x y pixel (omega (arith, held.0)) (omega (arith, held.1))
    (rw (c.self.view_is) there)
    in
    both_ways c.has_all.result c.if-not-has_all.true
    (c.has_all.ensures.1 (subst (λ (g : Grid Bool). AllMarked (is_in g) c.args.rect) (sym c.asked.ensures) all))
