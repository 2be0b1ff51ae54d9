use Rattle.std.proofs.Common.{◌≡◌, ℕ, Bool, true, false, None, Some, Option, not, refl, subst, arith, ◌+◌}
use Rattle.std.proofs.lemmas.Bool.{OnTrue_from}
use Rattle.std.specs.Option.{is_some}
use Rattle.rfb_picture.specs.declared.rect.Rect.{Rect}
use Rattle.rfb_picture.specs.Grid.{Grid}
use Rattle.rfb_picture.specs.Box.{is_in, HasBox, IsClear}
use Rattle.rfb_picture.proofs.GridLaws.{contains_true}
use Rattle.rfb_server.proofs.RecordLemmas.{width-record_of, height-record_of, at-record_of}
use Rattle.rfb_server.proofs.record.Record.knows_none.Goals as goal

pub bounds_in-requires : goal.bounds_in-requires
bounds_in-requires c =
    let held = rw (← c.self.view_is, width-record_of, height-record_of) at c.requires in (
      rw (c.asked.ensures, c.self.invariant.wide) held.0,
      rw (c.asked.ensures, c.self.invariant.high) held.1,
    )

-- where no rectangle is found there is no place
none_found : (marked : ℕ → ℕ → Bool) (zone : Rect) (found : Option Rect) (is_none : Bool) →
    HasBox marked zone found → is_some found ≡ not is_none → is_none ≡ true →
    IsClear marked zone.x (zone.x + zone.w) zone.y (zone.y + zone.h)
none_found marked zone None is_none clear is e = clear
none_found marked zone (Some r) true box is e = absurd cc
none_found marked zone (Some r) false box is e = absurd cc

pub returns : goal.returns
returns c = OnTrue_from c.is_none.result _ (λ none. λ x y inside.
    let held = rw (← c.self.view_is, width-record_of, height-record_of) at c.requires in
    let (a, b, d, e) = contains_true c.args.rect x y inside in
    let clear = none_found (is_in c.asked.result.now) c.args.rect c.bounds_in.result c.is_none.result
    c.bounds_in.ensures c.is_none.ensures none in
    let unknown : is_in c.self.inside.known.asked x y ≡ false =
    subst (λ (g : Grid Bool). is_in g x y ≡ false) c.asked.ensures (clear x y a b d e) in
    rw (
      ← c.self.view_is,
      at-record_of c.self.inside.pixels c.self.inside.known.asked x y None
          (omega (arith, b, held.0)) (omega (arith, e, held.1)),
      unknown,
    ) refl)
