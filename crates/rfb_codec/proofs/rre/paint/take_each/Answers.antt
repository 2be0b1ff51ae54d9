use Rattle.std.proofs.Common.{◌≡◌, ◌∙◌, ◌+◌, ◌-◌, ◌++◌, [], ℕ, length, take, drop, refl, ap, arith, rules}
use Rattle.std.proofs.Common.{length-take-le, length-drop}
use Rattle.std.proofs.lemmas.Bool.Decides.{nat_tests}
use Rattle.rfb_pixel.specs.Format.{size_of}
use Rattle.rfb_codec.specs.declared.fault.PaintFault.TheVariants.{SubrectOutside}
use Rattle.rfb_codec.specs.declared.painter.stage.Stage.TheVariants.{InSubrects}
use Rattle.rfb_codec.specs.decoder.Step.{IsPaintable, Reaches, Breaks}
use Rattle.rfb_codec.proofs.FeedLemmas.{reaches_none, reaches_more, breaks_later}
use Rattle.rfb_codec.proofs.TakePartLemmas.{subrect_taken, subrect_refused}
use Rattle.rfb_codec.proofs.rre.paint.take_each.Goals as goal

pub parts-init : goal.parts-init
parts-init c = record {
  within = omega arith;
  first = λ e. refl;
  reaches = reaches_none c.args.rectangle.now (InSubrects c.args.left) [] c.args.picture.now
      c.args.bytes.now (grind (arith, nat_tests));
}

pub parts-preserved : goal.parts-preserved
parts-preserved c =
    let r = c.args.rectangle.now in
    let bytes = c.args.bytes.now in
    let used = c.parts.used in
    let rest = c.parts.rest in
    let size = c.size-length.result + 8 in
    let part = take (used + size - used) (drop used bytes) in
    let more = take size (drop used bytes) in
    let is : part ≡ [] ++ more = ap (λ (n : ℕ). take n (drop used bytes)) (omega arith) in
    let left : length (drop used bytes) ≡ length bytes - used = length-drop used bytes in
    let whole : length part ≡ size_of r.format + 8 = ap length is
    ∙ length-take-le size (drop used bytes) (omega (arith, left)) ∙ omega (arith, c.size-length.ensures.value) in
    let place : IsPaintable c.parts.picture r.rect = search rules in
    let drawn = c.in-Ok.ensures in
    let one : Reaches r (InSubrects rest) [] c.parts.picture more (InSubrects (rest - 1)) []
    c.draw_subrect.new.picture = record {
      sound = grind (arith, nat_tests);
      same = refl;
      goes_on = λ before body stands.
          subrect_taken r.format r.rect rest (rest - 1) [] more part [] c.parts.picture c.draw_subrect.new.picture
          before body (omega arith) refl is whole refl drawn.inside place.whole drawn.value stands;
      width = drawn.width;
      height = drawn.height;
    } in
    record {
      within = omega arith;
      first = λ e. absurd (omega arith);
      reaches = reaches_more r (InSubrects c.args.left) [] c.args.picture.now (InSubrects rest) (InSubrects (rest - 1))
          [] [] c.parts.picture c.draw_subrect.new.picture used size bytes (drop used bytes) refl
          c.parts.invariant.reaches one;
    }

pub returns-in-Err : goal.returns-in-Err
returns-in-Err c =
    let r = c.args.rectangle.now in
    let bytes = c.args.bytes.now in
    let used = c.parts.used in
    let rest = c.parts.rest in
    let size = c.size-length.result + 8 in
    let k = c.size-length.result + 7 in
    let part = take (used + size - used) (drop used bytes) in
    let left : length (drop used bytes) ≡ length bytes - used = length-drop used bytes in
    let is : part ≡ [] ++ take (k + 1) (drop used bytes) = ap (λ (n : ℕ). take n (drop used bytes)) (omega arith) in
    let whole : length part ≡ size_of r.format + 8 = ap length is
    ∙ length-take-le (k + 1) (drop used bytes) (omega (arith, left)) ∙ omega (arith, c.size-length.ensures.value) in
    let refuses = c.in-Err.ensures in
    let one : Breaks r (InSubrects rest) [] c.parts.picture (drop used bytes)
    (record { used = size; fault = SubrectOutside }) [] c.draw_subrect.new.picture = rw refuses.kept (record {
      some = omega arith;
      within = omega (arith, left);
      stops = λ before body stands.
          subrect_refused r.format r.rect rest size k [] (drop used bytes) part c.parts.picture before body
          (omega arith) (omega (arith, left)) is whole refuses.outside stands (omega arith);
      emptied = refl;
      width = refl;
      height = refl;
    }) in
    let breaks = breaks_later r (InSubrects c.args.left) [] c.args.picture.now
    (InSubrects rest) [] [] c.parts.picture c.draw_subrect.new.picture used bytes (drop used bytes)
    (record { used = size; fault = SubrectOutside }) refl c.parts.invariant.reaches one in
    rw refuses.fault_is breaks
