use Rattle.std.proofs.Common.{◌≡◌, ◌∙◌, ◌+◌, ◌-◌, ◌<◌, ◌++◌, [], ℕ, length, take, refl, ap, arith}
use Rattle.std.proofs.lemmas.Bool.Decides.{nat_tests}
use Rattle.rfb_pixel.specs.Format.{size_of}
use Rattle.rfb_codec.specs.declared.fault.PaintFault.TheVariants.{SubrectOutside}
use Rattle.rfb_codec.specs.declared.painter.stage.Stage.TheVariants.{InSubrects}
use Rattle.rfb_codec.specs.decoder.Step.{Breaks}
use Rattle.rfb_codec.proofs.FrontLemmas.{no_items, takes_on}
use Rattle.rfb_codec.proofs.TakePartLemmas.{subrect_taken, subrect_refused, subrect_waits}
use Rattle.rfb_codec.proofs.rre.paint.take_subrect.Goals as goal

pub returns-then-bytes-size : goal.returns-then-bytes-size
returns-then-bytes-size c =
    let none : c.args.pending.now.items ≡ [] = no_items c.args.pending.now.items (grind (arith, nat_tests)) in
    rw none c.take_whole.ensures

pub returns-then-len-size : goal.returns-then-len-size
returns-then-len-size c =
    let r = c.args.rectangle.now in
    let rest = c.gather-used.new.pending.items in
    let short : length rest < size_of r.format + 8 = omega (arith, c.size-size.ensures.value) in
    takes_on (omega (arith, c.size-size.ensures.value)) c.gather-used.ensures.used (grind (arith, nat_tests)) refl
    (λ before body stands.
    subrect_waits r.format r.rect c.args.left c.args.pending.now.items
    (take c.gather-used.result c.args.bytes.now) rest c.args.picture.now before body c.requires.left
    c.gather-used.ensures.items short stands)
    refl refl

pub returns-in-Err : goal.returns-in-Err
returns-in-Err c =
    let r = c.args.rectangle.now in
    let bytes = c.args.bytes.now in
    let pending = c.args.pending.now.items in
    let xs = c.as_slice.result.now in
    let used = c.gather-used.result in
    let k = used - 1 in
    let last : used ≡ k + 1 = omega (arith, c.size-size.ensures.value) in
    let is : xs ≡ pending ++ take (k + 1) bytes =
    c.as_slice.ensures.value ∙ c.gather-used.ensures.items ∙ ap (λ (n : ℕ). pending ++ take n bytes) last in
    let whole : length xs ≡ size_of r.format + 8 =
    ap length c.as_slice.ensures.value ∙ omega (arith, c.size-size.ensures.value) in
    let refuses = c.in-Err.ensures in
    let breaks : Breaks r (InSubrects c.args.left) pending c.args.picture.now bytes
    (record { used = used; fault = SubrectOutside }) c.clear.new.self.items c.draw_subrect-drawn.new.picture =
    rw refuses.kept (record {
      some = omega (arith, last);
      within = c.gather-used.ensures.used;
      stops = λ before body stands.
          subrect_refused r.format r.rect c.args.left used k pending bytes xs c.args.picture.now before body
          c.requires.left (omega (arith, c.size-size.ensures.value)) is whole refuses.outside stands last;
      emptied = ap length c.clear.ensures;
      width = refl;
      height = refl;
    }) in
    rw refuses.fault_is breaks

pub returns : goal.returns
returns c =
    let r = c.args.rectangle.now in
    let used = c.gather-used.result in
    let xs = c.as_slice.result.now in
    let whole : length xs ≡ size_of r.format + 8 =
    ap length c.as_slice.ensures.value ∙ omega (arith, c.size-size.ensures.value) in
    let none : length c.clear.new.self.items ≡ 0 = ap length c.clear.ensures in
    let drawn = c.in-Ok.ensures in
    takes_on (omega (arith, c.size-size.ensures.value)) c.gather-used.ensures.used (grind (arith, nat_tests)) refl
    (λ before body stands.
    subrect_taken r.format r.rect c.args.left (c.args.left - 1) c.args.pending.now.items (take used
    c.args.bytes.now) xs c.clear.new.self.items c.args.picture.now c.draw_subrect-drawn.new.picture before
    body c.requires.left refl (c.as_slice.ensures.value ∙ c.gather-used.ensures.items) whole c.clear.ensures
    drawn.inside c.requires.place.whole drawn.value stands)
    drawn.width drawn.height
