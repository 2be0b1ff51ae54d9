use Rattle.std.proofs.Common.{◌≡◌, ◌∙◌, ℕ, ◌+◌, List, [], ◌-◌, ◌<◌, length, take}
use Rattle.std.proofs.Common.{drop, ap, refl, subst, arith}
use Rattle.std.proofs.Common.{length-drop, rules}
use Rattle.std.proofs.lemmas.List.{take_rest}
use Rattle.std.proofs.lemmas.Bool.Decides.{nat_tests}
use Rattle.rfb_codec.specs.declared.painter.stage.Stage.TheVariants.{InTiles}
use Rattle.rfb_codec.specs.Hextile.{tile_count, tile_width, tile_height}
use Rattle.rfb_codec.specs.decoder.Step.{IsPaintable, Breaks, Takes}
use Rattle.rfb_codec.specs.decoder.TileRead.{tile_of_read}
use Rattle.rfb_codec.proofs.FeedLemmas.{takes_later, breaks_later}
use Rattle.rfb_codec.proofs.FrontLemmas.{no_items, some_places, takes_on}
use Rattle.rfb_codec.proofs.TakeTileLemmas.{front_goes_on, front_sound, front_some, tile_goes_on, tile_taken}
use Rattle.rfb_codec.proofs.TileRefusalLemmas.{slice_refused}
use Rattle.rfb_codec.proofs.hextile.paint.take.take_whole.Goals as goal

pub returns-in-Err : goal.returns-in-Err
returns-in-Err c =
    let l = c.tiles in
    let r = c.args.rectangle.now in
    let below : l.tile < tile_count r.rect.w r.rect.h =
    omega (arith, c.tiles-test.true, c.tile_count-count.ensures.value) in
    let slice = take (length c.args.bytes.now - l.used) (drop l.used c.args.bytes.now) in
    let one : Breaks r (InTiles l.tile l.now) [] l.picture slice c.in-Err.flaw l.pending.items l.picture = record {
      some = c.in-Err.ensures.with.some;
      within = c.in-Err.ensures.with.within;
      stops = λ before body stands.
          slice_refused r.format r.rect l.tile l.now [] slice c.in-Err.flaw l.picture before body below refl
          c.in-Err.ensures.told c.in-Err.ensures.with stands;
      emptied = l.invariant.none;
      width = refl;
      height = refl;
    } in
    breaks_later r (InTiles c.args.first c.args.seen) [] c.args.picture.now (InTiles l.tile l.now) []
    l.pending.items l.picture l.picture l.used c.args.bytes.now slice c.in-Err.flaw
    (take_rest c.args.bytes.now l.used) l.invariant.reaches one

pub returns-in-Ok-None : goal.returns-in-Ok-None
returns-in-Ok-None c =
    let l = c.tiles in
    let r = c.args.rectangle.now in
    let place : IsPaintable l.picture r.rect = search rules in
    let step = c.take_front-step.result in
    let rest = c.take_front-step.new.pending.items in
    let front = c.take_front-step.ensures in
    let below : l.tile < tile_count r.rect.w r.rect.h =
    omega (arith, c.tiles-test.true, c.tile_count-count.ensures.value) in
    let rows = c.read_next.ensures.rows in
    let columns = c.read_next.ensures.columns in
    let places = some_places (tile_height r.rect.w r.rect.h l.tile) (tile_width r.rect.w l.tile) rows columns in
    let slice = take (length c.args.bytes.now - l.used) (drop l.used c.args.bytes.now) in
    let left : length slice ≡ length c.args.bytes.now - l.used =
    ap length (take_rest c.args.bytes.now l.used) ∙ length-drop l.used c.args.bytes.now in
    let begun : 0 < length slice = omega (arith, left, c.if-used-bytes.true) in
    let told = rw c.in-Ok-None.field-0-is at c.in-Ok-None.ensures.told in
    let short : length slice < 1536 = rw c.in-Ok-None.field-0-is at c.in-Ok-None.ensures.short in
    let none : l.pending.items ≡ [] = no_items l.pending.items l.invariant.none in
    let some = front_some l.tile l.now l.pending.items rest slice step begun front.raw front.other in
    let takes : Takes r (InTiles l.tile l.now) l.pending.items l.picture slice step rest l.picture =
    takes_on some.0 some.1 (front_sound r.format r.rect l.tile l.now l.pending.items rest slice step below
    columns rows r.some none short front.raw front.other) some.2
    (λ before body stands.
    front_goes_on r.format r.rect l.tile l.now l.pending.items rest slice step l.picture before body
    place.whole below places r.some none begun front.raw front.other told stands)
    refl refl in
    takes_later r (InTiles c.args.first c.args.seen) [] c.args.picture.now (InTiles l.tile l.now) step l.used
    c.args.bytes.now slice [] rest l.picture l.picture (take_rest c.args.bytes.now l.used) l.invariant.reaches
    (subst (λ (ps : List ℕ). Takes r (InTiles l.tile l.now) ps l.picture slice step rest l.picture) none takes)

pub tiles-preserved : goal.tiles-preserved
tiles-preserved c =
    let l = c.tiles in
    let f = c.args.rectangle.now.format in
    let rect = c.args.rectangle.now.rect in
    let read = c.in-Ok-Some.read in
    let next = c.draw_next-now.result in
    let slice = take (length c.args.bytes.now - l.used) (drop l.used c.args.bytes.now) in
    let t = tile_of_read f (tile_width rect.w l.tile) (tile_height rect.w rect.h l.tile) read slice in
    let told = rw c.in-Ok-Some.field-0-is at c.in-Ok-Some.ensures.told in
    let good = rw c.in-Ok-Some.field-0-is at c.in-Ok-Some.ensures.good in
    let end = good.lies.end in
    let some = good.lies.some in
    let below : l.tile < tile_count rect.w rect.h =
    omega (arith, c.tiles-test.true, c.tile_count-count.ensures.value) in
    let one : Takes c.args.rectangle.now (InTiles l.tile l.now) [] l.picture slice
    (record { used = read.used; stage = InTiles (l.tile + 1) next }) [] c.draw_next-now.new.picture =
    takes_on (omega (arith, end, some)) good.lies.within (grind (arith, nat_tests)) refl
    (λ before body stands.
    tile_goes_on f rect l.tile l.now next t [] (take read.used slice) (take read.used slice) [] l.picture
    c.draw_next-now.new.picture before body below refl refl c.draw_next-now.ensures.value
    (λ tiles number sees begins. let here = told tiles number sees in
    tile_taken f rect.w rect.h tiles slice t read.used here.1.within here.0) stands)
    c.draw_next-now.ensures.width c.draw_next-now.ensures.height in
    let all = takes_later c.args.rectangle.now (InTiles c.args.first c.args.seen) [] c.args.picture.now
    (InTiles l.tile l.now) (record { used = read.used; stage = InTiles (l.tile + 1) next }) l.used
    c.args.bytes.now slice [] [] l.picture c.draw_next-now.new.picture (take_rest c.args.bytes.now l.used)
    l.invariant.reaches one in
    record {
      within = all.used;
      none = l.invariant.none;
      begun = λ none. absurd (omega (arith, none, all.some));
      reaches = all.reaches;
    }
