use Rattle.std.proofs.Common.{◌≡◌, ◌∙◌, ◌<◌, [], ◌∷◌, ◌++◌, List, ℕ, None, Ok, length, drop, ap, refl, subst, arith}
use Rattle.std.proofs.lemmas.Bool.Decides.{nat_tests}
use Rattle.rfb_codec.specs.Hextile.{tile_width, tile_height}
use Rattle.rfb_codec.specs.decoder.TileRead.{tile_of_read}
use Rattle.rfb_codec.specs.decoder.Step.{TellsNext}
use Rattle.rfb_codec.proofs.TakeTileLemmas.{byte_waits, last_taken, tile_goes_on}
use Rattle.rfb_codec.proofs.TileRefusalLemmas.{byte_refused}
use Rattle.rfb_codec.proofs.FrontLemmas.{takes_on}
use Rattle.rfb_codec.proofs.hextile.paint.take.take_byte.Goals as goal

pub returns-in-Err : goal.returns-in-Err
returns-in-Err c =
    let r = c.args.rectangle.now in
    record {
      some = omega arith;
      within = omega arith;
      stops = λ before body stands.
          byte_refused r.format r.rect c.args.tile c.args.seen c.args.pending.now.items c.as_slice-bytes.result.now
          c.args.byte c.in-Err.flaw c.args.picture.now before body c.requires.below
          (c.as_slice-bytes.ensures.value ∙ c.push.ensures.items) c.in-Err.ensures.told stands;
      emptied = ap length c.clear.ensures;
      width = refl;
      height = refl;
    }

pub returns-in-Ok-Some : goal.returns-in-Ok-Some
returns-in-Ok-Some c =
    let r = c.args.rectangle.now in
    let pending = c.args.pending.now.items in
    let xs = c.as_slice-bytes.result.now in
    let read = c.in-Ok-Some.read in
    let w = tile_width r.rect.w c.args.tile in
    let t = tile_of_read r.format w (tile_height r.rect.w r.rect.h c.args.tile) read xs in
    let told = rw c.in-Ok-Some.field-0-is at c.in-Ok-Some.ensures.told in
    let is : xs ≡ pending ++ c.args.byte ∷ [] = c.as_slice-bytes.ensures.value ∙ c.push.ensures.items in
    let none : length c.clear-in-Ok-Some.new.self.items ≡ 0 = ap length c.clear-in-Ok-Some.ensures in
    takes_on (omega arith) (omega arith) (grind (arith, nat_tests)) refl
    (λ before body stands.
    tile_goes_on r.format r.rect c.args.tile c.args.seen c.draw_next-seen.result t pending (c.args.byte ∷ [])
    xs c.clear-in-Ok-Some.new.self.items c.args.picture.now c.draw_next-seen.new.picture before body
    c.requires.below is c.clear-in-Ok-Some.ensures c.draw_next-seen.ensures.value
    (λ tiles number sees begins. last_taken r.format r.rect.w r.rect.h tiles pending xs c.args.byte t
    (drop read.used xs) begins is (told tiles number sees).0) stands)
    c.draw_next-seen.ensures.width c.draw_next-seen.ensures.height

pub returns-in-Ok-None : goal.returns-in-Ok-None
returns-in-Ok-None c =
    let f = c.args.rectangle.now.format in
    let rect = c.args.rectangle.now.rect in
    let rest = c.push.new.self.items in
    let told = rw c.in-Ok-None.field-0-is at c.in-Ok-None.ensures.told in
    let few = rw c.in-Ok-None.field-0-is at c.in-Ok-None.ensures.short in
    let short : length rest < 1536 = subst (λ (ys : List ℕ). length ys < 1536) c.as_slice-bytes.ensures.value few in
    takes_on (omega arith) (omega arith) (grind (arith, nat_tests)) refl
    (λ before body stands.
    byte_waits f rect c.args.tile c.args.seen c.args.pending.now.items rest c.args.byte c.args.picture.now
    before body c.requires.some c.push.ensures.items
    (subst (λ (ys : List ℕ). TellsNext f rect c.args.tile c.args.seen ys (Ok None))
    c.as_slice-bytes.ensures.value told) stands)
    refl refl
