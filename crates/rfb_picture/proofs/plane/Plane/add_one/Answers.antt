use Rattle.std.proofs.Common.{◌≡◌, ◌+◌, ◌*◌, ◌/◌, slice_index_or, arith}
use Rattle.std.proofs.lemmas.List.{get_or_read, length-set}
use Rattle.rfb_picture.proofs.PlaneLemmas.{place_word_below}
use Rattle.rfb_picture.proofs.OnePlaceLemmas.{plane-one, within-one}
use Rattle.rfb_picture.proofs.plane.Plane.add_one.Goals as goal

pub returns-clause-value : goal.returns-clause-value
returns-clause-value c =
    let column = rw (← c.self.view_is) at c.requires.column in
    let row = rw (← c.self.view_is) at c.requires.row in
    let within =
    place_word_below _ _ c.self.inside.across _ c.args.x c.args.y c.self.invariant.sound column row in
    let index = c.args.y * c.self.inside.across + c.args.x / 64 in
    let is = rw (c.from.ensures, c.from-2.ensures) at c.index_mut.ensures.value in
    let read : c.index_mut.result.now ≡ slice_index_or c.self.inside.words.items.items index 0 =
    get_or_read c.self.inside.words.items.items index c.index_mut.result.now within is 0 in
    rw (c.from.ensures, c.from-2.ensures, read, ← c.self.view_is)
    (plane-one c.self.inside.width c.self.inside.height c.self.inside.across
    c.self.inside.words.items.items c.args.x c.args.y c.self.invariant.sound column row)

pub invariant_of-self : goal.invariant_of-self
invariant_of-self c =
    let column = rw (← c.self.view_is) at c.requires.column in
    let row = rw (← c.self.view_is) at c.requires.row in
    let sound = c.self.invariant.sound in
    let within =
    place_word_below _ _ c.self.inside.across _ c.args.x c.args.y sound column row in
    let index = c.args.y * c.self.inside.across + c.args.x / 64 in
    let is = rw (c.from.ensures, c.from-2.ensures) at c.index_mut.ensures.value in
    let read : c.index_mut.result.now ≡ slice_index_or c.self.inside.words.items.items index 0 =
    get_or_read c.self.inside.words.items.items index c.index_mut.result.now within is 0 in
    rw (c.from.ensures, c.from-2.ensures, read, c.min-self-inside.ensures, c.max-self-inside.ensures)
    (record {
      sound = record {
        narrow = sound.narrow;
        low = sound.low;
        room = sound.room;
        least = sound.least;
        size = rw length-set sound.size;
      };
      low = let low = c.self.invariant.low in omega arith;
      within = within-one c.self.inside.width c.self.inside.height c.self.inside.across
          c.self.inside.words.items.items _ c.self.inside.first c.self.inside.last c.args.x c.args.y
          (plane-one c.self.inside.width c.self.inside.height c.self.inside.across
          c.self.inside.words.items.items c.args.x c.args.y sound column row)
          c.self.invariant.within;
    })
