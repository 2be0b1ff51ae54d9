use Rattle.std.proofs.lemmas.List.{length-set}
use Rattle.rfb_picture.specs.layout.Cells.{word_places}
use Rattle.rfb_picture.proofs.OneWordLemmas.{plane-word_cleared}
use Rattle.rfb_picture.proofs.SpanLemmas.{within-cleared}
use Rattle.rfb_picture.proofs.plane.Plane.clear_word.Goals as goal

pub returns-clause-value : goal.returns-clause-value
returns-clause-value c =
    let column = rw (← c.self.view_is) at c.requires.column in
    let row = rw (← c.self.view_is) at c.requires.row in
    rw (c.from.ensures, c.from-2.ensures, ← c.self.view_is)
    (plane-word_cleared c.self.inside.width c.self.inside.height c.self.inside.across
    c.self.inside.words.items.items c.args.column c.args.y c.self.invariant.sound column row)

pub invariant_of-self : goal.invariant_of-self
invariant_of-self c =
    let column = rw (← c.self.view_is) at c.requires.column in
    let row = rw (← c.self.view_is) at c.requires.row in
    let sound = c.self.invariant.sound in
    rw (c.from.ensures, c.from-2.ensures)
    (record {
      sound = record {
        narrow = sound.narrow;
        low = sound.low;
        room = sound.room;
        least = sound.least;
        size = rw length-set sound.size;
      };
      low = c.self.invariant.low;
      within = within-cleared c.self.inside.width c.self.inside.height c.self.inside.across
          c.self.inside.words.items.items _ c.self.inside.first c.self.inside.last
          (word_places c.args.column c.args.y)
          (plane-word_cleared c.self.inside.width c.self.inside.height c.self.inside.across
          c.self.inside.words.items.items c.args.column c.args.y sound column row)
          c.self.invariant.within;
    })
