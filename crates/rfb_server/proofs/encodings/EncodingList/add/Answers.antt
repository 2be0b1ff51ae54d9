use Rattle.std.proofs.Common.{◌≡◌, ◌<◌, false, length, take, sym, ◌∙◌, arith}
use Rattle.std.proofs.lemmas.List.{length-take-le, take_more_set}
use Rattle.rfb_server.specs.Encodings.{is_listed}
use Rattle.rfb_server.proofs.EncodingLemmas.{has_room, once_more}
use Rattle.rfb_server.proofs.encodings.EncodingList.add.Goals as goal

pub bounds-self-inside-self-inside : goal.bounds-self-inside-self-inside
bounds-self-inside-self-inside c =
    let l = c.self.inside in
    let wide : length l.slots ≡ 4 = assumption (c.self.ranges) in
    let none : is_listed c.args.encoding (take l.count l.slots) ≡ false =
    rw (c.self.view_is) (sym c.has.ensures ∙ c.if-not-has.true) in
    let room = has_room c.args.encoding (take l.count l.slots) c.self.invariant.1 none in
    rw (length-take-le l.count l.slots (rw wide c.self.invariant.0)) at room

pub invariant_of-self : goal.invariant_of-self
invariant_of-self c =
    let l = c.self.inside in
    let wide : length l.slots ≡ 4 = assumption (c.self.ranges) in
    let none : is_listed c.args.encoding (take l.count l.slots) ≡ false =
    rw (c.self.view_is) (sym c.has.ensures ∙ c.if-not-has.true) in
    let room = has_room c.args.encoding (take l.count l.slots) c.self.invariant.1 none in
    let below : l.count < 4 = rw (length-take-le l.count l.slots (rw wide c.self.invariant.0)) at room in (
      omega arith,
      λ other. rw (take_more_set l.slots l.count c.args.encoding (rw wide below))
          (once_more c.args.encoding (take l.count l.slots) c.self.invariant.1 none other),
    )

pub returns-then-not-has : goal.returns-then-not-has
returns-then-not-has c =
    let l = c.self.inside in
    let wide : length l.slots ≡ 4 = assumption (c.self.ranges) in
    let none : is_listed c.args.encoding (take l.count l.slots) ≡ false =
    rw (c.self.view_is) (sym c.has.ensures ∙ c.if-not-has.true) in
    let room = has_room c.args.encoding (take l.count l.slots) c.self.invariant.1 none in
    let below : l.count < 4 = rw (length-take-le l.count l.slots (rw wide c.self.invariant.0)) at room in
    rw (sym c.has.ensures ∙ c.if-not-has.true, ← c.self.view_is)
    (take_more_set l.slots l.count c.args.encoding (rw wide below))
