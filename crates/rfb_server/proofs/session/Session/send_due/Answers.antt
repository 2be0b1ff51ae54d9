use Rattle.std.specs.Vec.{vec_capacity}
use Rattle.std.proofs.Common.{vec_len, ◌*◌, ℕ, List, refl, sym, subst, rules}
use Rattle.rfb_server.specs.update.Composed.{HasComposed}
use Rattle.std.specs.Int.{div_ceil}
use Rattle.rfb_server.specs.Server.{ServerState}
use Rattle.rfb_server.specs.Composition.{IsDue}
use Rattle.rfb_server.specs.update.Sends.{IsEnough}
use Rattle.rfb_server.proofs.CopiedLemmas.{state_same}
use Rattle.rfb_server.proofs.RoomLemmas.{room_within}
use Rattle.rfb_server.proofs.UpdateLemmas.{nothing_due, composed_same}
use Rattle.rfb_server.proofs.session.Session.send_due.Goals as goal

pub returns-then-room-eq0-clause-idle : goal.returns-then-room-eq0-clause-idle
returns-then-room-eq0-clause-idle c = λ e.
    let s = c.mark_hints.new.self in
    let marked = c.mark_hints.ensures in
    let none : IsEnough s (div_ceil s.known.width 64) (div_ceil s.known.width 64 * div_ceil s.known.height 64) 0 =
    subst (λ (n : ℕ). IsEnough s (div_ceil s.known.width 64) (div_ceil s.known.width 64 * div_ceil s.known.height 64) n)
    c.if-room-eq0.true c.room-room.ensures.enough in
    record {
      not_due = λ ready due.
          nothing_due c.args.screen.now s marked.about none
          (subst (λ (t : ServerState). IsDue t) (sym (state_same c.args.screen.now c.args.self.now s marked.same)) due);
      appended = refl;
      same = marked.same;
      hints = marked.hints;
    }

pub returns-in-Ok-clause-composed : goal.returns-in-Ok-clause-composed
returns-in-Ok-clause-composed c = λ did.
    let done : HasComposed c.args.screen.now c.mark_hints.new.self c.update.new.self c.make_room.new.out.items
    c.update.new.out.items = rw did at c.update.ensures.composed in
    composed_same c.args.screen.now c.args.self.now c.mark_hints.new.self c.update.new.self
    c.args.out.now.items c.update.new.out.items
    c.mark_hints.ensures.same c.mark_hints.ensures.hints
    (subst (λ (bytes : List ℕ). HasComposed c.args.screen.now c.mark_hints.new.self c.update.new.self bytes
    c.update.new.out.items) c.make_room.ensures.items done)

pub returns-in-Err-clause-about : goal.returns-in-Err-clause-about
returns-in-Err-clause-about c = c.mark_hints.ensures.about

pub returns-in-Err-clause-due : goal.returns-in-Err-clause-due
returns-in-Err-clause-due c = search rules

pub returns-in-Err-clause-same : goal.returns-in-Err-clause-same
returns-in-Err-clause-same c = c.mark_hints.ensures.same

pub returns-in-Ok-clause-room : goal.returns-in-Ok-clause-room
returns-in-Ok-clause-room c =
    let s = c.mark_hints.new.self in
    let same = c.mark_hints.ensures.same in
    rw c.update.ensures.room
    (room_within (vec_capacity c.args.out.now) (vec_len c.args.out.now) c.usable_hints.result c.room-room.result.bytes _
    (vec_capacity c.make_room.new.out)
    c.usable_hints.ensures.few (rw (same.known, same.setting.format, same.area) at c.room-room.ensures.most)
    c.make_room.ensures.most)
