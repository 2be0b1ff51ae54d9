use Rattle.std.proofs.Common.{◌≡◌, ℕ, ◌+◌, List, [], ◌∷◌, ◌++◌, length, ap, sym, subst, ◌∙◌, rules, arith, vec_len}
use Rattle.std.proofs.lemmas.Grind.{common_steps}
use Rattle.std.proofs.Math.Seq.{take-append_seam}
use Rattle.rfb_server.specs.update.Copies.{AppendsCopies, usable_hints}
use Rattle.rfb_server.specs.update.Composed.{IsCounted}
use Rattle.rfb_server.proofs.UpdateLemmas.{enough_kept, updated, about_updated, sent_whole, stayed}
use Rattle.rfb_server.proofs.QuietLemmas.{quiet_nowhere}
use Rattle.rfb_server.proofs.SentCells.{limits_kept}
use Rattle.rfb_server.proofs.session.Session.update_by.Goals.{After-send_cells}
use Rattle.rfb_server.proofs.session.Session.update_by.Goals as goal

pub send_cells-requires-clause-room : goal.send_cells-requires-clause-room
send_cells-requires-clause-room c =
    let s = c.args.self.now in
    let copied = c.send_copies-copies in
    let four : vec_len c.append_within.new.out ≡ vec_len c.args.out.now + 4 =
    c.append_within.ensures.len ∙ ap (λ (xs : List ℕ). vec_len c.args.out.now + length xs)
    (c.as_slice.ensures.value ∙ c.spell.ensures.value) in (
      c.requires.room.0,
      enough_kept s copied.new.self c.requires.room.0 copied.ensures.kept
          copied.ensures.sent.taken.alike c.requires.room.1,
      omega (arith, c.requires.room.2, four, copied.ensures.len, copied.ensures.room, c.append_within.ensures.room),
    )

pub send_cells-requires-clause-limits : goal.send_cells-requires-clause-limits
send_cells-requires-clause-limits c =
    let s = c.args.self.now in
    let copied = c.send_copies-copies in
    let alike = copied.ensures.sent.taken.alike in
    limits_kept s copied.new.self c.args.room.first c.args.room.end copied.ensures.kept (sym alike.columns)
    (sym alike.rows) c.requires.limits

-- the copies were appended to the head of an update
copies : (c : After-send_cells) → AppendsCopies c.args.screen.now (usable_hints c.args.self.now) c.args.self.now
    c.send_copies-copies.new.self (c.args.out.now.items ++ (0 ∷ 0 ∷ 0 ∷ 0 ∷ []))
    c.send_copies-copies.new.out.items
    c.send_copies-copies.result
copies c =
    let copied = c.send_copies-copies in
    let start_is : c.append_within.new.out.items ≡ c.args.out.now.items ++ (0 ∷ 0 ∷ 0 ∷ 0 ∷ []) =
    c.append_within.ensures.items
    ∙ ap (λ (xs : List ℕ). c.args.out.now.items ++ xs) (c.as_slice.ensures.value ∙ c.spell.ensures.value) in
    subst (λ (xs : List ℕ). AppendsCopies c.args.screen.now (usable_hints c.args.self.now) c.args.self.now
    copied.new.self xs copied.new.out.items copied.result) start_is copied.ensures.sent

pub returns : goal.returns
returns c =
    let s = c.args.self.now in
    let before = c.args.out.now.items in
    let copied = c.send_copies-copies in
    let sent = c.send_cells in
    let long : c.len-start.result ≡ length c.args.out.now.items = search rules in
    let counts : IsCounted (length c.args.out.now.items) (copied.result + sent.result)
    sent.new.out.items c.put_count.new.out.items =
    subst (λ (n : ℕ). IsCounted n (copied.result + sent.result) sent.new.out.items c.put_count.new.out.items) long
    c.put_count.ensures.counted in
    record {
      about = about_updated c.args.screen.now copied.new.self sent.new.self c.settle.new.self copied.new.out.items
          sent.new.out.items sent.result copied.ensures.about (copied.ensures.kept.claim ∙ c.requires.unclaimed)
          sent.ensures.about sent.ensures.kept sent.ensures.sent c.settle.ensures;
      composed = updated c.args.screen.now s copied.new.self sent.new.self before copied.new.out.items
          sent.new.out.items copied.result sent.result c.requires.about copied.ensures.about copied.ensures.kept
          sent.ensures.kept (copies (goal.at.returns c).After-send_cells) sent.ensures.sent
          c.settle.new.self c.put_count.new.out.items c.if-count-eq0.false counts c.settle.ensures c.requires.ready;
      idle = tt;
      room = c.put_count.ensures.room ∙ (sent.ensures.room ∙ (copied.ensures.room ∙ c.append_within.ensures.room));
    }

pub returns-then-count-eq0-clause-idle : goal.returns-then-count-eq0-clause-idle
returns-then-count-eq0-clause-idle c =
    let s = c.args.self.now in
    let copied = c.send_copies-copies in
    let sent = c.send_cells in
    let moved = copies (goal.at.returns-then-count-eq0-clause-idle c).After-send_cells in
    let long : c.len-start.result ≡ length c.args.out.now.items = search rules in
    let whole : sent.new.out.items
    ≡ c.args.out.now.items ++ (0 ∷ 0 ∷ 0 ∷ 0 ∷ (moved.bytes ++ sent.ensures.sent.bytes)) =
    sent_whole c.args.screen.now s copied.new.self sent.new.self c.args.out.now.items copied.new.out.items
    sent.new.out.items copied.result sent.result c.requires.about copied.ensures.about copied.ensures.kept
    sent.ensures.kept moved sent.ensures.sent in
    let same : c.truncate.new.self.items ≡ c.args.out.now.items = c.truncate.ensures.items ∙ (rw (long, whole)
    (take-append_seam c.args.out.now.items (0 ∷ 0 ∷ 0 ∷ 0 ∷ (moved.bytes ++ sent.ensures.sent.bytes)))) in
    stayed c.args.screen.now s copied.new.self sent.new.self c.args.out.now.items copied.new.out.items
    sent.new.out.items copied.result sent.result c.requires.about copied.ensures.about copied.ensures.kept
    sent.ensures.kept moved sent.ensures.sent
    c.truncate.new.self.items c.if-count-eq0.true same

pub put_count-requires : goal.put_count-requires
put_count-requires c = grind (arith, common_steps)

pub send_copies-copies-requires-clause-quiet : goal.send_copies-copies-requires-clause-quiet
send_copies-copies-requires-clause-quiet c = let s = c.args.self.now in
    quiet_nowhere c.args.screen.now s.known s.area s.format
