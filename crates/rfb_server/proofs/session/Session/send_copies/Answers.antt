use Rattle.std.proofs.Common.{rules, ◌≡◌, ◌<◌, ◌≤◌, Bool, true, false, slice_get, Some, None, sym, refl}
use Rattle.std.proofs.Common.{arith, ◌∙◌}
use Rattle.rfb_server.specs.update.Copies.{usable_hints}
use mir.Val.{bool_byte}
use Rattle.rfb_server.proofs.KeptLemmas.{kept_then}
use Rattle.rfb_server.proofs.CopiedLemmas.{copies_begin, copies_go_on, listed_usable}
use Rattle.rfb_server.proofs.LedOnLemmas.{used_claimed}
use Rattle.rfb_server.proofs.UselessLemmas.{none_useless, left_useless}
use Rattle.rfb_server.proofs.UnclaimedLemmas.{claimed_still, followed, left_known}
use Rattle.rfb_server.proofs.session.Session.send_copies.Goals.{then-sent, else-sent, then-sent-2, else-sent-2}
use Rattle.rfb_server.proofs.session.Session.send_copies.Goals as goal

at_most : (b : Bool) → bool_byte b ≤ 1
at_most true = omega arith
at_most false = omega arith

pub loop-index-init : goal.loop-index-init
loop-index-init c = record {
  kept = search rules;
  about = c.requires.about;
  unclaimed = c.requires.unclaimed;
  claimed = c.requires.claimed;
  useless = none_useless c.args.screen.now c.args.self.now None refl;
  quiet = c.requires.quiet;
  sent = copies_begin c.args.screen.now c.args.self.now c.args.out.now.items;
  few = omega arith;
  capacity = refl;
  space = omega arith;
}

pub loop-index-preserved : goal.loop-index-preserved
loop-index-preserved c =
    let s = c.args.self.now in
    let l = c.loop-index in
    let hint = c.in-Some.hint.now in
    let below : l.index < usable_hints s = omega (arith, c.usable_hints-index-end.ensures.value) in
    let here : slice_get l.self.hints.items l.index ≡ Some hint = sym c.in-Some.ensures in
    let this : slice_get s.hints.items l.index ≡ Some hint = rw (← l.invariant.kept.hints) here in
    let taken = followed c.args.screen.now hint l.self c.send_copy-sent.new.self c.send_copy-sent.result _ _
    c.send_copy-sent.ensures.sent in
    record {
      kept = kept_then s l.self c.send_copy-sent.new.self l.invariant.kept c.send_copy-sent.ensures.kept;
      about = c.send_copy-sent.ensures.about;
      unclaimed = c.send_copy-sent.ensures.kept.claim ∙ l.invariant.unclaimed;
      claimed = elim c.if-sent.branch [
        | then-sent w ↦ rw (w.claim-is)
            (used_claimed c.args.screen.now hint l.self c.send_copy-sent.new.self c.send_copy-sent.result
            l.claim w.led_on-claim.result w.if-sent.true l.invariant.about taken
            c.send_copy-sent.ensures.kept.setting.format l.invariant.claimed w.led_on-claim.ensures)
        | else-sent w ↦ claimed_still c.args.screen.now l.self c.send_copy-sent.new.self l.claim c.if-sent.claim
            w.claim-is (left_known c.args.screen.now hint l.self c.send_copy-sent.new.self c.send_copy-sent.result
            w.if-sent.false taken) c.send_copy-sent.ensures.kept.setting.format l.invariant.claimed
      ];
      useless = elim c.if-sent-2.branch [
        | then-sent-2 w ↦ none_useless c.args.screen.now c.send_copy-sent.new.self c.if-sent-2.useless w.useless-is
        | else-sent-2 w ↦ left_useless c.args.screen.now hint l.self c.send_copy-sent.new.self c.send_copy-sent.result
            _ _ c.if-sent-2.useless w.useless-is w.if-sent-2.false c.send_copy-sent.ensures.sent
            c.send_copy-sent.ensures.kept
      ];
      quiet = c.send_copy-sent.ensures.quiet;
      sent = rw (c.from-count.ensures)
          (copies_go_on c.args.screen.now s l.self c.send_copy-sent.new.self c.args.out.now.items l.out.items
          c.send_copy-sent.new.out.items l.index l.count hint
          c.requires.about l.invariant.kept (listed_usable s l.index below) this
          (c.requires.marked l.index hint below this) l.invariant.sent
          c.send_copy-sent.result c.send_copy-sent.ensures.sent);
      few = rw (c.from-count.ensures) (omega (arith, at_most c.send_copy-sent.result, l.invariant.few));
      capacity = c.send_copy-sent.ensures.room ∙ l.invariant.capacity;
      space = omega (arith, c.send_copy-sent.ensures.len, l.invariant.space);
    }
