use Rattle.std.proofs.Common.{◌≡◌, ◌∙◌, ◌-◌, refl, length, take, drop, ap, arith, length-drop}
use Rattle.std.proofs.lemmas.List.{take_rest}
use Rattle.rfb_codec.proofs.FeedLemmas.{reaches_none, reaches_more, breaks_later}
use Rattle.rfb_codec.proofs.painter.pieces.feed.Goals as goal

pub pieces-init : goal.pieces-init
pieces-init c = record {
  within = omega arith;
  begun = λ _. refl;
  reaches = reaches_none c.args.rectangle.now c.args.stage c.args.pending.now.items c.args.picture.now
      c.args.bytes.now c.requires.sound;
}

pub pieces-preserved : goal.pieces-preserved
pieces-preserved c =
    let bytes = c.args.bytes.now in
    let used = c.pieces.used in
    let step = c.in-Ok.step in
    let takes = c.in-Ok.ensures in
    let slice = take (length bytes - used) (drop used bytes) in
    let left : length slice ≡ length bytes - used = ap length (take_rest bytes used) ∙ length-drop used bytes in
    let within = takes.used in
    record {
      within = omega (arith, left, within);
      begun = λ none. absurd (omega (arith, none, takes.some));
      reaches = reaches_more c.args.rectangle.now c.args.stage c.args.pending.now.items c.args.picture.now c.pieces.now
          step.stage c.pieces.pending.items c.take.new.pending.items c.pieces.picture c.take.new.picture used step.used
          bytes slice (take_rest bytes used) c.pieces.invariant.reaches takes.reaches;
    }

pub returns-in-Err : goal.returns-in-Err
returns-in-Err c =
    let bytes = c.args.bytes.now in
    let used = c.pieces.used in
    let slice = take (length bytes - used) (drop used bytes) in
    breaks_later c.args.rectangle.now c.args.stage c.args.pending.now.items c.args.picture.now c.pieces.now
    c.pieces.pending.items c.take.new.pending.items c.pieces.picture c.take.new.picture used bytes slice
    c.in-Err.flaw (take_rest bytes used) c.pieces.invariant.reaches c.in-Err.ensures
