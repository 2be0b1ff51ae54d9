use Rattle.std.proofs.Common.{arith}
use Rattle.rfb_session.proofs.NearLemmas.{far_left, is_first_far}
use Rattle.rfb_session.proofs.drive.near.compare_rows.Goals as goal

pub returns-then-not-is_near : goal.returns-then-not-is_near
returns-then-not-is_near c =
    let a = c.args.row.now in
    let b = c.args.expected.now in (
      is_first_far c.args.within a b c.loop-place.place (record { r = 0; g = 0; b = 0 }) c.is_near.result c.requires
          (omega arith) c.is_near.ensures c.if-not-is_near.true c.loop-place.invariant,
      far_left c.args.within c.count_far.result a b c.loop-place.place c.requires (omega arith)
          c.count_far.ensures.value c.loop-place.invariant,
    )
