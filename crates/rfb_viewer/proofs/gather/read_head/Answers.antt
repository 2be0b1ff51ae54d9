use Rattle.std.proofs.Common.{◌<◌, length, ap, lit<, arith, length-append}
use Rattle.rfb_viewer.proofs.HeadLemmas.{misses_few}
use Rattle.rfb_viewer.proofs.gather.read_head.Goals as goal

pub push-requires-in-More : goal.push-requires-in-More
push-requires-in-More c =
    let few : length c.as_slice-2.result.now < 8 = misses_few _ _ c.in-More.ensures.more in
    let here = ap length c.as_slice-2.ensures.value in
    let pushed = ap length c.push.ensures.items in
    let joined = ap length c.append.ensures.items in
    let part = ap length c.as_slice.ensures.value in
    let none = ap length c.new-whole.ensures in (
      lit< tt,
      omega (
        arith,
        few,
        here,
        c.push.ensures.len,
        joined,
        part,
        none,
        length-append c.new-whole.result.items c.as_slice.result.now,
      ),
    )
