use Rattle.std.proofs.Common.{arith}
use Rattle.rfb.proofs.ServingLemmas.{whole_drawn}
use Rattle.rfb.proofs.serving.still.draw_picture.Goals as goal

pub put_whole-requires : goal.put_whole-requires
put_whole-requires c = record {
  inside = (
    (omega (arith, c.requires.columns), omega (arith, c.requires.rows)),
    rw c.as_slice.ensures.value c.args.pixmap.now.whole,
  );
}

pub returns : goal.returns
returns c = record {
  drawn = whole_drawn c.args.server.now c.put_whole.new.server c.args.pixmap.now.width c.args.pixmap.now.height
      c.args.pixmap.now.places.items
      c.requires.columns c.requires.rows c.args.pixmap.now.whole (rw c.as_slice.ensures.value at c.put_whole.ensures);
}
