use Rattle.std.proofs.Common.{refl}
use Rattle.rfb_session.proofs.OwnerStageLemmas.{pixels_end, pixels_spoil}
use Rattle.rfb_session.proofs.owner.reader.OwnerReader.end_pixels.Goals as goal

pub returns-then-byte-ne-NEWLINE : goal.returns-then-byte-ne-NEWLINE
returns-then-byte-ne-NEWLINE c = record {
  goes = λ text comes. pixels_spoil c.args.pixels c.args.byte c.requires.all c.if-byte-ne-NEWLINE.true
      c.args.self.now.screen text comes;
  known = refl;
}

pub returns : goal.returns
returns c =
    rw c.if-byte-ne-NEWLINE.false (pixels_end _ c.args.pixels _ c.args.self.now c.requires.all
    (λ text begun whole lies. rw (c.into_parts-bytes.ensures.rect, c.into_parts-bytes.ensures.bytes) (
      begun,
      whole,
      lies,
    ))
    c.requires.fresh refl)
