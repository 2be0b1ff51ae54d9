use Rattle.std.proofs.Common.{sym}
use Rattle.rfb_codec.proofs.TileLengthLemmas.{length-spelled_raw, length-spelled_plain, length-spelled_colored}
use Rattle.rfb_codec.proofs.hextile.encode.spelling.spelled_length.Goals as goal

pub returns-in-Raw-clause-value : goal.returns-in-Raw-clause-value
returns-in-Raw-clause-value c = rw (c.in-Raw.is, c.size-size.ensures.value)
    (sym (length-spelled_raw c.args.format.now c.args.pixels.now c.args.subs.now.items))

pub returns-in-Plain-clause-value : goal.returns-in-Plain-clause-value
returns-in-Plain-clause-value c =
    rw (
      c.in-Plain.is,
      c.colour_length.ensures.value,
      c.colour_length-in-Plain.ensures.value,
      c.list_length.ensures.value,
    )
    (sym (length-spelled_plain c.args.format.now c.in-Plain.background c.in-Plain.foreground
    c.args.pixels.now c.args.subs.now.items))

pub returns-in-Colored-clause-value : goal.returns-in-Colored-clause-value
returns-in-Colored-clause-value c =
    rw (
      c.in-Colored.is,
      c.colour_length-in-Colored.ensures.value,
      c.list_length-in-Colored.ensures.value,
      c.size-size.ensures.value,
    )
    (sym (length-spelled_colored c.args.format.now c.in-Colored.background c.args.pixels.now c.args.subs.now.items))
