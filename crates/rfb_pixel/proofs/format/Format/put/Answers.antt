use Rattle.std.proofs.Common.{◌≡◌, arith}
use Rattle.std.proofs.lemmas.Grind.{common_steps}
use Rattle.rfb_pixel.specs.Format.{pixel_bytes}
use Rattle.rfb_pixel.proofs.FormatLemmas.{one_byte, low_bits}
use Rattle.rfb_pixel.proofs.format.Format.put.Goals as goal

pub returns-in-8-default-clause-value : goal.returns-in-8-default-clause-value
returns-in-8-default-clause-value c =
    one_byte c.args.self.now _ _ (rw (← c.self.view_is) c.in-8-default.is-0) c.requires

pub returns-in-8-default-clause-low_bits : goal.returns-in-8-default-clause-low_bits
returns-in-8-default-clause-low_bits c =
    low_bits c.args.self.now c.args.pixel _
    (one_byte c.args.self.now _ _ (rw (← c.self.view_is) c.in-8-default.is-0) c.requires)

pub returns-in-16-true-clause-low_bits : goal.returns-in-16-true-clause-low_bits
returns-in-16-true-clause-low_bits c =
    let value : c.write_u16.new.buf ≡ pixel_bytes c.args.self.now c.args.pixel =
    grind (arith, common_steps) in
    low_bits c.args.self.now c.args.pixel _ value

pub returns-in-16-false-clause-low_bits : goal.returns-in-16-false-clause-low_bits
returns-in-16-false-clause-low_bits c =
    let value : c.write_u16-in-16-false.new.buf ≡ pixel_bytes c.args.self.now c.args.pixel =
    grind (arith, common_steps) in
    low_bits c.args.self.now c.args.pixel _ value
