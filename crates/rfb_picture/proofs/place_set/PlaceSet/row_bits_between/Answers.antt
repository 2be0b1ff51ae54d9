use Rattle.std.proofs.Common.{◌≡◌, ◌+◌, ◌*◌, ◌/◌, ◌≤◌, ◌&&◌, ℕ, Bool, nat_le, nat_lt, arith}
use Rattle.std.proofs.lemmas.Bool.Decides.{nat_tests}
use Rattle.rfb_picture.specs.Box.{is_in}
use Rattle.rfb_picture.specs.Places.{has_bit}
use Rattle.rfb_picture.proofs.WordLemmas.{has_bit-and}
use Rattle.rfb_picture.proofs.place_set.PlaceSet.row_bits_between.Goals as goal

narrowed : (x from to width : ℕ) (p : Bool) → to ≤ width →
    ((nat_lt x width && p) && (nat_le from x && nat_lt x to)) ≡ ((nat_le from x && nat_lt x to) && p)
narrowed x from to width p within = grind (arith, nat_tests)

pub returns : goal.returns
returns c = λ i low.
    let x = c.args.from / 64 * 64 + i in
    let mask : has_bit c.columns_between-mask.result i ≡ (nat_le c.args.from x && nat_lt x c.args.to) =
    rw (c.from-2.ensures, c.from-3.ensures, c.from.ensures) at (c.columns_between-mask.ensures i low) in
    rw (has_bit-and, c.row_bits.ensures i low, mask)
    (narrowed x c.args.from c.args.to c.args.self.now.width (is_in c.args.self.now x c.args.y) c.requires.columns)
