use Rattle.std.proofs.Common.{◌≡◌, ℕ, List, arith, rules, sym, ap, ◌∙◌}
use Rattle.std.specs.Int.{cast_signed, w32}
use Rattle.std.proofs.lemmas.Int.{to_z-of_z}
use Rattle.std.proofs.lemmas.List.{take_rest}
use Rattle.byteorder.specs.Endian.{big_number}
use Rattle.rfb_wire.specs.Encoding.{number_of}
use Rattle.rfb_wire.specs.Fields.{s32_at}
use Rattle.rfb_wire.proofs.RectLemmas.{rect-spelled}
use Rattle.rfb_wire.proofs.rect_head.RectHead.read.Goals as goal

-- the twelve bytes are the head of a rectangle that leaves the screen
pub returns-then-not-is_on_screen-clause-bad : goal.returns-then-not-is_on_screen-clause-bad
returns-then-not-is_on_screen-clause-bad c =
    let at_8 = ap (λ (xs : List ℕ). cast_signed w32 (big_number 4 xs))
    (take_rest c.args.bytes.now 8) in
    let number : s32_at 8 c.args.bytes.now ≡ number_of c.in-Ok.encoding =
    sym at_8 ∙ sym c.read_i32-number.ensures
    ∙ sym (to_z-of_z w32 c.read_i32-number.result (search rules)) ∙ sym c.in-Ok.ensures.0 in
    record {
      head = _;
      spelled = rect-spelled c.read_rect-rect.result c.in-Ok.encoding c.args.bytes.now
          c.if-bytes-lt-HEAD_SIZE.false c.read_rect-rect.ensures number;
      outside = λ on. grind arith;
    }

-- the twelve bytes are the head of a rectangle on the screen
pub returns-clause-got : goal.returns-clause-got
returns-clause-got c =
    let at_8 = ap (λ (xs : List ℕ). cast_signed w32 (big_number 4 xs))
    (take_rest c.args.bytes.now 8) in
    let number : s32_at 8 c.args.bytes.now ≡ number_of c.in-Ok.encoding =
    sym at_8 ∙ sym c.read_i32-number.ensures
    ∙ sym (to_z-of_z w32 c.read_i32-number.result (search rules)) ∙ sym c.in-Ok.ensures.0 in (
      c.if-bytes-lt-HEAD_SIZE.false,
      rect-spelled c.read_rect-rect.result c.in-Ok.encoding c.args.bytes.now
          c.if-bytes-lt-HEAD_SIZE.false c.read_rect-rect.ensures number,
      grind arith,
    )
