use Rattle.std.proofs.Common.{◌≡◌, ◌≤◌, ◌+◌, ◌*◌, ◌++◌, ◌∙◌}
use Rattle.std.proofs.Common.{List, ℕ, arith, refl, ap, sym, drop}
use Rattle.std.proofs.Math.Nat.{mul-le-mul_right}
use Rattle.rfb_pixel.specs.Format.{size_of}
use Rattle.rfb_picture.specs.Grid.{with_row}
use Rattle.rfb_server.proofs.RawSentLemmas.{fronts, none_sent, row_sent, rows_sent}
use Rattle.rfb_server.proofs.record.sending.send_rows.Goals as goal

pub loop-line-init : goal.loop-line-init
loop-line-init c = record {
  sent = none_sent c.args.format.now c.args.screen.now c.args.rect c.args.pixels.now c.args.out.now.items
      c.requires.whole;
  len = omega arith;
  room = refl;
}

pub append_within-requires : goal.append_within-requires
append_within-requires c =
    let f = c.args.format.now in
    let line = c.args.rect.w * size_of f in
    let below : (c.loop-line.line + 1) * line ≤ c.args.rect.h * line =
    mul-le-mul_right line (omega (arith, c.loop-line-test.true)) in
    let front = fronts f c.from-columns.result c.size.result c.pack_row.new.pixels
    (drop c.from-columns.result c.loop-line.row) c.put_pixels.new.bytes
    (drop (c.from-columns.result * c.size.result) c.loop-line.bytes) c.row.result.now
    (c.row.ensures.len ∙ sym c.from-columns.ensures) c.pack_row.ensures.value c.size.ensures.value
    c.put_pixels.ensures in
    let len = rw (c.from-columns.ensures, c.size.ensures.value) at c.loop-line.invariant.len in
    rw (front.bytes_are, front.many, c.from-columns.ensures, c.size.ensures.value)
    (omega (arith, below, len, c.loop-line.invariant.room, c.requires.room))

pub loop-line-preserved : goal.loop-line-preserved
loop-line-preserved c =
    let f = c.args.format.now in
    let front = fronts f c.from-columns.result c.size.result c.pack_row.new.pixels
    (drop c.from-columns.result c.loop-line.row) c.put_pixels.new.bytes
    (drop (c.from-columns.result * c.size.result) c.loop-line.bytes) c.row.result.now
    (c.row.ensures.len ∙ sym c.from-columns.ensures) c.pack_row.ensures.value c.size.ensures.value
    c.put_pixels.ensures in
    let put = c.put_row.ensures.value
    ∙ ap (λ (row : List ℕ). with_row c.args.rect.x (c.args.rect.y + c.loop-line.line) row c.loop-line.pixels)
    front.row_is in
    let more = c.append_within.ensures.items
    ∙ ap (λ (bytes : List ℕ). c.loop-line.out.items ++ bytes) front.bytes_are in
    let len = rw (front.bytes_are, front.many) at c.append_within.ensures.len in
    record {
      sent = rw put (row_sent f c.args.screen.now c.args.rect c.loop-line.line c.args.pixels.now c.loop-line.pixels
          c.args.out.now.items c.loop-line.out.items c.append_within.new.out.items c.pack_row.new.pixels
          c.row.result.now c.row.ensures.len c.row.ensures.value c.pack_row.ensures.value c.pack_row.ensures.bound
          more c.loop-line.invariant.sent);
      len = omega (arith, len, c.loop-line.invariant.len);
      room = c.append_within.ensures.room ∙ c.loop-line.invariant.room;
    }

pub returns-clause-sent : goal.returns-clause-sent
returns-clause-sent c =
    let all : c.loop-line.line ≡ c.args.rect.h = omega arith in
    rows_sent c.args.format.now c.args.screen.now c.args.rect c.args.pixels.now c.loop-line.pixels
    c.args.out.now.items c.loop-line.out.items (rw all at c.loop-line.invariant.sent)
