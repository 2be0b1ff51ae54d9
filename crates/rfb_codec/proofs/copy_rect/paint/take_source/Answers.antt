use Rattle.std.proofs.Common.{◌≡◌, ◌∙◌, ◌+◌, ◌-◌, ◌++◌, ℕ, length, take, ap, refl, sym, arith}
use Rattle.std.proofs.lemmas.List.{take_rest}
use Rattle.byteorder.specs.Endian.{big_number}
use Rattle.rfb_wire.specs.Fields.{u16_at}
use Rattle.rfb_codec.proofs.TakePartLemmas.{source_refused}
use Rattle.rfb_codec.proofs.copy_rect.paint.take_source.Goals as goal

pub returns-then-not-holds : goal.returns-then-not-holds
returns-then-not-holds c =
    let r = c.args.rectangle.now in
    let bytes = c.args.bytes.now in
    let pending = c.args.pending.now.items in
    let xs = c.as_slice-source.result.now in
    let used = c.gather-used.result in
    let k = used - 1 in
    let last : used ≡ k + 1 = omega arith in
    let is : xs ≡ pending ++ take (k + 1) bytes =
    c.as_slice-source.ensures.value ∙ c.gather-used.ensures.items ∙ ap (λ (n : ℕ). pending ++ take n bytes) last in
    let size : length xs ≡ 4 = ap length c.as_slice-source.ensures.value ∙ omega arith in
    let x_is : u16_at 0 xs ≡ c.read_u16-x.result = sym c.read_u16-x.ensures in
    let y_is : u16_at 2 xs ≡ c.read_u16-y.result = sym (c.read_u16-y.ensures ∙ ap (big_number 2) (take_rest xs 2)) in
    record {
      some = omega (arith, last);
      within = c.gather-used.ensures.used;
      stops = λ before body stands.
          source_refused r.format r.rect pending bytes xs used k c.read_u16-x.result c.read_u16-y.result
          c.args.picture.now before body stands (omega arith) is size x_is y_is
          (λ on. let yes = c.holds.ensures.1 on in cc) last;
      emptied = ap length c.clear.ensures;
      width = refl;
      height = refl;
    }
