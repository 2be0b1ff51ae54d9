use Rattle.std.proofs.Common.{◌≡◌, ℕ, ◌+◌, ◌-◌, ◌≤◌, List, ◌++◌, rules, arith, length, take, slice_range, sym, ap, ◌∙◌}
use Rattle.std.proofs.Common.{subst, le_refl, drop_at, length-take-le, take_all}
use Rattle.std.proofs.lemmas.Slice.{take-put_mid_below}
use Rattle.std.specs.Io.KnownBytes.{Consumes}
use Rattle.std.proofs.KnownBytes.{Consumes-trans}
use borrow.Rule.Slice.PartMut.{put_mid, post_of}
use lib.Seq.{take-add, take-append-le}
use Rattle.rfb.proofs.loopback.link.read_whole.Goals as goal

take_split : (a b : ℕ) (old new : List ℕ) → a ≤ b → take a new ≡ take a old →
    take a old ++ slice_range new a b ≡ take b new
take_split a b old new h front =
    let same : a + (b - a) ≡ b = omega arith in
    ap (λ l. l ++ slice_range new a b) (sym front) ∙ sym (take-add a (b - a) new) ∙ ap (λ n. take n new) same

slice_range-put_mid : (a k n : ℕ) (xs ys : List ℕ) → a ≤ length xs → n ≤ length ys →
    slice_range (put_mid a k xs ys) a (a + n) ≡ take n ys
slice_range-put_mid a k n xs ys within fits =
    let same : (a + n) - a ≡ n = omega arith in
    let after = post_of a k xs in
    ap (take ((a + n) - a)) (drop_at (take a xs) (ys ++ after) a (length-take-le a xs within))
    ∙ ap (λ m. take m (ys ++ after)) same ∙ take-append-le n ys after fits

pub returns : goal.returns
returns g c =
    subst (Consumes _ _) (take_all c.loop-done.done c.loop-done.bytes (search rules)) c.loop-done.invariant.came

pub loop-done-preserved : goal.loop-done-preserved
loop-done-preserved g c =
    let l = c.loop-done in
    let room = length l.bytes - l.done in
    let part = slice_range-put_mid l.done room c.in_ok-count.count l.bytes c.read.new.buf l.invariant.within
    c.in_ok-count.ensures.bound.0 in
    let joined = take_split l.done (l.done + c.in_ok-count.count) l.bytes (put_mid l.done room l.bytes c.read.new.buf)
    (omega arith) (take-put_mid_below _ _ _ _ _ (le_refl _) l.invariant.within) in
    record {
      size = search rules;
      within = search rules;
      came = subst (Consumes _ _) (ap (λ b. take l.done l.bytes ++ b) (sym part) ∙ joined)
          (Consumes-trans _ _ _ _ _ l.invariant.came c.in_ok-count.ensures.bytes.0);
    }
