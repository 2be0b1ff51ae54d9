use Rattle.std.proofs.Common.{◌≡◌, ℕ, ◌+◌, ◌-◌, ◌≤◌, List, ◌++◌, rules, length, take, sym, ap, ◌∙◌, subst}
use Rattle.std.proofs.Common.{length-take-le}
use Rattle.std.proofs.Math.Seq.{take-append-add}
use Rattle.std.specs.Io.KnownBytes.{Consumes}
use Rattle.std.proofs.KnownBytes.{Consumes-trans}
use borrow.Rule.Slice.PartMut.{put_mid, post_of}
use lib.Seq.{take-append-le}
use Rattle.rfb_session.proofs.netpbm.input.read_up_to.Goals as goal

-- what a buffer begins with, once more was put after its front
take_put : (a k n : ℕ) (xs ys : List ℕ) → a ≤ length xs → n ≤ length ys →
    take a xs ++ take n ys ≡ take (a + n) (put_mid a k xs ys)
take_put a k n xs ys within fits =
    let after = post_of a k xs in
    ap (λ (l : List ℕ). take a xs ++ l) (sym (take-append-le n ys after fits))
    ∙ sym (take-append-add (take a xs) (ys ++ after) n)
    ∙ ap (λ (m : ℕ). take (m + n) (take a xs ++ (ys ++ after))) (length-take-le a xs within)

pub loop-count-preserved : goal.loop-count-preserved
loop-count-preserved g c =
    let l = c.loop-count in
    let joined = take_put l.count (length l.buffer - l.count) c.in_ok-read.read l.buffer c.read.new.buf
    l.invariant.inside c.in_ok-read.ensures.bound.0 in
    record {
      inside = search rules;
      size = search rules;
      came = subst (Consumes _ _) joined
          (Consumes-trans _ _ _ _ _ l.invariant.came c.in_ok-read.ensures.bytes.0);
    }
