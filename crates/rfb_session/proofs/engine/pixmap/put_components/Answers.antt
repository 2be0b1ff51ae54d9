use Rattle.std.proofs.Common.{◌≡◌, ◌∙◌, ◌+◌, ◌-◌, ℕ, sym, ap, take, drop, arith, rules}
use Rattle.std.proofs.lemmas.Slice.{overwrites}
use Rattle.rfb_session.specs.Pixmap.{components}
use Rattle.rfb_session.proofs.PixmapLemmas.{components_nil, put_more, one_taken}
use Rattle.rfb_session.proofs.engine.pixmap.put_components.Goals as goal

pub loop-start-init : goal.loop-start-init
loop-start-init c = record {
  within = omega arith;
  len = c.requires;
  put = sym components_nil;
}

pub loop-start-preserved : goal.loop-start-preserved
loop-start-preserved c =
    let l = c.loop-start in
    let eight : l.start + 8 - l.start ≡ 8 = omega arith in
    record {
      within = omega arith;
      len = search (rules, overwrites);
      put = put_more c.args.colours.now l.bytes _ l.start 8 _ (omega arith) (omega arith) l.invariant.put
          (c.put_piece.ensures
          ∙ ap (λ (n : ℕ). components (take n (drop l.start c.args.colours.now))) eight);
    }

pub loop-place-preserved : goal.loop-place-preserved
loop-place-preserved c =
    let l = c.loop-place in
    record {
      len = search (rules, overwrites);
      put = put_more c.args.colours.now l.bytes _ l.place 1 _ (omega arith) (omega arith) l.invariant.put
          (c.copy_from_slice.ensures.after ∙ c.bytes_of.ensures
          ∙ ap components (one_taken c.args.colours.now l.place _ (omega arith)));
    }
