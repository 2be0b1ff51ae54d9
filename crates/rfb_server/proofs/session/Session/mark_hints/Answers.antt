use Rattle.std.proofs.Common.{rules, ◌≡◌, slice_get, Some, inl, inr, refl, subst, arith, ◌∙◌}
use Rattle.std.proofs.lemmas.Bool.{cases_eq}
use Rattle.circular_buffer.specs.Buffer.{Buffer}
use Rattle.rfb_server.specs.declared.hint.Hint.{Hint}
use Rattle.rfb_server.proofs.KeptLemmas.{same_then}
use Rattle.rfb_server.proofs.CopiedLemmas.{marked_on}
use Rattle.rfb_server.proofs.session.Session.mark_hints.Goals as goal

pub loop-index-init : goal.loop-index-init
loop-index-init c = record {
  about = c.requires;
  same = search rules;
  hints = refl;
  marked = λ index hint l this. absurd (omega (arith, l));
}

pub loop-index-preserved : goal.loop-index-preserved
loop-index-preserved c =
    let l = c.loop-index in
    record {
      about = c.mark_hint.ensures.about;
      same = same_then c.args.self.now l.self c.mark_hint.new.self l.invariant.same c.mark_hint.ensures.same;
      hints = c.mark_hint.ensures.hints ∙ l.invariant.hints;
      marked = λ index hint below this.
          let was : slice_get l.self.hints.items index ≡ Some hint =
          subst (λ (b : Buffer Hint). slice_get b.items index ≡ Some hint) c.mark_hint.ensures.hints this in
          elim (cases_eq index l.index) [
            | inl e ↦ c.mark_hint.ensures.marked hint (rw (← e) was)
            | inr other ↦
                marked_on c.args.screen.now l.self c.mark_hint.new.self hint l.invariant.about c.mark_hint.ensures.more
                (l.invariant.marked index hint (omega (arith, below, other)) was)
          ];
    }
