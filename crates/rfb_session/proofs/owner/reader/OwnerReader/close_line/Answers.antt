use Rattle.std.proofs.Common.{ap, refl, sym, subst, arith, length, ◌≢◌, ℕ, List}
use Rattle.std.proofs.lemmas.Bool.Decides.{nat_tests}
use Rattle.rfb_session.specs.declared.owner.stage.Stage.{Stage}
use Rattle.rfb_session.specs.owner.Reader.{IsFresh}
use Rattle.rfb_session.specs.owner.Lines.{IsRefused}
use Rattle.rfb_session.proofs.OwnerEndLemmas.{line_closes}
use Rattle.rfb_session.proofs.OwnerStageLemmas.{placed_orders}
use Rattle.rfb_session.proofs.owner.reader.OwnerReader.close_line.Goals as goal

pub returns-in_default-said : goal.returns-in_default-said
returns-in_default-said c =
    let some : length c.args.line.items ≢ 0 = λ none. absurd (grind (arith, nat_tests)) in
    line_closes _ c.args.line c.placed.result c.placed.new.self some
    (placed_orders _ _ _ _ _ c.placed.ensures (rw c.as_slice.ensures.value at c.as_slice.ensures.fits)
    (rw c.as_slice.ensures.value at c.in-Some.ensures) c.in_default-said.not-Pixels)
    (subst (λ (s : Stage). IsFresh s) (sym c.placed.ensures.stage) c.requires.fresh) c.placed.ensures.known

pub returns-in_default : goal.returns-in_default
returns-in_default c =
    let some : length c.args.line.items ≢ 0 = λ none. absurd (grind (arith, nat_tests)) in
    line_closes _ c.args.line _ c.args.self.now some (λ plain. IsRefused.senseless
    (plain, rw c.as_slice.ensures.value at c.as_slice.ensures.fits)
    (λ e. some (ap (λ (t : List ℕ). length t) e))
    (rw c.as_slice.ensures.value at c.in_default.ensures)) c.requires.fresh refl
