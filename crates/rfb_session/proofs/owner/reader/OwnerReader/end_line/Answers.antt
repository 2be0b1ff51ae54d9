use Rattle.std.proofs.Common.{ap, refl, sym, subst, arith, length, ◌≡◌, ◌≤◌, ℕ, List}
use Rattle.std.proofs.lemmas.Bool.Decides.{nat_tests}
use Rattle.rfb_session.specs.declared.owner.order.OwnerLine.{OwnerLine}
use Rattle.rfb_session.specs.declared.owner.stage.Stage.{Stage}
use Rattle.rfb_session.specs.owner.Reader.{IsFresh}
use Rattle.rfb_session.specs.language.Words.{words_of}
use Rattle.rfb_session.specs.owner.Lines.{IsRefused, SaysOwner}
use Rattle.rfb_session.proofs.OwnerStageLemmas.{empty_line, line_ends, pixels_start, placed_orders}
use Rattle.rfb_session.proofs.owner.reader.OwnerReader.end_line.Goals as goal

pub returns-then-is_empty : goal.returns-then-is_empty
returns-then-is_empty c =
    line_ends _ c.args.line _ c.args.self.now (λ plain. empty_line _ (grind (arith, nat_tests))) c.requires.fresh refl

pub returns-in-Pixels : goal.returns-in-Pixels
returns-in-Pixels c =
    let few = subst (λ (t : List ℕ). length t ≤ 96) c.as_slice.ensures.value c.as_slice.ensures.fits in
    let says : SaysOwner (words_of c.args.line.items) c.in-Some.said = rw c.as_slice.ensures.value at c.in-Some.ensures
    in
    record {
      goes = λ text comes. pixels_start _ c.args.line c.in-Pixels.rect _ few
          (subst (λ (l : OwnerLine). SaysOwner (words_of c.args.line.items) l) c.in-Pixels.is says)
          c.after_pixels.ensures text comes;
      known = refl;
    }

pub returns-in_default-said : goal.returns-in_default-said
returns-in_default-said c =
    line_ends _ c.args.line c.placed.result c.placed.new.self
    (placed_orders _ _ _ _ _ c.placed.ensures (rw c.as_slice.ensures.value at c.as_slice.ensures.fits)
    (rw c.as_slice.ensures.value at c.in-Some.ensures) c.in_default-said.not-Pixels)
    (subst (λ (s : Stage). IsFresh s) (sym c.placed.ensures.stage) c.requires.fresh) c.placed.ensures.known

pub returns-in_default : goal.returns-in_default
returns-in_default c =
    line_ends _ c.args.line _ c.args.self.now (λ plain. IsRefused.senseless
    (plain, rw c.as_slice.ensures.value at c.as_slice.ensures.fits)
    (λ e. let none : length c.args.line.items ≡ 0 = ap (λ (t : List ℕ). length t) e in
    absurd (grind (arith, nat_tests)))
    (rw c.as_slice.ensures.value at c.in_default.ensures)) c.requires.fresh refl
