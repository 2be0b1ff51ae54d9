use Rattle.std.proofs.Common.{◌∙◌, ap, List, ℕ, ◌∷◌, sym, codes}
use Rattle.rfb_session.specs.owner.Lines.{ArePlaces}
use Rattle.rfb_session.specs.language.Words.{texts}
use Rattle.rfb_session.proofs.OwnerKeywordLemmas.{keyword_none, only_known, only_pixels, only_scroll}
use Rattle.rfb_session.proofs.OwnerLineLemmas.{scroll_is}
use Rattle.rfb_session.proofs.WordLaws.{begins_with, other_word, same_word}
use Rattle.rfb_session.proofs.owner.line.drawing_of.Goals as goal

pub returns-in_err-rect : goal.returns-in_err-rect
returns-in_err-rect c =
    rw c.from_residual.ensures (keyword_none c.args.keyword.now (codes "scroll") _
    (sym c.eq.ensures ∙ c.if-eq.true) (only_scroll _ c.in_err-rect.ensures))

pub returns-in_err-read_places : goal.returns-in_err-read_places
returns-in_err-read_places c =
    rw c.from_residual-in_err-read_places.ensures (keyword_none c.args.keyword.now (codes "pixels") _
    (sym c.eq-2.ensures ∙ c.if-eq-2.true) (only_pixels _ c.in_err-read_places.ensures))

pub returns-then-eq : goal.returns-then-eq
returns-then-eq c = (
  texts c.args.rest.now,
  ap (λ (k : List ℕ). k ∷ texts c.args.rest.now)
      (same_word c.args.keyword.now (codes "scroll") (sym c.eq.ensures ∙ c.if-eq.true)),
  scroll_is (texts c.args.rest.now) _ _ _ c.in_ok-rect.ensures,
)

pub returns-then-eq-2 : goal.returns-then-eq-2
returns-then-eq-2 c =
    begins_with c.args.keyword.now (codes "pixels") (texts c.args.rest.now)
    (λ (l : List (List ℕ)). ArePlaces l c.in_ok-read_places.field-0) (sym c.eq-2.ensures ∙ c.if-eq-2.true)
    c.in_ok-read_places.ensures

pub returns-in_err-rect-2 : goal.returns-in_err-rect-2
returns-in_err-rect-2 c =
    rw c.from_residual-in_err-rect-2.ensures
    (only_known c.args.keyword.now _ c.requires.screen (other_word _ _ (sym c.eq.ensures ∙ c.if-eq.false))
    (other_word _ _ (sym c.eq-2.ensures ∙ c.if-eq-2.false)) c.requires.end c.requires.hold c.requires.show
    c.requires.quit c.in_err-rect-2.ensures)

pub returns-in-Fill : goal.returns-in-Fill
returns-in-Fill c = rw c.in-Fill.is at c.in_ok-rect-2.ensures

pub returns-in-Copy : goal.returns-in-Copy
returns-in-Copy c = rw c.in-Copy.is at c.in_ok-rect-2.ensures

pub returns-in-Hint : goal.returns-in-Hint
returns-in-Hint c = rw c.in-Hint.is at c.in_ok-rect-2.ensures
