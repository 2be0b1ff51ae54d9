use Rattle.std.proofs.Common.{◌∙◌, sym, codes, List, ℕ}
use Rattle.rfb_session.specs.language.Words.{AreFill, AreMove, texts}
use Rattle.rfb_session.proofs.DrawingLineLemmas.{drawing_none, only_copy, only_drawings, only_fill, only_hint}
use Rattle.rfb_session.proofs.WordLaws.{begins_with}
use Rattle.rfb_session.proofs.language.drawing.read_drawing.Goals as goal

pub returns-in_err-rect : goal.returns-in_err-rect
returns-in_err-rect c =
    rw c.from_residual.ensures (drawing_none c.args.keyword.now (codes "fill") _ (sym c.eq.ensures ∙ c.if-eq.true)
    (only_fill _ c.in_err-rect.ensures))

pub returns-in_err-rect-2 : goal.returns-in_err-rect-2
returns-in_err-rect-2 c =
    rw c.from_residual-in_err-rect-2.ensures (drawing_none c.args.keyword.now (codes "copy") _
    (sym c.eq-2.ensures ∙ c.if-eq-2.true) (only_copy _ c.in_err-rect-2.ensures))

pub returns-in_err-rect-3 : goal.returns-in_err-rect-3
returns-in_err-rect-3 c =
    rw c.from_residual-in_err-rect-3.ensures (drawing_none c.args.keyword.now (codes "hint") _
    (sym c.eq-3.ensures ∙ c.if-eq-3.true) (only_hint _ c.in_err-rect-3.ensures))

pub returns-then-eq : goal.returns-then-eq
returns-then-eq c =
    let r = c.in_ok-rect in
    begins_with c.args.keyword.now (codes "fill") (texts c.args.rest.now)
    (λ (l : List (List ℕ)). AreFill l r.rect r.colour) (sym c.eq.ensures ∙ c.if-eq.true) r.ensures

pub returns-then-eq-2 : goal.returns-then-eq-2
returns-then-eq-2 c =
    let r = c.in_ok-rect-2 in
    begins_with c.args.keyword.now (codes "copy") (texts c.args.rest.now)
    (λ (l : List (List ℕ)). AreMove l r.rect r.sx r.sy) (sym c.eq-2.ensures ∙ c.if-eq-2.true) r.ensures

pub returns-then-eq-3 : goal.returns-then-eq-3
returns-then-eq-3 c =
    let r = c.in_ok-rect-3 in
    begins_with c.args.keyword.now (codes "hint") (texts c.args.rest.now)
    (λ (l : List (List ℕ)). AreMove l r.rect r.sx r.sy) (sym c.eq-3.ensures ∙ c.if-eq-3.true) r.ensures

pub returns : goal.returns
returns c =
    only_drawings c.args.keyword.now _ (sym c.eq.ensures ∙ c.if-eq.false) (sym c.eq-2.ensures ∙ c.if-eq-2.false)
    (sym c.eq-3.ensures ∙ c.if-eq-3.false)
