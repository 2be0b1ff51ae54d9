-- What the words of a line say, where scripts and owners have it alike.
use Rattle.std.specs.Prelude.{ℕ, List, codes}
use Rattle.rfb_session.specs.declared.language.drawing.DrawingLine.{DrawingLine}
use Rattle.rfb_session.specs.declared.language.drawing.DrawingLine.TheVariants.{Fill, Copy, Hint}
use Rattle.rfb_session.specs.language.Words.{AreFill, AreMove, Begins}

-- the words of a line ask for a drawing, or give a hint
abbrev pub SaysDrawing : List (List ℕ) → DrawingLine → Type 0
SaysDrawing words (Fill rect colour) =
    Begins (codes "fill") words (λ rest. AreFill rest rect colour)
SaysDrawing words (Copy rect sx sy) =
    Begins (codes "copy") words (λ rest. AreMove rest rect sx sy)
SaysDrawing words (Hint rect sx sy) =
    Begins (codes "hint") words (λ rest. AreMove rest rect sx sy)
