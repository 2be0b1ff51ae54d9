-- Words of a line that draws or gives a hint: what a keyword can begin.
use Rattle.std.proofs.Common.{◌≡◌, sym, refl, subst, true, false, ℕ, List, ◌∷◌, codes}
use Rattle.std.specs.Str.{bytes_eq}
use Rattle.rfb_picture.specs.declared.rect.Rect.{Rect}
use Rattle.rfb_pixel.specs.declared.colour.Colour.{Colour}
use Rattle.rfb_session.specs.declared.language.drawing.DrawingLine.{DrawingLine}
use Rattle.rfb_session.specs.declared.language.drawing.DrawingLine.TheVariants.{Fill, Copy, Hint}
use Rattle.rfb_session.specs.language.Lines.{SaysDrawing}
use Rattle.rfb_session.specs.language.Words.{AreFill, AreMove}
use Rattle.rfb_session.proofs.WordLaws.{heads, other_word, same_word, tails}

-- two keywords that differ
apart : (a b : List ℕ) (x y : List (List ℕ)) → bytes_eq a b ≡ false → a ∷ x ≡ b ∷ y → ⊥
apart a b x y other e = other_word a b other (heads a b x y e)

-- these words say no drawing
abbrev pub DrawNothing : List (List ℕ) → Type 0
DrawNothing words = (line : DrawingLine) → ¬ (SaysDrawing words line)

pub only_fill : (rest : List (List ℕ)) → ((rect : Rect) (colour : Colour) → ¬ (AreFill rest rect colour)) →
    DrawNothing (codes "fill" ∷ rest)
only_fill rest none (Fill rect colour) said =
    let e = tails _ _ rest said.0 said.1 in none rect colour
    (subst (λ (r : List (List ℕ)). AreFill r rect colour) e said.2)
only_fill rest none (Copy rect sx sy) said = apart (codes "fill") (codes "copy") rest said.0 refl said.1
only_fill rest none (Hint rect sx sy) said = apart (codes "fill") (codes "hint") rest said.0 refl said.1

pub only_copy : (rest : List (List ℕ)) → ((rect : Rect) (sx sy : ℕ) → ¬ (AreMove rest rect sx sy)) →
    DrawNothing (codes "copy" ∷ rest)
only_copy rest none (Fill rect colour) said = apart (codes "copy") (codes "fill") rest said.0 refl said.1
only_copy rest none (Copy rect sx sy) said =
    let e = tails _ _ rest said.0 said.1 in none rect sx sy
    (subst (λ (r : List (List ℕ)). AreMove r rect sx sy) e said.2)
only_copy rest none (Hint rect sx sy) said = apart (codes "copy") (codes "hint") rest said.0 refl said.1

pub only_hint : (rest : List (List ℕ)) → ((rect : Rect) (sx sy : ℕ) → ¬ (AreMove rest rect sx sy)) →
    DrawNothing (codes "hint" ∷ rest)
only_hint rest none (Fill rect colour) said = apart (codes "hint") (codes "fill") rest said.0 refl said.1
only_hint rest none (Copy rect sx sy) said = apart (codes "hint") (codes "copy") rest said.0 refl said.1
only_hint rest none (Hint rect sx sy) said =
    let e = tails _ _ rest said.0 said.1 in none rect sx sy
    (subst (λ (r : List (List ℕ)). AreMove r rect sx sy) e said.2)

-- any other keyword
pub only_drawings : (key : List ℕ) (rest : List (List ℕ)) → bytes_eq key (codes "fill") ≡ false →
    bytes_eq key (codes "copy") ≡ false → bytes_eq key (codes "hint") ≡ false → DrawNothing (key ∷ rest)
only_drawings key rest fill copy hint (Fill rect colour) said = apart key (codes "fill") rest said.0 fill said.1
only_drawings key rest fill copy hint (Copy rect sx sy) said = apart key (codes "copy") rest said.0 copy said.1
only_drawings key rest fill copy hint (Hint rect sx sy) said = apart key (codes "hint") rest said.0 hint said.1

-- a word that is a keyword draws nothing where that does not
pub drawing_none : (keyword key : List ℕ) (rest : List (List ℕ)) → bytes_eq keyword key ≡ true →
    DrawNothing (key ∷ rest) → DrawNothing (keyword ∷ rest)
drawing_none keyword key rest same none =
    subst (λ (k : List ℕ). DrawNothing (k ∷ rest)) (sym (same_word keyword key same)) none
