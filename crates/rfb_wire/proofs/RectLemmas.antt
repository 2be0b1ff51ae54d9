-- Heads of rectangles.
use Rattle.std.proofs.Common.{◌≡◌, ℕ, ◌≤◌, List, [], ◌++◌, length, take, refl, subst, sym, ap, ◌∙◌, arith}
use Rattle.std.proofs.Common.{length-append}
use Rattle.std.specs.Int.{cast_signed, w32}
use Rattle.std.proofs.lemmas.List.{append-nil, length-take-le, nil_from_length}
use Rattle.rfb_picture.specs.declared.rect.Rect.{Rect}
use Rattle.rfb_wire.specs.declared.encoding.Encoding.{Encoding}
use Rattle.rfb_wire.specs.declared.encoding.Encoding.TheVariants.{Raw, CopyRect, Rre, Hextile}
use Rattle.rfb_wire.specs.declared.rect_head.RectHead.{RectHead}
use Rattle.rfb_wire.specs.Fields.{s32_at, IsRectAt}
use Rattle.rfb_wire.specs.Encoding.{number_of}
use Rattle.rfb_wire.specs.RectHead.{SpellsRectHead}
use Rattle.rfb_wire.proofs.FieldLemmas.{number-take, rect-take}

-- twelve bytes that begin with a rectangle and have the number of an encoding are a head
pub rect-spelled : (rect : Rect) (encoding : Encoding) (bytes : List ℕ) → 12 ≤ length bytes →
    IsRectAt 0 rect bytes → s32_at 8 bytes ≡ number_of encoding →
    SpellsRectHead (record { rect = rect; encoding = encoding }) (take 12 bytes)
rect-spelled rect encoding bytes whole is number = record {
  size = length-take-le 12 bytes whole;
  rect_is = rect-take 12 rect bytes (omega arith) is;
  encoding_is = ap (cast_signed w32) (number-take 4 8 12 bytes (omega arith)) ∙ number;
}

-- encodings of one number are one
same_encoding : (a b : Encoding) → number_of a ≡ number_of b → a ≡ b
same_encoding Raw Raw e = refl
same_encoding CopyRect CopyRect e = refl
same_encoding Rre Rre e = refl
same_encoding Hextile Hextile e = refl
same_encoding _ _ e = cc

-- bytes that go on after a head spell no other, and do not go on
pub rect-apart : (head other : RectHead) (front rest : List ℕ) → SpellsRectHead head front →
    SpellsRectHead other (front ++ rest) → (other ≡ head) × (rest ≡ [])
rect-apart head other front rest a b =
    let none : rest ≡ [] = nil_from_length rest (omega (arith, length-append front rest)) in
    let whole : front ++ rest ≡ front = ap (λ (xs : List ℕ). front ++ xs) none ∙ append-nil front in
    (rect-same other head front (subst (SpellsRectHead other) whole b) a, none)
  where
    rect-same : (p q : RectHead) (bytes : List ℕ) → SpellsRectHead p bytes →
        SpellsRectHead q bytes → p ≡ q
    rect-same p q bytes s t =
        let x = sym s.rect_is.x_position ∙ t.rect_is.x_position in
        let y = sym s.rect_is.y_position ∙ t.rect_is.y_position in
        let w = sym s.rect_is.width ∙ t.rect_is.width in
        let h = sym s.rect_is.height ∙ t.rect_is.height in
        let encoding = same_encoding p.encoding q.encoding (sym s.encoding_is ∙ t.encoding_is) in
        λ i. record { rect = record { x = x i; y = y i; w = w i; h = h i }; encoding = encoding i }
