-- Words of a line of the owner's: how many there are, numbers with a sign, and rectangles.
use Rattle.std.proofs.Common.{◌↔◌, ◌==◌, Bool, Option, Some, None, IfSome, IsSome, MatchOption, zero}
use Rattle.std.proofs.Common.{suc, inl, inr, T, pos, neg_ℤ, to_z, of_z, w16, ◌≡◌, ◌≢◌, ◌<◌, ◌≤◌}
use Rattle.std.proofs.Common.{◌∙◌, ap, sym, refl, subst, false, length, ℕ, ℤ, List, [], ◌∷◌, Bor}
use Rattle.std.proofs.Common.{arith, codes}
use Rattle.std.proofs.Math.Facts.{sfits_lit, to_z-of_z}
use Rattle.std.proofs.lemmas.Bool.{lt-ltb}
use Rattle.rfb_picture.specs.declared.rect.Rect.{Rect}
use Rattle.rfb_session.specs.declared.owner.order.OwnerLine.{OwnerLine}
use Rattle.rfb_session.specs.declared.owner.order.OwnerLine.TheVariants.{Screen, Fill, Copy, Hint}
use Rattle.rfb_session.specs.declared.owner.order.OwnerLine.TheVariants.{Scroll, Pixels, End, Hold, Show, Quit}
use Rattle.rfb_session.specs.language.Words.{AreNumbers, AreRect, texts}
use Rattle.rfb_session.specs.owner.Lines.{ArePlaces, AreScroll, IsShift, SaysNoOwner, SaysOwner}
use Rattle.rfb_session.proofs.ArgumentLaws.{are_six, none_six, word}
use Rattle.rfb_session.proofs.OwnerKeywordLemmas.{no_owner_words}
use Rattle.rfb_session.proofs.WordLaws.{nothing, texts_length}

-- ---- no line has nine words

pub too_many_owner_words : (words : List (List ℕ)) → 8 < length words → SaysNoOwner words
too_many_owner_words words many = go
  where
    over : (key : List ℕ) (rest : List (List ℕ)) → words ≡ key ∷ rest → length rest ≤ 6 → ⊥
    over key rest e few = let s = ap (λ (l : List (List ℕ)). length l) e in omega (arith, s, few, many)

    go : (line : OwnerLine) → ¬ (SaysOwner words line)
    go (Screen size) said = over (codes "screen") said.0 said.1
        (let s = ap (λ (l : List (List ℕ)). length l) said.2.2 in omega (arith, s))
    go (Fill rect colour) said = over (codes "fill") said.0 said.1
        (let s = ap (λ (l : List (List ℕ)). length l) said.2.5 in omega (arith, s))
    go (Copy rect sx sy) said = over (codes "copy") said.0 said.1
        (let s = ap (λ (l : List (List ℕ)). length l) said.2.6 in omega (arith, s))
    go (Hint rect sx sy) said = over (codes "hint") said.0 said.1
        (let s = ap (λ (l : List (List ℕ)). length l) said.2.6 in omega (arith, s))
    go (Scroll rect dx dy) said = over (codes "scroll") said.0 said.1
        (let s = ap (λ (l : List (List ℕ)). length l) said.2.6 in omega (arith, s))
    go (Pixels rect) said = over (codes "pixels") said.0 said.1
        (let s = ap (λ (l : List (List ℕ)). length l) said.2.4 in omega (arith, s))
    go (End seat) said = over (codes "end") said.0 said.1 (let s = ap (λ (l : List (List ℕ)). length l) said.2.1 in
        omega (arith, s))
    go Hold said = over (codes "hold") [] said (omega arith)
    go Show said = over (codes "show") [] said (omega arith)
    go Quit said = over (codes "quit") [] said (omega arith)

-- ---- numbers with a sign, of sixteen bits

minus : (n : ℕ) → n ≤ 32767 → to_z w16 (of_z w16 (neg_ℤ (pos n))) ≡ neg_ℤ (pos n)
minus zero few = to_z-of_z {w = w16} (sfits_lit tt)
minus (suc n) few = to_z-of_z {w = w16} (sfits_lit (subst T (sym (lt-ltb _ _ (omega (arith, few)))) tt))

pub shift_is : (text : List ℕ) (by : ℤ) → IsShift text by → IsShift text (to_z w16 (of_z w16 by))
shift_is text by (inl p) =
    let e : to_z w16 (of_z w16 (pos p.0)) ≡ pos p.0 =
    to_z-of_z {w = w16} (sfits_lit (subst T (sym (lt-ltb p.0 32768 (omega (arith, p.1.2)))) tt)) in
    inl (p.0, p.1, ap (λ (z : ℤ). to_z w16 (of_z w16 z)) p.2 ∙ e)
shift_is text by (inr p) =
    inr (p.0, p.1, p.2, p.3, ap (λ (z : ℤ). to_z w16 (of_z w16 z)) p.4 ∙ minus p.1 p.3.2)

pub scroll_is : (words : List (List ℕ)) (rect : Rect) (dx dy : ℤ) → AreScroll words rect dx dy →
    AreScroll words rect (to_z w16 (of_z w16 dx)) (to_z w16 (of_z w16 dy))
scroll_is words rect dx dy said =
    (said.0, said.1, said.2, said.3, said.4, said.5, said.6, said.7, shift_is _ dx said.8, shift_is _ dy said.9)

pub is_scroll : (words : List (Bor (List ℕ))) (d : Bor (List ℕ)) → length words ≡ 6 → (rect : Rect) (dx dy : ℤ) →
    AreRect (word words 0 d) (word words 1 d) (word words 2 d) (word words 3 d) rect → IsShift (word words 4 d) dx →
    IsShift (word words 5 d) dy → AreScroll (texts words) rect (to_z w16 (of_z w16 dx)) (to_z w16 (of_z w16 dy))
is_scroll words d len rect dx dy are columns rows =
    are_six (λ u. IsShift u (to_z w16 (of_z w16 dx))) (λ v. IsShift v (to_z w16 (of_z w16 dy))) words d len rect are
    (shift_is _ dx columns) (shift_is _ dy rows)

pub no_scroll : (words : List (Bor (List ℕ))) (d : Bor (List ℕ)) → length words ≡ 6 →
    ((rect : Rect) (dx dy : ℤ) → AreRect (word words 0 d) (word words 1 d) (word words 2 d) (word words 3 d) rect →
    IsShift (word words 4 d) dx → IsShift (word words 5 d) dy → ⊥) → (rect : Rect) (dx dy : ℤ) →
    ¬ (AreScroll (texts words) rect dx dy)
no_scroll words d len none rect dx dy =
    none_six (λ u. IsShift u dx) (λ v. IsShift v dy) words d len rect (none rect dx dy)

pub not_scroll : (words : List (Bor (List ℕ))) → length words ≢ 6 → (rect : Rect) (dx dy : ℤ) →
    ¬ (AreScroll (texts words) rect dx dy)
not_scroll words other rect dx dy said =
    let s : length (texts words) ≡ 6 = ap (λ (l : List (List ℕ)). length l) said.6 in
    other (sym (texts_length words) ∙ s)

-- ---- a rectangle alone

four_words : (words : List (Bor (List ℕ))) (d : Bor (List ℕ)) → length words ≡ 4 →
    texts words ≡ word words 0 d ∷ word words 1 d ∷ word words 2 d ∷ word words 3 d ∷ []
four_words [] d len = absurd (omega arith)
four_words (a ∷ []) d len = absurd (omega arith)
four_words (a ∷ b ∷ []) d len = absurd (omega arith)
four_words (a ∷ b ∷ c ∷ []) d len = absurd (omega arith)
four_words (a ∷ b ∷ c ∷ e ∷ []) d len = refl
four_words (a ∷ b ∷ c ∷ e ∷ x ∷ rest) d len = absurd (omega arith)

pub places_are : (words : List (Bor (List ℕ))) (d : Bor (List ℕ)) → length words ≡ 4 → (r : Option Rect) →
    IfSome r (AreRect (word words 0 d) (word words 1 d) (word words 2 d) (word words 3 d))
    → (IsSome r ↔ (AreNumbers (word words 0 d) (word words 1 d) (word words 2 d) (word words 3 d)))
    → MatchOption r ((rect : Rect) → ¬ (ArePlaces (texts words) rect)) (ArePlaces (texts words))
places_are words d len None value found = λ rect said.
    let f = sym (four_words words d len) ∙ said.4 in
    let e0 : word words 0 d ≡ said.0 = cc in let e1 : word words 1 d ≡ said.1 = cc in
    let e2 : word words 2 d ≡ said.2 = cc in let e3 : word words 3 d ≡ said.3 = cc in
    let bad = found.1 (rw (e0, e1, e2, e3) said.5.numbers) in cc
places_are words d len (Some rect) value found =
    (word words 0 d, word words 1 d, word words 2 d, word words 3 d, four_words words d len, value)

pub not_places : (words : List (Bor (List ℕ))) → length words ≢ 4 → (rect : Rect) → ¬ (ArePlaces (texts words) rect)
not_places words other rect said =
    let s : length (texts words) ≡ 4 = ap (λ (l : List (List ℕ)). length l) said.4 in
    other (sym (texts_length words) ∙ s)

-- ---- what no keyword begins

pub no_first : (words : List (Bor (List ℕ))) → length words ≡ 0 → SaysNoOwner (texts words)
no_first [] none = no_owner_words
no_first (w ∷ rest) none = absurd (omega arith)

pub some_texts : (words : List (Bor (List ℕ))) (b : Bool) → b ≡ (length words == 0) → b ≡ false → texts words ≢ []
some_texts [] b is some e = absurd cc
some_texts (w ∷ rest) b is some e = nothing w.now (texts rest) (sym e)

pub owner_words : (words : List (Bor (List ℕ))) (first : Bor (List ℕ)) (rest : List (Bor (List ℕ)))
    (r : Option OwnerLine) → words ≡ first ∷ rest
    → MatchOption r (SaysNoOwner (first.now ∷ texts rest)) (SaysOwner (first.now ∷ texts rest)) →
    MatchOption r (SaysNoOwner (texts words)) (SaysOwner (texts words))
owner_words words first rest r e said =
    subst (λ (ws : List (Bor (List ℕ))). MatchOption r (SaysNoOwner (texts ws)) (SaysOwner (texts ws))) (sym e) said
