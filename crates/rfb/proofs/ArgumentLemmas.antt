-- The words after a keyword: as many as they have to be, each for its value.
use Rattle.std.proofs.Common.{Option, Some, None, MatchOption, ◌≡◌, ◌≢◌, ◌∙◌, ap, sym, subst, Bool, true, false, length}
use Rattle.std.proofs.Common.{ℕ, List, [], ◌∷◌, Bor, codes}
use Rattle.rfb_picture.specs.declared.rect.Rect.{Rect}
use Rattle.rfb_pixel.specs.Format.{PixelFormat}
use Rattle.rfb.specs.declared.script.line.Wants.{Wants}
use Rattle.rfb_session.specs.language.Words.{AreRect, IsFormatWord, texts}
use Rattle.rfb.specs.Words.{AreWants, AreRequest, IsFormatAlone, kind_of}
use Rattle.rfb_session.proofs.ArgumentLaws.{word, one_words, five_words}
use Rattle.rfb_session.proofs.WordLaws.{heads, texts_length}

pub no_format : (words : List (Bor (List ℕ))) (d : Bor (List ℕ)) →
    length words ≡ 1 → ((format : PixelFormat) → ¬ (IsFormatWord (word words 0 d) format)) → (format : PixelFormat) →
    ¬ (IsFormatAlone (texts words) format)
no_format words d len none format said =
    let f = sym (one_words words d len) ∙ said.1 in
    let e0 : word words 0 d ≡ said.0 = cc in
    none format (rw e0 said.2)

pub no_request : (words : List (Bor (List ℕ))) (d : Bor (List ℕ)) →
    length words ≡ 5 → ((incremental : Bool) (rect : Rect) → word words 0 d ≡ kind_of incremental →
    AreRect (word words 1 d) (word words 2 d) (word words 3 d) (word words 4 d) rect → ⊥) →
    (incremental : Bool) (rect : Rect) → ¬ (AreRequest (texts words) incremental rect)
no_request words d len none incremental rect said =
    let f = sym (five_words words d len) ∙ said.4 in
    let e0 : word words 0 d ≡ kind_of incremental = cc in
    let e1 : word words 1 d ≡ said.0 = cc in
    let e2 : word words 2 d ≡ said.1 = cc in
    let e3 : word words 3 d ≡ said.2 = cc in
    let e4 : word words 4 d ≡ said.3 = cc in
    none incremental rect e0 (rw (e1, e2, e3, e4) said.5)

pub not_request : (words : List (Bor (List ℕ))) → length words ≢ 5 → (incremental : Bool) (rect : Rect) →
    ¬ (AreRequest (texts words) incremental rect)
not_request words other incremental rect said =
    let s : length (texts words) ≡ 5 = ap (λ (l : List (List ℕ)). length l) said.4 in
    other (sym (texts_length words) ∙ s)

-- no other word is a kind of request
pub no_kind : (w : List ℕ) → w ≢ codes "full" → w ≢ codes "inc" → (incremental : Bool) → w ≢ kind_of incremental
no_kind w full inc true e = inc e
no_kind w full inc false e = full e

-- ---- words that are what they have to be

pub is_request : (words : List (Bor (List ℕ))) (d : Bor (List ℕ)) →
    length words ≡ 5 → (incremental : Bool) (rect : Rect) → word words 0 d ≡ kind_of incremental →
    AreRect (word words 1 d) (word words 2 d) (word words 3 d) (word words 4 d) rect →
    AreRequest (texts words) incremental rect
is_request words d len incremental rect kind are = (
  word words 1 d,
  word words 2 d,
  word words 3 d,
  word words 4 d,
  five_words words d len
      ∙ ap (λ (w : List ℕ). w ∷ word words 1 d ∷ word words 2 d ∷ word words 3 d ∷ word words 4 d ∷ []) kind,
  are,
)

pub format_alone : (words : List (Bor (List ℕ))) (d : Bor (List ℕ)) → length words ≡ 1 → (r : Option PixelFormat) →
    MatchOption r ((format : PixelFormat) → ¬ (IsFormatWord (word words 0 d) format)) (IsFormatWord (word words 0 d))
    → MatchOption r ((format : PixelFormat) → ¬ (IsFormatAlone (texts words) format)) (IsFormatAlone (texts words))
format_alone words d len None none = no_format words d len none
format_alone words d len (Some format) is = (word words 0 d, one_words words d len, is)

-- what the viewer wants, where the first word is no format
pub no_wants : (words : List (Bor (List ℕ))) (first : Bor (List ℕ)) (rest : List (Bor (List ℕ))) →
    words ≡ first ∷ rest → ((format : PixelFormat) → ¬ (IsFormatWord first.now format)) → (wants : Wants) →
    ¬ (AreWants (texts words) wants)
no_wants words first rest e none wants said =
    none wants.format (subst (λ (w : List ℕ). IsFormatWord w wants.format)
    (sym (heads first.now said.0 (texts rest) said.1 (sym (ap (λ (ws : List (Bor (List ℕ))). texts ws) e) ∙ said.2)))
    said.3)
