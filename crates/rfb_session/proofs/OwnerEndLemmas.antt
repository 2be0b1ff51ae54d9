-- What a reader's stage gives where nothing more comes.
use Rattle.std.proofs.Common.{Some, ◌≡◌, ◌≢◌, ◌<◌, ◌≤◌, ◌+◌, ◌∙◌, ap, sym, refl, subst, inl, inr}
use Rattle.std.proofs.Common.{length, ℕ, List, [], ◌∷◌, ◌++◌, Option, arith}
use Rattle.arrayvec.specs.ArrayVec.{ArrayVec as Items}
use Rattle.std.proofs.lemmas.List.{length-append}
use Rattle.rfb_picture.specs.declared.rect.Rect.{Rect}
use Rattle.rfb_session.specs.declared.language.screen.Screen.{Screen as Size}
use Rattle.rfb_session.specs.declared.owner.order.Order.{Order}
use Rattle.rfb_session.specs.declared.owner.order.Refusal.{Refusal}
use Rattle.rfb_session.specs.declared.owner.order.Refusal.TheVariants.{Bad}
use Rattle.rfb_session.specs.declared.owner.pixels.Pixels.{Pixels}
use Rattle.rfb_session.specs.declared.owner.reader.OwnerReader.{OwnerReader}
use Rattle.rfb_session.specs.declared.owner.stage.Stage.{Stage}
use Rattle.rfb_session.specs.owner.Lines.{AreAfterPixels, IsOneLine, IsRefused, IsSpoilt, LiesOnKnown}
use Rattle.rfb_session.specs.owner.Lines.{Orders, data_length}
use Rattle.rfb_session.specs.owner.Reader.{Closes, ClosesFrom, ComesTo, IsFresh, known_after}

-- ---- texts that are not empty

after_some : (rect : Rect) (text bytes : List ℕ) → AreAfterPixels rect text bytes → text ≢ []
after_some rect text bytes b none =
    let size : length text ≡ length (b.head ++ 10 ∷ bytes) = ap (λ (t : List ℕ). length t) b.whole in
    let zero : length text ≡ 0 = ap (λ (t : List ℕ). length t) none in
    omega (arith, size, zero, length-append b.head (10 ∷ bytes))

spoilt_some : (text : List ℕ) → IsSpoilt text → text ≢ []
spoilt_some text (inl long) none =
    let zero : length text ≡ 0 = ap (λ (t : List ℕ). length t) none in
    omega (arith, long.1, zero)
spoilt_some text (inr after) none = after_some after.0 text (after.1 ++ after.2) after.3 none

-- ---- lines

-- its newline is missing, and the order is the line's
pub line_closes : (screen : Option Size) (line : Items ℕ) (order : Order) (new : OwnerReader) → length line.items ≢ 0 →
    (IsOneLine line.items → Orders screen line.items order) → IsFresh new.stage →
    new.screen ≡ known_after screen (Some order) → ClosesFrom screen (Stage.Line line) (Some order) new
line_closes screen line order new some orders fresh known = record {
  gives = λ text comes. (
    (λ none. some (sym (ap (λ (t : List ℕ). length t) comes.0) ∙ ap (λ (t : List ℕ). length t) none)),
    inl (subst (λ (t : List ℕ). Orders screen t order) (sym comes.0) (orders (subst IsOneLine comes.0 comes.1))),
  );
  known = known;
  fresh = fresh;
}

-- ---- pixels

-- all their bytes came
pub pixels_close : (screen : Option Size) (pixels : Pixels) (order : Order) (new : OwnerReader) →
    data_length pixels.rect ≤ length pixels.bytes.items →
    ((text : List ℕ) → AreAfterPixels pixels.rect text pixels.bytes.items →
    length pixels.bytes.items ≡ data_length pixels.rect → LiesOnKnown screen pixels.rect → Orders screen text order) →
    IsFresh new.stage → new.screen ≡ known_after screen (Some order) →
    ClosesFrom screen (Stage.Pixels pixels) (Some order) new
pixels_close screen pixels order new all orders fresh known = record {
  gives = λ text comes.
      let size : length pixels.bytes.items + comes.0 ≡ data_length pixels.rect = comes.1.1 in (
        after_some pixels.rect text pixels.bytes.items comes.1.0,
        inl (orders text comes.1.0 (omega (arith, size, all)) comes.2),
      );
  known = known;
  fresh = fresh;
}

-- some did not
pub pixels_cut : (screen : Option Size) (pixels : Pixels) (new : OwnerReader) →
    length pixels.bytes.items < data_length pixels.rect → IsFresh new.stage → new.screen ≡ screen →
    ClosesFrom screen (Stage.Pixels pixels) (Some (Order.Refused Bad)) new
pixels_cut screen pixels new few fresh known = record {
  gives = λ text comes. (
    after_some pixels.rect text pixels.bytes.items comes.1.0,
    inr (refl, (pixels.rect, inr (pixels.bytes.items, comes.1.0, few))),
  );
  known = known;
  fresh = fresh;
}

-- ---- what is refused

-- only its newline is missing
pub refused_closes : (screen : Option Size) (left : ℕ) (why : Refusal) (new : OwnerReader) → left ≡ 0 →
    IsFresh new.stage → new.screen ≡ screen → ClosesFrom screen (Stage.Refused left why) (Some (Order.Refused why)) new
refused_closes screen left why new none fresh known = record { gives = by_reason; known = known; fresh = fresh }
  where
    by_reason : (text : List ℕ) → ComesTo screen text (Stage.Refused left why) →
        Closes screen text (Some (Order.Refused why))
    by_reason text (inl spoilt) =
        (spoilt_some text spoilt.2, inl (subst (IsRefused screen text) (sym spoilt.1) (IsRefused.spoilt spoilt.2)))
    by_reason text (inr come) =
        let size : length come.1 + left ≡ data_length come.0 = come.2.1 in (
          after_some come.0 text come.1 come.2.0,
          inl
              (IsRefused.pixels come.0 come.1 why come.2.0 (omega (arith, size, none)) come.3),
        )

-- bytes of its pixels are missing
pub refused_cut : (screen : Option Size) (left : ℕ) (why : Refusal) (new : OwnerReader) → 0 < left → IsFresh new.stage →
    new.screen ≡ screen → ClosesFrom screen (Stage.Refused left why) (Some (Order.Refused Bad)) new
refused_cut screen left why new some fresh known = record { gives = by_reason; known = known; fresh = fresh }
  where
    by_reason : (text : List ℕ) → ComesTo screen text (Stage.Refused left why) →
        Closes screen text (Some (Order.Refused Bad))
    by_reason text (inl spoilt) = absurd (omega (arith, some, spoilt.0))
    by_reason text (inr come) =
        let size : length come.1 + left ≡ data_length come.0 = come.2.1 in (
          after_some come.0 text come.1 come.2.0,
          inr (
            refl,
            (come.0, inr (come.1, come.2.0, omega (arith, size, some))),
          ),
        )
