-- What each step makes of a reader's stage.
use Rattle.std.proofs.Common.{get_or, zero, suc, Some, drop, take, ◌≡◌, ◌≢◌, ◌<◌, ◌≤◌, ◌+◌, ◌-◌, ◌⊎◌}
use Rattle.std.proofs.Common.{◌∙◌, ap, sym, refl, subst, inl, inr, length, ℕ, List, [], ◌∷◌, ◌++◌}
use Rattle.std.proofs.Common.{Option, arith}
use Rattle.arrayvec.specs.ArrayVec.{ArrayVec as Items}
use Rattle.std.proofs.lemmas.List.Elements.{All-append}
use Rattle.rfb_picture.specs.declared.rect.Rect.{Rect}
use Rattle.rfb_session.specs.declared.language.screen.Screen.{Screen as Size}
use Rattle.rfb_session.specs.declared.owner.order.OwnerLine.{OwnerLine}
use Rattle.rfb_session.specs.declared.owner.order.Order.{Order}
use Rattle.rfb_session.specs.declared.owner.order.Refusal.{Refusal}
use Rattle.rfb_session.specs.declared.owner.order.Refusal.TheVariants.{Bad}
use Rattle.rfb_session.specs.declared.owner.pixels.Pixels.{Pixels}
use Rattle.rfb_session.specs.declared.owner.reader.OwnerReader.{OwnerReader}
use Rattle.rfb_session.specs.declared.owner.stage.Stage.{Stage}
use Rattle.rfb_session.specs.language.Words.{words_of}
use Rattle.rfb_session.specs.owner.Lines.{AreAfterPixels, IsInPlace, IsOneLine, IsRefused, LiesOnKnown}
use Rattle.rfb_session.specs.owner.Lines.{Orders, SaysOwner, data_length}
use Rattle.rfb_session.specs.owner.Reader.{Advances, AreComing, ComesTo, FeedsFrom, IsFresh, Places}
use Rattle.rfb_session.specs.owner.Reader.{StartsData, known_after}
use Rattle.rfb_session.proofs.OwnerReaderLemmas.{more_coming, spoilt_line, spoilt_pixels, still_spoilt}

-- ---- lines

-- more bytes of a line come
pub line_grows : (old new : Items ℕ) (more : List ℕ) → new.items ≡ old.items ++ more → IsOneLine more →
    Advances (Stage.Line old) more (Stage.Line new)
line_grows old new more grown plain = λ known text comes.
    (ap (λ (t : List ℕ). t ++ more) comes.0 ∙ sym grown, All-append (λ (b : ℕ). b ≢ 10) text more comes.1 plain)

-- or too many
pub line_spoils : (old : Items ℕ) (more : List ℕ) → 96 < length old.items + length more → IsOneLine more →
    Advances (Stage.Line old) more (Stage.Refused 0 Bad)
line_spoils old more long plain = λ known text comes.
    inl (refl, refl, spoilt_line text old.items more comes.0 comes.1 plain long)

-- the newline of a line comes, and the order is the line's
pub line_ends : (screen : Option Size) (line : Items ℕ) (order : Order) (new : OwnerReader) →
    (IsOneLine line.items → Orders screen line.items order) → IsFresh new.stage →
    new.screen ≡ known_after screen (Some order) → FeedsFrom screen (Stage.Line line) (10 ∷ []) (Some order) new
line_ends screen line order new orders fresh known = record {
  goes = λ text comes. (
    (
      line.items,
      ap (λ (t : List ℕ). t ++ 10 ∷ []) comes.0,
      orders (subst IsOneLine comes.0 comes.1),
    ),
    fresh new.screen,
  );
  known = known;
}

-- a line of no bytes
pub empty_line : (line : List ℕ) → length line ≡ 0 → line ≡ []
empty_line [] none = refl
empty_line (x ∷ line) none = absurd (omega arith)

-- a line with no pixels is done or is in the wrong place
pub placed_orders : (old : OwnerReader) (line : List ℕ) (said : OwnerLine) (order : Order) (new : OwnerReader) →
    Places old said order new → length line ≤ 96 → SaysOwner (words_of line) said →
    ((rect : Rect) → said ≢ OwnerLine.Pixels rect) → IsOneLine line → Orders old.screen line order
placed_orders old line said order new places few says other plain = by_place places.told
  where
    by_place : ((order ≡ Order.Line said) × IsInPlace old.screen said) ⊎
        ((order ≡ Order.Refused Bad) × ¬ (IsInPlace old.screen said)) → Orders old.screen line order
    by_place (inl told) = subst (Orders old.screen line) (sym told.0) ((plain, few), says, other, told.1)
    by_place (inr told) = subst (Orders old.screen line) (sym told.0)
        (IsRefused.misplaced said (plain, few) says other told.1)

-- a line that says where pixels go ends, and they are waited for
pub pixels_start : (known : Option Size) (line : Items ℕ) (rect : Rect) (stage : Stage) → length line.items ≤ 96 →
    SaysOwner (words_of line.items) (OwnerLine.Pixels rect) → StartsData known rect stage → (text : List ℕ) →
    ComesTo known text (Stage.Line line) → ComesTo known (text ++ 10 ∷ []) stage
pixels_start known line rect stage few says starts text comes = by_stage stage starts
  where
    begun : AreAfterPixels rect (text ++ 10 ∷ []) []
    begun = record {
      head = line.items;
      whole = ap (λ (t : List ℕ). t ++ 10 ∷ []) comes.0;
      is_short = (subst IsOneLine comes.0 comes.1, few);
      says = says;
    }

    by_stage : (s : Stage) → StartsData known rect s → ComesTo known (text ++ 10 ∷ []) s
    by_stage (Stage.Line part) none = absurd none
    by_stage (Stage.Pixels pixels) starts =
        let size : length pixels.bytes.items ≡ 0 = ap (λ (b : List ℕ). length b) starts.1 in
        let come : AreAfterPixels pixels.rect (text ++ 10 ∷ []) pixels.bytes.items = subst
        (λ (r : Rect). AreAfterPixels r (text ++ 10 ∷ []) pixels.bytes.items) (sym starts.0)
        (subst (λ (b : List ℕ). AreAfterPixels rect (text ++ 10 ∷ []) b) (sym starts.1) begun) in (
          data_length pixels.rect,
          (come, omega (arith, size)),
          subst (λ (r : Rect). LiesOnKnown known r) (sym starts.0) starts.2,
        )
    by_stage (Stage.Refused left why) starts =
        inr (rect, [], (begun, omega (arith, starts.0)), starts.1)

-- ---- pixels

-- more of their bytes come
pub pixels_come : (old new : Pixels) (more : List ℕ) → new.rect ≡ old.rect → new.bytes.items ≡ old.bytes.items ++ more →
    length more ≤ data_length old.rect - length old.bytes.items → Advances (Stage.Pixels old) more (Stage.Pixels new)
pixels_come old new more same grown few = λ known text comes.
    let size : length old.bytes.items + comes.0 ≡ data_length old.rect = comes.1.1 in
    let coming : AreComing old.rect (text ++ more) (old.bytes.items ++ more) (comes.0 - length more) = more_coming
    old.rect text old.bytes.items more comes.0 comes.1 (omega (arith, size, few)) in (
      comes.0 - length more,
      subst (λ (r : Rect). AreComing r (text ++ more) new.bytes.items (comes.0 - length more))
          (sym same) (subst (λ (b : List ℕ). AreComing old.rect (text ++ more) b (comes.0 - length more)) (sym grown)
          coming),
      subst (λ (r : Rect). LiesOnKnown known r) (sym same) comes.2,
    )

-- a byte is a text of its own
one_byte : (byte : ℕ) → byte ≢ 10 → (k d : ℕ) → k < 1 → get_or (byte ∷ []) k d ≡ 10 → ⊥
one_byte byte other zero d less is = other is
one_byte byte other (suc k) d less is = absurd (omega arith)

-- what comes after them is no newline
pub pixels_spoil : (pixels : Pixels) (byte : ℕ) → data_length pixels.rect ≤ length pixels.bytes.items → byte ≢ 10 →
    Advances (Stage.Pixels pixels) (byte ∷ []) (Stage.Refused 0 Bad)
pixels_spoil pixels byte all other = λ known text comes.
    let size : length pixels.bytes.items + comes.0 ≡ data_length pixels.rect = comes.1.1 in
    inl (
      refl,
      refl,
      spoilt_pixels pixels.rect text pixels.bytes.items (byte ∷ []) comes.1.0 (omega (arith, size, all))
          (λ e. cc) (one_byte byte other),
    )

-- it is one
pub pixels_end : (screen : Option Size) (pixels : Pixels) (order : Order) (new : OwnerReader) →
    data_length pixels.rect ≤ length pixels.bytes.items →
    ((text : List ℕ) → AreAfterPixels pixels.rect text pixels.bytes.items →
    length pixels.bytes.items ≡ data_length pixels.rect → LiesOnKnown screen pixels.rect → Orders screen text order) →
    IsFresh new.stage → new.screen ≡ known_after screen (Some order) →
    FeedsFrom screen (Stage.Pixels pixels) (10 ∷ []) (Some order) new
pixels_end screen pixels order new all orders fresh known = record {
  goes = λ text comes.
      let size : length pixels.bytes.items + comes.0 ≡ data_length pixels.rect = comes.1.1 in
      ((text, refl, orders text comes.1.0 (omega (arith, size, all)) comes.2), fresh new.screen);
  known = known;
}

-- ---- what is refused

-- bytes of its pixels come
pub refused_come : (left : ℕ) (why : Refusal) (more : List ℕ) → 0 < left → length more ≤ left →
    Advances (Stage.Refused left why) more (Stage.Refused (left - length more) why)
refused_come left why more some few = λ known text comes. by_reason known text comes
  where
    by_reason : (known : Option Size) (text : List ℕ) → ComesTo known text (Stage.Refused left why) →
        ComesTo known (text ++ more) (Stage.Refused (left - length more) why)
    by_reason known text (inl spoilt) = absurd (omega (arith, some, spoilt.0))
    by_reason known text (inr come) = inr (
      come.0,
      come.1 ++ more,
      more_coming come.0 text come.1 more left come.2 few,
      come.3,
    )

-- bytes come where a newline was due
pub refused_spoil : (left : ℕ) (why : Refusal) (more : List ℕ) → left ≡ 0 → more ≢ [] → IsOneLine more →
    Advances (Stage.Refused left why) more (Stage.Refused 0 Bad)
refused_spoil left why more none some plain = λ known text comes. by_reason known text comes
  where
    by_reason : (known : Option Size) (text : List ℕ) → ComesTo known text (Stage.Refused left why) →
        ComesTo known (text ++ more) (Stage.Refused 0 Bad)
    by_reason known text (inl spoilt) = inl (refl, refl, still_spoilt text more spoilt.2 plain)
    by_reason known text (inr come) =
        let size : length come.1 + left ≡ data_length come.0 = come.2.1 in
        inl (refl, refl, spoilt_pixels come.0 text come.1 more come.2.0 (omega (arith, size, none)) some plain)

-- the newline comes
pub refused_end : (screen : Option Size) (left : ℕ) (why : Refusal) (new : OwnerReader) → left ≡ 0 → IsFresh new.stage →
    new.screen ≡ screen → FeedsFrom screen (Stage.Refused left why) (10 ∷ []) (Some (Order.Refused why)) new
refused_end screen left why new none fresh known = record {
  goes = λ text comes. ((text, refl, by_reason text comes), fresh new.screen);
  known = known;
}
  where
    by_reason : (text : List ℕ) → ComesTo screen text (Stage.Refused left why) → IsRefused screen text why
    by_reason text (inl spoilt) = subst (IsRefused screen text) (sym spoilt.1) (IsRefused.spoilt spoilt.2)
    by_reason text (inr come) =
        let size : length come.1 + left ≡ data_length come.0 = come.2.1 in
        IsRefused.pixels come.0 come.1 why come.2.0 (omega (arith, size, none)) come.3

-- ---- bytes

-- the first of some bytes is a newline
pub first_newline : (bytes : List ℕ) (n : ℕ) → n ≡ 0 → 0 < length bytes →
    (n < length bytes → (rest : List ℕ) × (drop n bytes ≡ 10 ∷ rest)) → take 1 bytes ≡ 10 ∷ []
first_newline bytes n none some newline = from_drop bytes (rw none at newline) some
  where
    from_drop : (bytes : List ℕ) → (0 < length bytes → (rest : List ℕ) × (drop 0 bytes ≡ 10 ∷ rest)) →
        0 < length bytes → take 1 bytes ≡ 10 ∷ []
    from_drop [] newline some = absurd (omega arith)
    from_drop (x ∷ bytes) newline some =
        let e : x ∷ bytes ≡ 10 ∷ (newline some).0 = (newline some).1 in
        let same : x ≡ 10 = cc in
        ap (λ (y : ℕ). y ∷ []) same
