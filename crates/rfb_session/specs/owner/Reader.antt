-- A reader of the owner's lines, fed in any slices: what its state means.
use Rattle.std.specs.Prelude.{◌≡◌, ◌≢◌, ◌+◌, ◌<◌, ◌⊎◌, ℕ, List, [], ◌∷◌, ◌++◌, Option, None, Some, length}
use Rattle.rfb_picture.specs.declared.rect.Rect.{Rect}
use Rattle.rfb_session.specs.declared.language.screen.Screen.{Screen as Size}
use Rattle.rfb_session.specs.declared.owner.order.OwnerLine.{OwnerLine}
use Rattle.rfb_session.specs.declared.owner.order.OwnerLine.TheVariants.{Screen}
use Rattle.rfb_session.specs.declared.owner.order.Order.{Order}
use Rattle.rfb_session.specs.declared.owner.order.Refusal.TheVariants.{Bad}
use Rattle.rfb_session.specs.declared.owner.reader.OwnerReader.{OwnerReader}
use Rattle.rfb_session.specs.declared.owner.stage.Stage.{Stage}
use Rattle.rfb_session.specs.language.Words.{words_of}
use Rattle.rfb_session.specs.owner.Lines.{AreAfterPixels, IsInPlace, IsOneLine, IsShort, IsSpoilt}
use Rattle.rfb_session.specs.owner.Lines.{LiesOnKnown, Orders, RefusesPixels, SaysOwner, data_length}

-- some of the pixels of a rectangle have come, and `left` bytes of them have not
abbrev pub AreComing : Rect → List ℕ → List ℕ → ℕ → Type 0
AreComing rect text bytes left =
    AreAfterPixels rect text bytes × (length bytes + left ≡ data_length rect)

-- where that text brings a reader, with nothing left of what came before
abbrev pub ComesTo : Option Size → List ℕ → Stage → Type 0
ComesTo known text (Stage.Line part) = (text ≡ part.items) × IsOneLine text
ComesTo known text (Stage.Pixels pixels) =
    (left : ℕ) × AreComing pixels.rect text pixels.bytes.items left
    × LiesOnKnown known pixels.rect
ComesTo known text (Stage.Refused left why) =
    ((left ≡ 0) × (why ≡ Bad) × IsSpoilt text)
    ⊎ ((rect : Rect) × (bytes : List ℕ) × AreComing rect text bytes left
    × RefusesPixels known rect why)

-- the screen's size is known from the line on that says it
abbrev pub known_after : Option Size → Option Order → Option Size
known_after known None = known
known_after known (Some Order.Nothing) = known
known_after known (Some (Order.Line (Screen size))) = Some size
known_after known (Some (Order.Line line)) = known
known_after known (Some (Order.Pixels rect bytes)) = known
known_after known (Some (Order.Refused why)) = known

-- a text that ends in its only newline after what was read before gives this
abbrev pub Ends : Option Size → List ℕ → Order → Type 0
Ends known text order = (line : List ℕ) × (text ≡ line ++ 10 ∷ []) × Orders known line order

-- what more of a text makes of a reader that some of it brought so far
abbrev pub ComesFurther : Option Size → List ℕ → Option Order → OwnerReader → Type 0
ComesFurther known text None new = ComesTo known text new.stage
ComesFurther known text (Some order) new = Ends known text order × ComesTo new.screen [] new.stage

-- the same of any text that brings a reader to this stage, while this screen is known
pub record FeedsFrom (screen : Option Size) (stage : Stage) (bytes : List ℕ)
    (order : Option Order) (new : OwnerReader) : Type 0 where
  pub goes : (text : List ℕ) → ComesTo screen text stage →
      ComesFurther screen (text ++ bytes) order new
  pub known : new.screen ≡ known_after screen order

abbrev pub Feeds : OwnerReader → List ℕ → Option Order → OwnerReader → Type 0
Feeds old bytes order new = FeedsFrom old.screen old.stage bytes order new

-- more of a text brings one stage to the other, and no order ends there
abbrev pub Advances : Stage → List ℕ → Stage → Type 0
Advances old more new =
    (known : Option Size) (text : List ℕ) → ComesTo known text old → ComesTo known (text ++ more) new

-- nothing has come since what was read last
abbrev pub IsFresh : Stage → Type 0
IsFresh stage = (known : Option Size) → ComesTo known [] stage

-- a reader that was fed nothing
abbrev pub IsFreshReader : OwnerReader → Type 0
IsFreshReader reader = ComesTo None [] reader.stage × (reader.screen ≡ None)

-- a text ends before all bytes of its pixels, or with their line
abbrev pub IsCut : List ℕ → Type 0
IsCut text =
    (rect : Rect) × ((IsShort text × SaysOwner (words_of text) (OwnerLine.Pixels rect))
    ⊎ ((bytes : List ℕ) × AreAfterPixels rect text bytes × (length bytes < data_length rect)))

-- what a text gives if nothing follows it: what it would give before a newline. Where it is cut, it is refused; where
-- nothing came, it gives nothing
abbrev pub Closes : Option Size → List ℕ → Option Order → Type 0
Closes known text None = text ≡ []
Closes known text (Some order) =
    (text ≢ []) × (Orders known text order ⊎ ((order ≡ Order.Refused Bad) × IsCut text))

-- the same of any text that brings a reader to this stage, while this screen is known
pub record ClosesFrom (screen : Option Size) (stage : Stage) (order : Option Order)
    (new : OwnerReader) : Type 0 where
  pub gives : (text : List ℕ) → ComesTo screen text stage → Closes screen text order
  pub known : new.screen ≡ known_after screen order
  pub fresh : IsFresh new.stage

-- the line is where it may be, or is refused
pub record Places (old : OwnerReader) (line : OwnerLine) (order : Order) (new : OwnerReader)
    : Type 0 where
  pub told : ((order ≡ Order.Line line) × IsInPlace old.screen line)
      ⊎ ((order ≡ Order.Refused Bad) × ¬ (IsInPlace old.screen line))
  pub known : new.screen ≡ known_after old.screen (Some order)
  pub stage : new.stage ≡ old.stage

-- what a reader waits for after a line of pixels
abbrev pub StartsData : Option Size → Rect → Stage → Type 0
StartsData known rect (Stage.Line part) = ⊥
StartsData known rect (Stage.Pixels pixels) =
    (pixels.rect ≡ rect) × (pixels.bytes.items ≡ []) × LiesOnKnown known rect
StartsData known rect (Stage.Refused left why) =
    (left ≡ data_length rect) × RefusesPixels known rect why
