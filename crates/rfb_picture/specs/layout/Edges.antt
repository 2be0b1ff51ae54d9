-- The outermost of the marked places of a rectangle, on the way to the least rectangle that holds
-- them. No public clause reads these words.
use Rattle.std.specs.Prelude.{ℕ, Bool, true, false, List, Option, ◌≡◌, ◌+◌, ◌-◌, ◌^◌, ◌<◌, ◌≤◌, ◌||◌, MatchOption}
use Rattle.rfb_picture.specs.declared.rect.Rect.{Rect}
use Rattle.rfb_picture.specs.declared.edges.Edges.{Edges}
use Rattle.rfb_picture.specs.declared.edges.Gathered.{Gathered}
use Rattle.rfb_picture.specs.Rect.{contains}
use Rattle.rfb_picture.specs.Places.{has_bit}
use Rattle.rfb_picture.specs.layout.Plane.{has_at}

-- the edges of a rectangle that has a place
abbrev pub edges_of : Rect → Edges
edges_of r = record { left = r.x; right = r.x + r.w - 1; top = r.y; bottom = r.y + r.h - 1 }

-- the rectangle with these edges
abbrev pub rect_of : Edges → Rect
rect_of e = record { x = e.left; y = e.top; w = e.right - e.left + 1; h = e.bottom - e.top + 1 }

-- no marked place of the zone lies outside the edges, and each edge has one
pub record IsEdges (p : ℕ → ℕ → Bool) (zone : Rect) (e : Edges) : Type 0 where
  pub holds : (x y : ℕ) → contains zone x y ≡ true → p x y ≡ true →
      (e.left ≤ x) × (x ≤ e.right) × (e.top ≤ y) × (y ≤ e.bottom)
  pub at_left : (y : ℕ) × (contains zone e.left y ≡ true) × (p e.left y ≡ true)
  pub at_right : (y : ℕ) × (contains zone e.right y ≡ true) × (p e.right y ≡ true)
  pub at_top : (x : ℕ) × (contains zone x e.top ≡ true) × (p x e.top ≡ true)
  pub at_bottom : (x : ℕ) × (contains zone x e.bottom ≡ true) × (p x e.bottom ≡ true)

-- the zone's marked places have these edges, or it has no marked place
abbrev pub HasEdges : (ℕ → ℕ → Bool) → Rect → Option Edges → Type 0
HasEdges p zone found =
    MatchOption found ((x y : ℕ) → contains zone x y ≡ true → p x y ≡ false) (λ e. IsEdges p zone e)

-- where two zones have these edges, the zone that is both has those
abbrev pub JoinsTo : Option Edges → Option Edges → Option Edges → Type 0
JoinsTo a b found =
    (p : ℕ → ℕ → Bool) (first second all : Rect) →
    ((x y : ℕ) → contains all x y ≡ (contains first x y || contains second x y)) →
    HasEdges p first a → HasEdges p second b → HasEdges p all found

-- no row from the first up to another, each with 64 marks, has a mark
abbrev pub NoMarks : (ℕ → ℕ → Bool) → ℕ → ℕ → Type 0
NoMarks q from to = (y i : ℕ) → from ≤ y → y < to → i < 64 → q y i ≡ false

-- that row has a mark
abbrev pub HasMark : (ℕ → ℕ → Bool) → ℕ → Type 0
HasMark q y = (i : ℕ) × (i < 64) × (q y i ≡ true)

-- it is the first of those rows that has one
pub record IsFirstRow (q : ℕ → ℕ → Bool) (from to row : ℕ) : Type 0 where
  pub above : from ≤ row
  pub below : row < to
  pub none : NoMarks q from row
  pub here : HasMark q row

-- the first of those rows that has one is this, or none has one
abbrev pub HasFirstRow : (ℕ → ℕ → Bool) → ℕ → ℕ → Option ℕ → Type 0
HasFirstRow q from to found = MatchOption found (NoMarks q from to) (λ r. IsFirstRow q from to r)

-- it is the last
pub record IsLastRow (q : ℕ → ℕ → Bool) (from to row : ℕ) : Type 0 where
  pub above : from ≤ row
  pub below : row < to
  pub none : NoMarks q (row + 1) to
  pub here : HasMark q row

-- a word has each bit that word k of a row from the first up to another has
abbrev pub HasAllBits : List ℕ → ℕ → ℕ → ℕ → ℕ → ℕ → Type 0
HasAllBits words across k from to word =
    (y i : ℕ) → from ≤ y → y < to → has_at words across y k i ≡ true → has_bit word i ≡ true

-- and no other
abbrev pub HasNoOtherBits : List ℕ → ℕ → ℕ → ℕ → ℕ → ℕ → Type 0
HasNoOtherBits words across k from to word =
    (i : ℕ) → has_bit word i ≡ true →
    (y : ℕ) × (from ≤ y) × (y < to) × (has_at words across y k i ≡ true)

-- of the rows from the first up to another, each with 64 marks: the columns that have a mark, as
-- bits, and the first and last row that has one
pub record IsGathered (q : ℕ → ℕ → Bool) (from to : ℕ) (g : Gathered) : Type 0 where
  pub small : g.bits < 2 ^ 64
  pub each : (y i : ℕ) → from ≤ y → y < to → i < 64 → q y i ≡ true →
      (has_bit g.bits i ≡ true) × (g.top ≤ y) × (y ≤ g.bottom)
  pub some : (i : ℕ) → i < 64 → has_bit g.bits i ≡ true →
      (y : ℕ) × (from ≤ y) × (y < to) × (q y i ≡ true)
  pub at_top : (i : ℕ) × (from ≤ g.top) × (g.top < to) × (i < 64) × (q g.top i ≡ true)
  pub at_bottom : (i : ℕ) × (from ≤ g.bottom) × (g.bottom < to) × (i < 64) × (q g.bottom i ≡ true)

-- that is so of what was gathered, or the rows have no mark
abbrev pub HasGathered : (ℕ → ℕ → Bool) → ℕ → ℕ → Option Gathered → Type 0
HasGathered q from to found =
    MatchOption found (NoMarks q from to) (λ g. IsGathered q from to g)
