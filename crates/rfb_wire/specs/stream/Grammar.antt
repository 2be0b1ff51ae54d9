-- Streams: items one after another, each read at the point that those before it lead to.
use Rattle.std.specs.Prelude.{ℕ, List, [], ◌∷◌, ◌++◌, ◌≡◌, ◌+◌, ◌<◌, Option, Some, None, length}
use Rattle.rfb_wire.specs.stream.Prefix.{Next, More, Got, Bad, Reading, Says, Reads}

-- what comes next at each point of a stream, the point after an item, and its size in bytes
pub record Grammar (P I F : Type 0) : Type 0 where
  pub next : P → Reading I F
  pub past : P → I → P
  pub size : I → ℕ

module _ {I F : Type 0} where
  -- bytes are too few for an item, or show that fault
  abbrev pub EndsIn : Option F → Next I F → Type 0
  EndsIn None n = n ≡ More
  EndsIn (Some f) n = n ≡ Bad f

  -- nothing is read after a fault
  abbrev pub UnlessFault : Option F → List I → Option F → (List I → Type 0) → Type 0
  UnlessFault None later fault goes_on = goes_on later
  UnlessFault (Some f) later fault goes_on = (later ≡ []) × (fault ≡ Some f)

module _ {P I F : Type 0} where
  -- at each point the grammar reads what bytes say there, and nothing is said without a byte
  pub record IsSpelled (g : Grammar P I F) (says : P → Says I F) : Type 0 where
    pub reads : (p : P) → Reads (g.next p) (says p)
    pub sized : (p : P) (i : I) (bytes : List ℕ) → (says p).item i bytes → length bytes ≡ g.size i
    pub some : (p : P) (i : I) (bytes : List ℕ) → (says p).item i bytes → 0 < length bytes
    pub some_fault : (p : P) (f : F) (bytes : List ℕ) → (says p).fault f bytes → 0 < length bytes

  -- the laws of a grammar: further bytes change no answer, an item is its own bytes and no others,
  -- and no bytes are too few
  pub record IsGrammar (g : Grammar P I F) : Type 0 where
    pub got : (p : P) (bytes tail : List ℕ) (i : I) (rest : List ℕ) → g.next p bytes ≡ Got i rest →
        g.next p (bytes ++ tail) ≡ Got i (rest ++ tail)
    pub bad : (p : P) (bytes tail : List ℕ) (f : F) → g.next p bytes ≡ Bad f →
        g.next p (bytes ++ tail) ≡ Bad f
    pub cut : (p : P) (bytes : List ℕ) (i : I) (rest : List ℕ) → g.next p bytes ≡ Got i rest →
        (front : List ℕ) × (bytes ≡ front ++ rest) × (g.next p front ≡ Got i [])
        × (length front ≡ g.size i)
    pub empty : (p : P) → g.next p [] ≡ More

  -- bytes at a point are these items, and after them the rest
  abbrev pub ReadsAll : Grammar P I F → P → List ℕ → List I → List ℕ → Type 0
  ReadsAll g p bytes [] rest = bytes ≡ rest
  ReadsAll g p bytes (i ∷ items) rest =
      (mid : List ℕ) × (g.next p bytes ≡ Got i mid) × ReadsAll g (g.past p i) mid items rest

  -- the point after items
  abbrev pub past_all : Grammar P I F → P → List I → P
  past_all g p [] = p
  past_all g p (i ∷ items) = past_all g (g.past p i) items

  -- how many bytes items have
  abbrev pub sizes : Grammar P I F → List I → ℕ
  sizes g [] = 0
  sizes g (i ∷ items) = g.size i + sizes g items

  -- n bytes are not yet all of the first item
  abbrev pub IsWithinFirst : Grammar P I F → ℕ → List I → Type 0
  IsWithinFirst g n [] = n ≡ 0
  IsWithinFirst g n (i ∷ items) = n < g.size i

  -- the verdict of bytes at a point: the items that they begin with, and then a fault, or too few
  -- bytes for another
  pub record HasVerdict (g : Grammar P I F) (p : P) (bytes : List ℕ) (items : List I)
      (fault : Option F) : Type 0 where
    pub rest : List ℕ
    pub reads : ReadsAll g p bytes items rest
    pub ends : EndsIn fault (g.next (past_all g p items) rest)

  -- the verdict of slices that are read one after another, each after what
  -- was left of those before it
  abbrev pub CutVerdict : Grammar P I F → P → List ℕ → List (List ℕ) → List I → Option F → Type 0
  CutVerdict g p front [] items fault = (items ≡ []) × (fault ≡ None) × (g.next p front ≡ More)
  CutVerdict g p front (slice ∷ slices) items fault =
      (here later : List I) × (rest : List ℕ) × (told : Option F) × (items ≡ here ++ later)
      × ReadsAll g p (front ++ slice) here rest
      × EndsIn told (g.next (past_all g p here) rest)
      × UnlessFault told later fault (λ xs. CutVerdict g (past_all g p here) rest slices xs fault)
