-- An end of a stream of two grammars, and the ends of its two parts: what it does of the bytes of
-- the first and of the second, once it is known what those ends do of them.
use Rattle.std.specs.Prelude.{ℕ, Bool, IsTrue, List, ◌≡◌, ◌⊎◌, Option, Some, None}
use Rattle.rfb_wire.specs.stream.Parts.{named}
use Rattle.rfb_wire.specs.stream.Grammar.{Grammar}
use Rattle.rfb_wire.specs.stream.End.{Machine, Takes, Refuses, RunsOut}
use Rattle.rfb_wire.specs.stream.Sequel.{Stage, First, Second, Two, sequel}

-- the event of the whole that an event of a part is, if it is one
abbrev pub event_as : {D E : Type 0} → (D → Option E) → Option D → Option E
event_as event None = None
event_as event (Some d) = event d

-- the point of the first grammar that a point is, if it is one
abbrev pub first_point : {P Q : Type 0} → Stage P Q → Option P
first_point (First p) = Some p
first_point (Second q) = None

-- an end whose state is no more than its point
abbrev pub end_at : {P I F D : Type 0} → Grammar P I F → (P → I → Option D) → Machine P P I F D
end_at g tells = record { grammar = g; point = λ p. p; act = g.past; tells = tells }

module _ {S R K H E A P I F D : Type 0} where
  -- an end does what another does, as long as its state shows one of the other's. It reads the same
  -- items and faults, under other names. Its event of an item is the name of the other's event. After
  -- an item without an event it goes on showing the other's state
  pub record DoesAs (m : Machine S R K H E) (a : Machine A P I F D) (shows : S → Option A)
      (item : I → K) (fault : F → H) (event : D → Option E) : Type 0 where
    pub reads : (s : S) (u : A) (bytes : List ℕ) → shows s ≡ Some u →
        m.grammar.next (m.point s) bytes ≡ named item fault (a.grammar.next (a.point u) bytes)
    pub tells : (s : S) (u : A) (i : I) → shows s ≡ Some u →
        m.tells s (item i) ≡ event_as event (a.tells u i)
    pub goes_on : (s : S) (u : A) (i : I) → shows s ≡ Some u → a.tells u i ≡ None →
        shows (m.act s (item i)) ≡ Some (a.act u i)

  -- where a call of the other leaves the end: it shows the state that the other is left in, if
  -- there was no event; else it showed the state before the last item, which gave the event
  abbrev pub ComesTo : Machine S R K H E → Machine A P I F D → (S → Option A) → (I → K) → Option D →
      S → A → Type 0
  ComesTo m a shows item None t v = shows t ≡ Some v
  ComesTo m a shows item (Some told) t v =
      (s : S) × (u : A) × (i : I) × (shows s ≡ Some u) × (a.tells u i ≡ Some told)
      × (t ≡ m.act s (item i)) × (v ≡ a.act u i)

  -- where the other wants memory, by any test of its state and of the bytes that came, the end
  -- does: it shows the state that wants some
  abbrev pub StarvesAs : Machine S R K H E → Machine A P I F D → (S → Option A) → Type 0
  StarvesAs m a shows =
      (wants : A → List ℕ → Bool) (s : S) (u : A) (prefix bytes : List ℕ) → shows s ≡ Some u →
      RunsOut a (λ v front. IsTrue (wants v front)) u prefix bytes →
      RunsOut m (λ t front. (v : A) × (shows t ≡ Some v) × IsTrue (wants v front)) s prefix bytes

module _ {S A P I F Q J G H D E : Type 0} where
  -- an end of both is an end of the first as long as its state shows one of that. It is at the same
  -- point. Its event of an item is the name of the first's event. After an item that does not lead
  -- over it shows the next state. The first's end has an event for each item that leads over
  pub record GoesAsFirst (two : Two P I F Q J G H) (m : Machine S (Stage P Q) (Stage I J) H E)
      (a : Machine A P I F D) (shows : S → Option A) (event : D → Option E) : Type 0 where
    pub both : m.grammar ≡ sequel two
    pub grammar : a.grammar ≡ two.first
    pub point : (s : S) (u : A) → shows s ≡ Some u → m.point s ≡ First (a.point u)
    pub tells : (s : S) (u : A) (i : I) → shows s ≡ Some u →
        m.tells s (First i) ≡ event_as event (a.tells u i)
    pub stays : (s : S) (u : A) (i : I) → shows s ≡ Some u → two.leads (a.point u) i ≡ None →
        shows (m.act s (First i)) ≡ Some (a.act u i)
    pub told_over : (u : A) (i : I) → a.tells u i ≡ None → two.leads (a.point u) i ≡ None

  -- an item led over: the state before it showed one of the first's end, and the one after it is at
  -- the point of the second that the item leads to
  pub record LedOver (two : Two P I F Q J G H) (m : Machine S (Stage P Q) (Stage I J) H E)
      (a : Machine A P I F D) (shows : S → Option A) (t : S) (v : A) : Type 0 where
    pub before : S
    pub shown : A
    pub item : I
    pub to : Q
    pub shows_is : shows before ≡ Some shown
    pub leads : two.leads (a.point shown) item ≡ Some to
    pub state : t ≡ m.act before (First item)
    pub left : v ≡ a.act shown item
    pub point : m.point t ≡ Second to

  -- after a call of the first's end: the end of both shows the state that
  -- this left, or was led over
  abbrev pub LandsAs : Two P I F Q J G H → Machine S (Stage P Q) (Stage I J) H E →
      Machine A P I F D → (S → Option A) → S → A → Type 0
  LandsAs two m a shows t v = (shows t ≡ Some v) ⊎ LedOver two m a shows t v

  -- what the first's end takes, the end of both takes, with the event that this is of the whole
  abbrev pub TakesAsFirst : Two P I F Q J G H → Machine S (Stage P Q) (Stage I J) H E →
      Machine A P I F D → (S → Option A) → (D → Option E) → Type 0
  TakesAsFirst two m a shows event =
      (s : S) (u v : A) (prefix bytes rest : List ℕ) (told : Option D) → shows s ≡ Some u →
      Takes a u prefix bytes told v rest →
      (t : S) × Takes m s prefix bytes (event_as event told) t rest × LandsAs two m a shows t v

  -- what it refuses, the end of both refuses, by the fault that this is of the whole
  abbrev pub RefusesAsFirst : Two P I F Q J G H → Machine S (Stage P Q) (Stage I J) H E →
      Machine A P I F D → (S → Option A) → Type 0
  RefusesAsFirst two m a shows =
      (s : S) (u : A) (prefix bytes : List ℕ) (fault : F) → shows s ≡ Some u →
      Refuses a u prefix bytes fault → Refuses m s prefix bytes (two.first_fault fault)

module _ {S B P I F Q J G H C E : Type 0} where
  -- an end of both is an end of the second as long as its state shows one
  -- of that; no item leads out
  pub record GoesAsSecond (two : Two P I F Q J G H) (m : Machine S (Stage P Q) (Stage I J) H E)
      (b : Machine B Q J G C) (shows : S → Option B) (event : C → Option E) : Type 0 where
    pub both : m.grammar ≡ sequel two
    pub grammar : b.grammar ≡ two.second
    pub point : (s : S) (u : B) → shows s ≡ Some u → m.point s ≡ Second (b.point u)
    pub tells : (s : S) (u : B) (j : J) → shows s ≡ Some u →
        m.tells s (Second j) ≡ event_as event (b.tells u j)
    pub stays : (s : S) (u : B) (j : J) → shows s ≡ Some u →
        shows (m.act s (Second j)) ≡ Some (b.act u j)

module _ {S B P I Q J G H C E : Type 0} where
  -- what the second's end takes, the end of both takes, and goes on showing that end's state
  abbrev pub TakesAsSecond : Machine S (Stage P Q) (Stage I J) H E → Machine B Q J G C →
      (S → Option B) → (C → Option E) → Type 0
  TakesAsSecond m b shows event =
      (s : S) (u v : B) (prefix bytes rest : List ℕ) (told : Option C) → shows s ≡ Some u →
      Takes b u prefix bytes told v rest →
      (t : S) × Takes m s prefix bytes (event_as event told) t rest × (shows t ≡ Some v)

module _ {S B P I F Q J G H C E : Type 0} where
  -- what it refuses, the end of both refuses, by the fault that this is of the whole
  abbrev pub RefusesAsSecond : Two P I F Q J G H → Machine S (Stage P Q) (Stage I J) H E →
      Machine B Q J G C → (S → Option B) → Type 0
  RefusesAsSecond two m b shows =
      (s : S) (u : B) (prefix bytes : List ℕ) (fault : G) → shows s ≡ Some u →
      Refuses b u prefix bytes fault → Refuses m s prefix bytes (two.second_fault fault)
