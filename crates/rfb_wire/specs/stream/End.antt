-- An end of a connection: what it takes from the stream that it is fed, whatever the slices are.
use Rattle.std.specs.Prelude.{ℕ, List, [], ◌∷◌, ◌++◌, ◌≡◌, ◌+◌, length, Option, Some, None, Result, Ok, Err, IfSome}
use Rattle.rfb_wire.specs.stream.Prefix.{Next, More, Got, Bad}
use Rattle.rfb_wire.specs.stream.Grammar.{Grammar, IsGrammar, ReadsAll, sizes, IsWithinFirst}

-- a machine over a grammar: the point in its stream that a state is at, what an item makes of it,
-- and the event that an item is, if it is one
pub record Machine (S P I F E : Type 0) : Type 0 where
  pub grammar : Grammar P I F
  pub point : S → P
  pub act : S → I → S
  pub tells : S → I → Option E

-- an event in front of others, if there is one
abbrev pub with_event : {E : Type 0} → Option E → List E → List E
with_event None events = events
with_event (Some e) events = e ∷ events

-- a call that an end was fed by: the bytes that it used, and its event
pub record Call (E : Type 0) : Type 0 where
  pub bytes : List ℕ
  pub event : Option E

-- the bytes that calls used, and the events that they reported
abbrev pub bytes_of : {E : Type 0} → List (Call E) → List ℕ
bytes_of [] = []
bytes_of (call ∷ calls) = call.bytes ++ bytes_of calls

abbrev pub events_of : {E : Type 0} → List (Call E) → List E
events_of [] = []
events_of (call ∷ calls) = with_event call.event (events_of calls)

module _ {S P I F E : Type 0} where
  -- its grammar has the laws, and an item brings the state to the point after it
  pub record IsMachine (m : Machine S P I F E) : Type 0 where
    pub laws : IsGrammar m.grammar
    pub past : (s : S) (i : I) → m.point (m.act s i) ≡ m.grammar.past (m.point s) i

  -- the state that items leave
  abbrev pub acts : Machine S P I F E → S → List I → S
  acts m s [] = s
  acts m s (i ∷ items) = acts m (m.act s i) items

  -- of these items only the last may make an event, and it makes this one
  abbrev pub EndsWith : Machine S P I F E → S → List I → Option E → Type 0
  EndsWith m s [] event = event ≡ None
  EndsWith m s (i ∷ []) event = m.tells s i ≡ event
  EndsWith m s (i ∷ j ∷ items) event =
      (m.tells s i ≡ None) × EndsWith m (m.act s i) (j ∷ items) event

  -- the events that items make
  abbrev pub told : Machine S P I F E → S → List I → List E
  told m s [] = []
  told m s (i ∷ items) = with_event (m.tells s i) (told m (m.act s i) items)

  -- what it takes of the bytes that follow a prefix: whole items up to the first that makes an
  -- event, or as far as the bytes go; then bytes too few for another, and none after an event
  pub record Takes (m : Machine S P I F E) (old : S) (prefix bytes : List ℕ) (event : Option E)
      (new : S) (rest : List ℕ) : Type 0 where
    pub items : List I
    pub reads : ReadsAll m.grammar (m.point old) (prefix ++ bytes) items rest
    pub state : new ≡ acts m old items
    pub ends : EndsWith m old items event
    pub partial : m.grammar.next (m.point new) rest ≡ More
    pub whole : IfSome event (λ _. rest ≡ [])

  -- it refuses them: whole items without an event, and then a fault
  pub record Refuses (m : Machine S P I F E) (old : S) (prefix bytes : List ℕ) (fault : F) : Type
      0 where
    pub items : List I
    pub rest : List ℕ
    pub reads : ReadsAll m.grammar (m.point old) (prefix ++ bytes) items rest
    pub quiet : EndsWith m old items None
    pub bad : m.grammar.next (m.point (acts m old items)) rest ≡ Bad fault

  -- it wants memory that there is not: whole items without an event, and then bytes at which it
  -- asks for some, whatever follows these
  pub record RunsOut (m : Machine S P I F E) (asks : S → List ℕ → Type 0) (old : S)
      (prefix bytes : List ℕ) : Type 0 where
    pub items : List I
    pub front : List ℕ
    pub later : List ℕ
    pub reads : ReadsAll m.grammar (m.point old) (prefix ++ bytes) items (front ++ later)
    pub quiet : EndsWith m old items None
    pub asked : asks (acts m old items) front

  -- what it made of the bytes that follow a prefix, over any number of calls: whole items, their
  -- events, and what is too few for another
  pub record Runs (m : Machine S P I F E) (old : S) (prefix bytes : List ℕ) (events : List E)
      (new : S) (rest : List ℕ) : Type 0 where
    pub items : List I
    pub reads : ReadsAll m.grammar (m.point old) (prefix ++ bytes) items rest
    pub state : new ≡ acts m old items
    pub told_is : events ≡ told m old items
    pub partial : m.grammar.next (m.point new) rest ≡ More

  -- calls one after another, each of what the one before it left
  abbrev pub CallsTo : Machine S P I F E → S → List ℕ → List (Call E) → S → List ℕ → Type 0
  CallsTo m old prefix [] new rest = (new ≡ old) × (rest ≡ prefix)
  CallsTo m old prefix (call ∷ calls) new rest =
      (mid : S) × (left : List ℕ) × Takes m old prefix call.bytes call.event mid left
      × CallsTo m mid left calls new rest

  -- some bytes in flight to it were delivered, where all in flight are the items of a queue: some
  -- items are done, and something holds of these; the bytes left are the items left
  pub record DeliversItems (m : Machine S P I F E) (old : S) (prefix : List ℕ) (queue : List I)
      (bytes later : List ℕ) (IsSo : List I → Type 0) (new : S) (rest : List ℕ) : Type 0 where
    pub done : List I
    pub left : List I
    pub queue_is : queue ≡ done ++ left
    pub state : new ≡ acts m old done
    pub ends : IsSo done
    pub reads : ReadsAll m.grammar (m.point new) (rest ++ later) left []
    pub count : length prefix + length bytes ≡ sizes m.grammar done + length rest
    pub within : IsWithinFirst m.grammar (length rest) left

  -- delivered by one call, with its event
  abbrev pub Delivers : Machine S P I F E → S → List ℕ → List I → List ℕ → List ℕ → Option E →
      S → List ℕ → Type 0
  Delivers m old prefix queue bytes later event =
      DeliversItems m old prefix queue bytes later (λ done. EndsWith m old done event)

module _ {S P I F E V : Type 0} where
  -- what a call leaves: an end that stood for a state and a prefix takes the bytes from there, and
  -- then stands for the state and the prefix that this leaves
  abbrev pub FedBy : Machine S P I F E → (V → S → List ℕ → Type 0) → V → List ℕ → Option E → V →
      Type 0
  FedBy m stands old bytes event new =
      (s : S) (prefix : List ℕ) → stands old s prefix →
      (t : S) × (rest : List ℕ) × stands new t rest × Takes m s prefix bytes event t rest

  -- what a fault says: from each state and prefix that the end stood for,
  -- the bytes are refused by it
  abbrev pub RefusedBy : Machine S P I F E → (V → S → List ℕ → Type 0) → V → List ℕ → F → Type 0
  RefusedBy m stands old bytes fault =
      (s : S) (prefix : List ℕ) → stands old s prefix → Refuses m s prefix bytes fault

  -- what want of memory says: from each state and prefix that the end stood for, the bytes lead
  -- to where it asks for some
  abbrev pub RunsOutBy : Machine S P I F E → (S → List ℕ → Type 0) → (V → S → List ℕ → Type 0) → V →
      List ℕ → Type 0
  RunsOutBy m asks stands old bytes =
      (s : S) (prefix : List ℕ) → stands old s prefix → RunsOut m asks s prefix bytes

  -- what one step answers to a unit of bytes, a byte or a run of them, of one item: `next` is what
  -- the prefix with the unit after it begins with
  abbrev pub Steps : Machine S P I F E → (V → S → List ℕ → Type 0) → V → S → List ℕ → Next I F →
      Result (Option E) F → Type 0
  Steps m stands new s bytes More (Ok event) = (event ≡ None) × stands new s bytes
  Steps m stands new s bytes (Got i rest) (Ok event) =
      (rest ≡ []) × (m.tells s i ≡ event) × stands new (m.act s i) []
  Steps m stands new s bytes (Bad f) (Err fault) = fault ≡ f
  Steps m stands new s bytes More (Err fault) = ⊥
  Steps m stands new s bytes (Got i rest) (Err fault) = ⊥
  Steps m stands new s bytes (Bad f) (Ok event) = ⊥

  -- an end steps by a unit: whatever it stood for, its answer is what the grammar says
  abbrev pub StepsBy : Machine S P I F E → (V → S → List ℕ → Type 0) → V → List ℕ →
      Result (Option E) F → V → Type 0
  StepsBy m stands old bytes result new =
      (s : S) (prefix : List ℕ) → stands old s prefix →
      Steps m stands new s (prefix ++ bytes) (m.grammar.next (m.point s) (prefix ++ bytes))
      result

-- an end that has failed answers its fault again, and stays as it is
abbrev pub StaysFailed : {V A F : Type 0} → Option F → V → Result A F → V → Type 0
StaysFailed {F = F} failed old result new =
    (f : F) → failed ≡ Some f → (result ≡ Err f) × (new ≡ old)
