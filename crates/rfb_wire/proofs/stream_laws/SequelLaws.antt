-- A stream of two grammars keeps the laws that each of them has.
use Rattle.std.proofs.Common.{◌≡◌, ℕ, ◌<◌, List, [], ◌∷◌, ◌++◌, Option, Some, None, length, map, refl, sym, subst, ◌∙◌}
use Rattle.std.proofs.Common.{ap}
use Rattle.rfb_wire.specs.stream.Prefix.{Reading, Says, Reads}
use Rattle.rfb_wire.specs.stream.Parts.{renamed}
use Rattle.rfb_wire.specs.stream.Grammar.{IsSpelled, ReadsAll, past_all}
use Rattle.rfb_wire.proofs.stream_laws.PartLaws.{same_reads}
use Rattle.rfb_wire.proofs.stream_laws.RepeatLaws.{renamed_says, renamed_reads}
use Rattle.rfb_wire.specs.stream.Sequel.{Stage, First, Second, turn, Two, next_in, sequel, ItemIn, FaultIn, sequel_says}
use Rattle.rfb_wire.specs.stream.Sequel.{StaysFirst, in_both}
use Rattle.rfb_wire.proofs.stream_laws.GrammarLaws.{all_append}

-- a part whose items and faults are named otherwise, where a relation says the same of the items
renamed_as : {A B F H : Type 0} {p : Reading A F} {s : Says A F} {R : B → List ℕ → Type 0}
    (item : A → B) (fault : F → H) → Reads p s →
    ((a : A) (bytes : List ℕ) → s.item a bytes → R (item a) bytes) →
    ((b : B) (bytes : List ℕ) → R b bytes → (a : A) × (b ≡ item a) × s.item a bytes) →
    Reads (renamed item fault p) (record { item = R; fault = (renamed_says item fault s).fault })
renamed_as {p = p} {s = s} {R = R} item fault reads there back =
    same_reads (renamed item fault p) (renamed_says item fault s)
    (record { item = R; fault = (renamed_says item fault s).fault }) (record {
      item = λ b bytes w. rw w.1 (there w.0 bytes w.2);
      fault = λ h bytes w. w;
      item_back = back;
      fault_back = λ h bytes w. w;
    })
    (renamed_reads item fault p s reads)

module _ {P I F Q J G H : Type 0} where
  reads_in : (two : Two P I F Q J G H) (one : P → Says I F) (other : Q → Says J G) →
      IsSpelled two.first one → IsSpelled two.second other → (s : Stage P Q) →
      Reads (next_in two s) (sequel_says two one other s)
  reads_in two one other a b (First p) =
      renamed_as (λ i. First i) two.first_fault (a.reads p) (λ i bytes h. h) back
    where
      back : (s : Stage I J) (bytes : List ℕ) → ItemIn two one other (First p) s bytes →
          (i : I) × (s ≡ First i) × (one p).item i bytes
      back (First i) bytes h = (i, refl, h)
      back (Second j) bytes h = absurd h
  reads_in two one other a b (Second q) =
      renamed_as (λ j. Second j) two.second_fault (b.reads q) (λ j bytes h. h) back
    where
      back : (s : Stage I J) (bytes : List ℕ) → ItemIn two one other (Second q) s bytes →
          (j : J) × (s ≡ Second j) × (other q).item j bytes
      back (First i) bytes h = absurd h
      back (Second j) bytes h = (j, refl, h)

  -- both are spelled, so the stream of both is
  pub sequel_spelled : (two : Two P I F Q J G H) (one : P → Says I F) (other : Q → Says J G) →
      IsSpelled two.first one → IsSpelled two.second other →
      IsSpelled (sequel two) (sequel_says two one other)
  sequel_spelled two one other a b =
      record {
        reads = reads_in two one other a b;
        sized = sized;
        some = some;
        some_fault = some_fault;
      }
    where
      sized : (s : Stage P Q) (i : Stage I J) (bytes : List ℕ) → ItemIn two one other s i bytes →
          length bytes ≡ (sequel two).size i
      sized (First p) (First i) bytes h = a.sized p i bytes h
      sized (First p) (Second j) bytes h = absurd h
      sized (Second q) (First i) bytes h = absurd h
      sized (Second q) (Second j) bytes h = b.sized q j bytes h

      some : (s : Stage P Q) (i : Stage I J) (bytes : List ℕ) → ItemIn two one other s i bytes →
          0 < length bytes
      some (First p) (First i) bytes h = a.some p i bytes h
      some (First p) (Second j) bytes h = absurd h
      some (Second q) (First i) bytes h = absurd h
      some (Second q) (Second j) bytes h = b.some q j bytes h

      some_fault : (s : Stage P Q) (h : H) (bytes : List ℕ) → FaultIn two one other s h bytes →
          0 < length bytes
      some_fault (First p) h bytes w = a.some_fault p w.0 bytes w.2
      some_fault (Second q) h bytes w = b.some_fault q w.0 bytes w.2

  -- items of the second, once a point of it is reached, are read as it reads them
  pub all_second : (two : Two P I F Q J G H) (q : Q) (bytes : List ℕ) (items : List J)
      (rest : List ℕ) → ReadsAll two.second q bytes items rest →
      ReadsAll (sequel two) (Second q) bytes (map (λ j. Second j) items) rest
  all_second two q bytes [] rest h = h
  all_second two q bytes (j ∷ items) rest h =
      (h.0, rw h.1 refl, all_second two (two.second.past q j) h.0 items rest h.2)

  -- items of the first are read as it reads them, where none but the last leads over
  pub all_first : (two : Two P I F Q J G H) (p : P) (bytes : List ℕ) (items : List I)
      (rest : List ℕ) → StaysFirst two p items → ReadsAll two.first p bytes items rest →
      ReadsAll (sequel two) (First p) bytes (map (λ i. First i) items) rest
  all_first two p bytes [] rest stays h = h
  all_first two p bytes (i ∷ []) rest stays h = (h.0, rw h.1 refl, h.2)
  all_first two p bytes (i ∷ j ∷ items) rest stays h = (
    h.0,
    rw h.1 refl,
    rw stays.0 (all_first two (two.first.past p i) h.0 (j ∷ items) rest stays.1 h.2),
  )

  -- after an item that does not lead over the first goes on
  after_one : {to : Stage P Q} (two : Two P I F Q J G H) (p : P) (i : I) (items : List I) →
      two.leads p i ≡ None →
      past_all (sequel two) (First (two.first.past p i)) (map (λ k. First k) items) ≡ to →
      past_all (sequel two) (First p) (map (λ k. First k) (i ∷ items)) ≡ to
  after_one {to = to} two p i items stays h =
      subst (λ (at : Stage P Q). past_all (sequel two) at (map (λ k. First k) items) ≡ to)
      (sym (ap (λ (over : Option Q). turn over (two.first.past p i)) stays)) h

  -- the point after items of the first: one of the second, if the last leads there
  pub past_first : (two : Two P I F Q J G H) (p : P) (items : List I) (last : I) →
      StaysFirst two p (items ++ last ∷ []) →
      past_all (sequel two) (First p) (map (λ i. First i) (items ++ last ∷ []))
      ≡ turn (two.leads (past_all two.first p items) last)
      (two.first.past (past_all two.first p items) last)
  past_first two p [] last stays = refl
  past_first two p (i ∷ []) last stays =
      after_one two p i (last ∷ []) stays.0 (past_first two (two.first.past p i) [] last tt)
  past_first two p (i ∷ j ∷ items) last stays =
      after_one two p i ((j ∷ items) ++ last ∷ []) stays.0
      (past_first two (two.first.past p i) (j ∷ items) last stays.1)

  -- the point after items of the second
  pub past_second : (two : Two P I F Q J G H) (q : Q) (items : List J) →
      past_all (sequel two) (Second q) (map (λ j. Second j) items)
      ≡ Second (past_all two.second q items)
  past_second two q [] = refl
  past_second two q (j ∷ items) = past_second two (two.second.past q j) items

  -- items of the first, whose last leads over, and after them items of the second
  pub all_both : (two : Two P I F Q J G H) (p : P) (q : Q) (bytes mid rest : List ℕ)
      (items : List I) (last : I) (others : List J) → StaysFirst two p (items ++ last ∷ []) →
      two.leads (past_all two.first p items) last ≡ Some q →
      ReadsAll two.first p bytes (items ++ last ∷ []) mid →
      ReadsAll two.second q mid others rest →
      ReadsAll (sequel two) (First p) bytes (in_both items last others) rest
  all_both two p q bytes mid rest items last others stays leads a b =
      let there : past_all (sequel two) (First p) (map (λ i. First i) (items ++ last ∷ []))
      ≡ Second q =
      past_first two p items last stays
      ∙ ap (λ (to : Option Q).
      turn to (two.first.past (past_all two.first p items) last)) leads in
      all_append (sequel two) (First p) bytes (map (λ i. First i) (items ++ last ∷ []))
      (map (λ j. Second j) others) mid rest
      (all_first two p bytes (items ++ last ∷ []) mid stays a)
      (subst (λ (at : Stage P Q). ReadsAll (sequel two) at mid (map (λ j. Second j) others) rest)
      (sym there) (all_second two q mid others rest b))
