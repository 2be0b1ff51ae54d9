-- Pending bytes are those after the last whole piece.
use Rattle.std.proofs.Common.{◌≡◌, ℕ, suc, ◌+◌, ◌*◌, ◌≤◌, ◌<◌, Bool, true, false, List, [], ◌∷◌, ◌++◌, Option, Some}
use Rattle.std.proofs.Common.{None, nat_lt, length, drop, slice_index, refl, ◌∙◌, ap, arith, length-append, length-drop}
use Rattle.std.proofs.lemmas.List.{drop_at}
use Rattle.std.proofs.lemmas.Nat.{mod-mul-add}
use Rattle.std.proofs.Math.Nat.{mod-le, mod-lt, mod-one}
use Rattle.std.proofs.lemmas.Bool.Decides.{nat_tests}
use Rattle.rfb_wire.specs.stream.Prefix.{Listed}
use Rattle.rfb_wire.specs.stream.PendingBytes.{in_pieces, after_piece, after_head, message_pending}
use Rattle.rfb_wire.proofs.stream_laws.HeadLemmas.{SpelledAlone}

-- ---- pieces

-- how many bytes pieces of one size have
pub length-pieces : {A : Type 0} (R : A → List ℕ → Type 0) (size : ℕ) →
    ((a : A) (bytes : List ℕ) → R a bytes → length bytes ≡ size) →
    (items : List A) (bytes : List ℕ) → Listed R items bytes →
    length bytes ≡ length items * size
length-pieces R size sized [] bytes h = rw h (omega arith)
length-pieces R size sized (a ∷ items) bytes (front, back, e, s, more) =
    let others = length-pieces R size sized items back more in
    let all : length bytes ≡ length front + length back = ap length e ∙ length-append front back in
    omega (arith, sized a front s, others, all)

-- what comes after whole pieces is pending, where it is less than a piece
pub counted_pending : (size count : ℕ) (front rest : List ℕ) → length front ≡ count * size →
    length rest < size → in_pieces size (front ++ rest) ≡ length rest
counted_pending size count front rest whole less =
    rw (length-append front rest, whole) (mod-mul-add count size (length rest) less)

pub pieces_pending : {A : Type 0} (R : A → List ℕ → Type 0) (size : ℕ) →
    ((a : A) (bytes : List ℕ) → R a bytes → length bytes ≡ size) →
    (items : List A) (front rest : List ℕ) → Listed R items front → length rest < size →
    in_pieces size (front ++ rest) ≡ length rest
pieces_pending R size sized items front rest listed less =
    counted_pending size (length items) front rest (length-pieces R size sized items front listed)
    less

-- pieces of one byte leave nothing
pub bytes_pending : (bytes : List ℕ) → in_pieces 1 bytes ≡ 0
bytes_pending bytes = mod-one (length bytes)

-- a piece that is not whole is pending
pub piece_pending : (size : ℕ) (pending : List ℕ → ℕ) (bytes : List ℕ) → length bytes < size →
    after_piece size pending bytes ≡ length bytes
piece_pending size pending bytes less = let short : nat_lt (length bytes) size ≡ true =
    grind (arith, nat_tests) in rw short refl

-- after a whole piece it is what follows that may be pending
pub past_piece : (size : ℕ) (pending : List ℕ → ℕ) (front rest : List ℕ) → length front ≡ size →
    after_piece size pending (front ++ rest) ≡ pending rest
past_piece size pending front rest whole =
    let all = length-append front rest in
    let enough : nat_lt (length (front ++ rest)) size ≡ false = grind (arith, nat_tests) in
    rw (enough, drop_at front rest size whole) refl

-- no more are pending than came
pub pieces_within : (size : ℕ) (bytes : List ℕ) → in_pieces size bytes ≤ length bytes
pieces_within size bytes = mod-le (length bytes) size

pub piece_within : (size : ℕ) (pending : List ℕ → ℕ) →
    ((rest : List ℕ) → pending rest ≤ length rest) → (bytes : List ℕ) →
    after_piece size pending bytes ≤ length bytes
piece_within size pending within bytes = by (nat_lt (length bytes) size) refl
  where
    by : (b : Bool) → nat_lt (length bytes) size ≡ b →
        after_piece size pending bytes ≤ length bytes
    by true e = rw e (omega arith)
    by false e = let less = within (drop size bytes) in let rest =
        length-drop size bytes in rw e (omega (arith, less, rest))

-- fewer are pending than a piece has
pub piece_below : (most size : ℕ) (pending : List ℕ → ℕ) → size ≤ suc most →
    ((rest : List ℕ) → pending rest ≤ most) → (bytes : List ℕ) →
    after_piece size pending bytes ≤ most
piece_below most size pending small below bytes = by (nat_lt (length bytes) size) refl
  where
    by : (b : Bool) → nat_lt (length bytes) size ≡ b → after_piece size pending bytes ≤ most
    by true e = rw e (grind (arith, nat_tests))
    by false e = rw e (below (drop size bytes))

-- ---- messages

module _ (head : ℕ → Option ℕ) (size : ℕ → ℕ) where
  -- a head that is not whole is pending
  pub head_pending : (first n : ℕ) (rest : List ℕ) → head first ≡ Some n →
      length (first ∷ rest) < n → message_pending head size (first ∷ rest) ≡ length (first ∷ rest)
  head_pending first n rest is less =
      rw is (piece_pending n (in_pieces (size first)) (first ∷ rest) less)

  -- after a head it is what follows
  pub past_head : (kind n : ℕ) (front rest : List ℕ) → 0 < n → length front ≡ n →
      slice_index front 0 ≡ kind → head kind ≡ Some n →
      message_pending head size (front ++ rest) ≡ in_pieces (size kind) rest
  past_head kind n [] rest some whole is has = absurd (omega (arith, some, whole))
  past_head kind n (first ∷ front) rest some whole is has =
      let same : first ≡ kind = is in
      rw (same, has) (past_piece n (in_pieces (size kind)) (kind ∷ front) rest whole)

  -- a head that lacks bytes is pending
  pub missing_pending : {V : Type 0} {Spells : V → List ℕ → Type 0} {head_in : List ℕ → V} →
      SpelledAlone Spells head head_in → (v : V) (bytes missing : List ℕ) → Spells v (bytes ++ missing) →
      0 < length missing → message_pending head size bytes ≡ length bytes
  missing_pending only v [] missing s some = refl
  missing_pending only v (first ∷ rest) missing s some =
      head_pending first (length (first ∷ (rest ++ missing))) rest
      (only v (first ∷ (rest ++ missing)) s).1 (omega (arith, length-append rest missing, some))

  -- after a head and whole items it is what comes after these
  pub items_pending : {A : Type 0} (R : A → List ℕ → Type 0) (kind n : ℕ) → 0 < n → head kind ≡ Some n →
      ((a : A) (bytes : List ℕ) → R a bytes → length bytes ≡ size kind) →
      (items : List A) (front list rest : List ℕ) → length front ≡ n → slice_index front 0 ≡ kind →
      Listed R items list → length rest < size kind →
      message_pending head size (front ++ (list ++ rest)) ≡ length rest
  items_pending R kind n some has sized items front list rest whole is listed less =
      past_head kind n front (list ++ rest) some whole is has
      ∙ pieces_pending R (size kind) sized items list rest listed less

  -- after a head and bytes that are a piece each nothing is
  pub text_pending : (kind n : ℕ) → 0 < n → head kind ≡ Some n → size kind ≡ 1 →
      (front text : List ℕ) → length front ≡ n → slice_index front 0 ≡ kind →
      message_pending head size (front ++ text) ≡ 0
  text_pending kind n some has one front text whole is =
      past_head kind n front text some whole is has
      ∙ ap (λ (k : ℕ). in_pieces k text) one ∙ bytes_pending text

  pub message_within : (bytes : List ℕ) → message_pending head size bytes ≤ length bytes
  message_within [] = omega arith
  message_within (first ∷ rest) = by (head first)
    where
      by : (told : Option ℕ) → after_head told (size first) (first ∷ rest) ≤ length (first ∷ rest)
      by None = omega arith
      by (Some n) =
          piece_within n (in_pieces (size first)) (λ bytes. pieces_within (size first) bytes)
          (first ∷ rest)

  -- fewer are pending than the longest head has, where no piece is longer
  pub message_below : (most : ℕ) → ((first n : ℕ) → head first ≡ Some n → n ≤ suc most) →
      ((first : ℕ) → (0 < size first) × (size first ≤ suc most)) → (bytes : List ℕ) →
      message_pending head size bytes ≤ most
  message_below most heads pieces [] = omega arith
  message_below most heads pieces (first ∷ rest) = by (head first) refl
    where
      below : (bytes : List ℕ) → in_pieces (size first) bytes ≤ most
      below bytes = let piece = pieces first in let less =
          mod-lt (length bytes) piece.0 in omega (arith, less, piece.1)

      by : (told : Option ℕ) → head first ≡ told →
          after_head told (size first) (first ∷ rest) ≤ most
      by None e = omega arith
      by (Some n) e =
          piece_below most n (in_pieces (size first)) (heads first n e) below (first ∷ rest)
