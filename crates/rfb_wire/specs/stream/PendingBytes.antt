-- Pending bytes: those of an item under way that come after its last whole piece. A piece is what
-- is judged at once, when its last byte is there.
use Rattle.std.specs.Prelude.{ℕ, ◌%◌, List, [], ◌∷◌, Option, Some, None, nat_lt, length, drop, if◌then◌else◌}
use Rattle.rfb_wire.specs.stream.Sequel.{Stage, First, Second}

-- how many bytes are pending where pieces of one size follow one another
abbrev pub in_pieces : ℕ → List ℕ → ℕ
in_pieces size bytes = length bytes % size

-- how many are pending where a piece of that size comes first: all until it is whole, and then
-- what is pending after it
abbrev pub after_piece : ℕ → (List ℕ → ℕ) → List ℕ → ℕ
after_piece size pending bytes =
    if nat_lt (length bytes) size then length bytes else pending (drop size bytes)

-- how many are pending where pieces of one size follow a head
abbrev pub after_pieces : ℕ → ℕ → List ℕ → ℕ
after_pieces head size bytes = after_piece head (in_pieces size) bytes

-- the same where the head may be none: a byte that begins no head is a piece, which is refused
abbrev pub after_head : Option ℕ → ℕ → List ℕ → ℕ
after_head None size bytes = 0
after_head (Some head) size bytes = after_pieces head size bytes

-- how many are pending of a message, by the size of its head and of the pieces after that,
-- which its first byte decides
abbrev pub message_pending : (ℕ → Option ℕ) → (ℕ → ℕ) → List ℕ → ℕ
message_pending head size [] = 0
message_pending head size (first ∷ rest) = after_head (head first) (size first) (first ∷ rest)

-- how many are pending at a point of a stream of two grammars: as many as in the one it belongs to
abbrev pub pending_in : {P Q : Type 0} → (P → List ℕ → ℕ) → (Q → List ℕ → ℕ) → Stage P Q → List ℕ →
    ℕ
pending_in one other (First p) bytes = one p bytes
pending_in one other (Second q) bytes = other q bytes
