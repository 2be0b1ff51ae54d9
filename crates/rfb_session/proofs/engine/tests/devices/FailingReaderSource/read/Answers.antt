use Rattle.std.proofs.Common.{◌≡◌, ◌<◌, ◌-◌, ◌++◌, ℕ, List, [], ◌∷◌, length, take, drop, slice_index_or, slice_set, sym}
use Rattle.std.proofs.Common.{ap, arith, rules}
use Rattle.std.proofs.lemmas.List.{take_all}
use Rattle.rfb_session.proofs.engine.tests.devices.FailingReaderSource.read.Goals as goal

-- the first byte is given, and the others are left
first_given : (xs buf : List ℕ) → 0 < length xs → 0 < length buf →
    xs ≡ take 1 (slice_set buf 0 (slice_index_or xs 0 0)) ++ take (length xs - 1) (drop 1 xs)
first_given [] buf some room = absurd (omega (arith, some))
first_given (x ∷ xs) [] some room = absurd (omega (arith, room))
first_given (x ∷ xs) (b ∷ buf) some room =
    ap (λ (l : List ℕ). x ∷ l) (sym (take_all (length (x ∷ xs) - 1) xs (omega arith)))

pub returns-clause-bytes : goal.returns-clause-bytes
returns-clause-bytes c =
    let some : 0 < length c.args.self.now.unread.now = search rules in
    let room : 0 < length c.args.buf.now = search rules in
    (first_given c.args.self.now.unread.now c.args.buf.now some room, λ none. absurd cc)
