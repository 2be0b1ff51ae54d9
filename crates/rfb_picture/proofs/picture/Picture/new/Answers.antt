use Rattle.std.proofs.Common.{List, ℕ, ◌≡◌, ◌≤◌, ◌*◌, ◌-◌, ◌++◌, length, replicate, take, ap, sym, ◌∙◌, arith, rules}
use Rattle.std.proofs.lemmas.List.{take_all, replicate-append-replicate, length-replicate}
use Rattle.rfb_picture.proofs.ShownLemmas.{uniform_shown}
use Rattle.rfb_picture.proofs.picture.Picture.new.Goals as goal

-- a list of one value that is made longer by it is such a list
resized : {X : Type 0} → (xs ys : List X) (n m count : ℕ) (v : X) →
    n ≡ length xs →
    xs ≡ replicate (length xs) v →
    length xs ≤ m →
    m ≤ count →
    ys ≡ take m xs ++ replicate (m - n) v →
    (ys ≡ replicate (length ys) v) × (length ys ≤ count)
resized xs ys n m count v all same short few is =
    let joined : ys ≡ xs ++ replicate (m - length xs) v = rw (take_all m xs short, all) at is in
    let same_value : xs ++ replicate (m - length xs) v
    ≡ replicate (length xs) v ++ replicate (m - length xs) v =
    ap (λ s. s ++ replicate (m - length xs) v) same in
    let whole : ys ≡ replicate m v =
    joined ∙ same_value ∙ replicate-append-replicate (length xs) (m - length xs) v
    ∙ ap (λ n. replicate n v) (omega arith) in
    let len : length ys ≡ m = ap length whole ∙ length-replicate m v in
    (whole ∙ ap (λ n. replicate n v) (sym len), (omega arith))

pub loop-value-preserved : goal.loop-value-preserved
loop-value-preserved g c =
    resized c.loop-value.places.items c.resize.new.self.items _ c.min-len.result
    (c.from.result * c.from-2.result) c.args.value
    (search rules) c.loop-value.invariant.0 (search rules) (search rules) c.in_ok-resize.ensures.items

pub returns-clause-value : goal.returns-clause-value
returns-clause-value g c =
    uniform_shown c.args.width c.args.height c.in_ok-lines.lines.items c.args.value c.loop-value.places.items
    c.in_ok-lines.ensures c.loop-value.invariant.0
    (rw (← c.from.ensures, ← c.from-2.ensures) (omega arith))
