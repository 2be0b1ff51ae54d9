-- The order of the eight seats, going round.
use Rattle.std.proofs.Common.{◌≡◌, ◌⊎◌, ◌<◌, ◌≤◌, ◌+◌, ◌-◌, ◌*◌, ℕ, suc}
use Rattle.std.proofs.Common.{Bool, true, false, Some, cond, ap, arith, inl, inr}
use Rattle.std.proofs.lemmas.Bool.Decides.{leb_tells}
use Rattle.rfb_session.specs.Rounds.{seat_after, seats_before, is_left}

before_is : (first k : ℕ) →
    ((k < first) × (seats_before first k ≡ k + 8 - first)) ⊎ ((first ≤ k) × (seats_before first k ≡ k - first))
before_is first k = elim (leb_tells (suc k) first) [
  | inl low ↦ inl (omega (arith, low.1), ap (λ (b : Bool). cond b (k + 8 - first) (k - first)) low.0)
  | inr high ↦ inr (omega (arith, high.1), ap (λ (b : Bool). cond b (k + 8 - first) (k - first)) high.0)
]

after_is : (seat count : ℕ) → ((seat + count < 8) × (seat_after seat count ≡ seat + count))
    ⊎ ((8 ≤ seat + count) × (seat_after seat count ≡ seat + count - 8))
after_is seat count = elim (leb_tells (suc (seat + count)) 8) [
  | inl low ↦
      inl (omega (arith, low.1), ap (λ (b : Bool). cond b (seat + count) (seat + count - 8)) low.0)
  | inr high ↦
      inr (omega (arith, high.1), ap (λ (b : Bool). cond b (seat + count) (seat + count - 8)) high.0)
]

-- the seats are gone round once at most
after_turns : (seat count : ℕ) → seat < 8 → count < 8 → (turns : ℕ) × (turns ≤ 1)
    × (seat_after seat count + 8 * turns ≡ seat + count) × (seat_after seat count < 8)
after_turns seat count low few = elim (after_is seat count) [
  | inl near ↦ (0, omega arith, omega (arith, near.1), omega (arith, near.0, near.1))
  | inr far ↦ (1, omega arith, omega (arith, far.0, far.1), omega (arith, low, few, far.0, far.1))
]

-- nor more than once where those before a seat are counted
before_turns : (first k : ℕ) → first < 8 → k < 8 → (turns : ℕ) × (turns ≤ 1)
    × (seats_before first k + first + 8 * turns ≡ k + 8) × (seats_before first k < 8)
before_turns first k low within = elim (before_is first k) [
  | inl less ↦ (0, omega arith, omega (arith, low, less.0, less.1), omega (arith, low, within, less.0, less.1))
  | inr more ↦ (1, omega arith, omega (arith, more.0, more.1), omega (arith, low, within, more.0, more.1))
]

pub after_below : (seat count : ℕ) → seat < 8 → count < 8 → seat_after seat count < 8
after_below seat count low few = (after_turns seat count low few).3

pub before_below : (first k : ℕ) → first < 8 → k < 8 → seats_before first k < 8
before_below first k low within = (before_turns first k low within).3

-- so many come before the seat that comes so many after the first
pub before_after : (first count : ℕ) → first < 8 → count < 8 → seats_before first (seat_after first count) ≡ count
before_after first count low few =
    let a = after_turns first count low few in
    let b = before_turns first (seat_after first count) low a.3 in
    omega (arith, few, a.1, a.2, b.1, b.2, b.3)

-- a seat is known by how many come before it
pub before_one : (first j k : ℕ) → first < 8 → j < 8 → k < 8 → seats_before first j ≡ seats_before first k → j ≡ k
before_one first j k low here there same =
    let a = before_turns first j low here in
    let b = before_turns first k low there in
    omega (arith, here, there, same, a.1, a.2, b.1, b.2)

-- what is left comes after the last that is served
pub left_comes : (first last k : ℕ) → is_left first (Some last) k ≡ true →
    seats_before first last < seats_before first k
left_comes first last k left = elim (leb_tells (suc (seats_before first last)) (seats_before first k)) [
  | inl low ↦ omega (arith, low.1)
  | inr high ↦ cc
]

pub served_comes : (first last k : ℕ) → is_left first (Some last) k ≡ false →
    seats_before first k ≤ seats_before first last
served_comes first last k served = elim (leb_tells (suc (seats_before first last)) (seats_before first k)) [
  | inl low ↦ cc
  | inr high ↦ omega (arith, high.1)
]

-- what comes before a seat in the next round, whether it is left or not
next_round : (first last k : ℕ) → first < 8 → last < 8 → k < 8 →
    (seats_before first last < seats_before first k →
    seats_before (seat_after last 1) k + seats_before first last + 1 ≡ seats_before first k)
    × (seats_before first k ≤ seats_before first last →
    seats_before (seat_after last 1) k + seats_before first last ≡ seats_before first k + 7)
next_round first last k low ends within =
    let a = after_turns last 1 ends (omega arith) in
    let b = before_turns first last low ends in
    let c = before_turns first k low within in
    let d = before_turns (seat_after last 1) k a.3 within in (
      λ after. omega (arith, after, a.1, a.2, b.1, b.2, b.3, c.1, c.2, c.3, d.1, d.2, d.3),
      λ before. omega (arith, before, a.1, a.2, b.1, b.2, b.3, c.1, c.2, c.3, d.1, d.2, d.3),
    )

-- in the next round so many fewer come before it
pub next_before : (first last k : ℕ) → first < 8 → last < 8 → k < 8 →
    seats_before first last < seats_before first k →
    seats_before (seat_after last 1) k + seats_before first last + 1 ≡ seats_before first k
next_before first last k low ends within after = (next_round first last k low ends within).0 after

-- the others come after all that were left
pub next_after : (first last k : ℕ) → first < 8 → last < 8 → k < 8 →
    seats_before first k ≤ seats_before first last →
    seats_before (seat_after last 1) k + seats_before first last ≡ seats_before first k + 7
next_after first last k low ends within before = (next_round first last k low ends within).1 before
