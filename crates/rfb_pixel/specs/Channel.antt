-- One component's field in a pixel value, RFC 6143 section 7.4, and this project's conversion.
use Rattle.std.specs.Prelude.{◌≡◌, ℕ, ◌+◌, ◌-◌, ◌*◌, ◌/◌, ◌%◌, ◌^◌, ◌<◌, ◌≤◌, ◌==◌, ◌||◌, ◌&&◌, not, Bool, nat_le}
use Rattle.std.specs.Int.{bit_at}
use Rattle.std.specs.Int.RustNames.{count_ones}
use Rattle.rfb_pixel.specs.declared.channel.Channel.{Channel}
use Rattle.rfb_pixel.specs.declared.colour.TheConstants.{COMPONENT_MAX}

-- the field's maximum, as red-max is of the red field
abbrev pub max_of : Channel → ℕ
max_of c = 2 ^ c.width - 1

-- bit i of a pixel value belongs to the field
abbrev pub IsInField : Channel → ℕ → Type 0
IsInField c i = (c.shift ≤ i) × (i < c.shift + c.width)

-- the field has 1 to 16 bits, and lies in a pixel of that many bits
abbrev pub IsField : ℕ → Channel → Type 0
IsField bits c = (1 ≤ c.width) × (c.width ≤ 16) × (c.shift + c.width ≤ bits)

-- what the field holds in a pixel value
abbrev pub held_in : Channel → ℕ → ℕ
held_in c pixel = pixel / 2 ^ c.shift % 2 ^ c.width

-- v out of 0..from, as the nearest value out of 0..to; both ends are odd, so there is no tie
abbrev pub rescaled : ℕ → ℕ → ℕ → ℕ
rescaled from to v = (v * to + (from - 1) / 2) / from

-- the value that the field gets for a component
abbrev pub field_for : Channel → ℕ → ℕ
field_for c component = rescaled COMPONENT_MAX (max_of c) component

-- the value that the field gets for a component of eight bits
abbrev pub field_for_byte : Channel → ℕ → ℕ
field_for_byte c byte = rescaled 255 (max_of c) byte

-- the component that the field shows in a pixel value
abbrev pub component_in : Channel → ℕ → ℕ
component_in c pixel = rescaled (max_of c) COMPONENT_MAX (held_in c pixel)

-- a component as a field of eight bits shows it: the nearest multiple of 257
abbrev pub seen_in_byte : ℕ → ℕ
seen_in_byte component = 257 * ((component + 128) / 257)

-- two pixel values have the same bits in the field
abbrev pub AgreeInField : Channel → ℕ → ℕ → Type 0
AgreeInField c p q = (i : ℕ) → IsInField c i → bit_at p i ≡ bit_at q i

-- a maximum is 2^N - 1 for this N, from 1 to 16
abbrev pub IsMaxOf : ℕ → ℕ → Type 0
IsMaxOf m n = (1 ≤ n) × (n ≤ 16) × (m ≡ 2 ^ n - 1)

-- a maximum is 2^N - 1 with N from 1 to 16
pub record IsMax (m : ℕ) : Type 0 where
  pub n : ℕ
  pub is : IsMaxOf m n

-- a field of this maximum, at this shift, ends within that many bits: shift plus N is at most that
abbrev pub EndsWithin : ℕ → ℕ → ℕ → Type 0
EndsWithin m shift bits = (n : ℕ) → IsMaxOf m n → shift + n ≤ bits

-- the N of a maximum 2^N - 1: it has N ones
abbrev pub width_of : ℕ → ℕ
width_of m = count_ones m

-- the test of 16 bits for a maximum
abbrev pub is_max : ℕ → Bool
is_max m = not (m == 0) && m == 2 ^ width_of m - 1

-- the test that a field lies in a pixel of that many bits
abbrev pub is_within : ℕ → Channel → Bool
is_within bits c = nat_le (c.shift + c.width) bits

-- the test that two fields share no bit: one ends where the other begins, or below
abbrev pub is_apart : Channel → Channel → Bool
is_apart a b = nat_le (a.shift + a.width) b.shift || nat_le (b.shift + b.width) a.shift

-- the test that the three fields lie in a pixel of that many bits
abbrev pub are_within : ℕ → Channel → Channel → Channel → Bool
are_within bits red green blue = is_within bits red && is_within bits green && is_within bits blue

-- the test that no two of the three fields share a bit
abbrev pub are_apart : Channel → Channel → Channel → Bool
are_apart red green blue = is_apart red green && is_apart red blue && is_apart green blue
