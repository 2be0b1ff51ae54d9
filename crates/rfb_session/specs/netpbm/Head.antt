-- The head of a portable pixmap (PPM), as Netpbm has it: `P6`, the width, the height and the largest
-- component, each after blanks and comments, and one blank.
use Rattle.std.specs.Prelude.{◌≡◌, ◌⊎◌, ℕ, true, List, ◌∷◌}
use Rattle.rfb_session.specs.declared.netpbm.fault.Flaw.{Flaw}
use Rattle.rfb_session.specs.declared.netpbm.fault.Flaw.TheVariants.{NoPixmap, NoNumber, BadSide, BadMaximum, NoBlank}
use Rattle.rfb_session.specs.declared.netpbm.head.Sample.{Sample}
use Rattle.rfb_session.specs.declared.netpbm.head.Sample.TheVariants.{Byte, Word}
use Rattle.rfb_session.specs.netpbm.Number.{BeginsNoDigit, NextNumber, NoNumberNext, is_blank, value_of}
use Rattle.rfb_session.specs.netpbm.Side.{IsSide}

-- ---- the parts of a head, each of bytes that begin with it, and what follows

-- `P6`
abbrev pub MagicNext : List ℕ → List ℕ → Type 0
MagicNext bytes rest = (bytes ≡ 80 ∷ 54 ∷ rest) × BeginsNoDigit rest

-- a side
abbrev pub SideNext : List ℕ → ℕ → List ℕ → Type 0
SideNext bytes side rest =
    (digits : List ℕ) × NextNumber bytes digits rest × (side ≡ value_of digits) × IsSide side

-- the largest component: 255 where a component has a byte, and 65535 where it has two
abbrev pub maximum_of : Sample → ℕ
maximum_of Byte = 255
maximum_of Word = 65535

abbrev pub MaximumNext : List ℕ → Sample → List ℕ → Type 0
MaximumNext bytes sample rest =
    (digits : List ℕ) × NextNumber bytes digits rest × (maximum_of sample ≡ value_of digits)

-- a blank
abbrev pub BlankNext : List ℕ → List ℕ → Type 0
BlankNext bytes rest = (blank : ℕ) × (bytes ≡ blank ∷ rest) × (is_blank blank ≡ true)

-- ---- a head

-- bytes begin with the head of a picture of this size, and its places follow
pub record IsHead (bytes : List ℕ) (width height : ℕ) (sample : Sample) (places : List ℕ)
    : Type 0 where
  pub magic : List ℕ
  pub one : List ℕ
  pub two : List ℕ
  pub three : List ℕ
  pub is_magic : MagicNext bytes magic
  pub is_width : SideNext magic width one
  pub is_height : SideNext one height two
  pub is_maximum : MaximumNext two sample three
  pub is_blank : BlankNext three places

-- ---- what is wrong with bytes that begin with none: the first part that is not there

abbrev pub NoSideNext : List ℕ → Flaw → Type 0
NoSideNext bytes flaw =
    ((flaw ≡ NoNumber) × NoNumberNext bytes)
    ⊎ ((flaw ≡ BadSide) × (digits rest : List ℕ) × NextNumber bytes digits rest
    × ¬ (IsSide (value_of digits)))

abbrev pub NoMaximumNext : List ℕ → Flaw → Type 0
NoMaximumNext bytes flaw =
    ((flaw ≡ NoNumber) × NoNumberNext bytes)
    ⊎ ((flaw ≡ BadMaximum) × (digits rest : List ℕ) × NextNumber bytes digits rest
    × ((sample : Sample) → ¬ (maximum_of sample ≡ value_of digits)))

-- after the width and the height
abbrev pub HasLateFlaw : List ℕ → Flaw → Type 0
HasLateFlaw bytes flaw =
    NoMaximumNext bytes flaw
    ⊎ ((sample : Sample) × (rest : List ℕ) × MaximumNext bytes sample rest
    × (flaw ≡ NoBlank) × ((places : List ℕ) → ¬ (BlankNext rest places)))

-- after `P6`
abbrev pub HasSizeFlaw : List ℕ → Flaw → Type 0
HasSizeFlaw bytes flaw =
    NoSideNext bytes flaw
    ⊎ ((width : ℕ) × (one : List ℕ) × SideNext bytes width one
    × (NoSideNext one flaw
    ⊎ ((height : ℕ) × (two : List ℕ) × SideNext one height two × HasLateFlaw two flaw)))

abbrev pub HasHeadFlaw : List ℕ → Flaw → Type 0
HasHeadFlaw bytes flaw =
    ((flaw ≡ NoPixmap) × ((rest : List ℕ) → ¬ (MagicNext bytes rest)))
    ⊎ ((magic : List ℕ) × MagicNext bytes magic × HasSizeFlaw magic flaw)
