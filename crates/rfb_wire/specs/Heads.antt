-- What reading a head answers: the three answers, and for a message what each says of the relation
-- between heads and their bytes.
use Rattle.std.specs.Prelude.{◌≡◌, ℕ, List, ◌∷◌, ⊤}
use Rattle.rfb_wire.specs.stream.Heads.{BeginsNone}
use Rattle.rfb_wire.specs.declared.fault.WireFault.{WireFault}
use Rattle.rfb_wire.specs.declared.fault.WireFault.TheVariants.{UnknownMessage, UnknownEncoding, RectOutside}
use Rattle.rfb_wire.specs.declared.read.Read.{Read}
use Rattle.rfb_wire.specs.declared.read.Read.TheVariants.{More, Got, Bad}

module _ {V : Type 0} where
  -- a fact of how many bytes are missing, if some are
  abbrev pub IfMore : Read V → (ℕ → Type 0) → Type 0
  IfMore (More n) P = P n
  IfMore (Got v used) P = ⊤
  IfMore (Bad fault) P = ⊤

  -- a fact of what was read and of how many bytes, if something was
  abbrev pub IfGot : Read V → (V → ℕ → Type 0) → Type 0
  IfGot (More n) P = ⊤
  IfGot (Got v used) P = P v used
  IfGot (Bad fault) P = ⊤

  -- a fact of the fault, if there is one
  abbrev pub IfBad : Read V → (WireFault → Type 0) → Type 0
  IfBad (More n) P = ⊤
  IfBad (Got v used) P = ⊤
  IfBad (Bad fault) P = P fault

  -- the fault is the first byte, with which no head begins; a message's head has no other
  abbrev pub IsUnknown : (V → List ℕ → Type 0) → WireFault → List ℕ → Type 0
  IsUnknown Spells (UnknownMessage first) bytes =
      (rest : List ℕ) × (bytes ≡ first ∷ rest) × BeginsNone Spells first
  IsUnknown Spells (UnknownEncoding number) bytes = ⊥
  IsUnknown Spells RectOutside bytes = ⊥
