-- What the program does for words: a command, with the files that are named.
use Rattle.std.specs.Prelude.{◌≡◌, ◌⊎◌, ℕ, List, Option, Some, None}
use Rattle.std.specs.Borrow.{Bor}
use Rattle.clap.specs.Words.{Text}
use Rattle.rfb.specs.declared.options.Order.{Order}
use Rattle.rfb.specs.declared.options.paths.Input.{Input}
use Rattle.rfb.specs.declared.options.paths.Input.TheVariants.{Standard, File, Lines}
use Rattle.rfb.specs.declared.options.paths.Paths.{Paths}
use Rattle.rfb.specs.command.Program.{Does, Leaves}
use Rattle.rfb.specs.Options.{AreOrdered}

-- a file that is named is read in place of standard input, and of its bytes nothing is known; words
-- that are lines are, too
abbrev pub FromInput : Input → (Option (List ℕ) → Type 0) → Option (List ℕ) → Type 0
FromInput Standard Acts read = Acts read
FromInput (File path) Acts read = (bytes : Option (List ℕ)) × Acts bytes
FromInput (Lines text) Acts read = Acts (Some text.items)

-- where a file is named, it is written in place of standard output, which stays as it was
abbrev pub IntoFile : Option (Bor Text) → (Option (List ℕ) → Option (List ℕ) → Type 0) →
    Option (List ℕ) → Option (List ℕ) → Type 0
IntoFile None Acts before after = Acts before after
IntoFile (Some path) Acts before after =
    (after ≡ before) × (blank full : Option (List ℕ)) × Acts blank full

-- both; where nothing is named, this is what was read and written
abbrev pub Through : Paths → (Option (List ℕ) → Option (List ℕ) → Option (List ℕ) → Type 0) →
    Option (List ℕ) → Option (List ℕ) → Option (List ℕ) → Type 0
Through paths Acts read before after =
    IntoFile paths.output (λ blank full. FromInput paths.input (λ bytes. Acts bytes blank full)
    read) before after

-- the same of what words ask for
abbrev pub DoesAsked : (P : Type 0) → List Text → Option (List ℕ) → Option (List ℕ) → Option (List ℕ) → Type 0
DoesAsked P words read before after =
    (order : Order) × AreOrdered words order
    × Through order.paths (Does P order.task) read before after

-- and of a command that failed, or for which there was no memory or no file
abbrev pub LeavesAsked : (P : Type 0) → List Text → Option (List ℕ) → Option (List ℕ) → Option (List ℕ) → Type 0
LeavesAsked P words read before after =
    (after ≡ before)
    ⊎ ((order : Order) × AreOrdered words order
    × Through order.paths (Leaves P order.task) read before after)
