use Rattle.std.proofs.Common.{ℕ, zero, suc, ◌≡◌, ◌<◌, ◌*◌, ◌/◌, ◌%◌, ◌∙◌, refl, arith}
use Rattle.std.proofs.lemmas.Grind.{common_steps}
use Rattle.std.specs.Int.{div_ceil}
use Rattle.std.proofs.lemmas.Nat.{div-add-mod', mod_below, div_below}
use Rattle.rfb_server.proofs.CellLemmas.{is_cell}
use Rattle.rfb_server.proofs.cells.cell_at.Goals as goal

some_left : (a b i : ℕ) → i < a * b → 0 < a
some_left zero b i l = omega arith
some_left (suc a) b i l = omega arith

pub returns-clause-cell : goal.returns-clause-cell
returns-clause-cell c =
    let across : ℕ = div_ceil c.args.width 64 in
    let down : ℕ = div_ceil c.args.height 64 in
    let index = c.args.index in
    let same : c.from-across.result ≡ div_ceil c.args.width 64 = c.from-across.ensures ∙ c.div_ceil.ensures in
    let some : 0 < across = some_left across down index c.requires.index in
    let column : index % across < across = mod_below index across some in
    let row : index / across < down = div_below index across down some (omega (arith, c.requires.index)) in
    rw (c.min.ensures, c.min-2.ensures, same)
    (is_cell c.args.width c.args.height across (index % across) (index / across) index (omega arith) (omega arith)
    column (omega arith) (div-add-mod' index across))

pub overflow_mul-y : goal.overflow_mul-y
overflow_mul-y c = grind (arith, common_steps)

pub overflow_sub-height : goal.overflow_sub-height
overflow_sub-height c = grind (arith, common_steps)

pub returns-clause-value : goal.returns-clause-value
returns-clause-value c =
    let same : c.from-across.result ≡ div_ceil c.args.width 64 = c.from-across.ensures ∙ c.div_ceil.ensures in
    rw (c.min.ensures, c.min-2.ensures, same) refl
