use Rattle.std.proofs.Common.{◌≡◌, ◌&&◌, ◌*◌, ℕ, Bool, Option, Some, None, refl, subst}
use Rattle.std.specs.Int.{div_ceil}
use Rattle.rfb_picture.specs.Grid.{Grid}
use Rattle.rfb_picture.specs.Box.{is_in}
use Rattle.rfb_picture.specs.CellOrder.{NoneInCells, HasCandidate}
use Rattle.rfb_server.specs.declared.session.Session.{Session}
use Rattle.rfb_server.specs.update.Sends.{NoneMayNeed, HasNext}
use Rattle.rfb_server.proofs.session.Session.next_cell.Goals as goal

none_here : (s : Session) (n m : ℕ) →
    NoneInCells (λ x y. is_in s.marks x y && is_in s.area.asked x y) s.marks.width s.marks.height n m →
    NoneMayNeed s n m
none_here s n m none = λ x y p q l u.
    none x y (rw (s.alike.marks_wide) p) (rw (s.alike.marks_high) q) (rw (s.alike.marks_wide) l)
    (rw (s.alike.marks_wide) u)

next_here : (s : Session) (n : ℕ) (found : Option ℕ) →
    HasCandidate (λ x y. is_in s.marks x y && is_in s.area.asked x y) s.marks.width s.marks.height n found →
    HasNext s n found
next_here s n None none =
    let all : div_ceil s.marks.width 64 * div_ceil s.marks.height 64
    ≡ div_ceil s.known.width 64 * div_ceil s.known.height 64 = rw (s.alike.marks_wide, s.alike.marks_high) refl in
    subst (λ (m : ℕ). NoneMayNeed s n m) all
    (none_here s n (div_ceil s.marks.width 64 * div_ceil s.marks.height 64) none)
next_here s n (Some cell) next = record {
  after = next.after;
  is_cell = rw (← s.alike.marks_wide, ← s.alike.marks_high) next.is_cell;
  none = none_here s n cell next.none;
}

pub returns : goal.returns
returns c =
    let s = c.args.self.now in
    next_here s c.args.from c.next_open_of_both.result
    (subst (λ (g : Grid Bool). HasCandidate (λ x y. is_in s.marks x y && is_in g x y) s.marks.width s.marks.height
    c.args.from c.next_open_of_both.result) c.asked.ensures c.next_open_of_both.ensures)
