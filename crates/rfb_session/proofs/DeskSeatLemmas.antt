-- One seat of a desk as the seats are served: whether its update is a large one, whether it is put off, and its marks.
use Rattle.std.proofs.Common.{◌≡◌, ◌∙◌, ◌&&◌, ℕ, Bool, true, false, not, List, [], Option}
use Rattle.std.proofs.Common.{refl, sym, ap, arith, inl, inr, length, nat_eq}
use Rattle.std.proofs.lemmas.Bool.{false≢true}
use Rattle.std.proofs.lemmas.Bool.Decides.{eqb_tells}
use Rattle.rfb_pixel.specs.declared.colour.Colour.{Colour}
use Rattle.rfb_picture.specs.Grid.{Grid}
use Rattle.rfb_session.specs.declared.share.seat.ShareSeat.{ShareSeat}
use Rattle.rfb_session.specs.Share.{waiting_for}
use Rattle.rfb_session.specs.ShareTwins.{IsGiven}
use Rattle.rfb_session.specs.console.Updates.{IsLarge, OrPutOff}

-- where nothing changed no large update was composed
pub not_large : (old new : Option ShareSeat) → new ≡ old → IsLarge old new → ⊥
not_large old new same large =
    let none : waiting_for new ≡ [] = ap (λ (o : Option ShareSeat). waiting_for o) same ∙ large.written in
    omega (arith, large.large, ap (λ (l : List ℕ). length l) none)

-- nor where one was given that is none
pub gift_small : (screen : Grid Colour) (was one old new : Option ShareSeat) → waiting_for was ≡ [] →
    IsGiven screen one old new → (IsLarge was one → ⊥) → IsLarge old new → ⊥
gift_small screen was one old new written given small large = small (record {
  written = written;
  large = rw (sym given.same) large.large;
})

pub first_of : (a b : Bool) → (a && b) ≡ true → a ≡ true
first_of true b e = refl
first_of false b e = absurd cc

pub second_of : (a b : Bool) → (a && b) ≡ true → b ≡ true
second_of true b e = e
second_of false b e = absurd cc

pub not_true : (b : Bool) → not b ≡ true → b ≡ false
not_true true e = absurd cc
not_true false e = refl

pub first_false : (a b : Bool) → a ≡ false → (a && b) ≡ false
first_false a b e = rw e refl

pub second_false : (a b : Bool) → b ≡ false → (a && b) ≡ false
second_false true b e = e
second_false false b e = refl

pub differs : (k n : ℕ) → (k ≡ n → ⊥) → nat_eq k n ≡ false
differs k n other = elim (eqb_tells k n) [
  | inl same ↦ absurd (other same.1)
  | inr not_same ↦ not_same.0
]

-- what is done where nobody is put off is done where somebody may be
pub not_put_off : (busy : Bool) (Does : Type 0) (old new : Option ShareSeat) → Does → OrPutOff busy Does old new
not_put_off false Does old new does = does
not_put_off true Does old new does = inr does

pub put_off : (busy : Bool) (Does : Type 0) (old new : Option ShareSeat) → busy ≡ true → new ≡ old →
    OrPutOff busy Does old new
put_off true Does old new is same = inl same
put_off false Does old new is same = absurd (false≢true is)

pub put_off_more : (busy : Bool) (Does More : Type 0) (old new : Option ShareSeat) → (Does → More) →
    OrPutOff busy Does old new → OrPutOff busy More old new
put_off_more false Does More old new more does = more does
put_off_more true Does More old new more (inl same) = inl same
put_off_more true Does More old new more (inr does) = inr (more does)
