-- A hint that is of no use, and is not judged again.
use Rattle.std.proofs.Common.{◌≡◌, ◌∙◌, ℕ, Bool, true, false, List, Option, Some, None, sym, refl}
use Rattle.std.specs.Option.{ForSome}
use Rattle.std.proofs.lemmas.Bool.{both_ways}
use Rattle.rfb_pixel.specs.declared.colour.Colour.{Colour}
use Rattle.rfb_picture.specs.Grid.{Grid}
use Rattle.rfb_server.specs.declared.hint.Hint.{Hint}
use Rattle.rfb_server.specs.declared.session.Session.{Session}
use Rattle.rfb_server.specs.update.Copies.{IsUseful, SendsHint}
use Rattle.rfb_server.specs.update.Sends.{IsKept}

-- no hint is said to be of none
pub none_useless : (screen : Grid Colour) (s : Session) (useless : Option Hint) → useless ≡ None →
    ForSome useless (λ known. IsUseful screen s known → ⊥)
none_useless screen s useless none = λ hint some. absurd (apart hint (sym none ∙ some))
  where
    apart : (hint : Hint) → None ≡ Some hint → ⊥
    apart hint e = cc

module _ (screen : Grid Colour) (old new : Session) (kept : IsKept old new)
    (known : new.known ≡ old.known) where
  -- what is of use to a session is so to another one that has all but its stage
  useful_still : (hint : Hint) → IsUseful screen new hint → IsUseful screen old hint
  useful_still hint useful = record {
    gain = rw (← known, ← kept.area, ← kept.setting.format, ← kept.setting.encodings) useful.gain;
    free = record {
      asked = rw (← kept.area) useful.free.asked;
      not_whole = rw (← kept.area) useful.free.not_whole;
      marked = rw (← kept.marks) useful.free.marked;
    };
  }

-- so one that was judged is of none, where it was not used
pub left_useless : (screen : Grid Colour) (hint : Hint) (old new : Session) (did : Bool)
    (before after : List ℕ) (useless : Option Hint) → useless ≡ Some hint → did ≡ false →
    SendsHint did screen hint old new before after → IsKept old new →
    ForSome useless (λ known. IsUseful screen new known → ⊥)
left_useless screen hint old new true before after useless this left sends kept =
    absurd (both_ways true left refl)
left_useless screen hint old new false before after useless this left sends kept = λ known some.
    let same : Some hint ≡ Some known = sym this ∙ some in
    let is : hint ≡ known = cc in
    rw (← is) (λ useful. sends.0 (useful_still screen old new kept sends.1 hint useful))
