-- The least rectangle that holds others, and the rectangle that a server's bytes are at.
use Rattle.std.proofs.Common.{◌≡◌, ℕ, zero, suc, ◌+◌, ◌-◌, ◌<◌, ◌≤◌, ◌&&◌, nat_lt, min, max, Bool, true, false, List}
use Rattle.std.proofs.Common.{[], ◌++◌, length, Option, Some, None, ◌⊎◌, inl, inr, refl, sym, subst, ◌∙◌, ap, arith}
use Rattle.std.proofs.Common.{append_assoc}
use Rattle.std.proofs.lemmas.Bool.Decides.{nat_tests}
use Rattle.std.proofs.Math.Nat.{min-le_left, min-le_right, le-max_left, le-max_right}
use Rattle.rfb_pixel.specs.declared.colour.Colour.{Colour}
use Rattle.rfb_picture.specs.declared.rect.Rect.{Rect}
use Rattle.rfb_picture.specs.Rect.{contains}
use Rattle.rfb_picture.specs.Grid.{Grid}
use Rattle.rfb_picture.proofs.GridLaws.{contains_true}
use Rattle.rfb_wire.specs.declared.fault.WireFault.{WireFault}
use Rattle.rfb_wire.specs.declared.rect_head.RectHead.{RectHead as HeadOfRect}
use Rattle.rfb_wire.specs.RectStream.{rect_head}
use Rattle.rfb_wire.specs.stream.Prefix.{Next, More, Got, Bad}
use Rattle.rfb_wire.specs.stream.Sequel.{First, Second}
use Rattle.rfb_wire.proofs.RectStreamLaws.{rect_head_reads}
use Rattle.rfb_wire.proofs.stream_laws.PartLaws.{piece_short}
use Rattle.rfb_codec.specs.Painter.{Painting, painting_of, AwaitsData}
use Rattle.rfb_codec.specs.UnderWay.{UnderWay, painting}
use Rattle.rfb_codec.specs.UpdateStream.{UpdatePoint, UpdateItem, Message, Rectangle, SpellsNext, update_stream}
use Rattle.rfb_codec.proofs.UpdateStreamLaws.{update_spelled}
use Rattle.rfb_codec.proofs.UpdateWaitLaws.{at_rect}
use Rattle.rfb_viewer.specs.declared.viewer.Viewer.{Viewer}
use Rattle.rfb_viewer.specs.declared.viewer.damage.Edges.{Edges}
use Rattle.rfb_viewer.specs.declared.viewer.progress.Progress.{Progress}
use Rattle.rfb_viewer.specs.declared.viewer.progress.Progress.TheVariants.{Handshake, Head, RectHead, Data, Colours}
use Rattle.rfb_viewer.specs.declared.viewer.progress.Progress.TheVariants.{CutText, Failed}
use Rattle.rfb_viewer.specs.declared.fault.ViewerFault.{ViewerFault}
use Rattle.rfb_viewer.specs.Damage.{edges_of, rect_between, outermost, joined, joined_if, rect_of_damage, holds}
use Rattle.rfb_viewer.specs.Damage.{under_way, head_rect, begun_next, begun, item_damage}
use Rattle.rfb_viewer.specs.steps.ItemDamage.{ended_with}
use Rattle.rfb_viewer.specs.ServerBytes.{ServerAt}
use Rattle.rfb_viewer.specs.Viewer.{Viewing}
use Rattle.rfb_viewer.specs.Progress.{ProgressStandsFor, fault_in}

-- ---- the least rectangle that holds others

-- what lies between two edges lies between outer ones
between : (a b c e x : ℕ) → a ≤ x → x < a + (b - a) → (min a c ≤ x) × (x < min a c + (max b e - min a c))
between a b c e x low high =
    let left = min-le_left a c in
    let right = le-max_left b e in
    (omega (arith, low, left), omega (arith, low, high, left, right))

-- and so does what lies between the others
between_others : (a b c w x : ℕ) → c ≤ x → x < c + w → (min a c ≤ x) × (x < min a c + (max b (c + w) - min a c))
between_others a b c w x low high =
    let left = min-le_right a c in
    let right = le-max_right b (c + w) in
    (omega (arith, low, left), omega (arith, low, high, left, right))

pub inside : (r : Rect) (x y : ℕ) → r.x ≤ x → x < r.x + r.w → r.y ≤ y → y < r.y + r.h → contains r x y ≡ true
inside r x y left right top lower = grind (arith, nat_tests)

edges_inside : (a : Edges) (r : Rect) (x y : ℕ) → contains (rect_between a) x y ≡ true →
    contains (rect_between (outermost a (edges_of r))) x y ≡ true
edges_inside a r x y e =
    let h = contains_true (rect_between a) x y e in
    let column = between a.left a.right r.x (r.x + r.w) x h.0 h.1 in
    let row = between a.top a.lower r.y (r.y + r.h) y h.2 h.3 in
    inside (rect_between (outermost a (edges_of r))) x y column.0 column.1 row.0 row.1

rect_inside : (a : Edges) (r : Rect) (x y : ℕ) → contains r x y ≡ true →
    contains (rect_between (outermost a (edges_of r))) x y ≡ true
rect_inside a r x y e =
    let h = contains_true r x y e in
    let column = between_others a.left a.right r.x r.w x h.0 h.1 in
    let row = between_others a.top a.lower r.y r.h y h.2 h.3 in
    inside (rect_between (outermost a (edges_of r))) x y column.0 column.1 row.0 row.1

-- what is not in the greater is not in the smaller
not_inside : (small great : Bool) → great ≡ false → (small ≡ true → great ≡ true) → small ≡ false
not_inside false great out more = refl
not_inside true great out more = absurd (let e = more refl in cc)

alone : (r : Rect) → rect_between (edges_of r) ≡ r
alone r =
    let wide : r.x + r.w - r.x ≡ r.w = omega arith in
    let high : r.y + r.h - r.y ≡ r.h = omega arith in
    rw (wide, high) refl

-- where a rectangle is joined the damage holds what it held, and the rectangle
pub joined_holds : (d : Option Edges) (r : Rect) (x y : ℕ) → holds (rect_of_damage (joined d r)) x y ≡ false →
    (holds (rect_of_damage d) x y ≡ false) × (contains r x y ≡ false)
joined_holds d r x y out = by d (nat_lt 0 r.w && nat_lt 0 r.h) refl (contains r x y) refl out
  where
    by : (d : Option Edges) (some : Bool) → (nat_lt 0 r.w && nat_lt 0 r.h) ≡ some →
        (b : Bool) → contains r x y ≡ b → holds (rect_of_damage (joined d r)) x y ≡ false →
        (holds (rect_of_damage d) x y ≡ false) × (contains r x y ≡ false)
    by None true is b e out =
        let out' = rw is at out in
        (refl, subst (λ (k : Rect). contains k x y ≡ false) (alone r) out')
    by (Some a) true is b e out =
        let out' = rw is at out in
        (not_inside _ _ out' (edges_inside a r x y), not_inside _ _ out' (rect_inside a r x y))
    by d false is false e out = let out' = rw is at out in (out', e)
    by d false is true e out =
        let h = contains_true r x y e in
        let wide : 0 < r.w = omega (arith, h) in
        let high : 0 < r.h = omega (arith, h) in
        let some : (nat_lt 0 r.w && nat_lt 0 r.h) ≡ true = grind (arith, nat_tests) in
        absurd cc

pub joined_if_holds : (d : Option Edges) (r : Option Rect) (x y : ℕ) →
    holds (rect_of_damage (joined_if d r)) x y ≡ false → (holds (rect_of_damage d) x y ≡ false) × (holds r x y ≡ false)
joined_if_holds d None x y out = (out, refl)
joined_if_holds d (Some r) x y out = joined_holds d r x y out

-- and it holds no more
pub not_joined : (d : Option Edges) (b c : Option Rect) (x y : ℕ) → (b ≡ None) ⊎ (c ≡ b) → holds (rect_of_damage d) x y
    ≡ false → holds (rect_of_damage (joined_if d c)) x y ≡ false → holds (rect_of_damage (joined_if d b)) x y ≡ false
not_joined d b c x y (inl none) out more = rw none out
not_joined d b c x y (inr same) out more =
    subst (λ (k : Option Rect). holds (rect_of_damage (joined_if d k)) x y ≡ false) same more

pub ended_same : (b : Option Rect) (d : Option Edges) → ended_with b b d ≡ d
ended_same None d = refl
ended_same (Some r) d = refl

pub ended_none : (b : Option Rect) (d : Option Edges) → ended_with None b d ≡ joined_if d b
ended_none None d = refl
ended_none (Some r) d = refl

-- ---- the rectangle that bytes are at

pub some_begun : (q : UpdatePoint) (left : ℕ) (bytes : List ℕ) → 0 < left →
    begun_next q left bytes ≡ head_rect (rect_head q.width q.height bytes)
some_begun q zero bytes some = absurd (omega (arith, some))
some_begun q (suc left) bytes some = refl

pub none_begun : (q : UpdatePoint) (bytes : List ℕ) → q.left ≡ 0 → begun (Second q) bytes ≡ None
none_begun q bytes none = ap (λ (left : ℕ). begun_next q left bytes) none

pub head_short : (width height : ℕ) (bytes : List ℕ) → length bytes < 12 → rect_head width height bytes ≡ More
unfolding rect_head
head_short width height bytes short =
    let none = piece_short {F = WireFault} 12 bytes short in
    rw none refl

-- after no bytes none is begun
pub fresh_begun : (at : ServerAt) → begun at [] ≡ None
fresh_begun (First point) = refl
fresh_begun (Second q) = by q.left
  where
    by : (left : ℕ) → begun_next q left [] ≡ None
    by zero = refl
    by (suc left) = ap head_rect (head_short q.width q.height [] (omega arith))

-- after a head it is that head's
pub head_begun : (q : UpdatePoint) (head : HeadOfRect) (front body : List ℕ) (picture : Grid Colour) →
    AwaitsData q head front picture → begun (Second q) (front ++ body) ≡ Some head.rect
head_begun q head front body picture awaits =
    some_begun q q.left (front ++ body) awaits.some_left
    ∙ ap head_rect ((rect_head_reads q.width q.height).only head front body (awaits.head_is, awaits.on_screen))

-- more bytes leave a head that was read
head_stays : (width height : ℕ) (bytes more : List ℕ) (n : Next HeadOfRect WireFault) →
    rect_head width height bytes ≡ n → (n ≡ More) ⊎ (head_rect (rect_head width height (bytes ++ more)) ≡ head_rect n)
head_stays width height bytes more More e = inl refl
head_stays width height bytes more (Got head rest) e =
    let r = (rect_head_reads width height).found bytes head rest e in
    let whole : bytes ++ more ≡ r.0 ++ (rest ++ more) =
    ap (λ (ys : List ℕ). ys ++ more) r.1 ∙ append_assoc r.0 rest more in
    inr (ap (λ (ys : List ℕ). head_rect (rect_head width height ys)) whole
    ∙ ap head_rect ((rect_head_reads width height).only head r.0 (rest ++ more) r.2))
head_stays width height bytes more (Bad fault) e =
    let r = (rect_head_reads width height).blamed bytes fault e in
    let whole : bytes ++ more ≡ r.0 ++ (r.1 ++ more) =
    ap (λ (ys : List ℕ). ys ++ more) r.2 ∙ append_assoc r.0 r.1 more in
    inr (ap (λ (ys : List ℕ). head_rect (rect_head width height ys)) whole
    ∙ ap head_rect ((rect_head_reads width height).blames fault r.0 (r.1 ++ more) r.3))

pub begun_stays : (at : ServerAt) (bytes more : List ℕ) →
    (begun at bytes ≡ None) ⊎ (begun at (bytes ++ more) ≡ begun at bytes)
begun_stays (First point) bytes more = inl refl
begun_stays (Second q) bytes more = by q.left
  where
    read : (n : Next HeadOfRect WireFault) → rect_head q.width q.height bytes ≡ n →
        (head_rect (rect_head q.width q.height bytes) ≡ None) ⊎ (head_rect (rect_head q.width q.height (bytes ++ more))
        ≡ head_rect (rect_head q.width q.height bytes))
    read More e = inl (ap head_rect e)
    read (Got head rest) e = elim (head_stays q.width q.height bytes more (Got head rest) e) [
      | inl none ↦ absurd cc
      | inr same ↦ inr (same ∙ sym (ap head_rect e))
    ]
    read (Bad fault) e = elim (head_stays q.width q.height bytes more (Bad fault) e) [
      | inl none ↦ absurd cc
      | inr same ↦ inr (same ∙ sym (ap head_rect e))
    ]

    by : (left : ℕ) → (begun_next q left bytes ≡ None) ⊎ (begun_next q left (bytes ++ more) ≡ begun_next q left bytes)
    by zero = inl refl
    by (suc left) = read (rect_head q.width q.height bytes) refl

-- where the bytes are decided it is, whatever follows
pub begun_decided : (q : UpdatePoint) (bytes more : List ℕ) → (update_stream.next q bytes ≡ More → ⊥) →
    begun (Second q) (bytes ++ more) ≡ begun (Second q) bytes
begun_decided q bytes more decided = by q.left refl
  where
    read : 0 < q.left → (n : Next HeadOfRect WireFault) → rect_head q.width q.height bytes ≡ n →
        head_rect (rect_head q.width q.height (bytes ++ more)) ≡ head_rect (rect_head q.width q.height bytes)
    read some More e = absurd (decided (at_rect q bytes some ∙ (rw e refl)))
    read some (Got head rest) e = elim (head_stays q.width q.height bytes more (Got head rest) e) [
      | inl none ↦ absurd cc
      | inr same ↦ same ∙ sym (ap head_rect e)
    ]
    read some (Bad fault) e = elim (head_stays q.width q.height bytes more (Bad fault) e) [
      | inl none ↦ absurd cc
      | inr same ↦ same ∙ sym (ap head_rect e)
    ]

    by : (left : ℕ) → q.left ≡ left → begun_next q left (bytes ++ more) ≡ begun_next q left bytes
    by zero is = refl
    by (suc left) is = read (omega (arith, is)) (rect_head q.width q.height bytes) refl

-- an item adds the rectangle that its bytes began
pub item_begun : (q : UpdatePoint) (item : UpdateItem) (bytes rest : List ℕ) (d : Option Edges) →
    update_stream.next q bytes ≡ Got item rest → joined_if d (begun (Second q) bytes) ≡ item_damage item d
item_begun q item bytes rest d e =
    let r = (update_spelled.reads q).found bytes item rest e in
    by q.left item r.0 r.2 r.1
  where
    by : (left : ℕ) (item : UpdateItem) (front : List ℕ) → SpellsNext q left item front → bytes ≡ front ++ rest →
        joined_if d (begun_next q left bytes) ≡ item_damage item d
    by zero (Message message) front spelled is = refl
    by zero (Rectangle head body) front spelled is = absurd spelled
    by (suc left) (Message message) front spelled is = absurd spelled
    by (suc left) (Rectangle head body) front spelled is =
        let whole : bytes ≡ spelled.front ++ (body ++ rest) =
        is ∙ ap (λ (ys : List ℕ). ys ++ rest) spelled.whole ∙ append_assoc spelled.front body rest in
        let got : rect_head q.width q.height bytes ≡ Got head (body ++ rest) =
        ap (rect_head q.width q.height) whole ∙ (rect_head_reads q.width q.height).only head spelled.front
        (body ++ rest) (spelled.head_is, spelled.on_screen) in
        ap (λ (n : Next HeadOfRect WireFault). joined_if d (head_rect n)) got

-- ---- what a viewer is at

pub same_rect : (painter : UnderWay) (q : UpdatePoint) (head : HeadOfRect) →
    painting painter ≡ painting_of q head → painter.rect ≡ head.rect
same_rect painter q head is = ap (λ (p : Painting). p.rect) is

-- a viewer is at the rectangle that its bytes have begun
pub under_begun : (viewing : Viewing) (v : Viewer) (p : Progress) (at : ServerAt) (g : Option (Grid Colour))
    (prefix : List ℕ) → ProgressStandsFor viewing v p at g prefix → under_way p ≡ begun at prefix
under_begun viewing v Handshake (First point) g prefix h = refl
under_begun viewing v Handshake (Second q) g prefix h = absurd h
under_begun viewing v (Head bytes) (First point) g prefix h = refl
under_begun viewing v (Head bytes) (Second q) g prefix h = sym (none_begun q prefix h.0.left_is)
under_begun viewing v (RectHead more head) (First point) g prefix h = refl
under_begun viewing v (RectHead more head) (Second q) g prefix h =
    let left = h.0.left_is in
    let short = head_short q.width q.height head.items h.3 in
    sym (some_begun q q.left prefix (omega (arith, left)) ∙ (rw (h.2, short) refl))
under_begun viewing v (Data more painter) (First point) g prefix h = absurd h
under_begun viewing v (Data more painter) (Second q) g prefix h =
    let p = h.1 in
    sym (ap (begun (Second q)) p.prefix_is ∙ head_begun q p.head p.front p.body h.0.screen p.awaits
    ∙ ap (λ (r : Rect). Some r) (sym (same_rect painter q p.head p.painting_is)))
under_begun viewing v (Colours more) (First point) g prefix h = refl
under_begun viewing v (Colours more) (Second q) g prefix h = sym (none_begun q prefix h.0.left_is)
under_begun viewing v (CutText n more kept) (First point) g prefix h = refl
under_begun viewing v (CutText n more kept) (Second q) g prefix h = sym (none_begun q prefix h.0.left_is)
under_begun viewing v (Failed fault) at g prefix h = absurd h

pub failed_none : (p : Progress) (fault : ViewerFault) → fault_in p ≡ Some fault → under_way p ≡ None
failed_none Handshake fault e = refl
failed_none (Head bytes) fault e = refl
failed_none (RectHead more head) fault e = refl
failed_none (Data more painter) fault e = absurd cc
failed_none (Colours more) fault e = refl
failed_none (CutText n more kept) fault e = refl
failed_none (Failed other) fault e = refl
