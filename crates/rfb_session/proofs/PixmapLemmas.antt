-- The bytes of a pixmap's places, one row after the other.
use Rattle.std.proofs.Common.{◌≡◌, ℕ, ◌+◌, ◌-◌, ◌*◌, ◌/◌, min, List, [], ◌∷◌, ◌++◌, length, length-drop, take, take-add}
use Rattle.std.proofs.Common.{drop, drop-cons, refl, ap, sym, ◌∙◌, arith}
use Rattle.std.proofs.Common.{Option, subst, append-nil, append_assoc, take-append-drop}
use Rattle.std.proofs.Common.{slice_index_or, ◌≤◌, ◌<◌, length-take}
use Rattle.std.proofs.lemmas.List.{take_all, length-take-le}
use Rattle.std.proofs.lemmas.Slice.{take-put_mid}
use borrow.Rule.Slice.PartMut.{put_mid}
use Rattle.byteorder.specs.Endian.{big_bytes}
use Rattle.std.specs.Io.KnownBytes.{Appends}
use Rattle.rfb_picture.specs.Grid.{Grid}
use Rattle.rfb_pixel.specs.declared.colour.Colour.{Colour}
use Rattle.rfb_session.specs.Pixmap.{components, header, header_of, pixmap}
use Rattle.rfb_session.specs.Devices.{AppendsBeginning, AppendsUpTo}
use Rattle.rfb_session.proofs.WrittenLemmas.{none_written, then_written, more_waits, then_all, then_stopped}
use Rattle.rfb_session.proofs.WrittenLemmas.{beginning_more}

-- the bytes of a colour, before others
abbrev pub with_colour : Colour → List ℕ → List ℕ
with_colour c more = big_bytes 2 c.r ++ (big_bytes 2 c.g ++ (big_bytes 2 c.b ++ more))

pub components-append : (xs ys : List Colour) → components (xs ++ ys) ≡ components xs ++ components ys
unfolding components
components-append [] ys = refl
components-append (c ∷ cs) ys = ap (with_colour c) (components-append cs ys)

-- The bytes of the rows so far and those of the next row are the bytes of one row more.
pub components_more : (places row : List Colour) (bytes : List ℕ) (y width w : ℕ) →
    w ≡ width → row ≡ take w (drop (y * width + 0) places) → bytes ≡ components row →
    components (take (y * width) places) ++ bytes ≡ components (take ((y + 1) * width) places)
components_more places row bytes y width w same lent put =
    let e : (y + 1) * width ≡ y * width + width = omega arith in
    let f : y * width + 0 ≡ y * width = omega arith in
    rw (put, lent, same, f, e, take-add)
    (sym (components-append (take (y * width) places) (take width (drop (y * width) places))))

-- Before the first row there are none.
pub components_none : (places : List Colour) (width : ℕ) → components (take (0 * width) places) ≡ []
unfolding components
components_none places width = let e : 0 * width ≡ 0 = omega arith in rw e refl

-- ---- rows that are gathered for a write

-- the header, and the rows up to one
abbrev pub text_up_to : Grid Colour → ℕ → List ℕ
text_up_to g y = header g ++ components (take (y * g.width) g.places)

-- a row more waits
pub row_more : (g : Grid Colour) (y width : ℕ) (row : List Colour) → width ≡ g.width →
    row ≡ take width (drop (y * g.width + 0) g.places) →
    text_up_to g y ++ components row ≡ text_up_to g (y + 1)
row_more g y width row same lent =
    append_assoc (header g) (components (take (y * g.width) g.places)) (components row)
    ∙ ap (λ (l : List ℕ). header g ++ l)
    (components_more g.places row (components row) y g.width width same lent refl)

-- the text up to a row is a beginning of the picture's
text_rest : (g : Grid Colour) (y : ℕ) → pixmap g ≡ text_up_to g y ++ components (drop (y * g.width) g.places)
text_rest g y =
    ap (λ (l : List Colour). header g ++ components l) (sym (take-append-drop (y * g.width) g.places))
    ∙ ap (λ (l : List ℕ). header g ++ l) (components-append (take (y * g.width) g.places) (drop (y * g.width) g.places))
    ∙ sym (append_assoc (header g) (components (take (y * g.width) g.places))
    (components (drop (y * g.width) g.places)))

pub row_stopped : (g : Grid Colour) (y : ℕ) (old new : Option (List ℕ)) →
    AppendsBeginning old new (text_up_to g y) → AppendsBeginning old new (pixmap g)
row_stopped g y old new begun =
    subst (λ (l : List ℕ). AppendsBeginning old new l) (sym (text_rest g y))
    (beginning_more old new (text_up_to g y) (components (drop (y * g.width) g.places)) begun)

-- all rows
pub whole_text : (g : Grid Colour) (y : ℕ) → y ≡ g.height → length g.places ≡ g.height * g.width →
    text_up_to g y ≡ pixmap g
whole_text g y last whole =
    rw last (ap (λ (l : List Colour). header g ++ components l)
    (take_all (g.height * g.width) g.places (omega (arith, whole))))

-- before the first row
pub no_rows : (g : Grid Colour) (w h : ℕ) → w ≡ g.width → h ≡ g.height → header_of w h ≡ text_up_to g 0
no_rows g w h wide high =
    ap (λ (k : ℕ). header_of k h) wide ∙ ap (λ (k : ℕ). header_of g.width k) high
    ∙ sym (append-nil (header g)) ∙ ap (λ (l : List ℕ). header g ++ l) (sym (components_none g.places g.width))

-- ---- components that are appended

pub components_nil : components [] ≡ []
unfolding components
components_nil = refl

-- the bytes of one colour, two by two
pub colour_bytes : (c : Colour) (r g b : List ℕ) → r ≡ big_bytes 2 c.r → g ≡ big_bytes 2 c.g → b ≡ big_bytes 2 c.b →
    slice_index_or r 0 0 ∷ slice_index_or r 1 0 ∷ slice_index_or g 0 0 ∷ slice_index_or g 1 0 ∷ slice_index_or b 0 0
    ∷ slice_index_or b 1 0 ∷ [] ≡ components (c ∷ [])
unfolding components
colour_bytes c r g b er eg eb = rw (er, eg, eb) refl

-- a colour has six bytes
pub components_len : (colours : List Colour) → length (components colours) ≡ 6 * length colours
unfolding components
components_len [] = refl
components_len (c ∷ colours) = let more = components_len colours in omega (arith, more)

-- the six bytes of a list, one by one, before others
abbrev pub six_of : List ℕ → List ℕ → List ℕ
six_of xs more =
    slice_index_or xs 0 0 ∷ slice_index_or xs 1 0 ∷ slice_index_or xs 2 0 ∷ slice_index_or xs 3 0
    ∷ slice_index_or xs 4 0 ∷ slice_index_or xs 5 0 ∷ more

six_are : (bytes more : List ℕ) (c : Colour) → bytes ≡ components (c ∷ []) → six_of bytes more ≡ with_colour c more
unfolding components
six_are bytes more c is = rw is refl

-- the components of eight
pub components_eight : (xs : List Colour) (none : Colour) (a b c d e f g h : List ℕ) → length xs ≡ 8 →
    a ≡ components (slice_index_or xs 0 none ∷ []) → b ≡ components (slice_index_or xs 1 none ∷ []) →
    c ≡ components (slice_index_or xs 2 none ∷ []) → d ≡ components (slice_index_or xs 3 none ∷ []) →
    e ≡ components (slice_index_or xs 4 none ∷ []) → f ≡ components (slice_index_or xs 5 none ∷ []) →
    g ≡ components (slice_index_or xs 6 none ∷ []) → h ≡ components (slice_index_or xs 7 none ∷ []) →
    six_of a (six_of b (six_of c (six_of d (six_of e (six_of f (six_of g (six_of h []))))))) ≡ components xs
unfolding components
components_eight (p ∷ q ∷ r ∷ s ∷ t ∷ u ∷ v ∷ w ∷ []) none a b c d e f g h many ea eb ec ed ee ef eg eh =
    rw (ea, eb, ec, ed, ee, ef, eg, eh) refl
components_eight [] none a b c d e f g h many ea eb ec ed ee ef eg eh = absurd (omega (arith, many))
components_eight (p ∷ []) none a b c d e f g h many ea eb ec ed ee ef eg eh = absurd (omega (arith, many))
components_eight (p ∷ q ∷ []) none a b c d e f g h many ea eb ec ed ee ef eg eh = absurd (omega (arith, many))
components_eight (p ∷ q ∷ r ∷ []) none a b c d e f g h many ea eb ec ed ee ef eg eh = absurd (omega (arith, many))
components_eight (p ∷ q ∷ r ∷ s ∷ []) none a b c d e f g h many ea eb ec ed ee ef eg eh = absurd (omega (arith, many))
components_eight (p ∷ q ∷ r ∷ s ∷ t ∷ []) none a b c d e f g h many ea eb ec ed ee ef eg eh =
    absurd (omega (arith, many))
components_eight (p ∷ q ∷ r ∷ s ∷ t ∷ u ∷ []) none a b c d e f g h many ea eb ec ed ee ef eg eh =
    absurd (omega (arith, many))
components_eight (p ∷ q ∷ r ∷ s ∷ t ∷ u ∷ v ∷ []) none a b c d e f g h many ea eb ec ed ee ef eg eh =
    absurd (omega (arith, many))
components_eight (p ∷ q ∷ r ∷ s ∷ t ∷ u ∷ v ∷ w ∷ x ∷ xs) none a b c d e f g h many ea eb ec ed ee ef eg eh =
    absurd (omega (arith, many))

-- the components of no colour yet
pub no_components : (before : List ℕ) → before ++ components [] ≡ before
no_components before = ap (λ (l : List ℕ). before ++ l) components_nil ∙ append-nil before

-- those of the first `n` colours are the first of all
pub components_split : (before : List ℕ) (colours : List Colour) (n : ℕ) →
    before ++ components colours ≡ (before ++ components (take n colours)) ++ components (drop n colours)
components_split before colours n =
    ap (λ (l : List Colour). before ++ components l) (sym (take-append-drop n colours))
    ∙ ap (λ (l : List ℕ). before ++ l) (components-append (take n colours) (drop n colours))
    ∙ sym (append_assoc before (components (take n colours)) (components (drop n colours)))

-- after those of the colours before, the bytes of `n` colours are written over the others
pub put_more : (colours : List Colour) (bytes part : List ℕ) (start n k : ℕ) → start + n ≤ length colours →
    6 * start ≤ length bytes → take (6 * start) bytes ≡ components (take start colours) →
    part ≡ components (take n (drop start colours)) →
    take (6 * (start + n)) (put_mid (6 * start) k bytes part) ≡ components (take (start + n) colours)
put_more colours bytes part start n k within room so_far is =
    let rest = length-drop start colours in
    let piece : length (take n (drop start colours)) ≡ n =
    length-take-le n (drop start colours) (omega (arith, rest, within)) in
    let long : length part ≡ 6 * n =
    ap length is ∙ components_len (take n (drop start colours)) ∙ ap (λ (m : ℕ). 6 * m) piece in
    take-put_mid (6 * start) k bytes part (6 * (start + n)) (omega (arith, long)) room
    ∙ rw (so_far, is, take-add) (sym (components-append (take start colours) (take n (drop start colours))))

-- the colour at a place, as a list
pub one_taken : (colours : List Colour) (k : ℕ) (none : Colour) → k < length colours →
    slice_index_or colours k none ∷ [] ≡ take 1 (drop k colours)
one_taken colours k none below =
    let next = drop-cons colours k none below in
    sym (ap (take 1) next)

-- they wait after the others, once there is room
pub gathered_block : (old mid new : Option (List ℕ)) (before waiting roomy text : List ℕ)
    (colours block now : List Colour) → AppendsUpTo old mid (before ++ components colours) waiting →
    AppendsUpTo mid new waiting roomy → text ≡ roomy ++ components block → colours ++ block ≡ now →
    AppendsUpTo old new (before ++ components now) text
gathered_block old mid new before waiting roomy text colours block now so_far room all is =
    let parts : (before ++ components colours) ++ components block ≡ before ++ components now =
    append_assoc before (components colours) (components block)
    ∙ ap (λ (l : List ℕ). before ++ l) (sym (components-append colours block))
    ∙ ap (λ (l : List Colour). before ++ components l) is in
    subst (λ (l : List ℕ). AppendsUpTo old new (before ++ components now) l) (sym all)
    (subst (λ (l : List ℕ). AppendsUpTo old new l (roomy ++ components block)) parts
    (more_waits old new (before ++ components colours) roomy (components block)
    (then_written old mid new (before ++ components colours) waiting roomy so_far room)))

-- a block more
pub block_more : (colours : List Colour) (start end : ℕ) → start ≤ end →
    take start colours ++ take (end - start) (drop start colours) ≡ take end colours
block_more colours start end up =
    let split : start + (end - start) ≡ end = omega (arith, up) in
    sym (ap (λ (n : ℕ). take n colours) (sym split) ∙ take-add start (end - start) colours)

-- it ends where the colours do, or the room for their bytes
pub room_for_block : (colours : List Colour) (start end room waiting : ℕ) → room + waiting ≡ 65536 →
    end ≡ min (length colours) (start + room / 6) →
    waiting + 6 * length (take (end - start) (drop start colours)) ≤ 65536
room_for_block colours start end room waiting all is =
    let some : length (take (end - start) (drop start colours)) ≡ min (end - start) (length (drop start colours)) =
    length-take (end - start) (drop start colours) in
    omega (arith, all, is, some)

-- where it stops at some colour, a beginning of all was written
pub gathering_stopped : (old mid new : Option (List ℕ)) (before waiting : List ℕ) (colours : List Colour) (n : ℕ) →
    AppendsUpTo old mid (before ++ components (take n colours)) waiting → AppendsBeginning mid new waiting →
    AppendsBeginning old new (before ++ components colours)
gathering_stopped old mid new before waiting colours n so_far stopped =
    subst (λ (t : List ℕ). AppendsBeginning old new t) (sym (components_split before colours n))
    (beginning_more old new (before ++ components (take n colours)) (components (drop n colours))
    (then_stopped old mid new (before ++ components (take n colours)) waiting so_far stopped))

-- ---- the rows of a picture

-- the header waits
pub header_waits : (g : Grid Colour) (w h : ℕ) (old : Option (List ℕ)) (waiting : List ℕ) → w ≡ g.width →
    h ≡ g.height → waiting ≡ header_of w h → AppendsUpTo old old (text_up_to g 0) waiting
header_waits g w h old waiting wide high is =
    subst (λ (t : List ℕ). AppendsUpTo old old t waiting) (is ∙ no_rows g w h wide high) (none_written old waiting)

-- a row more was gathered
pub row_gathered : (g : Grid Colour) (y width : ℕ) (row : List Colour) (old mid new : Option (List ℕ))
    (waiting now : List ℕ) → AppendsUpTo old mid (text_up_to g y) waiting → width ≡ g.width →
    row ≡ take width (drop (y * g.width + 0) g.places) → AppendsUpTo mid new (waiting ++ components row) now →
    AppendsUpTo old new (text_up_to g (y + 1)) now
row_gathered g y width row old mid new waiting now so_far same lent more =
    subst (λ (t : List ℕ). AppendsUpTo old new t now) (row_more g y width row same lent)
    (then_written old mid new (text_up_to g y ++ components row) (waiting ++ components row) now
    (more_waits old mid (text_up_to g y) waiting (components row) so_far) more)

-- or was not
pub row_failed : (g : Grid Colour) (y width : ℕ) (row : List Colour) (old mid new : Option (List ℕ))
    (waiting : List ℕ) → AppendsUpTo old mid (text_up_to g y) waiting → width ≡ g.width →
    row ≡ take width (drop (y * g.width + 0) g.places) → AppendsBeginning mid new (waiting ++ components row) →
    AppendsBeginning old new (pixmap g)
row_failed g y width row old mid new waiting so_far same lent stopped =
    row_stopped g (y + 1) old new
    (subst (λ (t : List ℕ). AppendsBeginning old new t) (row_more g y width row same lent)
    (then_stopped old mid new (text_up_to g y ++ components row) (waiting ++ components row)
    (more_waits old mid (text_up_to g y) waiting (components row) so_far) stopped))

-- the last of it was written
pub picture_written : (g : Grid Colour) (y : ℕ) (old mid new : Option (List ℕ)) (waiting last : List ℕ) →
    AppendsUpTo old mid (text_up_to g y) waiting → y ≡ g.height → length g.places ≡ g.height * g.width →
    last ≡ waiting → Appends mid new last → Appends old new (pixmap g)
picture_written g y old mid new waiting last so_far end whole is more =
    subst (λ (t : List ℕ). Appends old new t) (whole_text g y end whole)
    (then_all old mid new (text_up_to g y) waiting so_far (subst (λ (t : List ℕ). Appends mid new t) is more))

pub picture_stopped : (g : Grid Colour) (y : ℕ) (old mid new : Option (List ℕ)) (waiting last : List ℕ) →
    AppendsUpTo old mid (text_up_to g y) waiting → last ≡ waiting → AppendsBeginning mid new last →
    AppendsBeginning old new (pixmap g)
picture_stopped g y old mid new waiting last so_far is more =
    row_stopped g y old new
    (then_stopped old mid new (text_up_to g y) waiting so_far
    (subst (λ (t : List ℕ). AppendsBeginning mid new t) is more))
