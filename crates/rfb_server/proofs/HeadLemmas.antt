-- Heads of a client's messages that are gathered: which bytes are the beginning of one, and which a whole one.
use Rattle.std.proofs.Common.{◌≡◌, ℕ, zero, suc, ◌+◌, ◌-◌, ◌<◌, ◌≤◌, Bool, true, List, [], ◌∷◌, ◌++◌, Option, Some}
use Rattle.std.proofs.Common.{None, length, take, replicate, min, refl, sym, ap, subst, ◌∙◌, length-append, arith}
use Rattle.std.proofs.lemmas.Bool.Decides.{nat_tests}
use Rattle.std.proofs.lemmas.List.{length-replicate, length-take-le, take-take, take_all}
use Rattle.std.proofs.Math.Seq.{take-append-add}
use Rattle.rfb_picture.specs.declared.rect.Rect.{Rect}
use Rattle.rfb_wire.specs.declared.fault.WireFault.{WireFault}
use Rattle.rfb_wire.specs.declared.fault.WireFault.TheVariants.{UnknownMessage, UnknownEncoding, RectOutside}
use Rattle.rfb_wire.specs.declared.client_head.ClientHead.{ClientHead}
use Rattle.rfb_wire.specs.stream.Heads.{Misses}
use Rattle.rfb_wire.specs.Heads.{IsUnknown}
use Rattle.rfb_wire.specs.ClientHead.{SpellsClientHead, SpellsRequest, client_head_size}
use Rattle.rfb_wire.specs.ClientMessage.{FaultsClientMessage, UnknownType}
use Rattle.rfb_wire.specs.ClientStream.{client_head_of}
use Rattle.rfb_wire.proofs.ClientStreamLaws.{client_headed}
use Rattle.rfb_server.specs.Progress.{is_less, is_head_begun, IsHeadBegun}

size_small : (first n : ℕ) → client_head_size first ≡ Some n → n ≤ 20
size_small first n e = grind (arith, nat_tests)

less_is : (count : ℕ) (size : Option ℕ) → is_less count size ≡ true → (n : ℕ) × (size ≡ Some n) × (count < n)
less_is count None e = absurd cc
less_is count (Some n) e = (n, refl, grind (arith, nat_tests))

is_less_than : (count n : ℕ) (size : Option ℕ) → size ≡ Some n → count < n → is_less count size ≡ true
is_less_than count n size e less = rw e (grind (arith, nat_tests))

pub begun_is : (bytes : List ℕ) → is_head_begun bytes ≡ true → IsHeadBegun bytes
begun_is [] e = tt
begun_is (first ∷ rest) e = less_is (length (first ∷ rest)) (client_head_size first) e

-- a head has fewer than twenty bytes while some are missing
pub begun_short : (bytes : List ℕ) → is_head_begun bytes ≡ true → length bytes < 20
begun_short [] e = omega arith
begun_short (first ∷ rest) e =
    let h = less_is (length (first ∷ rest)) (client_head_size first) e in
    omega (arith, h.2, size_small first h.0 h.1)

pub misses_begun : (n : ℕ) (bytes : List ℕ) → Misses SpellsClientHead n bytes → is_head_begun bytes ≡ true
misses_begun n [] misses = refl
misses_begun n (first ∷ rest) misses =
    let missing = replicate n 0 in
    let long : length missing ≡ n = length-replicate n 0 in
    let made = misses.1 missing long in
    let told : client_head_size first ≡ Some (length (first ∷ (rest ++ missing))) =
    (client_headed.only made.0 (first ∷ (rest ++ missing)) made.1).1 in
    is_less_than (length (first ∷ rest)) (length (first ∷ (rest ++ missing))) (client_head_size first) told
    (omega (arith, length-append rest missing, long, misses.0))

pub begun_misses : (bytes : List ℕ) → IsHeadBegun bytes → (n : ℕ) × Misses SpellsClientHead n bytes
begun_misses [] h = (1, refl)
begun_misses (first ∷ rest) h =
    let n = h.0 - length (first ∷ rest) in (
      n,
      (
        omega (arith, h.2),
        λ missing long.
            let all = first ∷ (rest ++ missing) in
            let whole : h.0 ≡ length all = omega (arith, length-append rest missing, long, h.2) in
            (client_head_of all, client_headed.made all (h.1 ∙ ap (λ (k : ℕ). Some k) whole)),
      ),
    )

-- a head where one was begun is longer than what was there
pub head_longer : (part bytes : List ℕ) (size : ℕ) (head : ClientHead) → is_head_begun part ≡ true →
    size ≤ length (part ++ bytes) →
    SpellsClientHead head (take size (part ++ bytes)) → length part < size
head_longer [] bytes size head e within s =
    let some = (client_headed.only head (take size bytes) s).2 in
    let count = length-take-le size bytes within in
    omega (arith, some, count)
head_longer (first ∷ rest) bytes zero head e within s =
    let some = (client_headed.only head [] s).2 in absurd (omega (arith, some))
head_longer (first ∷ rest) bytes (suc size) head e within s =
    let told : client_head_size first ≡ Some (length (take (suc size) (first ∷ (rest ++ bytes)))) =
    (client_headed.only head (take (suc size) (first ∷ (rest ++ bytes))) s).1 in
    let count = length-take-le (suc size) (first ∷ (rest ++ bytes)) within in
    let h = less_is (length (first ∷ rest)) (client_head_size first) e in
    let same : h.0 ≡ length (take (suc size) (first ∷ (rest ++ bytes))) = cc in
    omega (arith, h.2, same, count)

-- a request that is all of the bytes after a part of none
pub request_after : (part bytes : List ℕ) (size : ℕ) (incremental : Bool) (rect : Rect) →
    length part ≡ 0 → size ≡ length bytes →
    SpellsRequest incremental rect (take size bytes) → SpellsRequest incremental rect (part ++ bytes)
request_after [] bytes size incremental rect none all s =
    subst (SpellsRequest incremental rect) (take_all size bytes (omega (arith, all))) s
request_after (first ∷ rest) bytes size incremental rect none all s = absurd (omega (arith, none))

-- the first bytes of a part and of what comes after it
pub head_taken : (part bytes : List ℕ) (k size : ℕ) → length part < size → size ≤ length part + k →
    part ++ take (size - length part) bytes ≡ take size (part ++ take k bytes)
head_taken part bytes k size less within =
    let m = size - length part in
    let whole : length part + m ≡ size = omega (arith, less) in
    let inner : take m (take k bytes) ≡ take m bytes = take-take m k bytes (omega (arith, within, less)) in
    ap (λ (ys : List ℕ). part ++ ys) (sym inner) ∙ sym (take-append-add part (take k bytes) m)
    ∙ ap (λ (n : ℕ). take n (part ++ take k bytes)) whole

-- a type that no message has is the first byte of all
pub bad_type : (fault : WireFault) (part bytes : List ℕ) (k : ℕ) → is_head_begun part ≡ true →
    IsUnknown SpellsClientHead fault (part ++ take k bytes) →
    (kind : ℕ) × (fault ≡ UnknownMessage kind) × FaultsClientMessage (UnknownType kind) (part ++ take 1 bytes)
bad_type (UnknownEncoding number) part bytes k e h = absurd h
bad_type RectOutside part bytes k e h = absurd h
bad_type (UnknownMessage kind) (first ∷ rest) bytes k e h =
    let begun = less_is (length (first ∷ rest)) (client_head_size first) e in
    let same : first ≡ kind = cc_first first kind (rest ++ take k bytes) h.0 h.1 in
    absurd (client_headed.begins first begun.0 begun.1 (rw same h.2))
  where
    cc_first : (a b : ℕ) (xs ys : List ℕ) → a ∷ xs ≡ b ∷ ys → a ≡ b
    cc_first a b xs ys e = cc
bad_type (UnknownMessage kind) [] [] k e h = absurd (none k h.0 h.1)
  where
    none : (n : ℕ) (ys : List ℕ) → take n [] ≡ kind ∷ ys → ⊥
    none zero ys e = cc
    none (suc n) ys e = cc
bad_type (UnknownMessage kind) [] (b ∷ bytes) zero e h = absurd cc
bad_type (UnknownMessage kind) [] (b ∷ bytes) (suc k) e h =
    let same : b ≡ kind = first_is b kind (take k bytes) h.0 h.1 in
    (kind, refl, (ap (λ (x : ℕ). x ∷ []) same, h.2))
  where
    first_is : (a c : ℕ) (xs ys : List ℕ) → a ∷ xs ≡ c ∷ ys → a ≡ c
    first_is a c xs ys e = cc

-- ---- a part with as many bytes after it as the longest head has room for

gathered_long : (part bytes : List ℕ) (k : ℕ) → k ≤ length bytes → length (part ++ take k bytes) ≡ length part + k
gathered_long part bytes k within =
    length-append part (take k bytes) ∙ ap (λ (n : ℕ). length part + n) (length-take-le k bytes within)

pub gathered_more : (part bytes all : List ℕ) (n k : ℕ) → length part < 20 → k ≡ min (length bytes) (20 - length part) →
    all ≡ part ++ take k bytes → Misses SpellsClientHead n all →
    (length part + length bytes ≤ 20) × (all ≡ part ++ take (length bytes) bytes) × (is_head_begun all ≡ true)
gathered_more part bytes all n k few is e misses =
    let begun = misses_begun n all misses in
    let short = begun_short all begun in
    let within : k ≤ length bytes = omega (arith, is) in
    let long : length all ≡ length part + k = ap length e ∙ gathered_long part bytes k within in
    let whole : k ≡ length bytes = omega (arith, is, long, short, few) in
    (omega (arith, long, short, whole), e ∙ ap (λ (j : ℕ). part ++ take j bytes) whole, begun)

pub gathered_got : (part bytes all : List ℕ) (k size : ℕ) (head : ClientHead) → is_head_begun part ≡ true →
    k ≤ length bytes → all ≡ part ++ take k bytes →
    size ≤ length all → SpellsClientHead head (take size all) →
    (length part < size) × (size ≤ length part + length bytes)
    × SpellsClientHead head (part ++ take (size - length part) bytes)
gathered_got part bytes all k size head begun within e fits s =
    let spelled : SpellsClientHead head (take size (part ++ take k bytes)) =
    subst (λ (zs : List ℕ). SpellsClientHead head (take size zs)) e s in
    let fits_there : size ≤ length (part ++ take k bytes) = subst (λ (zs : List ℕ). size ≤ length zs) e fits in
    let long = gathered_long part bytes k within in
    let less = head_longer part (take k bytes) size head begun fits_there spelled in (
      less,
      omega (arith, fits_there, long, within),
      subst (λ (zs : List ℕ). SpellsClientHead head zs)
          (sym (head_taken part bytes k size less (omega (arith, fits_there, long)))) spelled,
    )
