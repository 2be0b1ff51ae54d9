-- Heads of messages that come byte by byte.
use Rattle.std.proofs.Common.{◌≡◌, ℕ, zero, suc, ◌+◌, ◌-◌, ◌<◌, ◌≤◌, List, [], ◌∷◌, ◌++◌, Some, length, take, replicate}
use Rattle.std.proofs.Common.{slice_index, refl, subst, arith, length-append}
use Rattle.std.proofs.lemmas.Bool.Decides.{nat_tests}
use Rattle.std.proofs.lemmas.List.{length-take-le, take_all, length-replicate}
use Rattle.rfb_wire.specs.declared.server_head.ServerHead.{ServerHead}
use Rattle.rfb_wire.specs.stream.Heads.{Misses}
use Rattle.rfb_wire.specs.ServerHead.{SpellsServerHead, server_head_size}
use Rattle.rfb_wire.specs.stream.Prefix.{More}
use Rattle.rfb_wire.specs.ServerMessage.{server_message}
use Rattle.rfb_wire.proofs.stream_laws.HeadLaws.{misses_rest}
use Rattle.rfb_wire.proofs.ServerLaws.{server-sizes, server-spelled}
use Rattle.rfb_wire.proofs.WaitLaws.{server_head_waits}
use Rattle.rfb_viewer.specs.Progress.{IsHeadBegun}

size_some : (first n : ℕ) → server_head_size first ≡ Some n → 0 < n
size_some first n e = grind (arith, nat_tests)

size_small : (first n : ℕ) → server_head_size first ≡ Some n → n ≤ 8
size_small first n e = grind (arith, nat_tests)

-- the first byte of bytes that miss some asks for all of them
misses_size : (n first : ℕ) (rest : List ℕ) → Misses SpellsServerHead n (first ∷ rest) →
    (size : ℕ) × (server_head_size first ≡ Some size) × (length (first ∷ rest) + n ≡ size)
misses_size n first rest misses =
    let missing = replicate n 0 in
    let long : length missing ≡ n = length-replicate n 0 in
    let made = misses.1 missing long in
    let told : server_head_size first ≡ Some (length (first ∷ (rest ++ missing))) =
    (server-spelled made.0 (first ∷ (rest ++ missing)) made.1).1 in
    (length (first ∷ (rest ++ missing)), told, omega (arith, length-append rest missing, long))

pub misses_begun : (n : ℕ) (bytes : List ℕ) → Misses SpellsServerHead n bytes → IsHeadBegun bytes
misses_begun n [] misses = tt
misses_begun n (first ∷ rest) misses =
    let h = misses_size n first rest misses in
    let count = h.2 in
    (h.0, h.1, omega (arith, count, misses.0))

pub misses_few : (n : ℕ) (bytes : List ℕ) → Misses SpellsServerHead n bytes → length bytes < 8
misses_few n [] misses = omega arith
misses_few n (first ∷ rest) misses =
    let h = misses_size n first rest misses in
    let count = h.2 in
    let small = size_small first h.0 h.1 in
    omega (arith, count, small, misses.0)

-- a head that is begun is waited for
pub begun_waits : (bytes : List ℕ) → IsHeadBegun bytes → server_message bytes ≡ More
begun_waits [] begun = server_head_waits 1 [] refl
begun_waits (first ∷ rest) begun =
    server_head_waits (begun.0 - length (first ∷ rest)) (first ∷ rest) (misses_rest SpellsServerHead server_head_size
    server-sizes (first ∷ rest) begun.0 (omega arith) begun.2 begun.1)

-- a byte after what is begun
pub one_byte : (bytes : List ℕ) → 0 < length bytes → take 1 bytes ≡ slice_index bytes 0 ∷ []
one_byte [] some = absurd (omega (arith, some))
one_byte (byte ∷ bytes) some = refl

used_all : (head : ServerHead) (first used : ℕ) (rest : List ℕ) (size : ℕ) → server_head_size first ≡ Some size →
    length (first ∷ rest) ≤ size → used ≤ length (first ∷ rest) → SpellsServerHead head (take used (first ∷ rest)) →
    used ≡ length (first ∷ rest)
used_all head first zero rest size e few within s = absurd (omega (arith, (server-spelled head [] s).2))
used_all head first (suc used) rest size e few within s =
    let long : length (take (suc used) (first ∷ rest)) ≡ suc used = length-take-le (suc used) (first ∷ rest) within in
    let told : server_head_size first ≡ Some (length (take (suc used) (first ∷ rest))) =
    (server-spelled head (take (suc used) (first ∷ rest)) s).1 in
    let same : size ≡ length (take (suc used) (first ∷ rest)) = cc in
    omega (arith, same, long, few, within)

-- a head that is whole after what was begun takes all that came
pub head_whole : (head : ServerHead) (part : List ℕ) (byte used : ℕ) → IsHeadBegun part → used ≤ length part + 1 →
    SpellsServerHead head (take used (part ++ byte ∷ [])) → SpellsServerHead head (part ++ byte ∷ [])
head_whole head [] byte used begun within s =
    let some = (server-spelled head (take used (byte ∷ [])) s).2 in
    subst (λ (ys : List ℕ). SpellsServerHead head ys) (take_all used (byte ∷ []) (one used within some)) s
  where
    one : (n : ℕ) → n ≤ 1 → 0 < length (take n (byte ∷ [])) → 1 ≤ n
    one zero few some = absurd (omega (arith, some))
    one (suc n) few some = omega arith
head_whole head (first ∷ rest) byte used begun within s =
    let short = begun.2 in
    let long = length-append rest (byte ∷ []) in
    let all : used ≡ length (first ∷ (rest ++ byte ∷ [])) = used_all head first used (rest ++ byte ∷ []) begun.0 begun.1
    (omega (arith, short, long)) (omega (arith, within, long)) s in
    subst (λ (ys : List ℕ). SpellsServerHead head ys)
    (take_all used (first ∷ (rest ++ byte ∷ [])) (omega (arith, all))) s
