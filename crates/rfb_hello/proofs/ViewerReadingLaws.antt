-- What is read of a server's bytes that a viewer has in parts.
use Rattle.std.proofs.Common.{◌≡◌, ◌≢◌, ℕ, zero, suc, ◌<◌, ◌||◌, ◌==◌, Bool, true, false, List, [], ◌∷◌, ◌++◌, length}
use Rattle.std.proofs.Common.{refl, subst, ◌∙◌, ap, append-nil, arith}
use Rattle.rfb_wire.specs.Fields.{u8_at, u32_at}
use Rattle.rfb_wire.specs.stream.Prefix.{More, Got, Bad, Reading}
use Rattle.rfb_wire.specs.stream.Parts.{piece, refused, and_then, valued}
use Rattle.rfb_wire.proofs.stream_laws.PartLaws.{piece_only, piece_short}
use Rattle.rfb_hello.specs.declared.version.Version.{Version}
use Rattle.rfb_hello.specs.declared.version.Version.TheVariants.{V33, V37, V38}
use Rattle.rfb_hello.specs.declared.fault.HelloFault.{HelloFault}
use Rattle.rfb_hello.specs.declared.fault.HelloFault.TheVariants.{NoneNotOffered}
use Rattle.rfb_hello.specs.declared.viewer_hello.progress.Cause.{Cause}
use Rattle.rfb_hello.specs.declared.viewer_hello.progress.Cause.TheVariants.{Refused, SecurityFailed}
use Rattle.rfb_hello.specs.ServerHandshake.{ServerPoint, AwaitsSecurity, AwaitsResult, ServerItem, SecurityTypes}
use Rattle.rfb_hello.specs.ServerHandshake.{IsWord, has_none}
use Rattle.rfb_hello.specs.ServerItems.{reason, after_word, after_count, after_result, security, server_item}
use Rattle.rfb_hello.specs.ViewerEnd.{OpensReason}
use Rattle.rfb_hello.specs.pieces.ViewerPiece.{fault_for}

module _ {A B F : Type 0} where
  -- after n bytes
  pub valued_got : (n : ℕ) (value : List ℕ → A) (k : A → Reading B F) (front tail : List ℕ) → length front ≡ n →
      and_then (valued n value) k (front ++ tail) ≡ k (value front) tail
  valued_got n value k front tail size = rw (piece_only {F = F} n front tail size) refl

  -- too few bytes
  pub valued_short : (n : ℕ) (value : List ℕ → A) (k : A → Reading B F) (bytes : List ℕ) → length bytes < n →
      and_then (valued n value) k bytes ≡ More
  valued_short n value k bytes few = rw (piece_short {F = F} n bytes few) refl

-- ---- reasons

pub reason_short : (fault : ℕ → HelloFault) (part : List ℕ) → length part < 4 → reason fault part ≡ More
reason_short fault part few = rw (piece_short {F = HelloFault} 4 part few) refl

-- after the length of a reason
reason_at : (fault : ℕ → HelloFault) (n : ℕ) (word text : List ℕ) → IsWord n word →
    reason fault (word ++ text) ≡ and_then (piece n) (λ _. refused (fault n)) text
reason_at fault n word text is =
    valued_got 4 (λ bytes. u32_at 0 bytes) (λ n. and_then (piece n) (λ _. refused (fault n))) word text is.0
    ∙ ap (λ (k : ℕ). and_then {A = List ℕ} {B = ServerItem} {F = HelloFault} (piece k)
    (λ _. refused (fault k)) text) is.1

pub reason_more : (fault : ℕ → HelloFault) (n : ℕ) (word text : List ℕ) → IsWord n word → length text < n →
    reason fault (word ++ text) ≡ More
reason_more fault n word text is few =
    reason_at fault n word text is ∙ rw (piece_short {F = HelloFault} n text few) refl

pub piece_whole : (n : ℕ) (bytes : List ℕ) → length bytes ≡ n → piece {F = HelloFault} n bytes ≡ Got bytes []
piece_whole n bytes size = subst (λ (ys : List ℕ). piece {F = HelloFault} n ys ≡ Got bytes []) (append-nil bytes)
    (piece_only {F = HelloFault} n bytes [] size)

pub reason_bad : (fault : ℕ → HelloFault) (n : ℕ) (word text : List ℕ) → IsWord n word → length text ≡ n →
    reason fault (word ++ text) ≡ Bad (fault n)
reason_bad fault n word text is size = reason_at fault n word text is ∙ rw (piece_whole n text size) refl

result_fails : (word : ℕ) (tail : List ℕ) → word ≢ 0 →
    after_result word tail ≡ reason (λ n. fault_for SecurityFailed n) tail
result_fails zero tail not = absurd (not refl)
result_fails (suc word) tail not = refl

-- after the bytes that come before a reason
pub opened : (max : ℕ) (cause : Cause) (point : ServerPoint) (intro tail : List ℕ) → OpensReason cause point intro →
    server_item max point (intro ++ tail) ≡ reason (λ n. fault_for cause n) tail
opened max Refused (AwaitsSecurity V33) intro tail h =
    valued_got 4 (λ bytes. u32_at 0 bytes) after_word intro tail h.0 ∙ ap (λ (k : ℕ). after_word k tail) h.1
opened max Refused (AwaitsSecurity V37) intro tail h =
    valued_got 1 (λ bytes. u8_at 0 bytes) after_count intro tail (ap length h)
    ∙ ap (λ (xs : List ℕ). after_count (u8_at 0 xs) tail) h
opened max Refused (AwaitsSecurity V38) intro tail h =
    valued_got 1 (λ bytes. u8_at 0 bytes) after_count intro tail (ap length h)
    ∙ ap (λ (xs : List ℕ). after_count (u8_at 0 xs) tail) h
opened max SecurityFailed (AwaitsResult version) intro tail h =
    valued_got 4 (λ bytes. u32_at 0 bytes) after_result intro tail h.2.0 ∙ ap (λ (k : ℕ). after_result k tail) h.2.1
    ∙ result_fails h.0 tail h.1
opened max cause point intro tail h = absurd h

-- ---- security types

pub types_next : (version : Version) (n : ℕ) (seen : List ℕ) → version ≢ V33 →
    security version (n ∷ seen) ≡ after_count n seen
types_next V33 n seen not = absurd (not refl)
types_next V37 n seen not = valued_got 1 (λ bytes. u8_at 0 bytes) after_count (n ∷ []) seen refl
types_next V38 n seen not = valued_got 1 (λ bytes. u8_at 0 bytes) after_count (n ∷ []) seen refl

pub types_more : (n : ℕ) (types : List ℕ) → length types < n → after_count n types ≡ More
types_more zero types few = absurd (omega (arith, few))
types_more (suc n) types few = rw (piece_short {F = HelloFault} (suc n) types few) refl

pub types_good : (n : ℕ) (types : List ℕ) → length types ≡ n → 0 < n → has_none types ≡ true →
    after_count n types ≡ Got (SecurityTypes types) []
types_good zero types size some has = absurd (omega (arith, some))
types_good (suc n) types size some has = rw (piece_whole (suc n) types size, has) refl

pub types_bad : (n : ℕ) (types : List ℕ) → length types ≡ n → 0 < n → has_none types ≡ false →
    after_count n types ≡ Bad NoneNotOffered
types_bad zero types size some has = absurd (omega (arith, some))
types_bad (suc n) types size some has = rw (piece_whole (suc n) types size, has) refl

either_after : (b m n k : Bool) → k ≡ (m || n) → (b || k) ≡ ((b || m) || n)
either_after true m n k e = refl
either_after false m n k e = e

pub none_after : (xs ys : List ℕ) → has_none (xs ++ ys) ≡ (has_none xs || has_none ys)
none_after [] ys = refl
none_after (x ∷ xs) ys = either_after (x == 1) (has_none xs) (has_none ys) (has_none (xs ++ ys)) (none_after xs ys)
