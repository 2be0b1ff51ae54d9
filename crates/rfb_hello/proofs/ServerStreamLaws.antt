-- The stream of a server's handshake, point by point.
use Rattle.std.proofs.Common.{◌≡◌, ◌≢◌, ℕ, zero, suc, ◌+◌, ◌*◌, ◌<◌, ◌==◌, inr, nat_lt}
use Rattle.std.proofs.Common.{Bool, true, false, List}
use Rattle.std.proofs.Common.{[], ◌++◌, Option, Some, None, if◌then◌else◌, length, refl, sym, subst, ◌∙◌, ap}
use Rattle.std.proofs.Common.{append-nil, length-append, arith}
use Rattle.std.proofs.lemmas.Bool.Decides.{nat_tests}
use Rattle.rfb_wire.specs.Fields.{u16_at, u32_at}
use Rattle.rfb_wire.specs.stream.Prefix.{Says, Reads, Same}
use Rattle.rfb_wire.specs.stream.Parts.{valued}
use Rattle.rfb_wire.specs.stream.Grammar.{IsSpelled, IsGrammar}
use Rattle.rfb_wire.proofs.stream_laws.PartLaws.{done_says, then_says, done_reads, then_reads, same_reads}
use Rattle.rfb_wire.proofs.stream_laws.RepeatLaws.{valued_says, valued_reads, checked_says, checked_reads}
use Rattle.rfb_wire.proofs.stream_laws.HeadedLaws.{waiting_says, waiting_reads}
use Rattle.rfb_wire.proofs.stream_laws.GrammarLaws.{spelled_grammar}
use Rattle.rfb_hello.specs.declared.version.Version.{Version}
use Rattle.rfb_hello.specs.declared.version.Version.TheVariants.{V33, V37, V38}
use Rattle.rfb_hello.specs.declared.fault.HelloFault.{HelloFault}
use Rattle.rfb_hello.specs.declared.fault.HelloFault.TheVariants.{BadVersion, NoneNotOffered, Refused, BadSecurityWord}
use Rattle.rfb_hello.specs.declared.fault.HelloFault.TheVariants.{SecurityFailed, ScreenEmpty, ScreenTooLarge}
use Rattle.rfb_hello.specs.Version.{version_of}
use Rattle.rfb_hello.specs.ServerHandshake.{ServerPoint, AwaitsVersion, AwaitsSecurity, AwaitsResult, AwaitsInit}
use Rattle.rfb_hello.specs.ServerHandshake.{AwaitsName, Begun, ServerItem, ProtocolVersion, SecurityNone, SecurityTypes}
use Rattle.rfb_hello.specs.ServerHandshake.{SecurityResult, ServerInit, Name, IsTypes, IsWordWithReason}
use Rattle.rfb_hello.specs.ServerHandshake.{SpellsServerInit, IsAdmitted, SpellsServerItem, FaultsServerItem}
use Rattle.rfb_hello.specs.ServerHandshake.{server_item_says, server_item_size}
use Rattle.rfb_hello.specs.ServerItems.{after_result, screen_fault, name}
use Rattle.rfb_hello.specs.ServerItems.{server_item, server_handshake}
use Rattle.rfb_hello.proofs.ServerHandshakeLaws.{reason_says, reason_reads, word_alone, fault_after}
use Rattle.rfb_hello.proofs.ServerSecurityLaws.{text_fault, version_same, security_reads}

-- ---- SecurityResult

abbrev result_says : ℕ → Says ServerItem HelloFault
result_says zero = done_says SecurityResult
result_says (suc word) = reason_says (λ n. SecurityFailed n)

result_reads : (word : ℕ) → Reads (after_result word) (result_says word)
result_reads zero = done_reads SecurityResult
result_reads (suc word) = reason_reads (λ n. SecurityFailed n)

abbrev results_say : Says ServerItem HelloFault
results_say = then_says (valued_says 4 (λ bytes. u32_at 0 bytes)) result_says

results_same : (max : ℕ) (v : Version) → Same results_say (server_item_says max (AwaitsResult v))
results_same max v = record {
  item = λ step bytes h. item h.0 step bytes h.1 h.2 h.3 h.4 h.5;
  fault = fault_after 4 (λ bytes. u32_at 0 bytes) result_says (FaultsServerItem max (AwaitsResult v)) fault_of;
  item_back = item_back;
  fault_back = fault_back;
}
  where
    item : (word : ℕ) (step : ServerItem) (bytes front back : List ℕ) → bytes ≡ front ++ back → (length front ≡ 4)
        × (word ≡ u32_at 0 front) → (result_says word).item step back → SpellsServerItem max (AwaitsResult v) step bytes
    item zero step bytes front back e value h = subst (λ (s : ServerItem). SpellsServerItem max (AwaitsResult v) s
        bytes) (sym h.0) (word_alone 0 bytes front back e value h.1)
    item (suc word) step bytes front back e value h = absurd h

    fault_of : (word : ℕ) (f : HelloFault) (bytes front back : List ℕ) → bytes ≡ front ++ back → (length front ≡ 4)
        × (word ≡ u32_at 0 front) → (result_says word).fault f back → FaultsServerItem max (AwaitsResult v) f bytes
    fault_of zero f bytes front back e value h = absurd h
    fault_of (suc word) f bytes front back e value (
      n,
      is,
      r,
    ) = subst (λ (k : HelloFault). FaultsServerItem max (AwaitsResult v) k bytes) (sym is) (
      suc word,
      (λ none. omega arith),
      record { head = front; reason = back; whole = e; head_is = (value.0, sym value.1); reason_is = r },
    )

    item_back : (step : ServerItem) (bytes : List ℕ) → SpellsServerItem max (AwaitsResult v) step bytes →
        results_say.item step bytes
    item_back SecurityResult bytes h = (zero, bytes, [], sym (append-nil bytes), (h.0, sym h.1), (refl, refl))
    item_back step bytes h = absurd h

    failed : (word n : ℕ) (bytes : List ℕ) → word ≢ 0 → IsWordWithReason word n bytes →
        results_say.fault (SecurityFailed n) bytes
    failed zero n bytes some r = absurd (some refl)
    failed (suc word) n bytes some r =
        inr (suc word, r.head, r.reason, r.whole, (r.head_is.0, sym r.head_is.1), (n, refl, r.reason_is))

    fault_back : (f : HelloFault) (bytes : List ℕ) → FaultsServerItem max (AwaitsResult v) f bytes →
        results_say.fault f bytes
    fault_back (SecurityFailed n) bytes h = failed h.0 n bytes h.1 h.2
    fault_back f bytes h = absurd h

-- ---- ServerInit and the name

init_same : (max : ℕ) (v : Version) → Same (checked_says 24 (screen_fault max)
    (λ bytes. ServerInit (u16_at 0 bytes) (u16_at 2 bytes) (u32_at 20 bytes))) (server_item_says max (AwaitsInit v))
init_same max v = record {
  item = item;
  fault = λ f bytes h. told f bytes (u16_at 0 bytes * u16_at 2 bytes == 0)
      (nat_lt max (u16_at 0 bytes * u16_at 2 bytes)) h.0 refl refl h.1;
  item_back = item_back;
  fault_back = fault_back;
}
  where
    spelled : (bytes : List ℕ) → length bytes ≡ 24 →
        SpellsServerInit (u16_at 0 bytes) (u16_at 2 bytes) (u32_at 20 bytes) bytes
    spelled bytes size = record { size = size; width_is = refl; height_is = refl; name_length_is = refl }

    both_some : (w h : ℕ) → w * h ≢ 0 → (0 < w) × (0 < h)
    both_some zero h some = absurd (some (omega arith))
    both_some (suc w) zero some = absurd (some (omega arith))
    both_some (suc w) (suc h) some = (omega arith, omega arith)

    good : (bytes : List ℕ) (none many : Bool) → (u16_at 0 bytes * u16_at 2 bytes == 0) ≡ none →
        nat_lt max (u16_at 0 bytes * u16_at 2 bytes) ≡ many → ◌≡◌ {A = Option HelloFault} (if none then Some ScreenEmpty
        else if many then Some ScreenTooLarge else None) None → IsAdmitted max (u16_at 0 bytes) (u16_at 2 bytes)
    good bytes true many e f told = cc
    good bytes false true e f told = cc
    good bytes false false e f told =
        let some : u16_at 0 bytes * u16_at 2 bytes ≢ 0 = grind (arith, nat_tests) in
        let sides = both_some (u16_at 0 bytes) (u16_at 2 bytes) some in
        (sides.0, sides.1, grind (arith, nat_tests))

    item : (step : ServerItem) (bytes : List ℕ) → (length bytes ≡ 24)
        × (screen_fault max bytes ≡ None) × (step ≡ ServerInit (u16_at 0 bytes) (u16_at 2 bytes) (u32_at 20 bytes)) →
        SpellsServerItem max (AwaitsInit v) step bytes
    item step bytes h = subst (λ (s : ServerItem). SpellsServerItem max (AwaitsInit v) s bytes) (sym h.2) (
      spelled bytes h.0,
      good bytes (u16_at 0 bytes * u16_at 2 bytes == 0) (nat_lt max (u16_at 0 bytes * u16_at 2 bytes)) refl refl h.1,
    )

    told : (f : HelloFault) (bytes : List ℕ) (none many : Bool) → length bytes ≡ 24 →
        (u16_at 0 bytes * u16_at 2 bytes == 0) ≡ none → nat_lt max (u16_at 0 bytes * u16_at 2 bytes) ≡ many →
        ◌≡◌ {A = Option HelloFault} (if none then Some ScreenEmpty else if many then Some ScreenTooLarge else None)
        (Some f) → FaultsServerItem max (AwaitsInit v) f bytes
    told f bytes true many size e g told_is =
        let same : ScreenEmpty ≡ f = cc in
        let empty : u16_at 0 bytes * u16_at 2 bytes ≡ 0 = grind (arith, nat_tests) in
        subst (λ (k : HelloFault). FaultsServerItem max (AwaitsInit v) k bytes) same
        (u16_at 0 bytes, u16_at 2 bytes, u32_at 20 bytes, spelled bytes size, empty)
    told f bytes false true size e g told_is =
        let same : ScreenTooLarge ≡ f = cc in
        let some : 0 < u16_at 0 bytes * u16_at 2 bytes = grind (arith, nat_tests) in
        let large : max < u16_at 0 bytes * u16_at 2 bytes = grind (arith, nat_tests) in
        subst (λ (k : HelloFault). FaultsServerItem max (AwaitsInit v) k bytes) same
        (u16_at 0 bytes, u16_at 2 bytes, u32_at 20 bytes, spelled bytes size, some, large)
    told f bytes false false size e g told_is = cc

    positive : (w h : ℕ) → 0 < w → 0 < h → 0 < w * h
    positive zero h a b = absurd (omega arith)
    positive (suc w) zero a b = absurd (omega arith)
    positive (suc w) (suc h) a b = omega arith

    item_back : (step : ServerItem) (bytes : List ℕ) →
        SpellsServerItem max (AwaitsInit v) step bytes → (length bytes ≡ 24) × (screen_fault max bytes ≡ None)
        × (step ≡ ServerInit (u16_at 0 bytes) (u16_at 2 bytes) (u32_at 20 bytes))
    item_back (ServerInit w h n) bytes (s, (wide, high, few)) =
        let some = positive w h wide high in
        let not_none : (w * h == 0) ≡ false = grind (arith, nat_tests) in
        let not_many : nat_lt max (w * h) ≡ false = grind (arith, nat_tests) in (
          s.size,
          rw (s.width_is, s.height_is, not_none, not_many) refl,
          rw (s.width_is, s.height_is, s.name_length_is) refl,
        )
    item_back step bytes h = absurd h

    fault_back : (f : HelloFault) (bytes : List ℕ) → FaultsServerItem max (AwaitsInit v) f bytes →
        (length bytes ≡ 24) × (screen_fault max bytes ≡ Some f)
    fault_back ScreenEmpty bytes (w, h, n, s, empty) = (s.size, rw (s.width_is, s.height_is, empty) refl)
    fault_back ScreenTooLarge bytes (w, h, n, s, some, many) =
        let not_none : (w * h == 0) ≡ false = grind (arith, nat_tests) in
        let is_many : nat_lt max (w * h) ≡ true = grind (arith, nat_tests) in
        (s.size, rw (s.width_is, s.height_is, not_none, is_many) refl)
    fault_back f bytes h = absurd h

-- a screen without a fault is admitted
pub screen_admitted : (max : ℕ) (v : Version) (bytes : List ℕ) → length bytes ≡ 24 → screen_fault max bytes ≡ None →
    IsAdmitted max (u16_at 0 bytes) (u16_at 2 bytes)
screen_admitted max v bytes size good =
    ((init_same max v).item (ServerInit (u16_at 0 bytes) (u16_at 2 bytes) (u32_at 20 bytes)) bytes (size, good, refl)).1

abbrev name_says : ℕ → Says ServerItem HelloFault
name_says zero = waiting_says
name_says (suc n) = valued_says (suc n) (λ text. Name text)

name_reads : (n : ℕ) → Reads (name n) (name_says n)
name_reads zero = waiting_reads
name_reads (suc n) = valued_reads (suc n) (λ text. Name text)

name_same : (max : ℕ) (v : Version) (w h n : ℕ) → Same (name_says n) (server_item_says max (AwaitsName v w h n))
name_same max v w h n = record {
  item = item n;
  fault = λ f bytes bad. absurd (none n f bytes bad);
  item_back = item_back n;
  fault_back = λ f bytes bad. absurd bad;
}
  where
    item : (k : ℕ) (step : ServerItem) (bytes : List ℕ) → (name_says k).item step bytes →
        SpellsServerItem max (AwaitsName v w h k) step bytes
    item zero step bytes is = absurd is
    item (suc k) step bytes is = subst (λ (s : ServerItem). SpellsServerItem max (AwaitsName v w h (suc k)) s bytes)
        (sym is.1) (refl, is.0, omega arith)

    none : (k : ℕ) (f : HelloFault) (bytes : List ℕ) → (name_says k).fault f bytes → ⊥
    none zero f bytes bad = bad
    none (suc k) f bytes bad = bad

    item_back : (k : ℕ) (step : ServerItem) (bytes : List ℕ) → SpellsServerItem max (AwaitsName v w h k) step bytes →
        (name_says k).item step bytes
    item_back zero (Name text) bytes is = absurd (omega (arith, is.2))
    item_back (suc k) (Name text) bytes is = (ap length is.0 ∙ is.1, ap (λ (t : List ℕ). Name t) (sym is.0))
    item_back k step bytes is = absurd is

begun_same : (max : ℕ) (v : Version) (w h : ℕ) → Same waiting_says (server_item_says max (Begun v w h))
begun_same max v w h = record {
  item = λ step bytes is. absurd is;
  fault = λ f bytes bad. absurd bad;
  item_back = λ step bytes is. absurd is;
  fault_back = λ f bytes bad. absurd bad;
}

-- ---- the stream

pub server_item_reads : (max : ℕ) (point : ServerPoint) → Reads (server_item max point) (server_item_says max point)
server_item_reads max AwaitsVersion = same_reads (server_item max AwaitsVersion)
    (checked_says 12 text_fault (λ bytes. ProtocolVersion (version_of bytes))) (server_item_says max AwaitsVersion)
    (version_same max) (checked_reads 12 text_fault (λ bytes. ProtocolVersion (version_of bytes)))
server_item_reads max (AwaitsSecurity v) = security_reads max v
server_item_reads max (AwaitsResult v) = same_reads (server_item max (AwaitsResult v)) results_say (server_item_says max
    (AwaitsResult v)) (results_same max v) (then_reads (valued 4 (λ bytes. u32_at 0 bytes)) after_result
    (valued_says 4 (λ bytes. u32_at 0 bytes)) result_says (valued_reads 4 (λ bytes. u32_at 0 bytes)) result_reads)
server_item_reads max (AwaitsInit v) = same_reads (server_item max (AwaitsInit v))
    (checked_says 24 (screen_fault max) (λ bytes. ServerInit (u16_at 0 bytes) (u16_at 2 bytes) (u32_at 20 bytes)))
    (server_item_says max (AwaitsInit v)) (init_same max v)
    (checked_reads 24 (screen_fault max) (λ bytes. ServerInit (u16_at 0 bytes) (u16_at 2 bytes) (u32_at 20 bytes)))
server_item_reads max (AwaitsName v w h n) = same_reads (server_item max (AwaitsName v w h n)) (name_says n)
    (server_item_says max (AwaitsName v w h n)) (name_same max v w h n) (name_reads n)
server_item_reads max (Begun v w h) = same_reads (server_item max (Begun v w h)) waiting_says
    (server_item_says max (Begun v w h)) (begun_same max v w h) waiting_reads

types_sized : (types bytes : List ℕ) → IsTypes types bytes → (length bytes ≡ 1 + length types) × (0 < length bytes)
types_sized types bytes t = let size = ap length t.whole in (omega (arith, size), omega (arith, size))

step_sized : (max : ℕ) (point : ServerPoint) (step : ServerItem) (bytes : List ℕ) →
    SpellsServerItem max point step bytes → (length bytes ≡ server_item_size step) × (0 < length bytes)
step_sized max AwaitsVersion (ProtocolVersion v) bytes h = let size = h.text.size in (size, omega arith)
step_sized max (AwaitsSecurity V33) SecurityNone bytes h = let size = h.0 in (size, omega arith)
step_sized max (AwaitsSecurity V37) (SecurityTypes types) bytes h = types_sized types bytes h.0
step_sized max (AwaitsSecurity V38) (SecurityTypes types) bytes h = types_sized types bytes h.0
step_sized max (AwaitsResult v) SecurityResult bytes h = let size = h.0 in (size, omega arith)
step_sized max (AwaitsInit v) (ServerInit w h n) bytes is = let size = is.0.size in (size, omega arith)
step_sized max (AwaitsName v w h n) (Name text) bytes is =
    let size = ap length is.0 in
    (size, omega (arith, size, is.1, is.2))
step_sized max point step bytes h = absurd h

word_some : (head back bytes : List ℕ) → bytes ≡ head ++ back → length head ≡ 4 → 0 < length bytes
word_some head back bytes e size =
    let all : length bytes ≡ length head + length back = ap length e ∙ length-append head back in
    omega (arith, all, size)

fault_some : (max : ℕ) (point : ServerPoint) (f : HelloFault) (bytes : List ℕ) →
    FaultsServerItem max point f bytes → 0 < length bytes
fault_some max AwaitsVersion BadVersion bytes h = let size = h.0 in omega arith
fault_some max (AwaitsSecurity V33) (Refused n) bytes r = word_some r.head r.reason bytes r.whole r.head_is.0
fault_some max (AwaitsSecurity V33) NoneNotOffered bytes h = let size = h.0 in omega arith
fault_some max (AwaitsSecurity V33) BadSecurityWord bytes h = let size = h.1.0 in omega arith
fault_some max (AwaitsSecurity V37) (Refused n) bytes h = let size = ap length h.1 in omega (arith, size)
fault_some max (AwaitsSecurity V37) NoneNotOffered bytes h = (types_sized h.0 bytes h.1).1
fault_some max (AwaitsSecurity V38) (Refused n) bytes h = let size = ap length h.1 in omega (arith, size)
fault_some max (AwaitsSecurity V38) NoneNotOffered bytes h = (types_sized h.0 bytes h.1).1
fault_some max (AwaitsResult v) (SecurityFailed n) bytes h = word_some h.2.head h.2.reason bytes h.2.whole h.2.head_is.0
fault_some max (AwaitsInit v) ScreenEmpty bytes h = let size = h.3.size in omega arith
fault_some max (AwaitsInit v) ScreenTooLarge bytes h = let size = h.3.size in omega arith
fault_some max point f bytes h = absurd h

-- a server's handshake is spelled as RFC 6143 says
pub server_handshake_spelled : (limit : Version) (max : ℕ) →
    IsSpelled (server_handshake limit max) (server_item_says max)
server_handshake_spelled limit max = record {
  reads = λ point. server_item_reads max point;
  sized = λ point step bytes h. (step_sized max point step bytes h).0;
  some = λ point step bytes h. (step_sized max point step bytes h).1;
  some_fault = λ point f bytes h. fault_some max point f bytes h;
}

pub server_handshake_laws : (limit : Version) (max : ℕ) → IsGrammar (server_handshake limit max)
server_handshake_laws limit max =
    spelled_grammar (server_handshake limit max) (server_item_says max) (server_handshake_spelled limit max)
