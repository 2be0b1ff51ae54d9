-- The reading of a client's handshake is what RFC 6143 says of its bytes, in both directions.
use Rattle.std.proofs.Common.{◌≡◌, ◌≢◌, ℕ, ◌≤◌, ◌<◌, ◌==◌, nat_le, Bool, true, false, List, Option, Some, None}
use Rattle.std.proofs.Common.{if◌then◌else◌, length, refl, sym, subst, ap, arith}
use Rattle.std.proofs.lemmas.Bool.Decides.{nat_tests}
use Rattle.rfb_wire.specs.Fields.{u8_at, flag_at}
use Rattle.rfb_wire.specs.stream.Prefix.{Reads, Same}
use Rattle.rfb_wire.specs.stream.Grammar.{IsSpelled, IsGrammar}
use Rattle.rfb_wire.proofs.stream_laws.PartLaws.{same_reads}
use Rattle.rfb_wire.proofs.stream_laws.RepeatLaws.{valued_says, valued_reads, checked_says, checked_reads}
use Rattle.rfb_wire.proofs.stream_laws.HeadedLaws.{one_byte, waiting_says, waiting_reads}
use Rattle.rfb_wire.proofs.stream_laws.GrammarLaws.{spelled_grammar}
use Rattle.rfb_hello.specs.declared.version.Version.{Version}
use Rattle.rfb_hello.specs.declared.fault.HelloFault.{HelloFault}
use Rattle.rfb_hello.specs.declared.fault.HelloFault.TheVariants.{BadVersion, VersionTooHigh, BadSecurityChoice}
use Rattle.rfb_hello.specs.Version.{SpellsVersion, is_version_text, version_of, minor_of}
use Rattle.rfb_hello.specs.ClientHandshake.{ClientPoint, AwaitsVersion, AwaitsChoice, AwaitsInit, Begun, ClientItem}
use Rattle.rfb_hello.specs.ClientHandshake.{ProtocolVersion, SecurityType, ClientInit, SpellsClientItem}
use Rattle.rfb_hello.specs.ClientHandshake.{FaultsClientItem, client_item_says, client_item_size, choice_fault}
use Rattle.rfb_hello.specs.ClientHandshake.{client_version_fault, client_item, client_handshake}
use Rattle.rfb_hello.proofs.VersionLaws.{text_true, text_test, text_false}

-- ---- the version

-- the fault of twelve bytes, by the tests that decide it
version_good : (offer : Version) (bytes : List ℕ) → length bytes ≡ 12 → client_version_fault offer bytes ≡ None →
    SpellsVersion (version_of bytes) bytes × (minor_of (version_of bytes) ≤ minor_of offer)
version_good offer bytes size e =
    by (is_version_text bytes) (nat_le (minor_of (version_of bytes)) (minor_of offer)) refl refl e
  where
    by : (text low : Bool) → is_version_text bytes ≡ text → nat_le (minor_of (version_of bytes)) (minor_of offer)
        ≡ low → ◌≡◌ {A = Option HelloFault} (if text then (if low then None else Some VersionTooHigh) else
        Some BadVersion) None → SpellsVersion (version_of bytes) bytes × (minor_of (version_of bytes) ≤ minor_of offer)
    by true true text low e = (record { text = text_true bytes size text; version_is = refl }, grind (arith, nat_tests))
    by true false text low e = cc
    by false low text is e = cc

version_told : (offer : Version) (bytes : List ℕ) (f : HelloFault) → length bytes ≡ 12 →
    client_version_fault offer bytes ≡ Some f → FaultsClientItem offer AwaitsVersion f bytes
version_told offer bytes f size e =
    by (is_version_text bytes) (nat_le (minor_of (version_of bytes)) (minor_of offer)) refl refl e
  where
    by : (text low : Bool) → is_version_text bytes ≡ text → nat_le (minor_of (version_of bytes)) (minor_of offer)
        ≡ low → ◌≡◌ {A = Option HelloFault} (if text then (if low then None else Some VersionTooHigh)
        else Some BadVersion) (Some f) → FaultsClientItem offer AwaitsVersion f bytes
    by true true text low e = cc
    by true false text low e =
        let same : VersionTooHigh ≡ f = cc in
        let high : minor_of offer < minor_of (version_of bytes) = grind (arith, nat_tests) in
        subst (λ (k : HelloFault). FaultsClientItem offer AwaitsVersion k bytes) same
        (version_of bytes, record { text = text_true bytes size text; version_is = refl }, high)
    by false low text is e =
        let same : BadVersion ≡ f = cc in
        subst (λ (k : HelloFault). FaultsClientItem offer AwaitsVersion k bytes) same
        (size, λ t. let good = text_test bytes t in cc)

version_same : (offer : Version) → Same (checked_says 12 (client_version_fault offer)
    (λ bytes. ProtocolVersion (version_of bytes))) (client_item_says offer AwaitsVersion)
version_same offer = record {
  item = λ step bytes h. subst (λ (s : ClientItem). SpellsClientItem offer AwaitsVersion s bytes) (sym h.2)
      (version_good offer bytes h.0 h.1);
  fault = λ f bytes h. version_told offer bytes f h.0 h.1;
  item_back = item_back;
  fault_back = fault_back;
}
  where
    good : (v : Version) (bytes : List ℕ) → SpellsVersion v bytes → minor_of v ≤ minor_of offer →
        client_version_fault offer bytes ≡ None
    good v bytes s low =
        let text = text_test bytes s.text in
        let below : nat_le (minor_of (version_of bytes)) (minor_of offer) ≡ true = subst
        (λ (w : Version). nat_le (minor_of w) (minor_of offer) ≡ true) s.version_is (grind (arith, nat_tests)) in
        rw (text, below) refl

    item_back : (step : ClientItem) (bytes : List ℕ) → SpellsClientItem offer AwaitsVersion step bytes →
        (length bytes ≡ 12) × (client_version_fault offer bytes ≡ None) × (step ≡ ProtocolVersion (version_of bytes))
    item_back (ProtocolVersion v) bytes h =
        (h.0.text.size, good v bytes h.0 h.1, ap (λ (w : Version). ProtocolVersion w) h.0.version_is)
    item_back step bytes h = absurd h

    fault_back : (f : HelloFault) (bytes : List ℕ) → FaultsClientItem offer AwaitsVersion f bytes →
        (length bytes ≡ 12) × (client_version_fault offer bytes ≡ Some f)
    fault_back BadVersion bytes h = (h.0, rw (text_false bytes h.0 h.1) refl)
    fault_back VersionTooHigh bytes h =
        let text = text_test bytes h.1.text in
        let high : nat_le (minor_of (version_of bytes)) (minor_of offer) ≡ false =
        subst (λ (w : Version). nat_le (minor_of w) (minor_of offer) ≡ false) h.1.version_is
        (let above = h.2 in grind (arith, nat_tests)) in
        (h.1.text.size, rw (text, high) refl)
    fault_back f bytes h = absurd h

-- ---- the choice, and ClientInit

choice_same : (offer v : Version) →
    Same (checked_says 1 choice_fault (λ bytes. SecurityType)) (client_item_says offer (AwaitsChoice v))
choice_same offer v = record { item = item; fault = fault; item_back = item_back; fault_back = fault_back }
  where
    by_good : (bytes : List ℕ) (b : Bool) → (u8_at 0 bytes == 1) ≡ b →
        ◌≡◌ {A = Option HelloFault} (if b then None else Some BadSecurityChoice) None → u8_at 0 bytes ≡ 1
    by_good bytes true is e = grind (arith, nat_tests)
    by_good bytes false is e = cc

    item : (step : ClientItem) (bytes : List ℕ) → (length bytes ≡ 1) × (choice_fault bytes ≡ None)
        × (step ≡ SecurityType) → SpellsClientItem offer (AwaitsChoice v) step bytes
    item step bytes h = subst (λ (s : ClientItem). SpellsClientItem offer (AwaitsChoice v) s bytes) (sym h.2)
        (one_byte bytes 1 h.0 (sym (by_good bytes (u8_at 0 bytes == 1) refl h.1)))

    by_bad : (bytes : List ℕ) (f : HelloFault) (b : Bool) → length bytes ≡ 1 →
        (u8_at 0 bytes == 1) ≡ b → ◌≡◌ {A = Option HelloFault} (if b then None else Some BadSecurityChoice) (Some f) →
        FaultsClientItem offer (AwaitsChoice v) f bytes
    by_bad bytes f true size is e = cc
    by_bad bytes f false size is e =
        let same : BadSecurityChoice ≡ f = cc in
        let other : u8_at 0 bytes ≢ 1 = grind (arith, nat_tests) in
        subst (λ (k : HelloFault). FaultsClientItem offer (AwaitsChoice v) k bytes) same
        (u8_at 0 bytes, one_byte bytes (u8_at 0 bytes) size refl, other)

    fault : (f : HelloFault) (bytes : List ℕ) → (length bytes ≡ 1) × (choice_fault bytes ≡ Some f) →
        FaultsClientItem offer (AwaitsChoice v) f bytes
    fault f bytes h = by_bad bytes f (u8_at 0 bytes == 1) h.0 refl h.1

    item_back : (step : ClientItem) (bytes : List ℕ) → SpellsClientItem offer (AwaitsChoice v) step bytes →
        (length bytes ≡ 1) × (choice_fault bytes ≡ None) × (step ≡ SecurityType)
    item_back SecurityType bytes h = rw h (refl, refl, refl)
    item_back step bytes h = absurd h

    fault_back : (f : HelloFault) (bytes : List ℕ) → FaultsClientItem offer (AwaitsChoice v) f bytes →
        (length bytes ≡ 1) × (choice_fault bytes ≡ Some f)
    fault_back BadSecurityChoice bytes (choice, e, other) =
        let no : (choice == 1) ≡ false = grind (arith, nat_tests) in
        rw e (refl, rw no refl)
    fault_back f bytes h = absurd h

init_same : (offer v : Version) →
    Same (valued_says 1 (λ bytes. ClientInit (flag_at 0 bytes))) (client_item_says offer (AwaitsInit v))
init_same offer v = record {
  item = item;
  fault = λ f bytes h. absurd h;
  item_back = item_back;
  fault_back = λ f bytes h. none f bytes h;
}
  where
    item : (step : ClientItem) (bytes : List ℕ) → (length bytes ≡ 1) × (step ≡ ClientInit (flag_at 0 bytes)) →
        SpellsClientItem offer (AwaitsInit v) step bytes
    item step bytes h = subst (λ (s : ClientItem). SpellsClientItem offer (AwaitsInit v) s bytes) (sym h.1) (h.0, refl)

    item_back : (step : ClientItem) (bytes : List ℕ) → SpellsClientItem offer (AwaitsInit v) step bytes →
        (length bytes ≡ 1) × (step ≡ ClientInit (flag_at 0 bytes))
    item_back (ClientInit shared) bytes h = (h.0, ap (λ (b : Bool). ClientInit b) (sym h.1))
    item_back step bytes h = absurd h

    none : (f : HelloFault) (bytes : List ℕ) → FaultsClientItem offer (AwaitsInit v) f bytes → ⊥
    none f bytes h = h

begun_same : (offer v : Version) (shared : Bool) → Same waiting_says (client_item_says offer (Begun v shared))
begun_same offer v shared = record {
  item = λ step bytes h. absurd h;
  fault = λ f bytes h. absurd h;
  item_back = λ step bytes h. item step bytes h;
  fault_back = λ f bytes h. none f bytes h;
}
  where
    item : (step : ClientItem) (bytes : List ℕ) → SpellsClientItem offer (Begun v shared) step bytes → ⊥
    item step bytes h = h

    none : (f : HelloFault) (bytes : List ℕ) → FaultsClientItem offer (Begun v shared) f bytes → ⊥
    none f bytes h = h

-- ---- the stream

pub client_item_reads : (offer : Version) (point : ClientPoint) →
    Reads (client_item offer point) (client_item_says offer point)
client_item_reads offer AwaitsVersion = same_reads (client_item offer AwaitsVersion) (checked_says 12
    (client_version_fault offer) (λ bytes. ProtocolVersion (version_of bytes))) (client_item_says offer AwaitsVersion)
    (version_same offer) (checked_reads 12 (client_version_fault offer) (λ bytes. ProtocolVersion (version_of bytes)))
client_item_reads offer (AwaitsChoice v) = same_reads (client_item offer (AwaitsChoice v))
    (checked_says 1 choice_fault (λ bytes. SecurityType)) (client_item_says offer (AwaitsChoice v))
    (choice_same offer v) (checked_reads 1 choice_fault (λ bytes. SecurityType))
client_item_reads offer (AwaitsInit v) =
    same_reads (client_item offer (AwaitsInit v)) (valued_says 1 (λ bytes. ClientInit (flag_at 0 bytes)))
    (client_item_says offer (AwaitsInit v)) (init_same offer v) (valued_reads 1 (λ bytes. ClientInit (flag_at 0 bytes)))
client_item_reads offer (Begun v shared) = same_reads (client_item offer (Begun v shared)) waiting_says
    (client_item_says offer (Begun v shared)) (begun_same offer v shared) waiting_reads

step_sized : (offer : Version) (point : ClientPoint) (step : ClientItem) (bytes : List ℕ) →
    SpellsClientItem offer point step bytes → (length bytes ≡ client_item_size step) × (0 < length bytes)
step_sized offer AwaitsVersion (ProtocolVersion v) bytes h = let size = h.0.text.size in (size, omega arith)
step_sized offer (AwaitsChoice v) SecurityType bytes h = rw h (refl, omega arith)
step_sized offer (AwaitsInit v) (ClientInit shared) bytes h = let size = h.0 in (size, omega arith)
step_sized offer point step bytes h = absurd h

fault_some : (offer : Version) (point : ClientPoint) (f : HelloFault) (bytes : List ℕ) →
    FaultsClientItem offer point f bytes → 0 < length bytes
fault_some offer AwaitsVersion BadVersion bytes h = let size = h.0 in omega arith
fault_some offer AwaitsVersion VersionTooHigh bytes h = let size = h.1.text.size in omega arith
fault_some offer (AwaitsChoice v) BadSecurityChoice bytes (choice, e, other) = rw e (omega arith)
fault_some offer point f bytes h = absurd h

-- a client's handshake is spelled as RFC 6143 says
pub client_handshake_spelled : (offer : Version) → IsSpelled (client_handshake offer) (client_item_says offer)
client_handshake_spelled offer = record {
  reads = λ point. client_item_reads offer point;
  sized = λ point step bytes h. (step_sized offer point step bytes h).0;
  some = λ point step bytes h. (step_sized offer point step bytes h).1;
  some_fault = λ point f bytes h. fault_some offer point f bytes h;
}

pub client_handshake_laws : (offer : Version) → IsGrammar (client_handshake offer)
client_handshake_laws offer =
    spelled_grammar (client_handshake offer) (client_item_says offer) (client_handshake_spelled offer)
