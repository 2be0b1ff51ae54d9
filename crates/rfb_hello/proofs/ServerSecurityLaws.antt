-- The version and the security types of a server's handshake, as they are in its stream.
use Rattle.std.proofs.Common.{◌≡◌, ◌≢◌, ℕ, inl, inr, Bool, true, false, List}
use Rattle.std.proofs.Common.{Option, Some, None, if◌then◌else◌, length, refl, sym, subst, ap}
use Rattle.rfb_wire.specs.Fields.{u8_at, u32_at}
use Rattle.rfb_wire.specs.stream.Prefix.{Reads, Same}
use Rattle.rfb_wire.specs.stream.Parts.{and_then, valued}
use Rattle.rfb_wire.proofs.stream_laws.PartLaws.{then_reads, same_reads}
use Rattle.rfb_wire.proofs.stream_laws.RepeatLaws.{valued_says, valued_reads, checked_says}
use Rattle.rfb_hello.specs.declared.version.Version.{Version}
use Rattle.rfb_hello.specs.declared.version.Version.TheVariants.{V33, V37, V38}
use Rattle.rfb_hello.specs.declared.fault.HelloFault.{HelloFault}
use Rattle.rfb_hello.specs.declared.fault.HelloFault.TheVariants.{BadVersion, NoneNotOffered, Refused}
use Rattle.rfb_hello.specs.Version.{is_version_text, version_of}
use Rattle.rfb_hello.specs.ServerHandshake.{AwaitsVersion, AwaitsSecurity}
use Rattle.rfb_hello.specs.ServerHandshake.{ServerItem, ProtocolVersion, SecurityTypes}
use Rattle.rfb_hello.specs.ServerHandshake.{SpellsServerItem, FaultsServerItem}
use Rattle.rfb_hello.specs.ServerHandshake.{server_item_says, has_none, IsTypes, IsWithoutNone, IsRefusal}
use Rattle.rfb_hello.specs.ServerItems.{after_word, after_count, security}
use Rattle.rfb_hello.proofs.VersionLaws.{text_true, text_test, text_false}
use Rattle.rfb_hello.proofs.ServerHandshakeLaws.{word_says, words_say}
use Rattle.rfb_hello.proofs.ServerHandshakeLaws.{word_reads, words_same, ItemOfTypes, FaultOfTypes, types_say}
use Rattle.rfb_hello.proofs.ServerHandshakeLaws.{count_says, counts_say, count_reads, counts_same}

-- ---- the version

abbrev pub text_fault : List ℕ → Option HelloFault
text_fault bytes = if is_version_text bytes then None else Some BadVersion

pub version_same : (max : ℕ) →
    Same (checked_says 12 text_fault (λ bytes. ProtocolVersion (version_of bytes))) (server_item_says max AwaitsVersion)
version_same max = record {
  item = item;
  fault = λ f bytes h. told f bytes (is_version_text bytes) h.0 refl h.1;
  item_back = item_back;
  fault_back = fault_back;
}
  where
    good : (bytes : List ℕ) (b : Bool) → is_version_text bytes ≡ b →
        ◌≡◌ {A = Option HelloFault} (if b then None else Some BadVersion) None → is_version_text bytes ≡ true
    good bytes true is e = is
    good bytes false is e = cc

    item : (step : ServerItem) (bytes : List ℕ) → (length bytes ≡ 12) × (text_fault bytes ≡ None)
        × (step ≡ ProtocolVersion (version_of bytes)) → SpellsServerItem max AwaitsVersion step bytes
    item step bytes h = subst (λ (s : ServerItem). SpellsServerItem max AwaitsVersion s bytes) (sym h.2)
        (record { text = text_true bytes h.0 (good bytes (is_version_text bytes) refl h.1); version_is = refl })

    told : (f : HelloFault) (bytes : List ℕ) (b : Bool) → length bytes ≡ 12 →
        is_version_text bytes ≡ b → ◌≡◌ {A = Option HelloFault} (if b then None else Some BadVersion) (Some f) →
        FaultsServerItem max AwaitsVersion f bytes
    told f bytes true size is e = cc
    told f bytes false size is e =
        let same : BadVersion ≡ f = cc in
        subst (λ (k : HelloFault). FaultsServerItem max AwaitsVersion k bytes) same
        (size, λ t. let yes' = text_test bytes t in cc)

    item_back : (step : ServerItem) (bytes : List ℕ) → SpellsServerItem max AwaitsVersion step bytes →
        (length bytes ≡ 12) × (text_fault bytes ≡ None) × (step ≡ ProtocolVersion (version_of bytes))
    item_back (ProtocolVersion v) bytes h =
        let text = text_test bytes h.text in
        (h.text.size, rw text refl, ap (λ (w : Version). ProtocolVersion w) h.version_is)
    item_back step bytes h = absurd h

    fault_back : (f : HelloFault) (bytes : List ℕ) → FaultsServerItem max AwaitsVersion f bytes →
        (length bytes ≡ 12) × (text_fault bytes ≡ Some f)
    fault_back BadVersion bytes h = (h.0, rw (text_false bytes h.0 h.1) refl)
    fault_back f bytes h = absurd h

-- ---- security

-- a list of types is the same under 3.7 and 3.8
types_same : (max : ℕ) (v : Version) → v ≢ V33 → Same types_say (server_item_says max (AwaitsSecurity v))
types_same max v later = record {
  item = λ step bytes h. subst (λ (s : ServerItem). SpellsServerItem max (AwaitsSecurity v) s bytes) (sym h.1)
      (spelled v later h.0 bytes (h.2, h.3));
  fault = fault;
  item_back = item_back v later;
  fault_back = fault_back v later;
}
  where
    spelled : (v : Version) → v ≢ V33 → (types bytes : List ℕ) →
        IsTypes types bytes × (has_none types ≡ true) →
        SpellsServerItem max (AwaitsSecurity v) (SecurityTypes types) bytes
    spelled V33 later types bytes h = absurd (later refl)
    spelled V37 later types bytes h = h
    spelled V38 later types bytes h = h

    refused : (v : Version) → v ≢ V33 → (n : ℕ) (bytes : List ℕ) → IsRefusal n bytes →
        FaultsServerItem max (AwaitsSecurity v) (Refused n) bytes
    refused V33 later n bytes h = absurd (later refl)
    refused V37 later n bytes h = h
    refused V38 later n bytes h = h

    without : (v : Version) → v ≢ V33 → (bytes : List ℕ) → IsWithoutNone bytes →
        FaultsServerItem max (AwaitsSecurity v) NoneNotOffered bytes
    without V33 later bytes h = absurd (later refl)
    without V37 later bytes h = h
    without V38 later bytes h = h

    fault : (f : HelloFault) (bytes : List ℕ) → FaultOfTypes f bytes →
        FaultsServerItem max (AwaitsSecurity v) f bytes
    fault f bytes (inl h) = subst (λ (k : HelloFault). FaultsServerItem max (AwaitsSecurity v) k bytes) (sym h.1)
        (refused v later h.0 bytes h.2)
    fault f bytes (inr h) = subst (λ (k : HelloFault). FaultsServerItem max (AwaitsSecurity v) k bytes) (sym h.0)
        (without v later bytes h.1)

    item_back : (v : Version) → v ≢ V33 → (step : ServerItem) (bytes : List ℕ) →
        SpellsServerItem max (AwaitsSecurity v) step bytes → ItemOfTypes step bytes
    item_back V33 later step bytes h = absurd (later refl)
    item_back V37 later (SecurityTypes types) bytes h = (types, refl, h.0, h.1)
    item_back V38 later (SecurityTypes types) bytes h = (types, refl, h.0, h.1)
    item_back v later step bytes h = absurd h

    fault_back : (v : Version) → v ≢ V33 → (f : HelloFault) (bytes : List ℕ) →
        FaultsServerItem max (AwaitsSecurity v) f bytes → FaultOfTypes f bytes
    fault_back V33 later f bytes h = absurd (later refl)
    fault_back V37 later (Refused n) bytes h = inl (n, refl, h)
    fault_back V38 later (Refused n) bytes h = inl (n, refl, h)
    fault_back V37 later NoneNotOffered bytes h = inr (refl, h)
    fault_back V38 later NoneNotOffered bytes h = inr (refl, h)
    fault_back v later f bytes h = absurd h

counts_read : Reads (and_then (valued 1 (λ bytes. u8_at 0 bytes)) after_count) types_say
counts_read = same_reads (and_then (valued 1 (λ bytes. u8_at 0 bytes)) after_count) counts_say types_say counts_same
    (then_reads (valued 1 (λ bytes. u8_at 0 bytes)) after_count (valued_says 1 (λ bytes. u8_at 0 bytes)) count_says
    (valued_reads 1 (λ bytes. u8_at 0 bytes)) count_reads)

pub security_reads : (max : ℕ) (version : Version) →
    Reads (security version) (server_item_says max (AwaitsSecurity version))
security_reads max V33 = same_reads (security V33) words_say (server_item_says max (AwaitsSecurity V33))
    (words_same max) (then_reads (valued 4 (λ bytes. u32_at 0 bytes)) after_word
    (valued_says 4 (λ bytes. u32_at 0 bytes)) word_says (valued_reads 4 (λ bytes. u32_at 0 bytes)) word_reads)
security_reads max V37 =
    same_reads (security V37) types_say (server_item_says max (AwaitsSecurity V37)) (types_same max V37 (λ e. cc))
    counts_read
security_reads max V38 =
    same_reads (security V38) types_say (server_item_says max (AwaitsSecurity V38)) (types_same max V38 (λ e. cc))
    counts_read
