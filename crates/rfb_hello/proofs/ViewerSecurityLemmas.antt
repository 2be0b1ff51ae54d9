-- The viewer's end at the security types: what a list, a word and SecurityResult make of it.
use Rattle.std.proofs.Common.{◌≡◌, ◌≢◌, ℕ, ◌+◌, ◌<◌, ◌≤◌, Bool, true}
use Rattle.std.proofs.Common.{false, List, [], ◌∷◌, ◌++◌, Some, None, Ok, Err, length, take, refl, sym, subst}
use Rattle.std.proofs.Common.{◌∙◌, ap, append-nil, length-append, arith}
use Rattle.std.proofs.lemmas.List.{length-take-le}
use Rattle.rfb_wire.specs.stream.Prefix.{Got, Bad}
use Rattle.rfb_wire.specs.stream.End.{StepsBy}
use Rattle.rfb_hello.specs.declared.version.Version.{Version}
use Rattle.rfb_hello.specs.declared.version.Version.TheVariants.{V33, V37, V38}
use Rattle.rfb_hello.specs.declared.fault.HelloFault.{HelloFault}
use Rattle.rfb_hello.specs.declared.fault.HelloFault.TheVariants.{NoneNotOffered, BadSecurityWord}
use Rattle.rfb_hello.specs.declared.step.ViewerStep.TheVariants.{Reply}
use Rattle.rfb_hello.specs.declared.viewer_hello.ViewerHello.{ViewerHello}
use Rattle.rfb_hello.specs.declared.viewer_hello.progress.Progress.{Progress}
use Rattle.rfb_hello.specs.declared.viewer_hello.progress.Progress.TheVariants.{Word, Count}
use Rattle.rfb_hello.specs.declared.viewer_hello.progress.Progress.TheVariants.{Types, Result as ResultPart, Init}
use Rattle.arrayvec.specs.ArrayVec.{ArrayVec}
use Rattle.rfb_hello.specs.TypesSoFar.{TypesSoFar}
use Rattle.rfb_hello.specs.Offer.{offered_of, IsOfferedAt, LeadsToOffer, IsOfferOn, TakesOffer}
use Rattle.rfb_hello.specs.declared.offered.Offered.TheVariants.{Chosen, Listed}
use Rattle.rfb_hello.specs.ServerHandshake.{ServerPoint, AwaitsSecurity, SecurityTypes, IsWord, IsTypes, has_none}
use Rattle.rfb_hello.specs.ServerHandshake.{after_types, AwaitsResult, ServerItem, SecurityNone, SecurityResult}
use Rattle.rfb_hello.specs.ServerHandshake.{SpellsServerItem, FaultsServerItem}
use Rattle.rfb_hello.specs.ServerItems.{server_item}
use Rattle.rfb_hello.specs.ServerEnd.{as_reply}
use Rattle.rfb_hello.specs.ViewerEnd.{ViewerSetup, viewer_end, choice_bytes, shared_flag}
use Rattle.rfb_hello.specs.ViewerProgress.{ProgressStandsFor}
use Rattle.rfb_hello.specs.pieces.ViewerPiece.{progress_after_types}
use Rattle.rfb_hello.specs.ViewerModel.{StandsFor, setup_of}
use Rattle.rfb_hello.proofs.ServerStreamLaws.{server_handshake_spelled}
use Rattle.rfb_hello.proofs.ViewerReadingLaws.{types_next, types_more, types_good, types_bad}
use Rattle.rfb_hello.proofs.ViewerStepLemmas.{more_step, bad_step, got_new, asks_step, becomes}

-- ---- security types

-- a count of some
pub count_of_types : (setup : ViewerSetup) (old : ViewerHello) (version : Version) (count more : ℕ)
    (next : Progress) → old.progress ≡ Count version → count ≡ more + 1 →
    next ≡ Types version (record { types = []; more = more }) →
    StepsBy (viewer_end setup) (StandsFor setup) old (count ∷ []) (Ok None) (record old { progress = next })
count_of_types setup old version count more next was some is =
    becomes setup old (count ∷ []) (Ok None) (Types version (record { types = []; more = more })) next is
    (more_step setup old (Count version) (Types version (record { types = []; more = more })) (count ∷ []) was
    (λ s prefix h. rw (h.0, h.2, some) (
      types_next version (more + 1) [] h.1 ∙ types_more (more + 1) [] (omega arith),
      (refl, h.1, ap (λ (k : ℕ). k ∷ []) (omega arith)),
    )))

-- types after those that came before
types_joined : (prefix seen unit types : List ℕ) (n : ℕ) → prefix ≡ n ∷ seen → types ≡ seen ++ unit →
    prefix ++ unit ≡ n ∷ types
types_joined prefix seen unit types n is all = ap (λ (ys : List ℕ). ys ++ unit) is ∙
    ap (λ (ys : List ℕ). n ∷ ys) (sym all)

-- all of them have come
types_whole : (list : TypesSoFar) (n : ℕ) (bytes types : List ℕ) → types ≡ list.types ++ take n bytes →
    n ≡ list.more + 1 → n ≤ length bytes → length types ≡ length list.types + (list.more + 1)
types_whole list n bytes types is count within = ap length is ∙ length-append list.types (take n bytes) ∙
    ap (λ (k : ℕ). length list.types + k) (length-take-le n bytes within ∙ count)

listed_there : (version : Version) (types : ArrayVec ℕ) (bytes : List ℕ) → version ≢ V33 →
    IsTypes types.items bytes →
    IsOfferedAt (Listed types) (AwaitsSecurity version) bytes
listed_there V33 types bytes not is = absurd (not refl)
listed_there V37 types bytes not is = is
listed_there V38 types bytes not is = is

module _ (old new : ViewerHello) (version : Version) (list : TypesSoFar) (n : ℕ) (bytes : List ℕ)
    (types : ArrayVec ℕ) (was : old.progress ≡ Types version list) (is : types.items ≡ list.types ++ take n bytes)
    (count : n ≡ list.more + 1) (within : n ≤ length bytes) where
  all_types : length types.items ≡ length list.types + (list.more + 1)
  all_types = types_whole list n bytes types.items is count within

  counted_types : (prefix : List ℕ) → prefix ≡ (length list.types + (list.more + 1)) ∷ list.types →
      prefix ++ take n bytes ≡ (length list.types + (list.more + 1)) ∷ types.items
  counted_types prefix begun =
      types_joined prefix list.types (take n bytes) types.items (length list.types + (list.more + 1)) begun is

  -- None is among them
  pub types_told : (setup : ViewerSetup) (reply : ArrayVec ℕ) → has_none types.items ≡ true →
      reply.items ≡ choice_bytes version old.shared → new.progress ≡ progress_after_types version →
      setup_of new ≡ setup_of old →
      StepsBy (viewer_end setup) (StandsFor setup) old (take n bytes) (Ok (Some (Reply reply))) new
  types_told setup reply has answer after made =
      got_new setup old new (Types version list) (progress_after_types version) (take n bytes) (Some (Reply reply))
      was after made (λ s prefix same h.
      let shared : old.shared ≡ setup.shared = ap (λ (x : ViewerSetup). x.shared) same in
      let told : as_reply (choice_bytes version setup.shared) ≡ reply =
      ap as_reply (ap (λ (b : Bool). choice_bytes version b) (sym shared) ∙ sym answer) in
      rw (h.0, counted_types prefix h.2) (
        SecurityTypes types.items,
        types_next version (length list.types + (list.more + 1)) types.items h.1
            ∙ types_good (length list.types + (list.more + 1)) types.items all_types (omega arith) has,
        ap (λ (r : ArrayVec ℕ). Some (Reply r)) told,
        stands version,
      ))
    where
      stands : (v : Version) → ProgressStandsFor setup.text_limit (progress_after_types v) (after_types v) []
      stands V33 = (refl, refl, omega arith)
      stands V37 = (refl, refl, omega arith)
      stands V38 = (refl, refl, omega arith)

  -- it is not
  pub types_refused : (setup : ViewerSetup) → has_none types.items ≡ false →
      StepsBy (viewer_end setup) (StandsFor setup) old (take n bytes) (Err NoneNotOffered) new
  types_refused setup has =
      bad_step setup old new (Types version list) (take n bytes) NoneNotOffered was (λ s prefix h.
      rw (h.0, counted_types prefix h.2) (types_next version (length list.types + (list.more + 1)) types.items h.1
      ∙ types_bad (length list.types + (list.more + 1)) types.items all_types (omega arith) has))

  -- the bytes are theirs, whether it is or not
  types_there : (prefix : List ℕ) → version ≢ V33 →
      prefix ≡ (length list.types + (list.more + 1)) ∷ list.types →
      IsOfferedAt (Listed types) (AwaitsSecurity version) (prefix ++ take n bytes)
  types_there prefix not begun = listed_there version types (prefix ++ take n bytes) not (record {
    some = let all = all_types in omega (arith, all);
    whole = counted_types prefix begun ∙ ap (λ (k : ℕ). k ∷ types.items) (sym all_types);
  })

  -- and they are kept
  pub types_offered : offered_of new ≡ Listed types → LeadsToOffer (offered_of new) old (take n bytes)
  types_offered kept setup = rw kept (asks_step (IsOfferedAt (Listed types)) setup old (Types version list)
      (take n bytes) was (λ s prefix h. rw h.0 (types_there prefix h.1 h.2)))

  -- and so they are beside the answer
  pub types_kept : (reply : ArrayVec ℕ) → offered_of new ≡ Listed types →
      TakesOffer (Some (Reply reply)) old (take n bytes) new
  types_kept reply kept setup = rw kept (asks_step (IsOfferOn (offered_of old) (Listed types)) setup old
      (Types version list) (take n bytes) was (λ s prefix h. rw h.0 (types_there prefix h.1 h.2)))

-- ---- a word

-- what the grammar says of bytes, the end reads of them
read_as : (setup : ViewerSetup) (s : ServerPoint) (i : ServerItem) (bytes : List ℕ) →
    SpellsServerItem setup.max_places s i bytes → server_item setup.max_places s bytes ≡ Got i []
read_as setup s i bytes spelled =
    subst (λ (ys : List ℕ). server_item setup.max_places s ys ≡ Got i []) (append-nil bytes)
    (((server_handshake_spelled setup.limit setup.max_places).reads s).only i bytes [] spelled)

-- the answer of ClientInit
flag_told : (setup : ViewerSetup) (old : ViewerHello) (reply : ArrayVec ℕ) → setup_of old ≡ setup →
    reply.items ≡ shared_flag old.shared ∷ [] → Some (Reply (as_reply (shared_flag setup.shared ∷ []))) ≡ Some
    (Reply reply)
flag_told setup old reply same answer =
    ap (λ (ys : List ℕ). Some (Reply (as_reply ys)))
    (ap (λ (x : ViewerSetup). shared_flag x.shared ∷ []) (sym same) ∙ sym answer)

read_bad : (setup : ViewerSetup) (s : ServerPoint) (f : HelloFault) (bytes : List ℕ) →
    FaultsServerItem setup.max_places s f bytes → server_item setup.max_places s bytes ≡ Bad f
read_bad setup s f bytes faulted =
    subst (λ (ys : List ℕ). server_item setup.max_places s ys ≡ Bad f) (append-nil bytes)
    (((server_handshake_spelled setup.limit setup.max_places).reads s).blames f bytes [] faulted)

module _ (setup : ViewerSetup) (old new : ViewerHello) (part : ArrayVec ℕ) (unit : List ℕ) (word : ℕ) where
  -- a security type by itself: None
  pub word_taken : (reply next : ArrayVec ℕ) → old.progress ≡ Word part → IsWord word (part.items ++ unit) →
      word ≡ 1 → reply.items ≡ shared_flag old.shared ∷ [] → next.items ≡ [] →
      new.progress ≡ Init V33 next →
      setup_of new ≡ setup_of old →
      StepsBy (viewer_end setup) (StandsFor setup) old unit (Ok (Some (Reply reply))) new
  word_taken reply next was at_word one answer empty after made =
      got_new setup old new (Word part) (Init V33 next) unit (Some (Reply reply)) was after made (λ s prefix same h.
      rw (h.0, h.1) (
        SecurityNone,
        read_as setup (AwaitsSecurity V33) SecurityNone (part.items ++ unit) (rw one at at_word),
        flag_told setup old reply same answer,
        (refl, sym empty, rw empty (omega arith)),
      ))

  -- the number of none that a viewer takes
  pub word_unoffered : old.progress ≡ Word part → IsWord word (part.items ++ unit) → word ≡ 2 →
      StepsBy (viewer_end setup) (StandsFor setup) old unit (Err NoneNotOffered) new
  word_unoffered was at_word two = bad_step setup old new (Word part) unit NoneNotOffered was (λ s prefix h.
      rw (h.0, h.1) (read_bad setup (AwaitsSecurity V33) NoneNotOffered (part.items ++ unit) (rw two at at_word)))

  -- any other number
  pub word_unknown : old.progress ≡ Word part → IsWord word (part.items ++ unit) → 2 < word →
      StepsBy (viewer_end setup) (StandsFor setup) old unit (Err BadSecurityWord) new
  word_unknown was at_word above = bad_step setup old new (Word part) unit BadSecurityWord was (λ s prefix h.
      rw (h.0, h.1) (read_bad setup (AwaitsSecurity V33) BadSecurityWord (part.items ++ unit) (word, at_word, above)))

  -- a SecurityResult that is success
  pub result_taken : (version : Version) (reply next : ArrayVec ℕ) → old.progress ≡ ResultPart version part →
      IsWord word (part.items ++ unit) → word ≡ 0 → reply.items ≡ shared_flag old.shared ∷ [] →
      next.items ≡ [] →
      new.progress ≡ Init version next → setup_of new ≡ setup_of old →
      StepsBy (viewer_end setup) (StandsFor setup) old unit (Ok (Some (Reply reply))) new
  result_taken version reply next was at_word none answer empty after made =
      got_new setup old new (ResultPart version part) (Init version next) unit (Some (Reply reply)) was after made
      (λ s prefix same h.
      rw (h.0, h.1) (
        SecurityResult,
        read_as setup (AwaitsResult version) SecurityResult (part.items ++ unit) (rw none at at_word),
        flag_told setup old reply same answer,
        (refl, sym empty, rw empty (omega arith)),
      ))

-- ---- what is kept of a word, and beside other items

module _ (old new : ViewerHello) (part : ArrayVec ℕ) (unit : List ℕ) (word : ℕ) (was : old.progress ≡ Word part)
    (at_word : IsWord word (part.items ++ unit)) (kept : offered_of new ≡ Chosen word) where
  -- after a fault
  pub word_offered : LeadsToOffer (offered_of new) old unit
  word_offered setup = rw kept (asks_step (IsOfferedAt (Chosen word)) setup old (Word part) unit was
      (λ s prefix h. rw (h.0, h.1) at_word))

  -- beside the answer
  pub word_kept : (reply : ArrayVec ℕ) → TakesOffer (Some (Reply reply)) old unit new
  word_kept reply setup = rw kept (asks_step (IsOfferOn (offered_of old) (Chosen word)) setup old (Word part) unit
      was (λ s prefix h. rw (h.0, h.1) at_word))

-- an answer to another item
pub result_keeps : (old new : ViewerHello) (version : Version) (part : ArrayVec ℕ) (unit : List ℕ)
    (reply : ArrayVec ℕ)
    → old.progress ≡ ResultPart version part → offered_of new ≡ offered_of old →
    TakesOffer (Some (Reply reply)) old unit new
result_keeps old new version part unit reply was same setup =
    asks_step (IsOfferOn (offered_of old) (offered_of new)) setup old (ResultPart version part) unit was
    (λ s prefix h. rw h.0 same)
