-- What a watcher heard of a viewer, call by call and read by read.
use Rattle.std.proofs.Common.{◌≡◌, ℕ, ◌+◌, ◌-◌, List, [], ◌++◌, Option, length, take, drop, refl, sym, ap, ◌∙◌}
use Rattle.std.proofs.Common.{subst, append_assoc, append-nil, take-append-drop, arith, inl, inr}
use Rattle.std.specs.Io.KnownBytes.{Consumes}
use Rattle.std.proofs.KnownBytes.{Consumes-nil, Consumes-trans}
use Rattle.rfb_viewer.specs.declared.viewer.Viewer.{Viewer}
use Rattle.rfb_viewer.specs.Told.{ViewerTold}
use Rattle.rfb_session.specs.ViewerActs.{WasFed, ends_told}
use Rattle.rfb_session.specs.EngineRead.{MayAsk}
use Rattle.rfb_session.specs.Watcher.{Listening, Hears, HearsAll, NoCall, NextCall, NextRequest, HearsOf, HearsRead}
use Rattle.rfb_session.proofs.WrittenLemmas.{rest_is}

added : (a b c : ℕ) → a + (b + c) ≡ a + b + c
added a b c = omega arith

and_none : (n : ℕ) → n ≡ n + 0
and_none n = omega arith

after_none : (n : ℕ) → 0 + n ≡ n
after_none n = omega arith

module _ {A : Type 0} (steps : Listening A) where
  hears_as : (first : Viewer) (old : A) (fed all : List ℕ) (n m : ℕ) (last : Viewer) (new : A) →
      fed ≡ all → n ≡ m → HearsAll steps first old fed n last new → HearsAll steps first old all m last new
  hears_as first old fed all n m last new feds counts hears =
      subst (λ (l : List ℕ). HearsAll steps first old l m last new) feds
      (subst (λ (k : ℕ). HearsAll steps first old fed k last new) counts hears)

  -- calls after calls
  pub hears_then : (first mid last : Viewer) (old between new : A) (fed more : List ℕ) (n m : ℕ) →
      HearsAll steps first old fed n mid between → HearsAll steps mid between more m last new →
      HearsAll steps first old (fed ++ more) (n + m) last new
  hears_then first mid last old between new fed more n m one two = joins more m last new two
    where
      joins : (more : List ℕ) (m : ℕ) (last : Viewer) (new : A) →
          HearsAll steps mid between more m last new →
          HearsAll steps first old (fed ++ more) (n + m) last new
      joins more m last new NoCall =
          hears_as first old fed (fed ++ []) n (n + 0) mid between (sym (append-nil fed)) (and_none n) one
      joins more m last new (NextCall done bytes updates event before after was now all step hears) =
          hears_as first old ((fed ++ done) ++ bytes) (fed ++ (done ++ bytes))
          ((n + updates) + ends_told event) (n + (updates + ends_told event)) after now
          (append_assoc fed done bytes) (sym (added n updates (ends_told event)))
          (NextCall (fed ++ done) bytes (n + updates) event before after was now
          (joins done updates before was all) step hears)
      joins more m last new (NextRequest done updates incremental sent before after now all asks) =
          NextRequest (fed ++ done) (n + updates) incremental sent before after now
          (joins done updates before now all) asks

  -- one call, and a request after it
  pub hears_once : (first last : Viewer) (old new : A) (bytes : List ℕ) (event : Option ViewerTold) →
      WasFed first bytes event last → Hears steps event last old new →
      HearsAll steps first old bytes (ends_told event) last new
  hears_once first last old new bytes event fed hears =
      hears_as first old ([] ++ bytes) bytes (0 + ends_told event) (ends_told event) last new refl
      (after_none (ends_told event)) (NextCall [] bytes 0 event first last old new NoCall fed hears)

  pub hears_asked : (first mid last : Viewer) (old new : A) (fed : List ℕ) (n : ℕ) →
      HearsAll steps first old fed n mid new → MayAsk mid last →
      HearsAll steps first old fed n last new
  hears_asked first mid last old new fed n hears (inl same) =
      subst (λ (v : Viewer). HearsAll steps first old fed n v new) (sym same) hears
  hears_asked first mid last old new fed n hears (inr asks) =
      NextRequest fed n asks.0 asks.1 mid last new hears asks.2

  -- the first of some bytes were fed, and it ended before the others
  pub hears_first : (Ends : ℕ → List ℕ → Viewer → Type 0) (first : Viewer) (old : A) (bytes : List ℕ)
      (used n : ℕ) (last : Viewer) (new : A) → HearsAll steps first old (take used bytes) n last new →
      Ends n (drop used bytes) last → HearsOf steps Ends first old bytes new
  hears_first Ends first old bytes used n last new hears ends = record {
    fed = take used bytes;
    later = drop used bytes;
    updates = n;
    last = last;
    bytes_are = sym (take-append-drop used bytes);
    hears = hears;
    ends = ends;
  }

  -- ---- one read

  -- of some bytes the first were fed, and so many updates ended
  pub record HeardOf (Counted : ℕ → Type 0) (first : Viewer) (old : A) (bytes rest : List ℕ) (now : Viewer) (new : A)
      : Type 0 where
    pub fed : List ℕ
    pub updates : ℕ
    pub bytes_are : bytes ≡ fed ++ rest
    pub counted : Counted updates
    pub hears : HearsAll steps first old fed updates now new

  pub heard_none : (Counted : ℕ → Type 0) (first : Viewer) (old : A) (bytes : List ℕ) → Counted 0 →
      HeardOf Counted first old bytes bytes first old
  heard_none Counted first old bytes counted = record {
    fed = [];
    updates = 0;
    bytes_are = refl;
    counted = counted;
    hears = NoCall;
  }

  pub heard_more : (Counted Counts : ℕ → Type 0) (first : Viewer) (old : A) (bytes rest : List ℕ) (mid : Viewer)
      (between : A) (used n : ℕ) (last : Viewer) (new : A) → HeardOf Counted first old bytes rest mid between →
      HearsAll steps mid between (take used rest) n last new →
      ((m : ℕ) → Counted m → Counts (m + n)) →
      HeardOf Counts first old bytes (take (length rest - used) (drop used rest)) last new
  heard_more Counted Counts first old bytes rest mid between used n last new was hears counts = record {
    fed = was.fed ++ take used rest;
    updates = was.updates + n;
    bytes_are = was.bytes_are
        ∙ ap (λ (l : List ℕ). was.fed ++ l) (sym (take-append-drop used rest))
        ∙ sym (append_assoc was.fed (take used rest) (drop used rest))
        ∙ ap (λ (l : List ℕ). (was.fed ++ take used rest) ++ l) (sym (rest_is rest used));
    counted = counts was.updates was.counted;
    hears = hears_then first mid last old between new was.fed (take used rest) was.updates n was.hears hears;
  }

  pub heard_ends : (Counted : ℕ → Type 0) (Ends : ℕ → List ℕ → Viewer → Type 0) (first : Viewer) (old : A)
      (bytes rest : List ℕ) (last : Viewer) (new : A) → HeardOf Counted first old bytes rest last new →
      ((n : ℕ) → Counted n → Ends n rest last) → HearsOf steps Ends first old bytes new
  heard_ends Counted Ends first old bytes rest last new was ends = record {
    fed = was.fed;
    later = rest;
    updates = was.updates;
    last = last;
    bytes_are = was.bytes_are;
    hears = was.hears;
    ends = ends was.updates was.counted;
  }

  -- a watcher that heard nothing more
  pub hears_still : (Ends : ℕ → List ℕ → Viewer → Type 0) (first : Viewer) (old : A) (bytes : List ℕ) (new now : A) →
      now ≡ new → HearsOf steps Ends first old bytes new → HearsOf steps Ends first old bytes now
  hears_still Ends first old bytes new now same heard =
      subst (λ (a : A). HearsOf steps Ends first old bytes a) (sym same) heard

  -- a call and no more of what is left
  pub heard_last : (Counted : ℕ → Type 0) (Ends : ℕ → List ℕ → Viewer → Type 0) (first : Viewer) (old : A)
      (bytes rest : List ℕ) (mid : Viewer) (between : A) (used n : ℕ) (last : Viewer) (new : A) →
      HeardOf Counted first old bytes rest mid between →
      HearsAll steps mid between (take used rest) n last new →
      ((m : ℕ) → Counted m → Ends (m + n) (drop used rest) last) → HearsOf steps Ends first old bytes new
  heard_last Counted Ends first old bytes rest mid between used n last new was hears ends = record {
    fed = was.fed ++ take used rest;
    later = drop used rest;
    updates = was.updates + n;
    last = last;
    bytes_are = was.bytes_are
        ∙ ap (λ (l : List ℕ). was.fed ++ l) (sym (take-append-drop used rest))
        ∙ sym (append_assoc was.fed (take used rest) (drop used rest));
    hears = hears_then first mid last old between new was.fed (take used rest) was.updates n was.hears hears;
    ends = ends was.updates was.counted;
  }

  -- it ended within what is left
  pub heard_within : (Counted : ℕ → Type 0) (Within Ends : ℕ → List ℕ → Viewer → Type 0) (first : Viewer) (old : A)
      (bytes rest : List ℕ) (mid : Viewer) (between new : A) → HeardOf Counted first old bytes rest mid between →
      HearsOf steps Within mid between rest new →
      ((m n : ℕ) (later : List ℕ) (last : Viewer) → Counted m → Within n later last → Ends (m + n) later last) →
      HearsOf steps Ends first old bytes new
  heard_within Counted Within Ends first old bytes rest mid between new was more ends = record {
    fed = was.fed ++ more.fed;
    later = more.later;
    updates = was.updates + more.updates;
    last = more.last;
    bytes_are = was.bytes_are ∙ ap (λ (l : List ℕ). was.fed ++ l) more.bytes_are
        ∙ sym (append_assoc was.fed more.fed more.later);
    hears = hears_then first mid more.last old between new was.fed more.fed was.updates more.updates was.hears
        more.hears;
    ends = ends was.updates more.updates more.later more.last was.counted more.ends;
  }

  -- ---- all reads

  -- what was read was fed, and so many updates ended
  pub record HeardOver (Counted : ℕ → Type 0) (unread left : Option (List ℕ)) (first : Viewer) (old : A)
      (now : Viewer) (new : A) : Type 0 where
    pub fed : List ℕ
    pub updates : ℕ
    pub read : Consumes unread left fed
    pub counted : Counted updates
    pub hears : HearsAll steps first old fed updates now new

  pub over_none : (Counted : ℕ → Type 0) (unread : Option (List ℕ)) (first : Viewer) (old : A) → Counted 0 →
      HeardOver Counted unread unread first old first old
  over_none Counted unread first old counted = record {
    fed = [];
    updates = 0;
    read = Consumes-nil unread;
    counted = counted;
    hears = NoCall;
  }

  -- one read more, which was fed whole
  pub over_more : (Counted Counts : ℕ → Type 0) (Ends : ℕ → List ℕ → Viewer → Type 0)
      (unread mid left : Option (List ℕ)) (first : Viewer) (old : A) (last : Viewer) (between : A)
      (bytes : List ℕ) (now : Viewer) (new : A) → HeardOver Counted unread mid first old last between →
      Consumes mid left bytes → HearsOf steps Ends last between bytes new →
      ((m n : ℕ) (later : List ℕ) (v : Viewer) → Counted m → Ends n later v →
      Counts (m + n) × (now ≡ v) × (later ≡ [])) →
      HeardOver Counts unread left first old now new
  over_more Counted Counts Ends unread mid left first old last between bytes now new was more heard ends =
      let all = ends was.updates heard.updates heard.later heard.last was.counted heard.ends in
      let whole : bytes ≡ heard.fed =
      heard.bytes_are ∙ ap (λ (l : List ℕ). heard.fed ++ l) all.2 ∙ append-nil heard.fed in
      record {
        fed = was.fed ++ heard.fed;
        updates = was.updates + heard.updates;
        read = subst (λ (l : List ℕ). Consumes unread left (was.fed ++ l)) whole
            (Consumes-trans unread mid left was.fed bytes was.read more);
        counted = all.0;
        hears = subst (λ (v : Viewer).
            HearsAll steps first old (was.fed ++ heard.fed) (was.updates + heard.updates) v new) (sym all.1)
            (hears_then first last heard.last old between new was.fed heard.fed was.updates heard.updates was.hears
            heard.hears);
      }

  -- it ended within a read
  pub over_ends : (Counted : ℕ → Type 0) (Within Ends : ℕ → List ℕ → Viewer → Type 0)
      (unread mid left : Option (List ℕ)) (first : Viewer) (old : A) (last : Viewer) (between : A)
      (bytes : List ℕ) (new : A) → HeardOver Counted unread mid first old last between →
      Consumes mid left bytes → HearsOf steps Within last between bytes new →
      ((m n : ℕ) (later : List ℕ) (v : Viewer) → Counted m → Within n later v → Ends (m + n) later v) →
      HearsRead steps Ends unread left first old new
  over_ends Counted Within Ends unread mid left first old last between bytes new was more heard ends = (
    was.fed ++ bytes,
    Consumes-trans unread mid left was.fed bytes was.read more,
    record {
      fed = was.fed ++ heard.fed;
      later = heard.later;
      updates = was.updates + heard.updates;
      last = heard.last;
      bytes_are = ap (λ (l : List ℕ). was.fed ++ l) heard.bytes_are
          ∙ sym (append_assoc was.fed heard.fed heard.later);
      hears = hears_then first last heard.last old between new was.fed heard.fed was.updates heard.updates was.hears
          heard.hears;
      ends = ends was.updates heard.updates heard.later heard.last was.counted heard.ends;
    },
  )

  -- or after the last of them, where no byte came
  pub over_stops : (Counted : ℕ → Type 0) (Ends : ℕ → List ℕ → Viewer → Type 0)
      (unread mid left : Option (List ℕ)) (first : Viewer) (old : A) (last : Viewer) (new : A) →
      HeardOver Counted unread mid first old last new → Consumes mid left [] →
      ((n : ℕ) → Counted n → Ends n [] last) → HearsRead steps Ends unread left first old new
  over_stops Counted Ends unread mid left first old last new was none ends = (
    was.fed ++ [],
    Consumes-trans unread mid left was.fed [] was.read none,
    record {
      fed = was.fed;
      later = [];
      updates = was.updates;
      last = last;
      bytes_are = refl;
      hears = was.hears;
      ends = ends was.updates was.counted;
    },
  )

  -- what was heard is heard, however its end is told
  pub hears_ends : (One Two : ℕ → List ℕ → Viewer → Type 0) (unread left : Option (List ℕ)) (first : Viewer)
      (old new : A) → ((n : ℕ) (later : List ℕ) (last : Viewer) → One n later last → Two n later last) →
      HearsRead steps One unread left first old new → HearsRead steps Two unread left first old new
  hears_ends One Two unread left first old new ends heard =
      let h = heard.2 in
      (heard.0, heard.1, search (h, ends h.updates h.later h.last h.ends))
