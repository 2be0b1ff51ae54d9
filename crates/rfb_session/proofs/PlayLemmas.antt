-- Bytes that an engine feeds a viewer, read by read and call by call.
use Rattle.std.proofs.Common.{◌≡◌, ℕ, ◌+◌, ◌-◌, ◌^◌, ◌<◌, ◌≤◌, min, List, [], ◌++◌, Option, Some, None, length}
use Rattle.std.proofs.Common.{length-take-le, take, refl, sym, ap, ◌∙◌, subst, append_assoc, append-nil}
use Rattle.std.proofs.Common.{length-append, arith}
use Rattle.std.specs.Io.KnownBytes.{Consumes, Keeps, IsAtEnd}
use Rattle.std.proofs.KnownBytes.{Consumes-nil, Consumes-trans, Consumes-kept}
use Rattle.rfb_viewer.specs.declared.fault.ViewerFault.{ViewerFault}
use Rattle.rfb_viewer.specs.declared.viewer.Viewer.{Viewer}
use Rattle.rfb_session.specs.ViewerActs.{viewer_driven, ViewerRuns, EndsWithin, IsWatched}
use Rattle.rfb_session.specs.Playback.{most, Played, AllPlayed, PlayedUntil}
use Rattle.rfb_session.proofs.EngineRunLemmas.{ran_none, ran_then}

-- ---- one read

-- of some bytes the first were fed
pub record Watched (old : Viewer) (bytes : List ℕ) (before : ℕ) (rest : List ℕ) (told : ℕ) (now : Viewer) : Type 0 where
  pub fed : List ℕ
  pub sent : List ℕ
  pub updates : ℕ
  pub bytes_are : bytes ≡ fed ++ rest
  pub told_is : told ≡ min (before + updates) (2 ^ 64 - 1)
  pub runs : ViewerRuns old fed sent updates now

still_within : (n : ℕ) → n < 2 ^ 64 → n ≡ min (n + 0) (2 ^ 64 - 1)
still_within n few = omega (arith, few)

counts_on : (before n m told now : ℕ) → told ≡ min (before + n) (2 ^ 64 - 1) →
    now ≡ min (told + m) (2 ^ 64 - 1) → now ≡ min (before + (n + m)) (2 ^ 64 - 1)
counts_on before n m told now was is = omega (arith, was, is)

pub goes_on : (n m told now : ℕ) → told ≡ min n (2 ^ 64 - 1) → now ≡ min (told + m) (2 ^ 64 - 1) →
    now ≡ min (n + m) (2 ^ 64 - 1)
goes_on n m told now was is = omega (arith, was, is)

pub watched_none : (old : Viewer) (bytes : List ℕ) (before : ℕ) → before < 2 ^ 64 →
    Watched old bytes before bytes before old
watched_none old bytes before few = record {
  fed = [];
  sent = [];
  updates = 0;
  bytes_are = refl;
  told_is = still_within before few;
  runs = ran_none viewer_driven old;
}

pub watched_all : (old : Viewer) (bytes : List ℕ) (before : ℕ) (rest : List ℕ) (told : ℕ)
    (now : Viewer) → Watched old bytes before rest told now → rest ≡ [] →
    IsWatched old bytes before told now
watched_all old bytes before rest told now was none = record {
  sent = was.sent;
  updates = was.updates;
  told_is = was.told_is;
  runs = subst (λ (l : List ℕ). ViewerRuns old l was.sent was.updates now)
      (sym (was.bytes_are ∙ ap (λ (l : List ℕ). was.fed ++ l) none ∙ append-nil was.fed)) was.runs;
}

-- ---- all reads

-- what was read was fed, and each read gave some
pub record Reading (unread left : Option (List ℕ)) (old : Viewer) (reads told : ℕ) (now : Viewer) : Type 0 where
  pub fed : List ℕ
  pub sent : List ℕ
  pub updates : ℕ
  pub read : Consumes unread left fed
  pub runs : ViewerRuns old fed sent updates now
  pub told_is : told ≡ most updates
  pub some : reads ≤ length fed

pub reading_none : (unread : Option (List ℕ)) (old : Viewer) → Reading unread unread old 0 0 old
reading_none unread old = record {
  fed = [];
  sent = [];
  updates = 0;
  read = Consumes-nil unread;
  runs = ran_none viewer_driven old;
  told_is = refl;
  some = omega arith;
}

one_more : (reads old new : ℕ) → reads ≤ old → 0 < new → reads + 1 ≤ old + new
one_more reads old new few some = omega (arith, few, some)

-- of one read that gave some bytes
pub reading_more : (unread mid left : Option (List ℕ)) (old : Viewer) (reads told : ℕ) (last : Viewer)
    (bytes : List ℕ) (now : ℕ) (new : Viewer) → Reading unread mid old reads told last →
    Consumes mid left bytes → 0 < length bytes → IsWatched last bytes told now new →
    Reading unread left old (reads + 1) now new
reading_more unread mid left old reads told last bytes now new was more some watched = record {
  fed = was.fed ++ bytes;
  sent = was.sent ++ watched.sent;
  updates = was.updates + watched.updates;
  read = Consumes-trans unread mid left was.fed bytes was.read more;
  runs = ran_then viewer_driven old last new was.fed was.sent bytes watched.sent was.updates
      watched.updates was.runs watched.runs;
  told_is = goes_on was.updates watched.updates told now was.told_is watched.told_is;
  some = subst (λ (k : ℕ). reads + 1 ≤ k) (sym (length-append was.fed bytes))
      (one_more reads (length was.fed) (length bytes) was.some some);
}

-- where no byte came, all that came was fed
pub reading_stops : (unread mid left : Option (List ℕ)) (old : Viewer) (reads told : ℕ) (now : Viewer)
    (was : Reading unread mid old reads told now) → Keeps mid left → Played unread left old was.updates now
reading_stops unread mid left old reads told now was kept = record {
  fed = was.fed;
  sent = was.sent;
  read = Consumes-kept unread mid left was.fed was.read kept;
  runs = was.runs;
}

-- at the end of what there is
pub reading_ends : (unread mid left : Option (List ℕ)) (old : Viewer) (reads told : ℕ) (now : Viewer) →
    Reading unread mid old reads told now → Consumes mid left [] → IsAtEnd left →
    AllPlayed unread left old told now
reading_ends unread mid left old reads told now was none end = record {
  updates = was.updates;
  told_is = was.told_is;
  played = record {
    fed = was.fed;
    sent = was.sent;
    read = subst (λ (l : List ℕ). Consumes unread left l) (append-nil was.fed)
        (Consumes-trans unread mid left was.fed [] was.read none);
    runs = was.runs;
  };
  ended = λ bytes known few. end;
}

over : (fed ys xs : List ℕ) (n : ℕ) → xs ≡ fed ++ ys → n ≤ length fed → length xs < n → ⊥
over fed ys xs n is many few =
    omega (arith, many, few, ap (λ (l : List ℕ). length l) is, length-append fed ys)

pub none_left : (unread left : Option (List ℕ)) (fed bytes : List ℕ) (n : ℕ) → Consumes unread left fed →
    n ≤ length fed → unread ≡ Some bytes → length bytes < n → IsAtEnd left
none_left unread left fed bytes n read many is few =
    by left (subst (λ (u : Option (List ℕ)). Consumes u left fed) is read)
  where
    by : (l : Option (List ℕ)) → Consumes (Some bytes) l fed → IsAtEnd l
    by None c = tt
    by (Some ys) c = absurd (over fed ys bytes n c many few)

-- after `reads` reads, where there were fewer bytes
pub reading_out : (unread left : Option (List ℕ)) (old : Viewer) (reads told : ℕ) (now : Viewer) →
    Reading unread left old reads told now → 2 ^ 64 - 1 ≤ reads → AllPlayed unread left old told now
reading_out unread left old reads told now was out = record {
  updates = was.updates;
  told_is = was.told_is;
  played = record { fed = was.fed; sent = was.sent; read = was.read; runs = was.runs };
  ended = λ bytes known few.
      none_left unread left was.fed bytes (2 ^ 64 - 1) was.read (omega (arith, out, was.some)) known few;
}

-- where the viewer ended within a read
pub reading_until : (unread mid left : Option (List ℕ)) (old : Viewer) (reads told : ℕ) (last : Viewer)
    (bytes : List ℕ) (fault : ViewerFault) (new : Viewer) → Reading unread mid old reads told last →
    Consumes mid left bytes → EndsWithin last bytes fault new → PlayedUntil unread left old fault new
reading_until unread mid left old reads told last bytes fault new was more ends = record {
  fed = was.fed ++ ends.fed;
  slice = ends.slice;
  last = ends.last;
  bytes_are = subst (λ (l : List ℕ). Consumes unread left l)
      (ap (λ (l : List ℕ). was.fed ++ l) ends.bytes_are ∙ sym (append_assoc was.fed ends.fed ends.slice))
      (Consumes-trans unread mid left was.fed bytes was.read more);
  runs = (
    was.sent ++ ends.runs.0,
    was.updates + ends.runs.1,
    ran_then viewer_driven old last ends.last was.fed was.sent ends.fed ends.runs.0 was.updates
        ends.runs.1 was.runs ends.runs.2,
  );
  ends = ends.ends;
}

-- a read that gave some bytes gave the first of its buffer
-- no byte was taken
pub none_taken : (old new : Option (List ℕ)) (n : ℕ) (buf : List ℕ) → n ≡ 0 →
    Consumes old new (take n buf) → Consumes old new []
none_taken old new n buf none read = subst (λ (k : ℕ). Consumes old new (take k buf)) none read

pub some_taken : (n : ℕ) (buf : List ℕ) → 0 < n → n ≤ length buf → 0 < length (take n buf)
some_taken n buf some within = omega (arith, some, length-take-le n buf within)
