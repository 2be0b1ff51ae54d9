-- What a watcher of a film heard, from what its engine told it.
use Rattle.std.proofs.Common.{◌≡◌, ◌<◌, ◌+◌, ◌-◌, ◌^◌, ◌∙◌, ap, sym}
use Rattle.std.proofs.Common.{subst, inl, inr, refl, ℕ}
use Rattle.std.proofs.Common.{List, ◌++◌, Option, None, Some, Result, arith, min}
use Rattle.rfb_viewer.specs.declared.viewer.Viewer.{Viewer}
use Rattle.rfb_viewer.specs.Told.{ViewerTold, Reply, Ready, UpdateDone, Bell, CutText, ColourMapSkipped}
use Rattle.rfb_session.specs.declared.engine.fault.EngineFault.{EngineFault}
use Rattle.rfb_session.specs.ViewerActs.{WasFed, ends_told}
use Rattle.rfb_session.specs.Watcher.{EndsViewing, Hears, HearsAll, HearsRead, Listening, NextCall, NextRequest, NoCall}
use Rattle.rfb.specs.declared.viewing.filming.Filming.{Filming}
use Rattle.rfb.specs.Explain.{updates_told}
use Rattle.rfb.specs.Film.{Counts, EndsCounted, Films, Shoots}
use Rattle.rfb.specs.Film.{film_name, reel_of, told_of}

more_than_none : (told n : ℕ) → told ≡ min (n + 1) (2 ^ 64 - 1) → 0 < told
more_than_none told n is = omega (arith, is)

some_more : (updates : ℕ) → 0 < updates + 1
some_more updates = omega arith

none_more : (updates : ℕ) → updates ≡ updates + 0
none_more updates = omega arith

-- what was heard of what was read is heard by another watcher, however its end is told
pub heard_as : {A B : Type 0} (steps : Listening A) (others : Listening B)
    (Ends Others : ℕ → List ℕ → Viewer → Type 0) (unread left : Option (List ℕ)) (first : Viewer)
    (old new : A) (before after : B) →
    ((fed : List ℕ) (updates : ℕ) (last : Viewer) → HearsAll steps first old fed updates last new →
    HearsAll others first before fed updates last after) →
    ((fed later : List ℕ) (updates : ℕ) (last : Viewer) → HearsAll steps first old fed updates last new →
    Ends updates later last → Others updates later last) →
    HearsRead steps Ends unread left first old new → HearsRead others Others unread left first before after
heard_as steps others Ends Others unread left first old new before after hears ends (bytes, read, heard) = (
  bytes,
  read,
  record {
    fed = heard.fed;
    later = heard.later;
    updates = heard.updates;
    last = heard.last;
    bytes_are = heard.bytes_are;
    hears = hears heard.fed heard.updates heard.last heard.hears;
    ends = ends heard.fed heard.later heard.updates heard.last heard.hears heard.ends;
  },
)

module _ {W C N : Type 0} (contents : W → Option (List ℕ)) where
  -- what has come of a film since it began
  record Shown (first : Viewer) (old : Filming W C N) (fed : List ℕ) (updates : ℕ) (last : Viewer)
      (new : Filming W C N) : Type 0 where
    pub shot : HearsAll Shoots first (reel_of contents old) fed updates last (reel_of contents new)
    pub name : film_name new ≡ film_name old
    pub counts : Counts (updates_told (told_of new)) updates

  -- a call that ends no update
  unchanged : (first : Viewer) (old : Filming W C N) (fed bytes : List ℕ) (updates : ℕ) (event : Option ViewerTold)
      (mid last : Viewer) (between new : Filming W C N) → ends_told event ≡ 0 →
      Shown first old fed updates mid between →
      WasFed mid bytes event last →
      Hears Shoots event last (reel_of contents between) (reel_of contents new) →
      film_name new ≡ film_name between →
      updates_told (told_of new) ≡ updates_told (told_of between) →
      Shown first old (fed ++ bytes) (updates + ends_told event) last new
  unchanged first old fed bytes updates event mid last between new none was fed_it hears name told = record {
    shot = NextCall fed bytes updates event mid last (reel_of contents between) (reel_of contents new) was.shot fed_it
        hears;
    name = name ∙ was.name;
    counts = subst (λ (n : ℕ). Counts n (updates + ends_told event)) (sym told)
        (subst (λ (n : ℕ). Counts (updates_told (told_of between)) n)
        (none_more updates ∙ ap (λ (n : ℕ). updates + n) (sym none)) was.counts);
  }

  -- a call of whose event nothing is heard
  silent : (first : Viewer) (old : Filming W C N) (fed bytes : List ℕ) (updates : ℕ) (event : Option ViewerTold)
      (mid last : Viewer) (between new : Filming W C N) → ends_told event ≡ 0 →
      (new ≡ between → Hears Shoots event last (reel_of contents between) (reel_of contents new)) →
      Shown first old fed updates mid between → WasFed mid bytes event last → new ≡ between →
      Shown first old (fed ++ bytes) (updates + ends_told event) last new
  silent first old fed bytes updates event mid last between new none hears was fed_it same =
      unchanged first old fed bytes updates event mid last between new none was fed_it (hears same) (ap film_name same)
      (ap (λ (f : Filming W C N). updates_told (told_of f)) same)

  -- the calls of a watcher that films make a film
  goes_on : (first : Viewer) (old : Filming W C N) → updates_told (told_of old) ≡ 0 →
      (fed : List ℕ) (updates : ℕ) (last : Viewer) (new : Filming W C N) →
      HearsAll (Films contents) first old fed updates last new → Shown first old fed updates last new
  goes_on first old untold fed updates last new NoCall = record {
    shot = NoCall;
    name = refl;
    counts = inl (untold, refl);
  }
  goes_on first old untold fed updates last new (NextRequest done count incremental sent mid after now all asks) =
      let was = goes_on first old untold done count mid now all in
      record {
        shot = NextRequest done count incremental sent mid after (reel_of contents now) was.shot asks;
        name = was.name;
        counts = was.counts;
      }
  goes_on first old untold fed updates last new (NextCall done bytes count None mid after was now all fed_it hears) =
      silent first old done bytes count None mid after was now refl (λ e. ap (reel_of contents) e)
      (goes_on first old untold done count mid was all) fed_it hears
  goes_on first old untold fed updates last new
      (NextCall done bytes count (Some (Reply reply)) mid after was now all fed_it hears) =
      silent first old done bytes count (Some (Reply reply)) mid after was now refl (λ e. ap (reel_of contents) e)
      (goes_on first old untold done count mid was all) fed_it hears
  goes_on first old untold fed updates last new
      (NextCall done bytes count (Some (Ready reply width height name size)) mid after was now all fed_it hears) =
      unchanged first old done bytes count (Some (Ready reply width height name size)) mid after was now refl
      (goes_on first old untold done count mid was all) fed_it hears.0 hears.1 hears.2.1
  goes_on first old untold fed updates last new
      (NextCall done bytes count (Some UpdateDone) mid after was now all fed_it hears) =
      let before = goes_on first old untold done count mid was all in
      record {
        shot = NextCall done bytes count (Some UpdateDone) mid after (reel_of contents was) (reel_of contents now)
            before.shot fed_it hears.0;
        name = hears.1 ∙ before.name;
        counts = inr (
          more_than_none (updates_told (told_of now)) (updates_told (told_of was)) hears.2.1,
          some_more count,
        );
      }
  goes_on first old untold fed updates last new
      (NextCall done bytes count (Some Bell) mid after was now all fed_it hears) =
      silent first old done bytes count (Some Bell) mid after was now refl (λ e. ap (reel_of contents) e)
      (goes_on first old untold done count mid was all) fed_it hears
  goes_on first old untold fed updates last new
      (NextCall done bytes count (Some (CutText kept size)) mid after was now all fed_it hears) =
      silent first old done bytes count (Some (CutText kept size)) mid after was now refl
      (λ e. ap (reel_of contents) e) (goes_on first old untold done count mid was all) fed_it hears
  goes_on first old untold fed updates last new
      (NextCall done bytes count (Some ColourMapSkipped) mid after was now all fed_it hears) =
      silent first old done bytes count (Some ColourMapSkipped) mid after was now refl (λ e. ap (reel_of contents) e)
      (goes_on first old untold done count mid was all) fed_it hears

  -- what was read makes one
  pub reads_film : (asked : ℕ) (ended : Result ℕ EngineFault)
      (unread left : Option (List ℕ)) (first last : Viewer)
      (old new : Filming W C N) → updates_told (told_of old) ≡ 0 →
      HearsRead (Films contents) (EndsViewing asked ended last) unread left first old new →
      HearsRead Shoots (EndsCounted asked ended last (updates_told (told_of new))) unread left first
      (reel_of contents old) (reel_of contents new)
  reads_film asked ended unread left first last old new untold =
      heard_as (Films contents) Shoots (EndsViewing asked ended last)
      (EndsCounted asked ended last (updates_told (told_of new))) unread left first old new (reel_of contents old)
      (reel_of contents new) (λ fed updates now hears. (goes_on first old untold fed updates now new hears).shot)
      (λ fed later updates now hears ends. (ends, (goes_on first old untold fed updates now new hears).counts))

  pub keeps_name : (asked : ℕ) (ended : Result ℕ EngineFault)
      (unread left : Option (List ℕ)) (first last : Viewer)
      (old new : Filming W C N) → updates_told (told_of old) ≡ 0 →
      HearsRead (Films contents) (EndsViewing asked ended last) unread left first old new →
      film_name new ≡ film_name old
  keeps_name asked ended unread left first last old new untold (bytes, read, heard) =
      let shown = goes_on first old untold heard.fed heard.updates heard.last new heard.hears in shown.name
