-- A copy more, for the session that sends it to its viewer.
use Rattle.std.proofs.Common.{◌≡◌, ℕ, ◌+◌, ◌-◌, ◌<◌, Bool, true, false, List, [], ◌∷◌, ◌++◌, length, Option, Some, None}
use Rattle.std.proofs.Common.{if◌then◌else◌, refl, sym, ap, subst, ◌∙◌, arith, append_assoc, append-nil, length-append}
use Rattle.std.proofs.Common.{slice_get}
use Rattle.std.proofs.lemmas.Bool.{both_ways}
use mir.Val.{bool_byte}
use Rattle.rfb_pixel.specs.declared.colour.Colour.{Colour}
use Rattle.rfb_picture.specs.declared.rect.Rect.{Rect}
use Rattle.rfb_picture.specs.Rect.{contains}
use Rattle.rfb_picture.specs.Grid.{Grid, at_or, copied}
use Rattle.rfb_picture.specs.Box.{is_in}
use Rattle.rfb_picture.proofs.GridLaws.{contains_true, at-filled, at-changed, width-changed, height-changed}
use Rattle.rfb_picture.proofs.GridLaws.{whole-changed}
use Rattle.rfb_wire.specs.declared.encoding.Encoding.TheVariants.{CopyRect}
use Rattle.rfb_codec.specs.RectData.{Source}
use Rattle.rfb_server.specs.declared.session.Session.{Session}
use Rattle.rfb_server.specs.Encodings.{is_listed}
use Rattle.rfb_server.specs.Server.{ServerState}
use Rattle.rfb_server.specs.Request.{wanted_at, is_asked, is_whole}
use Rattle.rfb_server.specs.session.Marks.{AreAlike}
use Rattle.rfb_server.specs.KnownScreen.{Follows}
use Rattle.rfb_server.specs.session.Sessions.{IsSame, IsMarked}
use Rattle.rfb_server.specs.Composition.{Part, IsGain, all_moved}
use Rattle.rfb_server.specs.update.Sends.{IsKept, state_of}
use Rattle.rfb_server.specs.declared.hint.Hint.{Hint}
use Rattle.rfb_server.specs.UsedHints.{move_of, IsOfUse}
use Rattle.rfb_server.specs.update.Copies.{IsFree, IsUseful, SendsHint, KeepsMarks, IsMarkedFor, AppendsCopies}
use Rattle.rfb_server.specs.update.Copies.{usable_hints}
use Rattle.rfb_server.proofs.UsingLemmas.{used_next, left_next}
use Rattle.rfb_server.proofs.ClaimLemmas.{nothing_claimed}
use Rattle.rfb_server.proofs.KeptLemmas.{alike_sent}
use Rattle.rfb_server.proofs.MarksLemmas.{caught_drawn}
use Rattle.rfb_server.proofs.CopyingLemmas.{copies_start, copies_more}

-- ---- marks

-- a session with more marks is about the same screen
pub about_marked : (screen : Grid Colour) (old new : Session) (rect : Rect) → Follows screen old →
    IsMarked rect old new → Follows screen new
about_marked screen old new rect about marked = record {
  whole = about.whole;
  alike = rw (marked.same.known) about.alike;
  caught_up = rw (marked.same.known, marked.same.area, marked.same.setting.format)
      (caught_drawn screen screen old.known old.area old.format old.marks new.marks rect old.alike about.alike
      (record { columns = refl; rows = refl; same = λ x y p q e. refl }) marked.marks about.caught_up);
  claimed = rw (marked.same.known, marked.same.setting.format, marked.claim) about.claimed;
}

either : (here was : Bool) → was ≡ true → (if here then true else was) ≡ true
either true was e = refl
either false was e = e

-- what was marked still is
pub keeps_marked : (old new : Session) (rect : Rect) → IsMarked rect old new → KeepsMarks old new
keeps_marked old new rect marked = λ x y p q e.
    ap (λ (g : Grid Bool). is_in g x y) marked.marks
    ∙ (at-filled rect true old.marks x y false old.alike.marks_whole p q
    ∙ either (contains rect x y) (is_in old.marks x y) e)

-- where a hint copies to is marked then
pub marked_for : (screen : Grid Colour) (old new : Session) (hint : Hint) → Follows screen old →
    IsMarked hint.to old new → IsMarkedFor screen new hint
marked_for screen old new hint about marked = λ on x y c.
    let (a, b, d, e) = contains_true hint.to x y c in
    let wide : x < old.marks.width = omega (arith, b, on.0, about.alike.columns, old.alike.marks_wide) in
    let high : y < old.marks.height = omega (arith, e, on.1, about.alike.rows, old.alike.marks_high) in
    ap (λ (g : Grid Bool). is_in g x y) marked.marks
    ∙ (at-filled hint.to true old.marks x y false old.alike.marks_whole wide high ∙ (rw c refl))

-- and stays so
pub marked_on : (screen : Grid Colour) (old new : Session) (hint : Hint) → Follows screen old → KeepsMarks old new →
    IsMarkedFor screen old hint →
    IsMarkedFor screen new hint
marked_on screen old new hint about keeps marked = λ on x y c.
    let (a, b, d, e) = contains_true hint.to x y c in
    let wide : x < old.marks.width = omega (arith, b, on.0, about.alike.columns, old.alike.marks_wide) in
    let high : y < old.marks.height = omega (arith, e, on.1, about.alike.rows, old.alike.marks_high) in
    keeps x y wide high (marked on x y c)

-- what it knows of itself is the same
pub state_same : (screen : Grid Colour) (old new : Session) → IsSame old new → state_of screen new ≡ state_of screen old
state_same screen old new same = rw (same.known, same.area, same.setting.format, same.setting.encodings) refl

-- ---- one copy

-- a place that is not marked is not copied to
pub about_copied : (screen : Grid Colour) (old new : Session) (to : Rect) (sx sy : ℕ) →
    Follows screen old → IsFree old to →
    old.claim ≡ None → IsKept old new → new.known ≡ copied to sx sy old.known → Follows screen new
about_copied screen old new to sx sy about free unclaimed kept e = record {
  whole = about.whole;
  alike = rw e (record {
    columns = about.alike.columns ∙ sym (width-changed _ old.known);
    rows = about.alike.rows ∙ sym (height-changed _ old.known);
  });
  caught_up =
      rw (e, kept.area, kept.setting.format, kept.marks)
      (record { right = right; not_whole = about.caught_up.not_whole });
  claimed = nothing_claimed screen new.known new.format new.claim (kept.claim ∙ unclaimed);
}
  where
    outside : (x y : ℕ) → (here : Bool) → contains to x y ≡ here → is_in old.marks x y ≡ false → here ≡ false
    outside x y true c e = absurd (both_ways (is_in old.marks x y) e (free.marked x y c))
    outside x y false c e = refl

    right : (x y : ℕ) → x < old.marks.width → y < old.marks.height → is_in old.marks x y ≡ false →
        at_or (copied to sx sy old.known) x y None ≡ Some (wanted_at screen old.format x y)
    right x y p q e =
        let out : contains to x y ≡ false = outside x y (contains to x y) refl e in
        at-changed (λ i j (was : Option ℕ). if contains to i j
        then at_or old.known (sx + (i - to.x)) (sy + (j - to.y)) was else was) old.known x y None
        old.alike.known_whole (rw (← old.alike.marks_wide) p) (rw (← old.alike.marks_high) q)
        ∙ ((rw out refl) ∙ about.caught_up.right x y p q e)

pub alike_copied : (known : Grid (Option ℕ)) (session : Session) (to : Rect) (sx sy : ℕ) →
    known ≡ copied to sx sy session.known →
    AreAlike known session.area session.marks
alike_copied known session to sx sy e =
    rw e
    (alike_sent session.known _ session.area session.marks (whole-changed _ session.known session.alike.known_whole)
    (record { columns = sym (width-changed _ session.known); rows = sym (height-changed _ session.known) })
    session.alike)

-- ---- copies one after another

-- a session that may use hints has a viewer that listed CopyRect
pub listed_usable : (session : Session) (n : ℕ) → n < usable_hints session → is_listed CopyRect session.encodings ≡ true
listed_usable session n l = by (is_listed CopyRect session.encodings) l
  where
    by : (listed : Bool) → n < (if listed then length session.hints.items else 0) → listed ≡ true
    by true less = refl
    by false less = absurd (omega arith)

-- the state after copies
pub state_copied : (screen : Grid Colour) (first old : Session) → IsKept first old →
    state_of screen old ≡ record (state_of screen first) { known = old.known }
state_copied screen first old kept = rw (kept.area, kept.setting.format, kept.setting.encodings) refl

pub copies_begin : (screen : Grid Colour) (session : Session) (bytes : List ℕ) →
    AppendsCopies screen 0 session session bytes bytes 0
copies_begin screen session bytes = record {
  moves = [];
  copies = [];
  bytes = [];
  appended = sym (append-nil bytes);
  count_is = refl;
  taken = copies_start (state_of screen session) session.alike.known_whole;
  used = refl;
}

module _ (screen : Grid Colour) (first old new : Session) (start before after : List ℕ) (n count : ℕ) (hint : Hint)
    (about : Follows screen first) (kept : IsKept first old) (listed : is_listed CopyRect first.encodings ≡ true)
    (this : slice_get first.hints.items n ≡ Some hint) (marked : IsMarkedFor screen first hint)
    (copies : AppendsCopies screen n first old start before count) where
  -- the state after the copies so far
  moved_here : all_moved copies.moves (state_of screen first) ≡ state_of screen old
  moved_here = copies.taken.moved_is ∙ sym (state_copied screen first old kept)

  -- where the hint copies to is marked, so of use it is where it is useful
  of_no_use : (IsUseful screen old hint → ⊥) →
      IsOfUse (all_moved copies.moves (state_of screen first)) (move_of hint) → ⊥
  of_no_use never good =
      let now : IsOfUse (state_of screen old) (move_of hint) =
      subst (λ (t : ServerState). IsOfUse t (move_of hint)) moved_here good in
      never (record {
        gain = now.gain;
        free = record {
          asked = now.asked;
          not_whole = now.not_whole;
          marked = λ x y c. rw (kept.marks) (marked now.gain.on_screen x y c);
        };
      })

  of_use : IsUseful screen old hint → IsOfUse (all_moved copies.moves (state_of screen first)) (move_of hint)
  of_use useful =
      subst (λ (t : ServerState). IsOfUse t (move_of hint)) (sym moved_here)
      (record { gain = useful.gain; asked = useful.free.asked; not_whole = useful.free.not_whole })

  pub copies_go_on : (did : Bool) → SendsHint did screen hint old new before after →
      AppendsCopies screen (n + 1) first new start after (count + bool_byte did)
  copies_go_on false (never, known, same) = record {
    moves = copies.moves;
    copies = copies.copies;
    bytes = copies.bytes;
    appended = same ∙ copies.appended;
    count_is = omega (arith, copies.count_is);
    taken = rw known copies.taken;
    used = left_next (state_of screen first) first.hints.items n copies.moves hint this copies.used (of_no_use never);
  }
  copies_go_on true (useful, appends, known) =
      let s : ServerState = state_of screen first in
      let gain : IsGain (record s { known = old.known }) (move_of hint) =
      subst (λ (t : ServerState). IsGain t (move_of hint)) (state_copied screen first old kept) useful.gain in
      let free : (x y : ℕ) → contains hint.to x y ≡ true → (is_asked s x y ≡ true) × (is_whole s x y ≡ false) =
      λ x y c. (rw (← kept.area) (useful.free.asked x y c), rw (← kept.area) (useful.free.not_whole x y c)) in
      let part : Part = record {
        head = record { rect = hint.to; encoding = CopyRect };
        contents = Source hint.sx hint.sy;
        body = appends.copied.body;
      } in
      record {
        moves = copies.moves ++ move_of hint ∷ [];
        copies = copies.copies ++ part ∷ [];
        bytes = copies.bytes ++ appends.bytes;
        appended = appends.appended ∙ (rw (copies.appended) (append_assoc start copies.bytes appends.bytes));
        count_is = rw (length-append copies.copies (part ∷ [])) (omega (arith, copies.count_is));
        taken = rw known
            (copies_more s copies.moves copies.copies old.known copies.bytes appends.bytes (move_of hint) about.alike
            copies.taken gain free listed appends.copied);
        used = used_next (state_of screen first) first.hints.items n copies.moves hint this copies.used (of_use useful);
      }
