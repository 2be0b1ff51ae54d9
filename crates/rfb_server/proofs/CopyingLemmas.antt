-- Copies at the front of an update.
use Rattle.std.proofs.Common.{◌≡◌, ℕ, ◌+◌, ◌-◌, ◌<◌, ◌&&◌, ◌||◌, Bool, true, false, not, List, [], ◌∷◌, ◌++◌, length}
use Rattle.std.proofs.Common.{map, Option, None, if◌then◌else◌, refl, sym, ap, subst, ◌∙◌, arith, inl, inr, append-nil}
use Rattle.std.proofs.lemmas.Bool.{or_cases, or_left}
use Rattle.rfb_pixel.specs.declared.colour.Colour.{Colour}
use Rattle.rfb_picture.specs.Rect.{contains}
use Rattle.rfb_picture.specs.Grid.{Grid, IsGrid, at_or, copied}
use Rattle.rfb_picture.proofs.GridLaws.{at-changed, width-changed, height-changed, whole-changed, contains_row}
use Rattle.rfb_wire.specs.stream.Sequel.{Second}
use Rattle.rfb_wire.specs.declared.encoding.Encoding.TheVariants.{CopyRect}
use Rattle.rfb_codec.specs.RectData.{Source}
use Rattle.rfb_codec.specs.Effect.{effects, IsAlike, Agrees}
use Rattle.rfb_codec.specs.WholeUpdate.{item_of}
use Rattle.rfb_codec.proofs.EffectLaws.{agrees_copied}
use Rattle.rfb_server.specs.Encodings.{is_listed}
use Rattle.rfb_server.specs.Server.{ServerState}
use Rattle.rfb_server.specs.Request.{wanted, recorded, is_asked, is_whole, differs}
use Rattle.rfb_server.specs.Composition.{Part, Move, sent_as, between, moved, all_moved, is_right, IsGain, AllGain}
use Rattle.rfb_server.specs.Composition.{IsCopy, AreCopies, HasItsData, IsPlace, is_in_some, IsDue}
use Rattle.rfb_server.specs.update.Copies.{Copies, IsCopied}
use Rattle.rfb_server.proofs.SendsPushLemmas.{spelled_push, data_push, agrees_push, in_push}
use Rattle.rfb_server.proofs.CountLemmas.{missing_in_rows}

moved_push : (moves : List Move) (move : Move) (s : ServerState) →
    all_moved (moves ++ move ∷ []) s ≡ moved move (all_moved moves s)
moved_push [] move s = refl
moved_push (first ∷ moves) move s = moved_push moves move (moved first s)

gains_push : (moves : List Move) (move : Move) (s : ServerState) → AllGain s moves → IsGain (all_moved moves s) move →
    AllGain s (moves ++ move ∷ [])
gains_push [] move s all one = (one, tt)
gains_push (first ∷ moves) move s (here, rest) one = (here, gains_push moves move (moved first s) rest one)

copies_push : (moves : List Move) (copies : List Part) (move : Move) (part : Part) →
    AreCopies moves copies → IsCopy move part →
    AreCopies (moves ++ move ∷ []) (copies ++ part ∷ [])
copies_push [] [] move part all one = (one, tt)
copies_push [] (copy ∷ copies) move part all one = absurd all
copies_push (first ∷ moves) [] move part all one = absurd all
copies_push (first ∷ moves) (copy ∷ copies) move part (here, rest) one =
    (here, copies_push moves copies move part rest one)

pub copies_start : (s : ServerState) → IsGrid s.known → Copies s [] [] s.known []
copies_start s whole = record {
  moved_is = refl;
  whole = whole;
  alike = record { columns = refl; rows = refl };
  spelled = refl;
  data_are = tt;
  agrees = λ picture sound size agrees. agrees;
  copies_are = tt;
  copies_listed = λ none. absurd (none refl);
  gains = tt;
  free = λ x y p e. absurd cc;
  others = λ x y p e. refl;
}

module _ (s : ServerState) (moves : List Move) (copies : List Part) (known : Grid (Option ℕ))
    (bytes more : List ℕ) (move : Move) where
  -- one copy more
  pub copies_more : IsAlike s.screen s.known → Copies s moves copies known bytes →
      IsGain (record s { known = known }) move →
      ((x y : ℕ) → contains move.to x y ≡ true → (is_asked s x y ≡ true) × (is_whole s x y ≡ false)) →
      is_listed CopyRect s.encodings ≡ true → (copy : IsCopied move.to move.sx move.sy more) →
      Copies s (moves ++ move ∷ []) (copies ++ record {
        head = record { rect = move.to; encoding = CopyRect };
        contents = Source move.sx move.sy;
        body = copy.body;
      } ∷ [])
      (copied move.to move.sx move.sy known) (bytes ++ more)
  copies_more size taken gain free listed copy = record {
    moved_is = moved_push moves move s ∙ ap (moved move) taken.moved_is;
    whole = whole-changed _ known taken.whole;
    alike = record {
      columns = taken.alike.columns ∙ sym (width-changed _ known);
      rows = taken.alike.rows ∙ sym (height-changed _ known);
    };
    spelled = spelled_push s copies part bytes more taken.spelled (
      more,
      [],
      sym (append-nil more),
      record {
        front = copy.head;
        whole = copy.whole;
        head_is = copy.head_is;
        on_screen = gain.on_screen;
        body_is = (Source move.sx move.sy, data_is);
      },
      refl,
    );
    data_are = data_push s copies part taken.data_are data_is;
    agrees = agrees;
    copies_are = copies_push moves copies move part taken.copies_are
        (record { rect_is = refl; encoding_is = refl; contents_are = refl });
    copies_listed = λ _. listed;
    gains = gains_push moves move s taken.gains (subst (λ (t : ServerState). IsGain t move) (sym taken.moved_is) gain);
    free = λ x y p e.
        elim (or_cases (is_in_some copies x y) (contains move.to x y) (sym (in_push copies part x y) ∙ e)) [
          | inl old ↦ taken.free x y p old
          | inr here ↦ free x y here
        ];
    others = λ x y p e.
        let both = none_of (is_in_some copies x y) (contains move.to x y) (sym (in_push copies part x y) ∙ e) in
        at_copied x y p (contains move.to x y) refl both.1 ∙ taken.others x y p both.0;
  }
    where
      part : Part
      part = record {
        head = record { rect = move.to; encoding = CopyRect };
        contents = Source move.sx move.sy;
        body = copy.body;
      }

      data_is : HasItsData s part
      data_is = (copy.body_is, gain.source_on_screen)

      none_of : (a b : Bool) → (a || b) ≡ false → (a ≡ false) × (b ≡ false)
      none_of true b e = absurd cc
      none_of false b e = (refl, e)

      in_known : (x y : ℕ) → IsPlace s x y → (x < known.width) × (y < known.height)
      in_known x y p = (rw (← taken.alike.columns, ← size.columns) p.0, rw (← taken.alike.rows, ← size.rows) p.1)

      at_copied : (x y : ℕ) → IsPlace s x y → (here : Bool) → contains move.to x y ≡ here → here ≡ false →
          at_or (copied move.to move.sx move.sy known) x y None ≡ at_or known x y None
      at_copied x y p true e out = absurd cc
      at_copied x y p false e out =
          let (a, b) = in_known x y p in
          at-changed (λ i j (old : Option ℕ). if contains move.to i j then at_or known (move.sx + (i - move.to.x))
          (move.sy + (j - move.to.y)) old else old) known x y None taken.whole a b ∙ (rw e refl)

      agrees : (picture : Grid Colour) → IsGrid picture → IsAlike picture s.known → Agrees s.form picture s.known →
          Agrees s.form (effects (between s) (map item_of (map sent_as (copies ++ part ∷ []))) picture)
          (copied move.to move.sx move.sy known)
      agrees = agrees_push s copies part known _ taken.alike data_is taken.agrees (λ shown whole fits before.
          agrees_copied s.form move.to shown known move.sx move.sy whole taken.whole fits (
            rw (← taken.alike.columns, ← size.columns) gain.source_on_screen.0,
            rw (← taken.alike.rows, ← size.rows) gain.source_on_screen.1,
          ) before)

-- ---- whether an update is due

needing : (asked whole differing : Bool) → asked ≡ true → not differing ≡ false → (asked && (whole || differing)) ≡ true
needing true true differing a e = refl
needing true false true a e = refl
needing true false false a e = absurd cc
needing false whole differing a e = absurd cc

-- a copy that gains has a place that needs sending
pub copied_due : (s : ServerState) (moves : List Move) (copies : List Part) (known : Grid (Option ℕ)) (bytes : List ℕ) →
    s.point ≡ Second tt →
    (length copies ≡ 0 → ⊥) → Copies s moves copies known bytes → IsDue s
copied_due s moves [] known bytes ready some taken = absurd (some refl)
copied_due s [] (copy ∷ copies) known bytes ready some taken = absurd taken.copies_are
copied_due s (move ∷ moves) (copy ∷ copies) known bytes ready some taken =
    let gain : IsGain s move = taken.gains.0 in
    let is : IsCopy move copy = taken.copies_are.0 in
    let (i, j, a, b, wrong) = missing_in_rows (is_right s) (is_right (moved move s)) move.to.x move.to.y
    move.to.w move.to.h gain.more_right in
    let place : IsPlace s (move.to.x + i) (move.to.y + j) =
    (omega (arith, gain.on_screen), omega (arith, gain.on_screen)) in
    let inside : contains copy.head.rect (move.to.x + i) (move.to.y + j) ≡ true =
    rw (is.rect_is) (contains_row move.to (move.to.x + i) (move.to.y + j) (omega arith) (omega arith)
    (omega arith) (omega arith)) in
    let free = taken.free (move.to.x + i) (move.to.y + j) place (or_left (contains copy.head.rect (move.to.x + i)
    (move.to.y + j)) (is_in_some copies (move.to.x + i) (move.to.y + j)) inside) in
    record {
      ready = ready;
      x = move.to.x + i;
      y = move.to.y + j;
      is_place = place;
      needs = needing (is_asked s (move.to.x + i) (move.to.y + j)) (is_whole s (move.to.x + i) (move.to.y + j))
          (differs (wanted s (move.to.x + i) (move.to.y + j)) (recorded s (move.to.x + i) (move.to.y + j))) free.0
          wrong;
    }

-- where nothing is copied nothing more is known
pub none_copied : (s : ServerState) (moves : List Move) (known : Grid (Option ℕ)) (bytes : List ℕ) →
    Copies s moves [] known bytes → known ≡ s.known
none_copied s [] known bytes taken = ap (λ (t : ServerState). t.known) (sym taken.moved_is)
none_copied s (move ∷ moves) known bytes taken = absurd taken.copies_are
