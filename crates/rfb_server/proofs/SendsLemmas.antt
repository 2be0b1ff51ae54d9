-- A cell more in a composing: one that has nothing to send, and one of which a rectangle is sent.
use Rattle.std.proofs.Common.{◌≡◌, ℕ, ◌+◌, ◌-◌, ◌<◌, ◌≤◌, ◌||◌, Bool, true, false}
use Rattle.std.proofs.Common.{List, [], ◌∷◌, ◌++◌, map}
use Rattle.std.proofs.Common.{Option, Some, None, if◌then◌else◌, refl, sym, ap, ◌∙◌, arith, inl, inr}
use Rattle.std.proofs.Common.{append-nil, length-append}
use Rattle.std.proofs.lemmas.Bool.{cases_eq, cases_lt, both_ways, or_left, or_right}
use Rattle.rfb_pixel.specs.declared.colour.Colour.{Colour}
use Rattle.rfb_pixel.specs.Format.{PixelFormat}
use Rattle.rfb_picture.specs.declared.rect.Rect.{Rect}
use Rattle.rfb_picture.specs.Rect.{contains}
use Rattle.rfb_picture.specs.Grid.{Grid, IsGrid, at_or}
use Rattle.rfb_picture.specs.Area.{IsArea}
use Rattle.rfb_picture.specs.Box.{IsClear, IsBox}
use Rattle.rfb_picture.proofs.GridLaws.{contains_true, contains_row}
use Rattle.rfb_codec.specs.Codec.{PacksRect}
use Rattle.rfb_codec.specs.RectData.{Pixels}
use Rattle.rfb_codec.specs.Effect.{effects, IsAlike, Agrees, IsRecorded}
use Rattle.rfb_codec.specs.WholeUpdate.{item_of, SpellsRectangles}
use Rattle.rfb_codec.proofs.EffectLaws.{agrees_placed}
use Rattle.rfb_server.specs.Server.{ServerState, black}
use Rattle.rfb_server.specs.Request.{wanted_at, wanted, recorded, is_asked, is_whole, needs_at, needs_sending}
use Rattle.rfb_server.specs.Cells.{cell_of, IsCell}
use Rattle.rfb_server.specs.Composition.{Part, sent_as, between, IsPlace, HasItsData, IsBlockOf}
use Rattle.rfb_server.specs.Composition.{IsBoxOf, is_in_some}
use Rattle.rfb_server.specs.update.Sends.{SendsPixels, Sends}
use Rattle.rfb_server.proofs.BoxesLemmas.{boxes_none, boxes_push}
use Rattle.rfb_server.proofs.SendsPushLemmas.{quiet_place, spelled_push, data_push, blocks_push, agrees_push, in_push}

-- ---- a rectangle

-- what is recorded after it
pub noted_at : (screen : Grid Colour) (form : PixelFormat) (rect : Rect) (block : Grid ℕ)
    (known now : Grid (Option ℕ)) (x y : ℕ) →
    PacksRect form screen rect block → IsRecorded rect block known now → x < now.width → y < now.height →
    at_or now x y None ≡ (if contains rect x y then Some (wanted_at screen form x y) else at_or known x y None)
noted_at screen form rect block known now x y packed noted p q = noted x y p q ∙ by (contains rect x y) refl
  where
    by : (here : Bool) → contains rect x y ≡ here →
        (if here then Some (at_or block (x - rect.x) (y - rect.y) 0) else at_or known x y None)
        ≡ (if here then Some (wanted_at screen form x y) else at_or known x y None)
    by true e =
        let (a, b, c, d) = contains_true rect x y e in
        let column : rect.x + (x - rect.x) ≡ x = omega arith in
        let row : rect.y + (y - rect.y) ≡ y = omega arith in
        let pixel = packed (x - rect.x) (y - rect.y) black 0 (omega arith) (omega arith) in
        ap (λ (k : ℕ). Some k) (rw (column, row) at pixel)
    by false e = refl

-- it as a part of an update
abbrev pub part_of : (rect : Rect) (screen : Grid Colour) (s : ServerState) (known now : Grid (Option ℕ))
    (bytes : List ℕ) → SendsPixels screen s.form s.encodings rect known now bytes → Part
part_of rect screen s known now bytes sent = record {
  head = record { rect = rect; encoding = sent.encoding };
  contents = Pixels sent.block;
  body = sent.coded.body;
}

-- ---- the relation

module _ (across : ℕ) (s : ServerState) where
  pub sends_start : IsGrid s.known → Sends across 0 s s.known [] []
  sends_start whole = record {
    whole = whole;
    alike = record { columns = refl; rows = refl };
    few = omega arith;
    idle = λ _. refl;
    spelled = refl;
    data_are = tt;
    blocks_are = tt;
    boxes_are = λ x y p q above below. absurd (omega (arith, above, below));
    agrees = λ picture sound size agrees. agrees;
    answered = λ x y p l a. absurd (omega arith);
    noted = λ x y p. refl;
    later = λ x y p l. refl;
    renewed = λ x y p l w. absurd (omega arith);
  }

  -- a cell of which nothing needs sending
  pub sends_none : (n : ℕ) (known : Grid (Option ℕ)) (parts : List Part) (bytes : List ℕ) (cell : Rect) →
      IsArea s.area →
      s.area.asked.width ≡ s.screen.width → s.area.asked.height ≡ s.screen.height →
      IsCell s.screen.width s.screen.height across n cell →
      IsClear (needs_at s.screen known s.area s.form) cell.x (cell.x + cell.w) cell.y (cell.y + cell.h) →
      Sends across n s known parts bytes → Sends across (n + 1) s known parts bytes
  sends_none n known parts bytes cell area wide high is clear sends = record {
    whole = sends.whole;
    alike = sends.alike;
    few = omega (arith, sends.few);
    idle = sends.idle;
    spelled = sends.spelled;
    data_are = sends.data_are;
    blocks_are = sends.blocks_are;
    boxes_are = boxes_none across s 0 n (n + 1) parts (omega arith) sends.boxes_are
        (λ x y p q above below.
        let none = clear_at x y (p, q) (omega (arith, above, below)) in
        rw (sends.later x y (p, q) above) at none);
    agrees = sends.agrees;
    answered = λ x y p l a.
        elim (cases_eq (cell_of across x y) n) [
          | inl here ↦ (quiet x y p here a).0
          | inr other ↦ sends.answered x y p (omega arith) a
        ];
    noted = sends.noted;
    later = λ x y p l. sends.later x y p (omega arith);
    renewed = λ x y p l w.
        elim (cases_eq (cell_of across x y) n) [
          | inl here ↦
              absurd (both_ways (is_whole s x y) (quiet x y p here (area.inside x y (rw wide p.0) (rw high p.1) w)).1 w)
          | inr other ↦ sends.renewed x y p (omega arith) w
        ];
  }
    where
      clear_at : (x y : ℕ) → IsPlace s x y → cell_of across x y ≡ n → needs_at s.screen known s.area s.form x y ≡ false
      clear_at x y p here =
          let (f, g, h, i) = contains_true cell x y (is.all x y p.0 p.1 here) in
          clear x y f g h i

      quiet : (x y : ℕ) → IsPlace s x y → cell_of across x y ≡ n → is_asked s x y ≡ true →
          (at_or known x y None ≡ Some (wanted s x y)) × (is_whole s x y ≡ false)
      quiet x y p here a =
          quiet_place (is_asked s x y) (is_whole s x y) (wanted s x y) (at_or known x y None) (clear_at x y p here) a

  -- cells of which nothing needs sending
  pub sends_skip : (n m : ℕ) (known : Grid (Option ℕ)) (parts : List Part) (bytes : List ℕ) → IsArea s.area →
      s.area.asked.width ≡ s.screen.width → s.area.asked.height ≡ s.screen.height → n ≤ m →
      ((x y : ℕ) → IsPlace s x y → n ≤ cell_of across x y → cell_of across x y < m →
      needs_at s.screen known s.area s.form x y ≡ false) →
      Sends across n s known parts bytes → Sends across m s known parts bytes
  sends_skip n m known parts bytes area wide high order clear sends = record {
    whole = sends.whole;
    alike = sends.alike;
    few = omega (arith, sends.few, order);
    idle = sends.idle;
    spelled = sends.spelled;
    data_are = sends.data_are;
    blocks_are = sends.blocks_are;
    boxes_are = boxes_none across s 0 n m parts order sends.boxes_are
        (λ x y p q above below.
        let none = clear x y (p, q) above below in
        rw (sends.later x y (p, q) above) at none);
    agrees = sends.agrees;
    answered = λ x y p l a.
        elim (cases_lt (cell_of across x y) n) [
          | inl less ↦ sends.answered x y p less a
          | inr more ↦ (quiet_place (is_asked s x y) (is_whole s x y) (wanted s x y)
              (at_or known x y None) (clear x y p more l) a).0
        ];
    noted = sends.noted;
    later = λ x y p l. sends.later x y p (omega (arith, l, order));
    renewed = λ x y p l w.
        elim (cases_lt (cell_of across x y) n) [
          | inl less ↦ sends.renewed x y p less w
          | inr more ↦
              absurd (both_ways (is_whole s x y)
              (quiet_place (is_asked s x y) (is_whole s x y) (wanted s x y) (at_or known x y None) (clear x y p more l)
              (area.inside x y (rw wide p.0) (rw high p.1) w)).1 w)
        ];
  }

  -- a cell of which a rectangle is sent
  pub sends_some : (n : ℕ) (known now : Grid (Option ℕ)) (parts : List Part) (bytes more : List ℕ) (cell rect : Rect) →
      IsAlike s.screen s.known → IsArea s.area →
      s.area.asked.width ≡ s.screen.width → s.area.asked.height ≡ s.screen.height →
      IsCell s.screen.width s.screen.height across n cell →
      IsBox (needs_at s.screen known s.area s.form) cell rect →
      (sent : SendsPixels s.screen s.form s.encodings rect known now more) →
      Sends across n s known parts bytes →
      Sends across (n + 1) s now (parts ++ part_of rect s.screen s known now more sent ∷ []) (bytes ++ more)
  sends_some n known now parts bytes more cell rect size area wide high is box sent sends = record {
    whole = sent.whole;
    alike = record { columns = sends.alike.columns ∙ sent.alike.columns; rows = sends.alike.rows ∙ sent.alike.rows };
    few = rw (length-append parts (part ∷ [])) (omega (arith, sends.few));
    idle = λ e. absurd (not_empty parts part e);
    spelled = spelled_push s parts part bytes more sends.spelled spelled;
    data_are = data_push s parts part sends.data_are data_are;
    blocks_are = blocks_push s parts part sends.blocks_are block_is;
    boxes_are = boxes_push across s 0 n parts part (omega arith) sends.boxes_are box_is;
    agrees = agrees;
    answered = answered;
    noted = noted;
    later = λ x y p l. step x y p ∙ (rw (outside x y p (omega arith)) (sends.later x y p (omega arith)));
    renewed = renewed;
  }
    where
      part : Part
      part = record {
        head = record { rect = rect; encoding = sent.encoding };
        contents = Pixels sent.block;
        body = sent.coded.body;
      }

      not_empty : (parts : List Part) (last : Part) → parts ++ last ∷ [] ≡ [] → ⊥
      not_empty [] last e = cc
      not_empty (first ∷ parts) last e = cc

      in_now : (x y : ℕ) → IsPlace s x y → (x < now.width) × (y < now.height)
      in_now x y p = (
        rw (← sent.alike.columns, ← sends.alike.columns, ← size.columns) p.0,
        rw (← sent.alike.rows, ← sends.alike.rows, ← size.rows) p.1,
      )

      -- what is known after it
      step : (x y : ℕ) → IsPlace s x y →
          at_or now x y None ≡ (if contains rect x y then Some (wanted s x y) else at_or known x y None)
      step x y p =
          let (a, b) = in_now x y p in
          noted_at s.screen s.form rect sent.block known now x y sent.packed sent.noted a b

      -- a place of the rectangle is of the cell
      in_cell : (x y : ℕ) → contains rect x y ≡ true →
          (contains cell x y ≡ true) × (IsPlace s x y) × (cell_of across x y ≡ n)
      in_cell x y c =
          let (a, b, d, e) = contains_true rect x y c in
          let there : contains cell x y ≡ true = contains_row cell x y (omega (arith, box.within))
          (omega (arith, box.within)) (omega (arith, box.within)) (omega (arith, box.within)) in
          let (f, g, h, i) = contains_true cell x y there in
          (there, (omega (arith, is.held), omega (arith, is.held)), is.inside x y there)

      outside_by : (x y : ℕ) (here : Bool) → contains rect x y ≡ here → (cell_of across x y ≡ n → ⊥) → here ≡ false
      outside_by x y true e other = absurd (other (in_cell x y e).2)
      outside_by x y false e other = refl

      outside : (x y : ℕ) → IsPlace s x y → (cell_of across x y ≡ n → ⊥) → contains rect x y ≡ false
      outside x y p other = outside_by x y (contains rect x y) refl other

      spelled : SpellsRectangles (between s) (sent_as part ∷ []) more
      spelled = (
        more,
        [],
        sym (append-nil more),
        record {
          front = sent.coded.head;
          whole = sent.coded.whole;
          head_is = sent.coded.head_is;
          on_screen = (omega (arith, box.within, is.held), omega (arith, box.within, is.held));
          body_is = (Pixels sent.block, sent.coded.body_is s.screen.width s.screen.height);
        },
        refl,
      )

      data_are : HasItsData s part
      data_are = sent.coded.body_is s.screen.width s.screen.height

      -- the places that need sending have not changed in this cell
      same_need : (x y : ℕ) → contains rect x y ≡ true → needs_at s.screen known s.area s.form x y ≡ true →
          needs_sending s x y ≡ true
      same_need x y c e =
          let (there, p, here) = in_cell x y c in
          rw (sends.later x y p (omega arith)) at e

      block_is : IsBlockOf s part
      block_is = record {
        block = sent.block;
        contents_are = refl;
        sized = sent.sized;
        packed = sent.packed;
        may_be_sent = sent.may_be_sent;
        chosen = sent.chosen;
        by_rule = sent.coded.by_rule;
        tight = record {
          some = box.tight.some;
          left = let (j, c, e) = box.tight.left in (j, c, same_need rect.x j c e);
          right = let (j, c, e) = box.tight.right in (j, c, same_need (rect.x + rect.w - 1) j c e);
          top = let (i, c, e) = box.tight.top in (i, c, same_need i rect.y c e);
          bottom = let (i, c, e) = box.tight.bottom in (i, c, same_need i (rect.y + rect.h - 1) c e);
        };
      }

      box_is : IsBoxOf across s n rect
      box_is = record {
        cell = cell;
        is_cell = is;
        least = record {
          within = box.within;
          holds = λ x y c need.
              let (f, g, h, i) = contains_true cell x y c in
              let p : IsPlace s x y = (omega (arith, is.held), omega (arith, is.held)) in
              let here : cell_of across x y ≡ n = is.inside x y c in
              box.holds x y c (rw (sends.later x y p (omega (arith, here))) need);
          tight = block_is.tight;
        };
      }

      agrees : (picture : Grid Colour) → IsGrid picture → IsAlike picture s.known → Agrees s.form picture s.known →
          Agrees s.form (effects (between s) (map item_of (map sent_as (parts ++ part ∷ []))) picture) now
      agrees = agrees_push s parts part known now sends.alike data_are sends.agrees (λ shown whole fits before.
          agrees_placed s.form rect shown known sent.block now whole fits sent.alike before sent.noted)

      by_inside : (x y : ℕ) → IsPlace s x y → (here : Bool) → contains rect x y ≡ here →
          (here ≡ false → at_or known x y None ≡ Some (wanted s x y)) →
          at_or now x y None ≡ Some (wanted s x y)
      by_inside x y p true e old = step x y p ∙ (rw e refl)
      by_inside x y p false e old = step x y p ∙ (rw e (old refl))

      not_needed_by : (x y : ℕ) (need : Bool) → needs_at s.screen known s.area s.form x y ≡ need →
          contains cell x y ≡ true → contains rect x y ≡ false → need ≡ false
      not_needed_by x y true e c out = absurd (both_ways (contains rect x y) out (box.holds x y c e))
      not_needed_by x y false e c out = refl

      not_needed : (x y : ℕ) → IsPlace s x y → cell_of across x y ≡ n → contains rect x y ≡ false →
          needs_at s.screen known s.area s.form x y ≡ false
      not_needed x y p here out =
          not_needed_by x y (needs_at s.screen known s.area s.form x y) refl (is.all x y p.0 p.1 here) out

      answered : (x y : ℕ) → IsPlace s x y → cell_of across x y < n + 1 → is_asked s x y ≡ true →
          at_or now x y None ≡ Some (wanted s x y)
      answered x y p l a =
          by_inside x y p (contains rect x y) refl
          (λ out. elim (cases_eq (cell_of across x y) n) [
            | inl here ↦ (quiet_place (is_asked s x y) (is_whole s x y) (wanted s x y) (at_or known x y None)
                (not_needed x y p here out) a).0
            | inr other ↦ sends.answered x y p (omega arith) a
          ])

      either : {A : Type 0} (in_old here : Bool) (right old : A) →
          (if here then right else (if in_old then right else old)) ≡ (if in_old || here then right else old)
      either true true right old = refl
      either true false right old = refl
      either false true right old = refl
      either false false right old = refl

      noted : (x y : ℕ) → IsPlace s x y →
          at_or now x y None ≡ (if is_in_some (parts ++ part ∷ []) x y then Some (wanted s x y) else recorded s x y)
      noted x y p =
          step x y p ∙
          (rw (sends.noted x y p, in_push parts part x y)
          (either (is_in_some parts x y) (contains rect x y) (Some (wanted s x y)) (recorded s x y)))

      renewed_by : (x y : ℕ) (here : Bool) → IsPlace s x y → contains rect x y ≡ here →
          cell_of across x y < n + 1 → is_whole s x y ≡ true →
          (is_in_some parts x y || here) ≡ true
      renewed_by x y true p e l w = or_right (is_in_some parts x y) true refl
      renewed_by x y false p e l w =
          elim (cases_eq (cell_of across x y) n) [
            | inl here ↦
                let a : is_asked s x y ≡ true = area.inside x y (rw wide p.0) (rw high p.1) w in
                absurd (both_ways (is_whole s x y) (quiet_place (is_asked s x y) (is_whole s x y) (wanted s x y)
                (at_or known x y None) (not_needed x y p here e) a).1 w)
            | inr other ↦ or_left (is_in_some parts x y) false (sends.renewed x y p (omega arith) w)
          ]

      renewed : (x y : ℕ) → IsPlace s x y → cell_of across x y < n + 1 → is_whole s x y ≡ true →
          is_in_some (parts ++ part ∷ []) x y ≡ true
      renewed x y p l w = rw (in_push parts part x y) (renewed_by x y (contains rect x y) p refl l w)
