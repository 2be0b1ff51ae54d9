-- When every cell is taken care of, a composing is done.
use Rattle.std.proofs.Common.{◌≡◌, ℕ, ◌+◌, ◌*◌, ◌/◌, ◌<◌, ◌≤◌, Bool, true, false, List, [], ◌∷◌, ◌++◌, length, map}
use Rattle.std.proofs.Common.{Option, Some, None, refl, sym, subst, ◌∙◌, arith, inl, inr, ◌⊎◌, append_assoc}
use Rattle.std.proofs.Common.{if◌then◌else◌}
use Rattle.std.specs.Int.{div_ceil}
use Rattle.std.proofs.Math.Nat.{mul-le-mul_right}
use Rattle.std.proofs.lemmas.Bool.{both_ways}
use Rattle.std.proofs.lemmas.List.{length-map}
use Rattle.rfb_pixel.specs.declared.colour.Colour.{Colour}
use Rattle.rfb_picture.specs.Grid.{Grid, IsGrid, at_or}
use Rattle.rfb_picture.specs.Area.{IsArea, nothing}
use Rattle.rfb_wire.specs.ServerHead.{SpellsUpdate}
use Rattle.rfb_wire.specs.ServerMessage.{FramebufferUpdate}
use Rattle.rfb_codec.specs.UpdateStream.{Rectangle}
use Rattle.rfb_codec.specs.Effect.{effect, effects, IsAlike, Agrees}
use Rattle.rfb_codec.specs.WholeUpdate.{item_of, SpellsRectangles}
use Rattle.rfb_codec.proofs.EffectLaws.{effects_picture, effect_message}
use Rattle.rfb_codec.proofs.WholeUpdateLaws.{update_read}
use Rattle.rfb_server.specs.Server.{ServerState}
use Rattle.rfb_server.specs.Request.{wanted, recorded, is_asked, is_whole}
use Rattle.rfb_server.specs.Cells.{cell_of}
use Rattle.rfb_server.specs.Composition.{Part, Move, sent_as, between, HaveTheirData, IsPlace, is_in_some, Composes}
use Rattle.rfb_server.specs.update.Sends.{Sends}
use Rattle.rfb_server.specs.update.Copies.{Copies}

-- each place is of a cell
pub all_cells : (w h x y : ℕ) → x < w → y < h → cell_of (div_ceil w 64) x y < div_ceil w 64 * div_ceil h 64
all_cells w h x y p q =
    let column : x / 64 < div_ceil w 64 = omega arith in
    let row : y / 64 + 1 ≤ div_ceil h 64 = omega arith in
    let rows : (y / 64 + 1) * div_ceil w 64 ≤ div_ceil h 64 * div_ceil w 64 = mul-le-mul_right (div_ceil w 64) row in
    omega arith

-- ---- copies and cells

module _ (s : ServerState) (moves : List Move) (copies parts : List Part) (known now : Grid (Option ℕ))
    (head front bytes : List ℕ) where
  pub composes : IsArea s.area → s.area.asked.width ≡ s.screen.width → s.area.asked.height ≡ s.screen.height →
      Copies s moves copies known front →
      Sends (div_ceil s.screen.width 64) (div_ceil s.screen.width 64 * div_ceil s.screen.height 64)
      (record s { known = known }) now parts bytes →
      SpellsUpdate (length (copies ++ parts)) head →
      (c : Composes s (record s { known = now; area = nothing s.area }) (head ++ (front ++ bytes)) copies parts)
      × (c.moves ≡ moves)
  composes area wide high taken sends head_is = (
    record {
      is_update = update_read (between s) (map sent_as (copies ++ parts)) (head ++ (front ++ bytes)) refl
          (record {
            head = head;
            list = front ++ bytes;
            whole = refl;
            head_is = rw (length-map (copies ++ parts) sent_as) head_is;
            sent_are = spelled_both copies parts front bytes taken.spelled sends.spelled;
          });
      data_are = data_both copies parts taken.data_are (data_same parts sends.data_are);
      agrees = λ picture whole alike before.
          subst (λ (g : Grid Colour). Agrees s.form
          (effects (between s) (map item_of (map sent_as (copies ++ parts))) g) now)
          (sym (effect_message (between s) (FramebufferUpdate (length (map sent_as (copies ++ parts)))) picture))
          (agrees_both picture whole alike before);
      answered = λ x y p a. sends.answered x y p (all_cells s.screen.width s.screen.height x y p.0 p.1) a;
      others = λ x y p a. by_others x y p a (is_in_some copies x y) refl
          (kept_or_right (is_in_some parts x y) (sends.noted x y p));
      renewed = λ x y p w. (
        sends.renewed x y p (all_cells s.screen.width s.screen.height x y p.0 p.1) w,
        not_copied x y p w (is_in_some copies x y) refl,
      );
      emptied = refl;
      same_point = refl;
      same_screen = refl;
      same_size = record {
        columns = sym (taken.alike.columns ∙ sends.alike.columns);
        rows = sym (taken.alike.rows ∙ sends.alike.rows);
      };
      same_format = refl;
      same_encodings = refl;
      moves = moves;
      copies_are = taken.copies_are;
      copies_listed = taken.copies_listed;
      gains = taken.gains;
      blocks_are = rw (taken.moved_is) sends.blocks_are;
      boxes_are = rw (taken.moved_is) sends.boxes_are;
      noted = λ x y p. rw (taken.moved_is) (sends.noted x y p);
    },
    refl,
  )
    where
      data_same : (parts : List Part) → HaveTheirData (record s { known = known }) parts → HaveTheirData s parts
      data_same [] all = tt
      data_same (part ∷ parts) (here, rest) = (here, data_same parts rest)

      data_both : (copies parts : List Part) → HaveTheirData s copies → HaveTheirData s parts →
          HaveTheirData s (copies ++ parts)
      data_both [] parts one other = other
      data_both (copy ∷ copies) parts (here, rest) other = (here, data_both copies parts rest other)

      spelled_both : (copies parts : List Part) (front bytes : List ℕ) →
          SpellsRectangles (between s) (map sent_as copies) front →
          SpellsRectangles (between s) (map sent_as parts) bytes →
          SpellsRectangles (between s) (map sent_as (copies ++ parts)) (front ++ bytes)
      spelled_both [] parts front bytes none other = rw none other
      spelled_both (copy ∷ copies) parts front bytes (a, b, whole, here, rest) other =
          (a, b ++ bytes, rw whole (append_assoc a b bytes), here, spelled_both copies parts b bytes rest other)

      effects_both : (copies parts : List Part) (picture : Grid Colour) →
          effects (between s) (map item_of (map sent_as (copies ++ parts))) picture ≡ effects (between s)
          (map item_of (map sent_as parts)) (effects (between s) (map item_of (map sent_as copies)) picture)
      effects_both [] parts picture = refl
      effects_both (copy ∷ copies) parts picture =
          effects_both copies parts (effect (between s) (Rectangle copy.head copy.body) picture)

      agrees_both : (picture : Grid Colour) → IsGrid picture → IsAlike picture s.known → Agrees s.form picture s.known →
          Agrees s.form (effects (between s) (map item_of (map sent_as (copies ++ parts))) picture) now
      agrees_both picture whole alike before =
          let shown : Grid Colour = effects (between s) (map item_of (map sent_as copies)) picture in
          let kept = effects_picture (between s) (map item_of (map sent_as copies)) picture in
          rw (effects_both copies parts picture)
          (sends.agrees shown (kept.whole whole)
          (record {
            columns = kept.columns ∙ (alike.columns ∙ taken.alike.columns);
            rows = kept.rows ∙ (alike.rows ∙ taken.alike.rows);
          })
          (taken.agrees picture whole alike before))

      kept_or_right : {A : Type 0} {at old right : A} (here : Bool) → at ≡ (if here then right else old) →
          (at ≡ old) ⊎ (at ≡ right)
      kept_or_right true e = inr e
      kept_or_right false e = inl e

      by_others : (x y : ℕ) → IsPlace s x y → is_asked s x y ≡ false → (here : Bool) → is_in_some copies x y ≡ here →
          (at_or now x y None ≡ at_or known x y None) ⊎ (at_or now x y None ≡ Some (wanted s x y)) →
          (at_or now x y None ≡ recorded s x y) ⊎ (at_or now x y None ≡ Some (wanted s x y))
      by_others x y p a here e (inr right) = inr right
      by_others x y p a true e (inl same) = absurd (both_ways (is_asked s x y) a (taken.free x y p e).0)
      by_others x y p a false e (inl same) = inl (same ∙ taken.others x y p e)

      not_copied : (x y : ℕ) → IsPlace s x y → is_whole s x y ≡ true → (here : Bool) →
          is_in_some copies x y ≡ here → here ≡ false
      not_copied x y p w true e = absurd (both_ways (is_whole s x y) (taken.free x y p e).1 w)
      not_copied x y p w false e = refl
