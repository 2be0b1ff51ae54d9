-- Heads of client messages: one for bytes of the right size, and no other for the same bytes.
use Rattle.std.proofs.Common.{◌≡◌, ℕ, List, [], length, slice_index, drop, Some, refl, arith, ◌<◌, ◌++◌, sym}
use Rattle.std.proofs.Common.{ap, ◌∙◌, length-append}
use Rattle.std.proofs.lemmas.List.{append-nil, get_or_append_left, nil_from_length}
use Rattle.std.proofs.lemmas.Bool.Decides.{nat_tests}
use Rattle.rfb_wire.specs.declared.client_head.ClientHead.{ClientHead}
use Rattle.rfb_wire.specs.declared.client_head.ClientHead.TheVariants.{SetPixelFormat, SetEncodings, Request, Key}
use Rattle.rfb_wire.specs.declared.client_head.ClientHead.TheVariants.{Pointer, CutText}
use Rattle.rfb_wire.specs.Fields.{u8_at, u16_at, u32_at, flag_at}
use Rattle.rfb_wire.specs.ClientHead.{SpellsClientHead, client_head_size}
use Rattle.rfb_wire.specs.ClientStream.{client_head_of}
use Rattle.rfb_wire.proofs.stream_laws.HeadLemmas.{SizesSpell, SpelledAlone, by_type, of_type}

-- bytes of the size that their type asks for are a head
pub client-sizes : SizesSpell SpellsClientHead client_head_size
client-sizes bytes h =
    by_type client_head_size bytes h 0 20 refl
    (λ size is. (SetPixelFormat (drop 4 bytes), record { size = size; message_type = is; pixel_format_is = refl }))
    (λ not_0. by_type client_head_size bytes h 2 4 refl
    (λ size is. (SetEncodings (u16_at 2 bytes), record { size = size; message_type = is; number_is = refl }))
    (λ not_2. by_type client_head_size bytes h 3 10 refl
    (λ size is. (
      Request (flag_at 1 bytes)
          (record { x = u16_at 2 bytes; y = u16_at 4 bytes; w = u16_at 6 bytes; h = u16_at 8 bytes }),
      record {
        size = size;
        message_type = is;
        incremental_is = refl;
        rect_is = record { x_position = refl; y_position = refl; width = refl; height = refl };
      },
    ))
    (λ not_3. by_type client_head_size bytes h 4 8 refl
    (λ size is. (
      Key (flag_at 1 bytes) (u32_at 4 bytes),
      record { size = size; message_type = is; down_flag_is = refl; key_is = refl },
    ))
    (λ not_4. by_type client_head_size bytes h 5 6 refl
    (λ size is. (
      Pointer (u8_at 1 bytes) (u16_at 2 bytes) (u16_at 4 bytes),
      record {
        size = size;
        message_type = is;
        button_mask_is = refl;
        x_position_is = refl;
        y_position_is = refl;
      },
    ))
    (λ not_5. by_type client_head_size bytes h 6 8 refl
    (λ size is. (CutText (u32_at 4 bytes), record { size = size; message_type = is; length_is = refl }))
    (λ not_6. absurd (grind (arith, nat_tests))))))))

-- bytes spell no other head than their own, have its size, and are not none
pub client-spelled : SpelledAlone SpellsClientHead client_head_size client_head_of
client-spelled (SetPixelFormat format) bytes s =
    of_type client_head_size bytes s.size s.message_type refl (omega arith) (grind (arith, nat_tests))
client-spelled (SetEncodings count) bytes s =
    of_type client_head_size bytes s.size s.message_type refl (omega arith) (grind (arith, nat_tests))
client-spelled (Request incremental rect) bytes s =
    of_type client_head_size bytes s.size s.message_type refl (omega arith) (grind (arith, nat_tests))
client-spelled (Key down key) bytes s =
    of_type client_head_size bytes s.size s.message_type refl (omega arith) (grind (arith, nat_tests))
client-spelled (Pointer buttons x y) bytes s =
    of_type client_head_size bytes s.size s.message_type refl (omega arith) (grind (arith, nat_tests))
client-spelled (CutText text_length) bytes s =
    of_type client_head_size bytes s.size s.message_type refl (omega arith) (grind (arith, nat_tests))

-- bytes that go on after a head spell no other, and do not go on
pub client-apart : (head other : ClientHead) (front rest : List ℕ) → SpellsClientHead head front →
    SpellsClientHead other (front ++ rest) → (other ≡ head) × (rest ≡ [])
client-apart head other front rest a b =
    let one = client-spelled head front a in
    let two = client-spelled other (front ++ rest) b in
    let some : 0 < length front = one.2 in
    let kind : slice_index (front ++ rest) 0 ≡ slice_index front 0 =
    get_or_append_left front rest 0 0 some in
    let size : Some (length front) ≡ Some (length (front ++ rest)) =
    sym one.1 ∙ ap client_head_size (sym kind) ∙ two.1 in
    let same : length front ≡ length (front ++ rest) = cc in
    let none : rest ≡ [] = nil_from_length rest (omega (arith, length-append front rest)) in
    let whole : front ++ rest ≡ front = ap (λ (xs : List ℕ). front ++ xs) none ∙ append-nil front in
    (two.0 ∙ ap client_head_of whole ∙ sym one.0, none)
