-- Heads byte for byte as RFC 6143 lays them out, computed from the relations: these bytes spell
-- this head, and no other.
use Rattle.std.proofs.Common.{◌≡◌, ◌∙◌, ℕ, List, [], ◌∷◌, true, false, length, slice_index}
use Rattle.std.proofs.Common.{Option, Some, refl}
use Rattle.std.proofs.Common.{sym, subst, negsuc, arith}
use Rattle.rfb_wire.specs.declared.client_head.ClientHead.TheVariants.{SetPixelFormat, SetEncodings, Request, Key}
use Rattle.rfb_wire.specs.declared.client_head.ClientHead.TheVariants.{Pointer, CutText}
use Rattle.rfb_wire.specs.declared.server_head.ServerHead.TheVariants.{Update, ColourMap, Bell}
use Rattle.rfb_wire.specs.declared.server_head.ServerHead.TheVariants.{CutText as ServerCutText}
use Rattle.rfb_wire.specs.declared.encoding.Encoding.{Encoding}
use Rattle.rfb_wire.specs.declared.encoding.Encoding.TheVariants.{Raw, CopyRect, Rre, Hextile}
use Rattle.rfb_wire.specs.Encoding.{number_of, IsNoEncoding}
use Rattle.rfb_wire.specs.Fields.{s32_at}
use Rattle.rfb_wire.specs.stream.Heads.{BeginsNone}
use Rattle.rfb_wire.specs.ClientHead.{SpellsClientHead}
use Rattle.rfb_wire.specs.ServerHead.{SpellsServerHead}
use Rattle.rfb_wire.specs.RectHead.{SpellsRectHead, IsOnScreen}
use Rattle.rfb_wire.proofs.stream_laws.HeadedLaws.{IsHeaded, begins_none}
use Rattle.rfb_wire.proofs.ClientStreamLaws.{client_headed}
use Rattle.rfb_wire.proofs.ServerMessageLaws.{server_headed}
use Rattle.rfb_wire.proofs.RectLemmas.{rect-apart}

-- the bytes spell this value, and no other
abbrev SpellsOnly : {V : Type 0} → (V → List ℕ → Type 0) → V → List ℕ → Type 0
SpellsOnly {V = V} Spells v bytes = Spells v bytes × ((other : V) → Spells other bytes → other ≡ v)

-- a head is spelled by bytes of its size, and no other is
spells_only : {V : Type 0} {Spells : V → List ℕ → Type 0} {size : ℕ → Option ℕ}
    {head_in : List ℕ → V} → IsHeaded Spells size head_in → (v : V) (bytes : List ℕ) → v ≡ head_in bytes →
    size (slice_index bytes 0) ≡ Some (length bytes) → SpellsOnly Spells v bytes
spells_only {V = V} {Spells = Spells} is v bytes same size = (
  subst (λ (w : V). Spells w bytes) (sym same) (is.made bytes size),
  λ other s. (is.only other bytes s).0 ∙ sym same,
)

-- ---- from client to server, section 7.5

-- 00 000000, and rgb888's 20 18 00 01 00FF 00FF 00FF 10 08 00 000000
set_pixel_format_is : SpellsOnly SpellsClientHead
    (SetPixelFormat (32 ∷ 24 ∷ 0 ∷ 1 ∷ 0 ∷ 255 ∷ 0 ∷ 255 ∷ 0 ∷ 255 ∷ 16 ∷ 8 ∷ 0 ∷ 0 ∷ 0 ∷ 0 ∷ []))
    (0 ∷ 0 ∷ 0 ∷ 0 ∷ 32 ∷ 24 ∷ 0 ∷ 1 ∷ 0 ∷ 255 ∷ 0 ∷ 255 ∷ 0 ∷ 255 ∷ 16 ∷ 8 ∷ 0 ∷ 0 ∷ 0 ∷ 0
    ∷ [])
set_pixel_format_is = spells_only client_headed _ _ refl refl

-- 02 00 0102
set_encodings_is : SpellsOnly SpellsClientHead (SetEncodings 258) (2 ∷ 0 ∷ 1 ∷ 2 ∷ [])
set_encodings_is = spells_only client_headed _ _ refl refl

-- 03 01 0000 0000 0002 0001
request_is : SpellsOnly SpellsClientHead (Request true (record { x = 0; y = 0; w = 2; h = 1 }))
    (3 ∷ 1 ∷ 0 ∷ 0 ∷ 0 ∷ 0 ∷ 0 ∷ 2 ∷ 0 ∷ 1 ∷ [])
request_is = spells_only client_headed _ _ refl refl

-- 04 FF ABCD 0000FF0D: any flag but zero is true, and padding may be any bytes
key_is : SpellsOnly SpellsClientHead (Key true 65293) (4 ∷ 255 ∷ 171 ∷ 205 ∷ 0 ∷ 0 ∷ 255 ∷ 13 ∷ [])
key_is = spells_only client_headed _ _ refl refl

-- 04 00 0000 0000FF0D
key_up_is : SpellsOnly SpellsClientHead (Key false 65293) (4 ∷ 0 ∷ 0 ∷ 0 ∷ 0 ∷ 0 ∷ 255 ∷ 13 ∷ [])
key_up_is = spells_only client_headed _ _ refl refl

-- 05 81 0102 0304
pointer_is : SpellsOnly SpellsClientHead (Pointer 129 258 772) (5 ∷ 129 ∷ 1 ∷ 2 ∷ 3 ∷ 4 ∷ [])
pointer_is = spells_only client_headed _ _ refl refl

-- 06 000000 01020304
client_cut_text_is : SpellsOnly SpellsClientHead (CutText 16909060) (6 ∷ 0 ∷ 0 ∷ 0 ∷ 1 ∷ 2 ∷ 3 ∷ 4 ∷ [])
client_cut_text_is = spells_only client_headed _ _ refl refl

-- 01 is no message of a client
client_type_1_is_unknown : BeginsNone SpellsClientHead 1
client_type_1_is_unknown = begins_none client_headed 1 refl

-- ---- from server to client, section 7.6

-- 00 00 0102
update_is : SpellsOnly SpellsServerHead (Update 258) (0 ∷ 0 ∷ 1 ∷ 2 ∷ [])
update_is = spells_only server_headed _ _ refl refl

-- 01 00 0102 0304
colour_map_is : SpellsOnly SpellsServerHead (ColourMap 258 772) (1 ∷ 0 ∷ 1 ∷ 2 ∷ 3 ∷ 4 ∷ [])
colour_map_is = spells_only server_headed _ _ refl refl

-- 02
bell_is : SpellsOnly SpellsServerHead Bell (2 ∷ [])
bell_is = spells_only server_headed _ _ refl refl

-- 03 000000 01020304
server_cut_text_is : SpellsOnly SpellsServerHead (ServerCutText 16909060)
    (3 ∷ 0 ∷ 0 ∷ 0 ∷ 1 ∷ 2 ∷ 3 ∷ 4 ∷ [])
server_cut_text_is = spells_only server_headed _ _ refl refl

-- 04 is no message of a server
server_type_4_is_unknown : BeginsNone SpellsServerHead 4
server_type_4_is_unknown = begins_none server_headed 4 refl

-- ---- a rectangle, section 7.6.1

-- 0102 0304 0506 0708 00000005
rect_head_spelled : SpellsRectHead
    (record { rect = record { x = 258; y = 772; w = 1286; h = 1800 }; encoding = Hextile })
    (1 ∷ 2 ∷ 3 ∷ 4 ∷ 5 ∷ 6 ∷ 7 ∷ 8 ∷ 0 ∷ 0 ∷ 0 ∷ 5 ∷ [])
rect_head_spelled = record {
  size = refl;
  rect_is = record { x_position = refl; y_position = refl; width = refl; height = refl };
  encoding_is = refl;
}

rect_head_is : SpellsOnly SpellsRectHead
    (record { rect = record { x = 258; y = 772; w = 1286; h = 1800 }; encoding = Hextile })
    (1 ∷ 2 ∷ 3 ∷ 4 ∷ 5 ∷ 6 ∷ 7 ∷ 8 ∷ 0 ∷ 0 ∷ 0 ∷ 5 ∷ [])
rect_head_is = (rect_head_spelled, λ other s. (rect-apart _ other _ [] rect_head_spelled s).0)

-- FFFFFF21 is -223, the number of no encoding
negative_number_is : (s32_at 8 (0 ∷ 1 ∷ 0 ∷ 0 ∷ 0 ∷ 2 ∷ 0 ∷ 1 ∷ 255 ∷ 255 ∷ 255 ∷ 33 ∷ [])
    ≡ negsuc 222) × IsNoEncoding (negsuc 222)
negative_number_is = (refl, none)
  where
    none : (encoding : Encoding) → number_of encoding ≡ negsuc 222 → ⊥
    none Raw e = cc
    none CopyRect e = cc
    none Rre e = cc
    none Hextile e = cc

-- an edge beyond 65,535 does not come back to the left
far_edge_is_outside : IsOnScreen 65535 1 (record { x = 65535; y = 0; w = 1; h = 1 }) → ⊥
far_edge_is_outside on = omega arith
