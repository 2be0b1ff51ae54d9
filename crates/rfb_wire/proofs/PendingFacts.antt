-- How many bytes are pending after each front of an item, computed from the tables: a head is
-- pending until it is whole, then each number, colour or byte of a text.
use Rattle.std.proofs.Common.{◌≡◌, ℕ, List, [], ◌∷◌, ◌++◌, refl}
use Rattle.rfb_wire.specs.stream.Sequel.{First, Second}
use Rattle.rfb_wire.specs.stream.PendingBytes.{in_pieces, after_pieces, pending_in}
use Rattle.rfb_wire.specs.MessagePieces.{client_pending, server_pending, rect_pending}

-- what is pending of each front, from the first bytes on, that lacks a byte at least
abbrev at_fronts : (List ℕ → ℕ) → List ℕ → List ℕ → List ℕ
at_fronts pending front [] = []
at_fronts pending front (byte ∷ more) = pending front ∷ at_fronts pending (front ++ byte ∷ []) more

-- SetPixelFormat is all head
set_pixel_format : at_fronts client_pending []
    (0 ∷ 0 ∷ 0 ∷ 0 ∷ 32 ∷ 24 ∷ 0 ∷ 1 ∷ 0 ∷ 255 ∷ 0 ∷ 255 ∷ 0 ∷ 255 ∷ 16 ∷ 8 ∷ 0 ∷ 0 ∷ 0 ∷ 0 ∷ [])
    ≡ 0 ∷ 1 ∷ 2 ∷ 3 ∷ 4 ∷ 5 ∷ 6 ∷ 7 ∷ 8 ∷ 9 ∷ 10 ∷ 11 ∷ 12 ∷ 13 ∷ 14 ∷ 15 ∷ 16 ∷ 17 ∷ 18 ∷ 19
    ∷ []
set_pixel_format = refl

-- SetEncodings of two numbers
set_encodings : at_fronts client_pending [] (2 ∷ 0 ∷ 0 ∷ 2 ∷ 0 ∷ 0 ∷ 0 ∷ 5 ∷ 0 ∷ 0 ∷ 0 ∷ 0 ∷ [])
    ≡ 0 ∷ 1 ∷ 2 ∷ 3 ∷ 0 ∷ 1 ∷ 2 ∷ 3 ∷ 0 ∷ 1 ∷ 2 ∷ 3 ∷ []
set_encodings = refl

request : at_fronts client_pending [] (3 ∷ 1 ∷ 0 ∷ 0 ∷ 0 ∷ 0 ∷ 0 ∷ 2 ∷ 0 ∷ 1 ∷ [])
    ≡ 0 ∷ 1 ∷ 2 ∷ 3 ∷ 4 ∷ 5 ∷ 6 ∷ 7 ∷ 8 ∷ 9 ∷ []
request = refl

key : at_fronts client_pending [] (4 ∷ 1 ∷ 7 ∷ 7 ∷ 0 ∷ 0 ∷ 0 ∷ 97 ∷ [])
    ≡ 0 ∷ 1 ∷ 2 ∷ 3 ∷ 4 ∷ 5 ∷ 6 ∷ 7 ∷ []
key = refl

pointer : at_fronts client_pending [] (5 ∷ 1 ∷ 1 ∷ 2 ∷ 0 ∷ 3 ∷ []) ≡ 0 ∷ 1 ∷ 2 ∷ 3 ∷ 4 ∷ 5 ∷ []
pointer = refl

-- ClientCutText of two bytes
cut_text : at_fronts client_pending [] (6 ∷ 0 ∷ 0 ∷ 0 ∷ 0 ∷ 0 ∷ 0 ∷ 2 ∷ 65 ∷ 66 ∷ [])
    ≡ 0 ∷ 1 ∷ 2 ∷ 3 ∷ 4 ∷ 5 ∷ 6 ∷ 7 ∷ 0 ∷ 0 ∷ []
cut_text = refl

-- the head of an update
update : at_fronts server_pending [] (0 ∷ 0 ∷ 0 ∷ 1 ∷ []) ≡ 0 ∷ 1 ∷ 2 ∷ 3 ∷ []
update = refl

-- SetColorMapEntries of two colours
colour_map : at_fronts server_pending []
    (1 ∷ 0 ∷ 0 ∷ 4 ∷ 0 ∷ 2 ∷ 255 ∷ 255 ∷ 1 ∷ 2 ∷ 0 ∷ 3 ∷ 0 ∷ 0 ∷ 0 ∷ 0 ∷ 0 ∷ 0 ∷ [])
    ≡ 0 ∷ 1 ∷ 2 ∷ 3 ∷ 4 ∷ 5 ∷ 0 ∷ 1 ∷ 2 ∷ 3 ∷ 4 ∷ 5 ∷ 0 ∷ 1 ∷ 2 ∷ 3 ∷ 4 ∷ 5 ∷ []
colour_map = refl

bell : at_fronts server_pending [] (2 ∷ []) ≡ 0 ∷ []
bell = refl

-- ServerCutText of three bytes
server_cut_text : at_fronts server_pending [] (3 ∷ 0 ∷ 0 ∷ 0 ∷ 0 ∷ 0 ∷ 0 ∷ 3 ∷ 65 ∷ 66 ∷ 67 ∷ [])
    ≡ 0 ∷ 1 ∷ 2 ∷ 3 ∷ 4 ∷ 5 ∷ 6 ∷ 7 ∷ 0 ∷ 0 ∷ 0 ∷ []
server_cut_text = refl

-- a rectangle of two Raw pixels of two bytes each
raw_rectangle : at_fronts (rect_pending (in_pieces 2)) []
    (0 ∷ 0 ∷ 0 ∷ 0 ∷ 0 ∷ 2 ∷ 0 ∷ 1 ∷ 0 ∷ 0 ∷ 0 ∷ 0 ∷ 9 ∷ 8 ∷ 7 ∷ 6 ∷ [])
    ≡ 0 ∷ 1 ∷ 2 ∷ 3 ∷ 4 ∷ 5 ∷ 6 ∷ 7 ∷ 8 ∷ 9 ∷ 10 ∷ 11 ∷ 0 ∷ 1 ∷ 0 ∷ 1 ∷ []
raw_rectangle = refl

-- data of a head of five bytes and one subrectangle of nine: RRE of one-byte pixels
rre_data : at_fronts (after_pieces 5 9) []
    (0 ∷ 0 ∷ 0 ∷ 1 ∷ 16 ∷ 32 ∷ 0 ∷ 0 ∷ 0 ∷ 0 ∷ 0 ∷ 1 ∷ 0 ∷ 1 ∷ [])
    ≡ 0 ∷ 1 ∷ 2 ∷ 3 ∷ 4 ∷ 0 ∷ 1 ∷ 2 ∷ 3 ∷ 4 ∷ 5 ∷ 6 ∷ 7 ∷ 8 ∷ []
rre_data = refl

-- the same five bytes in a stream of two grammars: after the first they are a message's
in_either : (pending_in (λ (point : ℕ). in_pieces 4) (λ (point : ℕ). client_pending) (First 0)
    (5 ∷ 1 ∷ 0 ∷ 0 ∷ 0 ∷ []) ≡ 1)
    × (pending_in (λ (point : ℕ). in_pieces 4) (λ (point : ℕ). client_pending) (Second 0)
    (5 ∷ 1 ∷ 0 ∷ 0 ∷ 0 ∷ []) ≡ 5)
in_either = (refl, refl)
