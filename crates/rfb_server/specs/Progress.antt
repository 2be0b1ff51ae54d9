-- How far a client's bytes have come in a session, and what it holds of the item under way.
use Rattle.std.specs.Prelude.{◌≡◌, ℕ, ℤ, ◌+◌, ◌<◌, min, List, [], ◌∷◌, ◌++◌, length, take, Bool, true, false, ◌&&◌}
use Rattle.std.specs.Prelude.{◌==◌, nat_lt, Option, Some, None}
use Rattle.rfb_wire.specs.declared.encoding.Encoding.{Encoding}
use Rattle.rfb_wire.specs.stream.Prefix.{Listed}
use Rattle.rfb_wire.specs.ClientHead.{client_head_size, SpellsSetEncodings, SpellsClientCutText}
use Rattle.rfb_wire.specs.ClientMessage.{SpellsNumber}
use Rattle.rfb_wire.specs.stream.Sequel.{First, Second}
use Rattle.rfb_hello.specs.KeptText.{KeptText}
use Rattle.rfb_hello.specs.ServerEnd.{as_reply}
use Rattle.rfb_hello.specs.declared.server_hello.ServerHello.{ServerHello}
use Rattle.rfb_hello.specs.ServerModel.{StandsFor as HelloStandsFor, is_open}
use Rattle.rfb_server.specs.declared.fault.ServerFault.{ServerFault}
use Rattle.rfb_server.specs.declared.session.input.progress.Progress.{Progress}
use Rattle.rfb_server.specs.declared.session.input.progress.Progress.TheVariants.{Handshake, Head, Encodings, CutText}
use Rattle.rfb_server.specs.declared.session.input.progress.Progress.TheVariants.{Failed}
use Rattle.rfb_server.specs.ClientBytes.{ClientAt}
use Rattle.rfb_server.specs.Encodings.{known_among}
use Rattle.rfb_server.specs.Server.{Serving}

-- the bytes are the beginning of a message's head, and not all of it
abbrev pub IsHeadBegun : List ℕ → Type 0
IsHeadBegun [] = Unit {0}
IsHeadBegun (first ∷ rest) =
    (size : ℕ) × (client_head_size first ≡ Some size) × (length (first ∷ rest) < size)

-- the bytes are a SetEncodings without its last `left` numbers: its head, the numbers that are
-- whole, and the bytes of the next one. These encodings are known among the numbers
pub record IsListBegun (left : ℕ) (number : List ℕ) (list : List Encoding)
    (prefix : List ℕ) : Type 0 where
  pub head : List ℕ
  pub units : List ℕ
  pub numbers : List ℤ
  pub prefix_is : prefix ≡ head ++ (units ++ number)
  pub head_is : SpellsSetEncodings (length numbers + left) head
  pub listed : Listed SpellsNumber numbers units
  pub some : 0 < left
  pub short : length number < 4
  pub list_is : list ≡ known_among numbers []

-- the bytes are a ClientCutText without its last `left` bytes: its head, and a text whose first
-- bytes are kept. There is room for all that are to be kept
pub record IsTextBegun (text_limit text_length left : ℕ) (kept : KeptText)
    (prefix : List ℕ) : Type 0 where
  pub head : List ℕ
  pub text : List ℕ
  pub prefix_is : prefix ≡ head ++ text
  pub head_is : SpellsClientCutText text_length head
  pub some : 0 < left
  pub count : length text + left ≡ text_length
  pub room : kept.room ≡ min text_length text_limit
  pub kept_is : kept.bytes ≡ take text_limit text

-- `count` bytes are fewer than a head has, if there is one
abbrev pub is_less : ℕ → Option ℕ → Bool
is_less count None = false
is_less count (Some size) = nat_lt count size

-- the same as a test
abbrev pub is_head_begun : List ℕ → Bool
is_head_begun [] = true
is_head_begun (first ∷ rest) = is_less (length (first ∷ rest)) (client_head_size first)

-- what is held of an item under way is not all of it, whatever it stands for
abbrev pub is_partial : ServerHello → Progress → Bool
is_partial hello Handshake = is_open hello
is_partial hello (Head bytes) = is_head_begun bytes.items
is_partial hello (Encodings left number list) = nat_lt 0 left && nat_lt (length number.items) 4
is_partial hello (CutText text_length left kept) = nat_lt 0 left
is_partial hello (Failed fault) = true

-- what comes after a call of the handshake's end, by whether that goes on
abbrev pub progress_after : Bool → Progress
progress_after true = Handshake
progress_after false = Head (as_reply [])

-- this progress stands for that point and that prefix; one that has failed stands for none
abbrev pub ProgressStandsFor : Serving → ServerHello → Progress → ClientAt → List ℕ → Type 0
ProgressStandsFor serving hello Handshake (First point) prefix =
    HelloStandsFor serving.hello hello point prefix × (is_open hello ≡ true)
ProgressStandsFor serving hello Handshake (Second between) prefix = ⊥
ProgressStandsFor serving hello (Head bytes) (First point) prefix = ⊥
ProgressStandsFor serving hello (Head bytes) (Second between) prefix =
    (prefix ≡ bytes.items) × IsHeadBegun bytes.items
ProgressStandsFor serving hello (Encodings left number list) (First point) prefix = ⊥
ProgressStandsFor serving hello (Encodings left number list) (Second between) prefix =
    IsListBegun left number.items list prefix
ProgressStandsFor serving hello (CutText text_length left kept) (First point) prefix = ⊥
ProgressStandsFor serving hello (CutText text_length left kept) (Second between) prefix =
    IsTextBegun serving.text_limit text_length left kept prefix
ProgressStandsFor serving hello (Failed fault) point prefix = ⊥

-- nothing came of a message, and the handshake is done
abbrev pub is_idle : Progress → Bool
is_idle Handshake = false
is_idle (Head bytes) = length bytes.items == 0
is_idle (Encodings left number list) = false
is_idle (CutText text_length left kept) = false
is_idle (Failed fault) = false

-- the handshake is done, and no fault has come
abbrev pub is_ready : Progress → Bool
is_ready Handshake = false
is_ready (Head bytes) = true
is_ready (Encodings left number list) = true
is_ready (CutText text_length left kept) = true
is_ready (Failed fault) = false

-- the fault that it has failed with, if it has
abbrev pub fault_in : Progress → Option ServerFault
fault_in Handshake = None
fault_in (Head bytes) = None
fault_in (Encodings left number list) = None
fault_in (CutText text_length left kept) = None
fault_in (Failed fault) = Some fault
