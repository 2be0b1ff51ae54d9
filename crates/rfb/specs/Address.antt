-- The server that `view` is asked for.
use Rattle.std.specs.Prelude.{◌≡◌, ◌≢◌, ◌≤◌, ◌<◌, ◌+◌, ◌++◌, ◌⊎◌, ℕ, [], ◌∷◌, Option, Some, None, codes, length}
use Rattle.std.specs.Prelude.{slice_index, nat_le, if◌then◌else◌}
use Rattle.std.specs.Str.Parse.{digits_value}
use Rattle.clap.specs.Words.{Text}
use Rattle.rfb_session.specs.language.Number.{IsNumber}

-- ---- a word that names one: HOST, HOST:DISPLAY, HOST:PORT or HOST::PORT

-- no byte of it is a colon
abbrev pub HasNoColon : Text → Type 0
HasNoColon text = (i : ℕ) → i < length text → slice_index text i ≢ 58

-- a host that is left out is the loopback address
abbrev pub OrLoopback : Text → Text → Type 0
OrLoopback [] host = host ≡ codes "127.0.0.1"
OrLoopback (first ∷ rest) host = host ≡ first ∷ rest

-- a display from 0 to 99 is at port 5900 plus its number; a greater number is a port itself
abbrev pub port_at : ℕ → ℕ
port_at number = if nat_le number 99 then 5900 + number else number

abbrev pub NamesDisplay : Text → ℕ → Type 0
NamesDisplay digits port = IsNumber digits × (port ≡ port_at (digits_value 10 digits))

-- after the first colon comes a display or a port; or one more colon, and a port from 1 to 65535
abbrev pub NamesPort : Text → ℕ → Type 0
NamesPort after port =
    NamesDisplay after port
    ⊎ ((digits : Text) × (after ≡ 58 ∷ digits) × IsNumber digits × (1 ≤ port)
    × (port ≡ digits_value 10 digits))

-- a host alone is at port 5900
abbrev pub IsAddress : Text → Text → ℕ → Type 0
IsAddress word host port =
    (HasNoColon word × OrLoopback word host × (port ≡ 5900))
    ⊎ ((named after : Text) × (word ≡ named ++ 58 ∷ after) × HasNoColon named
    × OrLoopback named host × NamesPort after port)

-- ---- by a word, by its host or by its port

-- a port that is given, or 5900
abbrev pub NamesGiven : Option ℕ → ℕ → Type 0
NamesGiven None port = port ≡ 5900
NamesGiven (Some number) port = port ≡ number

-- by a word alone; or by its host, by its port, or by both
abbrev pub GivesServer : Option Text → Option Text → Option ℕ → Text → ℕ → Type 0
GivesServer (Some word) None None host port = IsAddress word host port
GivesServer (Some word) (Some other) number host port = ⊥
GivesServer (Some word) None (Some number) host port = ⊥
GivesServer None (Some other) number host port = (host ≡ other) × NamesGiven number port
GivesServer None None (Some number) host port = (host ≡ codes "127.0.0.1") × (port ≡ number)
GivesServer None None None host port = ⊥
