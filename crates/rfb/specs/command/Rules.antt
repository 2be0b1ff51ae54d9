-- The words of the command line, one by one.
use Rattle.std.specs.Prelude.{ℕ, pos, true, [], ◌∷◌, Some, codes}
use Rattle.clap.specs.declared.builder.action.ArgAction.TheVariants.{Append, SetTrue}
use Rattle.clap.specs.declared.builder.value_parser.ValueParser.TheVariants.{Signed}
use Rattle.clap.specs.Words.{Rule, Text, new_rule}

-- any word
abbrev pub text_rule : Text → Rule
text_rule name = record (new_rule name) {
  long = Some name;
  value_names = 1;
}

-- any word, or else this one
abbrev pub word_rule : Text → Text → Rule
word_rule name default = record (text_rule name) { defaults = default ∷ [] }

-- a format, by its name
abbrev pub format_rule : Rule
format_rule = word_rule (codes "format") (codes "rgb888")

-- a server, by a word with no option
abbrev pub server_rule : Rule
server_rule = record (new_rule (codes "server")) { value_names = 1 }

-- the same, which has to be given
abbrev pub needed_server_rule : Rule
needed_server_rule = record server_rule { required = true }

abbrev pub host_rule : Rule
host_rule = text_rule (codes "host")

abbrev pub listen_rule : Rule
listen_rule = word_rule (codes "listen") (codes "127.0.0.1")

abbrev pub encodings_rule : Rule
encodings_rule = word_rule (codes "encodings") (codes "raw")

-- those that a relay asks its server for
abbrev pub relay_encodings_rule : Rule
relay_encodings_rule = word_rule (codes "encodings") (codes "copyrect,hextile,rre,raw")

-- a word that is given or not
abbrev pub flag_rule : Text → Rule
flag_rule name = record (new_rule name) {
  long = Some name;
  action = Some SetTrue;
}

abbrev pub record_rule : Rule
record_rule = flag_rule (codes "record")

-- what has come by an early end is wanted
abbrev pub partial_rule : Rule
partial_rule = flag_rule (codes "partial")

-- a file, by its path
abbrev pub path_rule : Text → ℕ → Rule
path_rule name short = record (text_rule name) { short = Some short }

abbrev pub input_rule : Rule
input_rule = path_rule (codes "input") 105

abbrev pub output_rule : Rule
output_rule = path_rule (codes "output") 111

-- a number in a range, by its digits
abbrev pub number_rule : Text → ℕ → ℕ → Rule
number_rule name least most = record (text_rule name) { parser = Some (Signed (pos least) (pos most)) }

abbrev pub any_port_rule : Rule
any_port_rule = number_rule (codes "port") 1 65535

abbrev pub port_rule : Rule
port_rule = record any_port_rule { required = true }

abbrev pub side_rule : Text → Rule
side_rule name = number_rule name 1 4096

abbrev pub connections_rule : Rule
connections_rule = number_rule (codes "connections") 1 65535

-- one connection is served after another, without an end
abbrev pub forever_rule : Rule
forever_rule = flag_rule (codes "forever")

-- a file that has the screen
abbrev pub picture_rule : Rule
picture_rule = text_rule (codes "picture")

abbrev pub viewers_rule : Rule
viewers_rule = record (number_rule (codes "viewers") 1 8) { defaults = codes "8" ∷ [] }

-- a name in place of a server's own
abbrev pub other_name_rule : Rule
other_name_rule = text_rule (codes "name")

abbrev pub name_rule : Rule
name_rule = word_rule (codes "name") (codes "rfb")

abbrev pub idle_rule : Rule
idle_rule = flag_rule (codes "until-idle")

-- a number of seconds, or else this one
abbrev pub seconds_rule : Text → Text → Rule
seconds_rule name default = record (number_rule name 1 4294967295) { defaults = default ∷ [] }

-- how long a handshake may take
abbrev pub handshake_rule : Rule
handshake_rule = seconds_rule (codes "handshake") (codes "10")

-- how long a scene is held back
abbrev pub hold_rule : Rule
hold_rule = seconds_rule (codes "hold") (codes "1")

-- no viewer has the screen alone
abbrev pub shared_rule : Rule
shared_rule = flag_rule (codes "always-shared")

-- what viewers do is left out
abbrev pub view_only_rule : Rule
view_only_rule = flag_rule (codes "view-only")

-- there are no sentences
abbrev pub quiet_rule : Rule
quiet_rule = flag_rule (codes "quiet")

-- how many updates are played or viewed, or else as many as the command has it
abbrev pub updates_rule : Rule
updates_rule = number_rule (codes "updates") 1 4294967295

-- after how many seconds waiting ends, or else never
abbrev pub timeout_rule : Rule
timeout_rule = number_rule (codes "timeout") 1 4294967295

-- how many seconds a line of a rig has
abbrev pub line_timeout_rule : Rule
line_timeout_rule = seconds_rule (codes "timeout") (codes "30")

-- a folder for what the screen showed
abbrev pub keep_rule : Rule
keep_rule = text_rule (codes "keep")

-- lines for a rig, each a word
abbrev pub line_rule : Rule
line_rule = record (new_rule (codes "line")) {
  value_names = 1;
  action = Some Append;
}

-- changes of the screen are reported
abbrev pub tell_rule : Rule
tell_rule = flag_rule (codes "tell")

-- after how many seconds a server that went away is called again, or else never
abbrev pub retry_rule : Rule
retry_rule = number_rule (codes "retry") 1 4294967295

-- a picture is wanted after each update
abbrev pub follow_rule : Rule
follow_rule = flag_rule (codes "follow")

-- how many of them in a second at most, or else thirty
abbrev pub rate_rule : Rule
rate_rule = number_rule (codes "fps") 1 1000
