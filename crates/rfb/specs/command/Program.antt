-- The program: its commands, the words that each has, what it is asked for and what it does.
use Rattle.std.specs.Prelude.{◌≡◌, ◌≢◌, ◌⊎◌, ℕ, true, false, codes}
use Rattle.std.specs.Prelude.{List, [], ◌∷◌, Option, Some, None}
use Rattle.clap.specs.Words.{App, Row, Rule, Shape, Text, subcommand_of, with_subcommand}
use Rattle.clap.specs.Simple.{new_shape}
use Rattle.rfb.specs.declared.commands.Task.{Task}
use Rattle.rfb.specs.declared.commands.Task.TheVariants as tasks
use Rattle.rfb.specs.declared.commands.Verb.{Verb}
use Rattle.rfb.specs.declared.commands.Verb.TheVariants as verbs
use Rattle.rfb.specs.command.Rules.{format_rule, server_rule, host_rule, listen_rule, encodings_rule, record_rule}
use Rattle.rfb.specs.command.Rules.{partial_rule, input_rule, output_rule, any_port_rule, port_rule, side_rule}
use Rattle.rfb.specs.command.Rules.{connections_rule, forever_rule, picture_rule, viewers_rule, name_rule, idle_rule}
use Rattle.rfb.specs.command.Rules.{timeout_rule, updates_rule, follow_rule, rate_rule}
use Rattle.rfb.specs.command.Rules.{handshake_rule, hold_rule, shared_rule, view_only_rule, quiet_rule}
use Rattle.rfb.specs.command.Rules.{needed_server_rule, other_name_rule, relay_encodings_rule, retry_rule}
use Rattle.rfb.specs.command.Rules.{keep_rule, line_rule, line_timeout_rule, tell_rule}
use Rattle.rfb.specs.command.Values.{HasBadFormat, IsFlagged}
use Rattle.rfb.specs.command.PlayWords.{GivesPlayOptions}
use Rattle.rfb.specs.command.ServeWords.{GivesServeOptions, HasBadServe}
use Rattle.rfb.specs.command.ShareWords.{GivesShareOptions}
use Rattle.rfb.specs.command.ViewWords.{GivesFollowOptions, GivesViewOptions, HasBadView}
use Rattle.rfb.specs.command.RelayWords.{GivesRelayOptions, HasBadRelay}
use Rattle.rfb.specs.command.DriveWords.{GivesDriveOptions, HasBadDrive}
use Rattle.rfb.specs.Drive.{Drives, LeavesDrive}
use Rattle.rfb.specs.Film.{FollowsSome, StopsFollowing}
use Rattle.rfb.specs.Loopback.{LeavesSomePicture, PlaysSomeScript}
use Rattle.rfb.specs.Plays.{LeavesScript, PlaysScript}
use Rattle.rfb.specs.Recording.{LeavesRecording, PlaysRecording}
use Rattle.rfb.specs.Relay.{LeavesRelay, Relays}
use Rattle.rfb.specs.Service.{LeavesServed, ServesAsked}
use Rattle.rfb.specs.Share.{LeavesShare, Shares}
use Rattle.rfb.specs.View.{FailsSomehow, LeavesSomeView, ViewsSome}

-- a command of these words
abbrev pub command : Text → List Rule → Shape
command name rules = record (new_shape name) { rules = rules }

-- the commands
abbrev pub script_shape : Shape
script_shape = command (codes "script") (input_rule ∷ output_rule ∷ [])

abbrev pub loop_shape : Shape
loop_shape = command (codes "loop") (input_rule ∷ output_rule ∷ [])

abbrev pub play_shape : Shape
play_shape = command (codes "play")
    (format_rule ∷ updates_rule ∷ partial_rule ∷ input_rule ∷ output_rule ∷ [])

abbrev pub serve_shape : Shape
serve_shape = command (codes "serve")
    (port_rule ∷ side_rule (codes "width") ∷ side_rule (codes "height") ∷ picture_rule
    ∷ connections_rule ∷ forever_rule ∷ timeout_rule ∷ listen_rule ∷ [])

abbrev pub view_shape : Shape
view_shape = command (codes "view")
    (server_rule ∷ host_rule ∷ any_port_rule ∷ updates_rule ∷ follow_rule ∷ rate_rule ∷ format_rule
    ∷ encodings_rule ∷ record_rule ∷ timeout_rule ∷ partial_rule ∷ output_rule ∷ [])

abbrev pub share_shape : Shape
share_shape = command (codes "share")
    (port_rule ∷ listen_rule ∷ viewers_rule ∷ name_rule ∷ idle_rule ∷ handshake_rule ∷ timeout_rule
    ∷ hold_rule ∷ shared_rule ∷ view_only_rule ∷ quiet_rule ∷ [])

abbrev pub relay_shape : Shape
relay_shape = command (codes "relay")
    (needed_server_rule ∷ port_rule ∷ listen_rule ∷ viewers_rule ∷ other_name_rule ∷ idle_rule
    ∷ handshake_rule ∷ timeout_rule ∷ retry_rule ∷ shared_rule ∷ view_only_rule ∷ quiet_rule
    ∷ format_rule ∷ relay_encodings_rule ∷ [])

abbrev pub drive_shape : Shape
drive_shape = command (codes "drive")
    (needed_server_rule ∷ line_timeout_rule ∷ keep_rule ∷ tell_rule ∷ quiet_rule ∷ format_rule
    ∷ relay_encodings_rule ∷ input_rule ∷ line_rule ∷ [])

abbrev pub shape_named : Verb → Shape
shape_named verbs.Script = script_shape
shape_named verbs.Loop = loop_shape
shape_named verbs.Play = play_shape
shape_named verbs.Serve = serve_shape
shape_named verbs.View = view_shape
shape_named verbs.Share = share_shape
shape_named verbs.Relay = relay_shape
shape_named verbs.Drive = drive_shape

-- what a command is called
abbrev pub name_of : Verb → Text
name_of verb = (shape_named verb).name

-- the program has a version, and commands; one has to be named
abbrev pub top : App
top = record {
  top = record (new_shape (codes "rfb")) { subcommand_required = true; has_version = true };
  subs = [];
}

abbrev pub program : App
program =
    with_subcommand (with_subcommand (with_subcommand (with_subcommand (with_subcommand
    (with_subcommand (with_subcommand (with_subcommand top script_shape) loop_shape) play_shape)
    serve_shape) view_shape) share_shape) relay_shape) drive_shape

-- the command that words name, and what they give to its options
abbrev pub asked : List Text → Option (Text × List Row)
asked words = subcommand_of program words

-- ---- what they ask for

-- a command, by its name and its options
abbrev pub IsTask : Option (Text × List Row) → Task → Type 0
IsTask None task = ⊥
IsTask (Some (name, rows)) tasks.Script = name ≡ codes "script"
IsTask (Some (name, rows)) tasks.Loop = name ≡ codes "loop"
IsTask (Some (name, rows)) (tasks.Play options) = (name ≡ codes "play") × GivesPlayOptions rows options
IsTask (Some (name, rows)) (tasks.Serve options) =
    (name ≡ codes "serve") × GivesServeOptions rows options
IsTask (Some (name, rows)) (tasks.View options) =
    (name ≡ codes "view") × IsFlagged (codes "follow") rows false × GivesViewOptions rows options
IsTask (Some (name, rows)) (tasks.Follow options) =
    (name ≡ codes "view") × IsFlagged (codes "follow") rows true × GivesFollowOptions rows options
IsTask (Some (name, rows)) (tasks.Share options) = (name ≡ codes "share") × GivesShareOptions rows options
IsTask (Some (name, rows)) (tasks.Relay options) = (name ≡ codes "relay") × GivesRelayOptions rows options
IsTask (Some (name, rows)) (tasks.Drive options) = (name ≡ codes "drive") × GivesDriveOptions rows options

-- no command has this name
abbrev pub IsNoName : Text → Type 0
IsNoName name = (verb : Verb) → name ≢ name_of verb

-- a value of an option is none that it may have, or there is no such command
abbrev pub HasBadValue : Option (Text × List Row) → Type 0
HasBadValue None = Unit {0}
HasBadValue (Some (name, rows)) =
    ((name ≡ codes "play") × HasBadFormat rows) ⊎ ((name ≡ codes "serve") × HasBadServe rows)
    ⊎ ((name ≡ codes "view") × HasBadView rows) ⊎ ((name ≡ codes "relay") × HasBadRelay rows)
    ⊎ ((name ≡ codes "drive") × HasBadDrive rows) ⊎ IsNoName name

-- ---- what they do

-- what was read and written at a command; P has the files. Of the bytes that come over a connection nothing is known.
-- Of a share, a relay and a drive it is said what happened to its core
abbrev pub Does : (P : Type 0) → Task → Option (List ℕ) → Option (List ℕ) → Option (List ℕ) → Type 0
Does P tasks.Script read before after = PlaysScript read before after
Does P tasks.Loop read before after = PlaysSomeScript read before after
Does P (tasks.Serve options) read before after = ServesAsked options before after
Does P (tasks.View options) read before after = ViewsSome options.sight before after
Does P (tasks.Follow options) read before after = FollowsSome options.film before after
Does P (tasks.Play options) read before after = PlaysRecording options read before after
Does P (tasks.Share options) read before after = Shares options
Does P (tasks.Relay options) read before after = Relays options
Does P (tasks.Drive options) read before after = Drives P options

-- what was written at a command that failed: nothing, or a beginning of what it was to write. What a view keeps of a
-- server's bytes is written as they come, and is what its viewer was fed. The pictures after its updates are written as
-- they come, too
abbrev pub Leaves : (P : Type 0) → Task → Option (List ℕ) → Option (List ℕ) → Option (List ℕ) → Type 0
Leaves P tasks.Script read before after = LeavesScript read before after
Leaves P tasks.Loop read before after = LeavesSomePicture before after
Leaves P (tasks.Serve options) read before after = LeavesServed options before after
Leaves P (tasks.View options) read before after =
    (options.sight.is_recorded ≡ false → LeavesSomeView options.sight before after)
    × FailsSomehow options.sight before after
Leaves P (tasks.Follow options) read before after = StopsFollowing options.film before after
Leaves P (tasks.Play options) read before after = LeavesRecording options read before after
Leaves P (tasks.Share options) read before after = LeavesShare options before after
Leaves P (tasks.Relay options) read before after = LeavesRelay options before after
Leaves P (tasks.Drive options) read before after = LeavesDrive P options before after
