-- What tables of words and commands add.
use Rattle.std.proofs.Common.{◌≡◌, ◌∙◌, ◌<◌, ◌+◌, ◌++◌, [], ◌∷◌, ap, sym, refl, false, true, length, map, take, Bool}
use Rattle.std.proofs.Common.{List, ℕ, slice_index_or, append_assoc, append-nil}
use Rattle.std.proofs.lemmas.List.{map_more, map_push}
use Rattle.clap.specs.Simple.{new_app, new_shape, on_top}
use Rattle.clap.specs.Words.{AddsArg, AddsInTurn, AddsSubcommand, App, Rule, Shape, Text, app_of, rule_of, shape_of}
use Rattle.clap.specs.Words.{with_rule, with_subcommand}
use Rattle.clap.specs.declared.builder.arg.Arg.{Arg}
use Rattle.clap.specs.declared.builder.command.Command.{Command}
use Rattle.rfb.specs.declared.options.usage.Word.{Word}
use Rattle.rfb.specs.command.Usage.{rule_for}
use Rattle.rfb.proofs.OptionLemmas.{no_globals}

-- a thing more, which is as the next of a table
pub one_as_table : {X Y Z : Type 0} (f : X → Z) (h : Y → Z) (before after : List X) (x : X)
    (table : List Y) (i : ℕ) (d : Y) →
    i < length table → after ≡ before ++ x ∷ [] → f x ≡ h (slice_index_or table i d) →
    map f before ≡ map h (take i table) → map f after ≡ map h (take (i + 1) table)
one_as_table f h before after x table i d inside more is so_far =
    ap (map f) more ∙ map_push f before x ∙ ap (λ l. l ++ f x ∷ []) so_far
    ∙ ap (λ z. map h (take i table) ++ z ∷ []) is ∙ sym (map_more h table i d inside)

-- ---- words

abbrev with_rules : App → List Rule → App
with_rules app rules = on_top (λ s. record s { rules = s.rules ++ rules }) app

no_rules : (app : App) → app ≡ with_rules app []
no_rules app = ap (λ (rs : List Rule). on_top (λ s. record s { rules = rs }) app) (sym (append-nil app.top.rules))

one_more : (app : App) (rule : Rule) (rules : List Rule) →
    with_rules (with_rule app rule) rules ≡ with_rules app (rule ∷ rules)
one_more app rule rules =
    ap (λ (rs : List Rule). on_top (λ s. record s { rules = rs }) app) (append_assoc app.top.rules (rule ∷ []) rules)

-- an argument more, which is that of the next word
pub word_added : (before after : List Arg) (arg : Arg) (words : List Word) (i : ℕ) (d : Word) → i < length words →
    after ≡ before ++ arg ∷ [] → rule_of arg ≡ rule_for (slice_index_or words i d) → arg.global ≡ false →
    map rule_of before ≡ map rule_for (take i words) →
    map (λ arg. arg.global) before ≡ map (λ _. false) (take i words) →
    (map rule_of after ≡ map rule_for (take (i + 1) words))
    × (map (λ arg. arg.global) after ≡ map (λ _. false) (take (i + 1) words))
word_added before after arg words i d inside more rule local rules locals = (
  one_as_table rule_of rule_for before after arg words i d inside more rule rules,
  one_as_table (λ (a : Arg). a.global) (λ (w : Word). false) before after arg words i d inside more local locals,
)

-- arguments that have the rules of words, and are not global, add these rules
all_added : (start end : Command) (args : List Arg) (words : List Word) →
    AddsInTurn AddsArg start args end → map rule_of args ≡ map rule_for words →
    map (λ arg. arg.global) args ≡ map (λ _. false) words →
    app_of end ≡ with_rules (app_of start) (map rule_for words)
all_added start end [] [] same rules local = ap app_of (sym same) ∙ no_rules (app_of start)
all_added start end [] (word ∷ words) same rules local =
    let no : [] ≡ rule_for word ∷ map rule_for words = rules in absurd (cc)
all_added start end (arg ∷ args) [] adds rules local =
    let no : rule_of arg ∷ map rule_of args ≡ [] = rules in absurd (cc)
all_added start end (arg ∷ args) (word ∷ words) adds rules local =
    let are : rule_of arg ∷ map rule_of args ≡ rule_for word ∷ map rule_for words = rules in
    let global : arg.global ∷ map (λ (a : Arg). a.global) args ≡ false ∷ map (λ (w : Word). false) words = local in
    let first : rule_of arg ≡ rule_for word = cc in
    let others : map rule_of args ≡ map rule_for words = cc in
    let is_local : arg.global ≡ false = cc in
    let are_local : map (λ (a : Arg). a.global) args ≡ map (λ (w : Word). false) words = cc in
    let added : app_of adds.0 ≡ with_rule (app_of start) (rule_for word) =
    adds.1.shape is_local ∙ ap (with_rule (app_of start)) first in
    all_added adds.0 end args words adds.2 others are_local
    ∙ ap (λ (a : App). with_rules a (map rule_for words)) added
    ∙ one_more (app_of start) (rule_for word) (map rule_for words)

-- a new command to which they are added has the shape of a table's
pub with_table : (name : Text) (start end : Command) (args : List Arg) (words : List Word) →
    app_of start ≡ new_app name → AddsInTurn AddsArg start args end →
    map rule_of args ≡ map rule_for words → map (λ arg. arg.global) args ≡ map (λ _. false) words →
    shape_of end ≡ record (new_shape name) { rules = map rule_for words }
with_table name start end args words new adds rules local =
    ap (λ (a : App). a.top) (all_added start end args words adds rules local
    ∙ ap (λ (a : App). with_rules a (map rule_for words)) new)

-- ---- commands

unfoldable pub with_shapes : App → List Shape → App
with_shapes app [] = app
with_shapes app (shape ∷ shapes) = with_shapes (with_subcommand app shape) shapes

abbrev pub is_plain : Shape → Bool
is_plain s = s.is_plain

each_true : (commands : List Command) →
    map (λ (s : Shape). true) (map shape_of commands) ≡ map (λ (c : Command). true) commands
each_true [] = refl
each_true (command ∷ commands) = ap (λ (bs : List Bool). true ∷ bs) (each_true commands)

-- commands with no global argument add their shapes
all_commands : (start end : Command) (commands : List Command) → AddsInTurn AddsSubcommand start commands end →
    map is_plain (map shape_of commands) ≡ map (λ _. true) commands →
    app_of end ≡ with_shapes (app_of start) (map shape_of commands)
unfolding with_shapes
all_commands start end [] same plain = ap app_of (sym same)
all_commands start end (command ∷ commands) adds plain =
    let are : is_plain (shape_of command) ∷ map is_plain (map shape_of commands)
    ≡ true ∷ map (λ (c : Command). true) commands = plain in
    let first : is_plain (shape_of command) ≡ true = cc in
    let others : map is_plain (map shape_of commands) ≡ map (λ (c : Command). true) commands = cc in
    all_commands adds.0 end commands adds.2 others
    ∙ ap (λ (a : App). with_shapes a (map shape_of commands)) (adds.1.shape (no_globals _ _ _ _ first))

-- a program to which commands are added has their shapes
pub with_all : (start end : Command) (top : App) (commands : List Command) (shapes : List Shape) →
    app_of start ≡ top → AddsInTurn AddsSubcommand start commands end → map shape_of commands ≡ shapes →
    map is_plain shapes ≡ map (λ _. true) shapes → app_of end ≡ with_shapes top shapes
with_all start end top commands shapes is adds have plain =
    let same : map (λ (s : Shape). true) (map shape_of commands) ≡ map (λ (c : Command). true) commands =
    each_true commands in
    let are : map is_plain (map shape_of commands) ≡ map (λ (c : Command). true) commands =
    ap (map is_plain) have ∙ plain ∙ sym (ap (map (λ (s : Shape). true)) have) ∙ same in
    all_commands start end commands adds are
    ∙ ap (λ (a : App). with_shapes a (map shape_of commands)) is ∙ ap (with_shapes top) have
