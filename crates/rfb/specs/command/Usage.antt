-- What a table of commands and words is to the parser of words.
use Rattle.std.specs.Prelude.{ℕ, pos, true, [], ◌∷◌, Some, map}
use Rattle.clap.specs.declared.builder.action.ArgAction.TheVariants.{Append, SetTrue}
use Rattle.clap.specs.declared.builder.value_parser.ValueParser.TheVariants.{Signed}
use Rattle.clap.specs.Simple.{new_shape}
use Rattle.clap.specs.Words.{Rule, Shape, Text, new_rule}
use Rattle.rfb.specs.declared.options.usage.Mark.{Mark}
use Rattle.rfb.specs.declared.options.usage.Mark.TheVariants.{Long, LongOr, Alone}
use Rattle.rfb.specs.declared.options.usage.Takes.{Takes}
use Rattle.rfb.specs.declared.options.usage.Takes.TheVariants as takes
use Rattle.rfb.specs.declared.options.usage.Usage.{Usage}
use Rattle.rfb.specs.declared.options.usage.Word.{Word}

-- how a word begins
abbrev pub marked : Mark → Text → Rule
marked Long name = record (new_rule name) { long = Some name }
marked (LongOr letter) name = record (new_rule name) { long = Some name; short = Some letter }
marked Alone name = new_rule name

-- something follows, or a number from 1 on
abbrev pub valued : Rule → Rule
valued rule = record rule { value_names = 1 }

abbrev pub numbered : ℕ → Rule → Rule
numbered most rule = record (valued rule) { parser = Some (Signed (pos 1) (pos most)) }

abbrev pub or_else : Text → Rule → Rule
or_else default rule = record rule { defaults = default ∷ [] }

-- what follows
abbrev pub taking : Takes → Rule → Rule
taking takes.Nothing rule = record rule { action = Some SetTrue }
taking (takes.Text value) rule = valued rule
taking (takes.TextOr value default) rule = or_else default.now (valued rule)
taking (takes.Texts value) rule = record (valued rule) { action = Some Append }
taking (takes.NeededText value) rule = record (valued rule) { required = true }
taking (takes.Number value most) rule = numbered most rule
taking (takes.NumberOr value most default) rule = or_else default.now (numbered most rule)
taking (takes.Needed value most) rule = record (numbered most rule) { required = true }

abbrev pub rule_for : Word → Rule
rule_for word = taking word.takes (marked word.mark word.name.now)

abbrev pub shape_for : Usage → Shape
shape_for usage = record (new_shape usage.name.now) { rules = map rule_for usage.words.now }
