-- What a command works with.
use Rattle.std.specs.Prelude.{◌≡◌}
use Rattle.rfb.specs.declared.context.Context.{Context}

-- its streams are those that it had
abbrev pub KeepsStreams : {P R W E : Type 0} → Context P R W E → Context P R W E → Type 0
KeepsStreams old new =
    (new.input.ghost_name ≡ old.input.ghost_name)
    × (new.output.ghost_name ≡ old.output.ghost_name)
    × (new.errors.ghost_name ≡ old.errors.ghost_name)
