-- The words that lines begin with.
use Rattle.std.specs.Prelude.{ℕ, List, [], ◌∷◌, Option, codes}
use Rattle.std.specs.Str.{bytes_eq}
use Rattle.rfb_session.specs.declared.drive.keyword.Keyword.{Keyword}
use Rattle.rfb_session.specs.declared.drive.keyword.Keyword.TheVariants as Of
use Rattle.rfb_session.specs.drive.Tables.{found_by}

-- the keyword of the first entry with that name
abbrev pub looked_up : List (List ℕ × Keyword) → List ℕ → Option Keyword
looked_up table word = found_by bytes_eq table word

unfoldable pub keywords : List (List ℕ × Keyword)
keywords =
    (codes "key", Of.Key) ∷ (codes "down", Of.Down) ∷ (codes "up", Of.Up) ∷
    (codes "type", Of.Text) ∷ (codes "move", Of.Move) ∷ (codes "click", Of.Click) ∷
    (codes "double", Of.Double) ∷ (codes "drag", Of.Drag) ∷ (codes "wheel", Of.Wheel) ∷
    (codes "paste", Of.Paste) ∷ (codes "paste-file", Of.PasteFile) ∷ (codes "save", Of.Save) ∷
    (codes "expect", Of.Expect) ∷ (codes "still", Of.Still) ∷ (codes "wait", Of.Wait) ∷
    (codes "until-change", Of.UntilChange) ∷ (codes "timeout", Of.Timeout) ∷ []

-- the keyword that a word is
abbrev pub keyword_named : List ℕ → Option Keyword
keyword_named word = looked_up keywords word
