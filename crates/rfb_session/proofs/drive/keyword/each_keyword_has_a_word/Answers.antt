use Rattle.std.proofs.Common.{◌≡◌, ℕ, List, Some, codes, refl}
use Rattle.rfb_session.specs.declared.drive.keyword.Keyword.{Keyword}
use Rattle.rfb_session.specs.declared.drive.keyword.Keyword.TheVariants as Of
use Rattle.rfb_session.specs.drive.Keywords.{keyword_named, keywords}
use Rattle.rfb_session.proofs.drive.keyword.each_keyword_has_a_word.Goals as goal

word_of : (keyword : Keyword) → (word : List ℕ) × (keyword_named word ≡ Some keyword)
unfolding keywords
word_of Of.Key = (codes "key", refl)
word_of Of.Down = (codes "down", refl)
word_of Of.Up = (codes "up", refl)
word_of Of.Text = (codes "type", refl)
word_of Of.Move = (codes "move", refl)
word_of Of.Click = (codes "click", refl)
word_of Of.Double = (codes "double", refl)
word_of Of.Drag = (codes "drag", refl)
word_of Of.Wheel = (codes "wheel", refl)
word_of Of.Paste = (codes "paste", refl)
word_of Of.PasteFile = (codes "paste-file", refl)
word_of Of.Save = (codes "save", refl)
word_of Of.Expect = (codes "expect", refl)
word_of Of.Still = (codes "still", refl)
word_of Of.Wait = (codes "wait", refl)
word_of Of.UntilChange = (codes "until-change", refl)
word_of Of.Timeout = (codes "timeout", refl)

pub returns : goal.returns
returns c = word_of
