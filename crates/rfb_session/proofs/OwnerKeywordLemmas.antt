-- Words of a line of the owner's: which lines a keyword can begin.
use Rattle.std.proofs.Common.{Option, Some, None, MatchOption, ◌≡◌, ◌≢◌, ◌∙◌, ap, sym, refl, subst, true, false}
use Rattle.std.proofs.Common.{ℕ, ℤ, List, [], ◌∷◌, Bor, codes}
use Rattle.std.specs.Str.{bytes_eq}
use Rattle.rfb_picture.specs.declared.rect.Rect.{Rect}
use Rattle.rfb_session.specs.declared.language.screen.Screen.{Screen as Size}
use Rattle.rfb_session.specs.declared.owner.order.OwnerLine.{OwnerLine}
use Rattle.rfb_session.specs.declared.owner.order.OwnerLine.TheVariants.{Screen, Fill, Copy, Hint}
use Rattle.rfb_session.specs.declared.owner.order.OwnerLine.TheVariants.{Scroll, Pixels, End, Hold, Show, Quit}
use Rattle.rfb_session.specs.language.Words.{IsSlotAlone, Begins, AreSize, texts}
use Rattle.rfb_session.specs.owner.Lines.{ArePlaces, AreScroll, SaysNoOwner, SaysOwner}
use Rattle.rfb_session.specs.declared.language.drawing.DrawingLine.TheVariants as Drawing
use Rattle.rfb_session.proofs.DrawingLineLemmas.{DrawNothing}
use Rattle.rfb_session.proofs.WordLaws.{heads, nothing, other_word, same_word, tails, words_are}

-- ---- the lines of a keyword

-- the keyword that begins a line
abbrev keyword_of : OwnerLine → List ℕ
keyword_of (Screen size) = codes "screen"
keyword_of (Fill rect colour) = codes "fill"
keyword_of (Copy rect sx sy) = codes "copy"
keyword_of (Hint rect sx sy) = codes "hint"
keyword_of (Scroll rect dx dy) = codes "scroll"
keyword_of (Pixels rect) = codes "pixels"
keyword_of (End seat) = codes "end"
keyword_of Hold = codes "hold"
keyword_of Show = codes "show"
keyword_of Quit = codes "quit"

-- what a line says begins with its keyword
begins : (words : List (List ℕ)) (line : OwnerLine) → SaysOwner words line →
    (rest : List (List ℕ)) × (words ≡ keyword_of line ∷ rest)
begins words (Screen size) said = (said.0, said.1)
begins words (Fill rect colour) said = (said.0, said.1)
begins words (Copy rect sx sy) said = (said.0, said.1)
begins words (Hint rect sx sy) said = (said.0, said.1)
begins words (Scroll rect dx dy) said = (said.0, said.1)
begins words (Pixels rect) said = (said.0, said.1)
begins words (End seat) said = (said.0, said.1)
begins words Hold said = ([], said)
begins words Show said = ([], said)
begins words Quit said = ([], said)

-- a line of another keyword
elsewhere : (key : List ℕ) (rest : List (List ℕ)) (line : OwnerLine) →
    bytes_eq key (keyword_of line) ≡ false → SaysOwner (key ∷ rest) line → ⊥
elsewhere key rest line other said =
    let own = begins (key ∷ rest) line said in
    other_word key (keyword_of line) other (heads key (keyword_of line) rest own.0 own.1)

pub only_screen : (rest : List (List ℕ)) → ((size : Size) → ¬ (AreSize rest size)) → SaysNoOwner (codes "screen" ∷ rest)
only_screen rest none (Screen size) said =
    let e = tails _ _ rest said.0 said.1 in none size (subst (λ (r : List (List ℕ)). AreSize r size) e said.2)
only_screen rest none line said = elsewhere (codes "screen") rest line refl said

pub only_scroll : (rest : List (List ℕ)) → ((rect : Rect) (dx dy : ℤ) → ¬ (AreScroll rest rect dx dy)) →
    SaysNoOwner (codes "scroll" ∷ rest)
only_scroll rest none (Scroll rect dx dy) said =
    let e = tails _ _ rest said.0 said.1 in none rect dx dy
    (subst (λ (r : List (List ℕ)). AreScroll r rect dx dy) e said.2)
only_scroll rest none line said = elsewhere (codes "scroll") rest line refl said

pub only_pixels : (rest : List (List ℕ)) → ((rect : Rect) → ¬ (ArePlaces rest rect)) →
    SaysNoOwner (codes "pixels" ∷ rest)
only_pixels rest none (Pixels rect) said =
    let e = tails _ _ rest said.0 said.1 in none rect (subst (λ (r : List (List ℕ)). ArePlaces r rect) e said.2)
only_pixels rest none line said = elsewhere (codes "pixels") rest line refl said

pub only_end : (rest : List (List ℕ)) → ((seat : ℕ) → ¬ (IsSlotAlone rest seat)) → SaysNoOwner (codes "end" ∷ rest)
only_end rest none (End seat) said =
    let e = tails _ _ rest said.0 said.1 in none seat (subst (λ (r : List (List ℕ)). IsSlotAlone r seat) e said.2)
only_end rest none line said = elsewhere (codes "end") rest line refl said

-- a keyword that stands alone
pub data Alone : List ℕ → Type 0 where
  HoldAlone : Alone (codes "hold")
  ShowAlone : Alone (codes "show")
  QuitAlone : Alone (codes "quit")

pub only_alone : {key : List ℕ} → Alone key → (rest : List (List ℕ)) → rest ≢ [] → SaysNoOwner (key ∷ rest)
only_alone HoldAlone rest some Hold said = some (sym (tails _ _ rest [] said))
only_alone ShowAlone rest some Show said = some (sym (tails _ _ rest [] said))
only_alone QuitAlone rest some Quit said = some (sym (tails _ _ rest [] said))
only_alone HoldAlone rest some line said = elsewhere (codes "hold") rest line refl said
only_alone ShowAlone rest some line said = elsewhere (codes "show") rest line refl said
only_alone QuitAlone rest some line said = elsewhere (codes "quit") rest line refl said

-- any other keyword
pub only_known : (key : List ℕ) (rest : List (List ℕ)) → key ≢ codes "screen" → key ≢ codes "scroll" →
    key ≢ codes "pixels" → key ≢ codes "end" → key ≢ codes "hold" → key ≢ codes "show" → key ≢ codes "quit" →
    DrawNothing (key ∷ rest) → SaysNoOwner (key ∷ rest)
only_known key rest screen_ scroll_ pixels_ end_ hold_ show_ quit_ drawing_ (Screen size) said =
    screen_ (heads key _ rest said.0 said.1)
only_known key rest screen_ scroll_ pixels_ end_ hold_ show_ quit_ drawing_ (Fill rect colour) said =
    drawing_ (Drawing.Fill rect colour) said
only_known key rest screen_ scroll_ pixels_ end_ hold_ show_ quit_ drawing_ (Copy rect sx sy) said =
    drawing_ (Drawing.Copy rect sx sy) said
only_known key rest screen_ scroll_ pixels_ end_ hold_ show_ quit_ drawing_ (Hint rect sx sy) said =
    drawing_ (Drawing.Hint rect sx sy) said
only_known key rest screen_ scroll_ pixels_ end_ hold_ show_ quit_ drawing_ (Scroll rect dx dy) said =
    scroll_ (heads key _ rest said.0 said.1)
only_known key rest screen_ scroll_ pixels_ end_ hold_ show_ quit_ drawing_ (Pixels rect) said =
    pixels_ (heads key _ rest said.0 said.1)
only_known key rest screen_ scroll_ pixels_ end_ hold_ show_ quit_ drawing_ (End seat) said =
    end_ (heads key _ rest said.0 said.1)
only_known key rest screen_ scroll_ pixels_ end_ hold_ show_ quit_ drawing_ Hold said =
    hold_ (heads key _ rest [] said)
only_known key rest screen_ scroll_ pixels_ end_ hold_ show_ quit_ drawing_ Show said =
    show_ (heads key _ rest [] said)
only_known key rest screen_ scroll_ pixels_ end_ hold_ show_ quit_ drawing_ Quit said =
    quit_ (heads key _ rest [] said)

-- no words say nothing
pub no_owner_words : SaysNoOwner []
no_owner_words line said = let own = begins [] line said in nothing (keyword_of line) own.0 own.1

-- ---- the words of a line by its first one

pub keyword_none : (keyword key : List ℕ) (rest : List (List ℕ)) → bytes_eq keyword key ≡ true →
    SaysNoOwner (key ∷ rest) → SaysNoOwner (keyword ∷ rest)
keyword_none keyword key rest same none = subst (λ (k : List ℕ). SaysNoOwner (k ∷ rest))
    (sym (same_word keyword key same)) none

pub owner_none : (words : List (Bor (List ℕ))) (first : Bor (List ℕ)) (rest : List (Bor (List ℕ))) (key : List ℕ) →
    words ≡ first ∷ rest → bytes_eq first.now key ≡ true → SaysNoOwner (key ∷ texts rest) → SaysNoOwner (texts words)
owner_none words first rest key e same none = subst (λ (ws : List (List ℕ)). SaysNoOwner ws)
    (sym (words_are words first rest key e same)) none

pub owner_begins : (words : List (Bor (List ℕ))) (first : Bor (List ℕ)) (rest : List (Bor (List ℕ))) (key : List ℕ)
    (Holds : List (List ℕ) → Type 0) → words ≡ first ∷ rest → bytes_eq first.now key ≡ true → Holds (texts rest) →
    Begins key (texts words) Holds
owner_begins words first rest key Holds e same holds = (texts rest, words_are words first rest key e same, holds)

-- a keyword that stands alone
pub alone_says : (words : List (Bor (List ℕ))) (first : Bor (List ℕ)) (rest : List (Bor (List ℕ))) (key : List ℕ)
    (line : OwnerLine) (r : Option OwnerLine) → words ≡ first ∷ rest → bytes_eq first.now key ≡ true →
    SaysOwner (key ∷ []) line → (texts rest ≢ [] → SaysNoOwner (key ∷ texts rest))
    → MatchOption r (texts rest ≢ []) (λ said. (said ≡ line) × (texts rest ≡ [])) →
    MatchOption r (SaysNoOwner (texts words)) (SaysOwner (texts words))
alone_says words first rest key line None e same says none some = owner_none words first rest key e same (none some)
alone_says words first rest key line (Some said) e same says none told =
    subst (λ (l : OwnerLine). SaysOwner (texts words) l) (sym told.0)
    (subst (λ (ws : List (List ℕ)). SaysOwner ws line)
    (sym (words_are words first rest key e same ∙ ap (λ (ws : List (List ℕ)). key ∷ ws) told.1)) says)
