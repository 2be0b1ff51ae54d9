-- What came is the one character, if there is one.
use Rattle.std.proofs.Common.{◌≡◌, [], ◌∷◌, MatchOption}
use Rattle.rfb_session.proofs.drive.keys.only_char.Given as goal

abbrev pub invariant-loop-character : goal.invariant-loop-character
invariant-loop-character l = MatchOption l.only (l.yielded ≡ []) (λ c. l.yielded ≡ c ∷ [])
