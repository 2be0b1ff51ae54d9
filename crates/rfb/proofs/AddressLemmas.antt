-- A word that names a server, from its parts.
use Rattle.std.proofs.Common.{Result, Ok, Err, Option, Some, None, MatchResult, codes, ◌≡◌, ◌∙◌, ◌++◌, inl, inr, ◌==◌}
use Rattle.std.proofs.Common.{ap, sym, subst, ℕ, List, true, false, ◌∷◌}
use Rattle.std.specs.List.{after_first, list_any}
use Rattle.clap.specs.Words.{Row, Text, first_of}
use Rattle.clap.proofs.CutLemmas.{after_first-at, list_any-Lacks, list_any-at}
use Rattle.rfb.specs.declared.options.BadValue.{BadValue}
use Rattle.rfb.specs.declared.options.address.Address.{Address}
use Rattle.rfb.specs.Address.{GivesServer, HasNoColon, IsAddress, NamesPort}
use Rattle.rfb.specs.command.Values.{MayGiveNumber}
use Rattle.rfb.specs.command.ViewWords.{GivesAddress, HasBadAddress}

-- a word is parted by its first colon in one way
pub no_address : (word named after : Text) → word ≡ named ++ 58 ∷ after → HasNoColon named →
    ((port : ℕ) → ¬ (NamesPort after port)) → (host : Text) (port : ℕ) → ¬ (IsAddress word host port)
no_address word named after is lacks none host port (inl (lack, named_so, at)) =
    let there : list_any (λ x. x == 58) word ≡ true = ap (list_any (λ x. x == 58)) is ∙ list_any-at 58 named after in
    let away : list_any (λ x. x == 58) word ≡ false = list_any-Lacks 58 word lack in
    let both : true ≡ false = sym there ∙ away in cc
no_address word named after is lacks none host port (inr (other, rest, same, lack, named_so, names)) =
    let e : rest ≡ after =
    sym (after_first-at 58 other rest lack)
    ∙ (ap (after_first (λ x. x == 58)) (sym same ∙ is) ∙ after_first-at 58 named after lacks) in
    none port (subst (λ (t : Text). NamesPort t port) e names)

-- a server that is named by a word alone
pub address_by_word : (w h : Option Text) (p : Option ℕ) (word : Text) (r : Result Address BadValue) →
    w ≡ Some word → h ≡ None → p ≡ None →
    MatchResult r (λ a. IsAddress word a.host.now a.port)
    (λ _. (host : Text) (port : ℕ) → ¬ (IsAddress word host port)) →
    MatchResult r (λ a. GivesServer w h p a.host.now a.port)
    (λ _. (host : Text) (port : ℕ) → ¬ (GivesServer w h p host port))
address_by_word w h p word r is away none given = rw (is, away, none) given

-- and one that words give
pub address_given : (rows : List Row) (w h : Option Text) (p : Option ℕ) (r : Result Address BadValue) →
    w ≡ first_of (codes "server") rows → h ≡ first_of (codes "host") rows →
    MayGiveNumber (codes "port") 1 65535 rows p →
    MatchResult r (λ a. GivesServer w h p a.host.now a.port)
    (λ _. (host : Text) (port : ℕ) → ¬ (GivesServer w h p host port)) →
    MatchResult r (λ a. GivesAddress rows a.host.now a.port) (λ _. HasBadAddress rows)
address_given rows w h p (Ok a) word host may given = (
  p,
  may,
  subst (λ (o : Option Text). GivesServer o (first_of (codes "host") rows) p a.host.now a.port) word
      (subst (λ (o : Option Text). GivesServer w o p a.host.now a.port) host given),
)
address_given rows w h p (Err bad) word host may none = (
  p,
  may,
  subst (λ (o : Option Text). (x : Text) (n : ℕ) → ¬ (GivesServer o (first_of (codes "host") rows) p x n)) word
      (subst (λ (o : Option Text). (x : Text) (n : ℕ) → ¬ (GivesServer w o p x n)) host none),
)
