use Rattle.std.proofs.Common.{arith, inl, inr, refl, subst, List, ℕ, Some, None}
use Rattle.std.proofs.lemmas.Str.Pattern.{split_parts}
use Rattle.rfb.specs.Address.{NamesPort}
use Rattle.rfb.proofs.AddressLemmas.{no_address}
use Rattle.rfb.proofs.options.address.address_named.Goals as goal

pub returns-in_default : goal.returns-in_default
returns-in_default c =
    let lacks = split_parts 58 c.args.word.now None c.in_default.ensures.cases (omega arith) in
    inl (lacks, c.or_loopback.ensures, refl)

pub returns-in-Some-port_named : goal.returns-in-Some-port_named
returns-in-Some-port_named c =
    let parts =
    split_parts 58 c.args.word.now (Some (c.in-Some.host, c.in-Some.after)) c.in-Some.ensures.cases (omega arith) in
    inr (
      c.in-Some.host.now,
      c.in-Some.after.now,
      parts.0,
      parts.1,
      c.or_loopback-in-Some-port_named.ensures,
      subst (λ (t : List ℕ). NamesPort t c.in-Some-port_named.port) c.as_bytes.ensures.value
          c.in-Some-port_named.ensures,
    )

pub returns-in-None : goal.returns-in-None
returns-in-None c =
    let parts =
    split_parts 58 c.args.word.now (Some (c.in-Some.host, c.in-Some.after)) c.in-Some.ensures.cases (omega arith) in
    no_address c.args.word.now c.in-Some.host.now c.in-Some.after.now parts.0 parts.1
    (subst (λ (t : List ℕ). (port : ℕ) → ¬ (NamesPort t port)) c.as_bytes.ensures.value c.in-None.ensures)
