use Rattle.std.proofs.Common.{◌≡◌, ◌≤◌, ℕ, List, ◌++◌, length, sym, ap, subst, ◌∙◌, arith, inr, Some}
use Rattle.std.specs.Prelude.{option_copied}
use Rattle.proxy_header.specs.declared.fault.HeaderFault.{HeaderFault}
use Rattle.proxy_header.specs.Front.{AddressesFit, SaysFront, size_of}
use Rattle.proxy_header.specs.Names.{Shows, IsName}
use Rattle.proxy_header.specs.Header.{IsNoHeader}
use Rattle.proxy_header.proofs.ListLemmas.{passes_on}
use Rattle.proxy_header.proofs.HeaderLemmas.{passed, tail_of}
use Rattle.proxy_header.proofs.header.name_in.Goals as goal

pub slice_bounds-shown_name-count : goal.slice_bounds-shown_name-count
slice_bounds-shown_name-count c =
    let fits : c.in-Passed.addresses ≤ c.in-Passed.size = subst AddressesFit c.in-Passed.is c.requires.fits in
    let whole : length c.args.rest.now ≡ c.in-Passed.size = c.requires.whole ∙ ap size_of c.in-Passed.is in
    omega arith

pub slice_bounds-shown_name-start : goal.slice_bounds-shown_name-start
slice_bounds-shown_name-start c =
    let fits : c.in-Passed.addresses ≤ c.in-Passed.size = subst AddressesFit c.in-Passed.is c.requires.fits in
    let whole : length c.args.rest.now ≡ c.in-Passed.size = c.requires.whole ∙ ap size_of c.in-Passed.is in
    omega arith

-- what follows the addresses are no TLVs, or they show nothing
pub returns-in_err-bytes-clause-err : goal.returns-in_err-bytes-clause-err
returns-in_err-bytes-clause-err c =
    let rest = c.args.rest.now in
    let whole : length rest ≡ c.in-Passed.size = c.requires.whole ∙ ap size_of c.in-Passed.is in
    passes_on c.from_residual.result c.in_err-bytes.field-0.0 _ c.from_residual.ensures.1
    (λ first says. subst (λ (f : HeaderFault). IsNoHeader (first ++ rest) f) (sym c.in_err-bytes.ensures.err.0) (
      tail_of c.in-Passed.addresses rest,
      passed first rest c.in-Passed.addresses c.in-Passed.size whole (subst (SaysFront first) c.in-Passed.is says),
      c.in_err-bytes.ensures.err.1,
    ))

-- they show no name
pub returns-in_default-2-clause-ok : goal.returns-in_default-2-clause-ok
returns-in_default-2-clause-ok c first says =
    let rest = c.args.rest.now in
    let whole : length rest ≡ c.in-Passed.size = c.requires.whole ∙ ap size_of c.in-Passed.is in
    inr (
      tail_of c.in-Passed.addresses rest,
      passed first rest c.in-Passed.addresses c.in-Passed.size whole (subst (SaysFront first) c.in-Passed.is says),
      subst (λ shown. Shows (tail_of c.in-Passed.addresses rest) (option_copied shown)) c.in_default-2.is
          c.in_ok-bytes.ensures.ok,
      tt,
    )

-- they show a name that isn't taken
pub returns-in_default-read-clause-err : goal.returns-in_default-read-clause-err
returns-in_default-read-clause-err c first says =
    let rest = c.args.rest.now in
    let whole : length rest ≡ c.in-Passed.size = c.requires.whole ∙ ap size_of c.in-Passed.is in (
      tail_of c.in-Passed.addresses rest,
      c.in-Some.bytes.now,
      passed first rest c.in-Passed.addresses c.in-Passed.size whole (subst (SaysFront first) c.in-Passed.is says),
      subst (λ shown. Shows (tail_of c.in-Passed.addresses rest) (option_copied shown)) c.in-Some.is
          c.in_ok-bytes.ensures.ok,
      c.in_default-read.ensures,
    )

-- they show a name that is taken
pub returns-clause-ok : goal.returns-clause-ok
returns-clause-ok c first says =
    let rest = c.args.rest.now in
    let whole : length rest ≡ c.in-Passed.size = c.requires.whole ∙ ap size_of c.in-Passed.is in
    inr (
      tail_of c.in-Passed.addresses rest,
      passed first rest c.in-Passed.addresses c.in-Passed.size whole (subst (SaysFront first) c.in-Passed.is says),
      subst (λ (text : List ℕ). Shows (tail_of c.in-Passed.addresses rest) (Some text)) (sym c.in-Some-read.ensures.0)
          (subst (λ shown. Shows (tail_of c.in-Passed.addresses rest) (option_copied shown)) c.in-Some.is
          c.in_ok-bytes.ensures.ok),
      subst IsName (sym c.in-Some-read.ensures.0) c.in-Some-read.ensures.1,
    )
