use Rattle.std.proofs.Common.{ℕ, List, [], get_or, refl, sym, subst, ◌∙◌}
use Rattle.proxy_header.specs.Tlvs.{IsRow, values_of}
use Rattle.proxy_header.proofs.ListLemmas.{passes_on}
use Rattle.proxy_header.proofs.NameLemmas.{verify_of, tlvs_of, value_parts, one_value, one_at_most}
use Rattle.proxy_header.proofs.NameLemmas.{shows_verified, shows_unverified}
use Rattle.proxy_header.proofs.tlv.verified_name.Goals as goal

pub returns-in_err-name-clause-err : goal.returns-in_err-name-clause-err
returns-in_err-name-clause-err c =
    let value = c.args.value.now in
    passes_on c.from_residual.result c.in_err-name.field-0.0 _ c.from_residual.ensures.1 (
      c.in_err-name.ensures.err.0,
      λ shown ssl. c.in_err-name.ensures.err.1 ssl.tlvs
          (subst (λ (l : List ℕ). IsRow l ssl.tlvs []) (one_value value shown c.in-len5-up.len_at_least ssl).2 ssl.row)
          (one_at_most ssl.client ssl.verify (values_of 0x22 ssl.tlvs) shown ssl.shows),
    )

pub returns-then-is_verified-clause-ok : goal.returns-then-is_verified-clause-ok
returns-then-is_verified-clause-ok c =
    let value = c.args.value.now in
    let row = c.in_ok-name.ensures.ok in
    record {
      client = get_or value 0 0;
      verify = verify_of value;
      rest = tlvs_of value;
      parts = value_parts value c.in-len5-up.len_at_least;
      four = refl;
      tlvs = row.0;
      row = row.1;
      shows = shows_verified (get_or value 0 0) (verify_of value) (values_of 0x22 row.0) c.in_ok-name.name row.2
          (c.is_verified.ensures.0 c.if-is_verified.true);
    }

pub returns-else-is_verified-clause-ok : goal.returns-else-is_verified-clause-ok
returns-else-is_verified-clause-ok c =
    let value = c.args.value.now in
    let row = c.in_ok-name.ensures.ok in
    record {
      client = get_or value 0 0;
      verify = verify_of value;
      rest = tlvs_of value;
      parts = value_parts value c.in-len5-up.len_at_least;
      four = refl;
      tlvs = row.0;
      row = row.1;
      shows = shows_unverified (get_or value 0 0) (verify_of value) (values_of 0x22 row.0) c.in_ok-name.name row.2
          (λ is. let no = sym (c.is_verified.ensures.1 is) ∙ c.if-is_verified.false in absurd cc);
    }
