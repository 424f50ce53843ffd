use Rattle.std.proofs.Common.{ap, ◌∙◌}
use Rattle.std.specs.Prelude.{option_copied, option_to_list}
use Rattle.std.proofs.lemmas.Result.{IfErr-weaker}
use Rattle.proxy_header.proofs.NameLemmas.{shows_of_value}
use Rattle.proxy_header.proofs.tlv.shown_name.Goals as goal

pub returns-in-Some-clause-err : goal.returns-in-Some-clause-err
returns-in-Some-clause-err c =
    let row = c.in_ok-only_value.ensures.ok in
    IfErr-weaker c.verified_name.result _ _ (λ fault is. (
      is.0,
      λ shown shows. is.1 shown (shows_of_value c.args.bytes.now c.in-Some.ssl.now row.0 shown row.1
          (row.2 ∙ ap (λ found. option_to_list (option_copied found)) c.in-Some.is) shows),
    )) c.verified_name.ensures.err
