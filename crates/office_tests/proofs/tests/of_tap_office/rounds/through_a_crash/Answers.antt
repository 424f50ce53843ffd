use Rattle.std.proofs.Common.{◌≡◌, ℕ, [], ◌∷◌, Option, Some, sym, ap, ◌∙◌, subst}
use Rattle.std.specs.Prelude.{unwrap_or}
use Rattle.fare_table.specs.declared.example.TheConstants.{EXAMPLE_TABLE}
use Rattle.reply_book.specs.Tables.{Tables, listed}
use Rattle.tap_office.specs.Name.{Opened}
use Rattle.tap_office.specs.Files.{AreReadFrom}
use Rattle.office_tests.proofs.tests.of_tap_office.rounds.through_a_crash.Goals as goal

one-given : (o : Option (Tables × ℕ)) (a b : Tables) (n m : ℕ) → o ≡ Some (a, n) → o ≡ Some (b, m) → a ≡ b
one-given o a b n m is given = ap (λ (x : Option (Tables × ℕ)). (unwrap_or x (a, n)).0) (sym is ∙ given)

-- the tables that the name was given are those of the opening
pub next_round-requires : goal.next_round-requires
next_round-requires g c = λ tables given.
    let opened = g.N.Named.opened in
    let opening = c.args.opening in
    let is = ap (λ (o : Opened). o.table) c.requires.name.is in
    let same = one-given opened.table opening.tables tables opening.header.cards opened.header.cards is given in
    subst (λ (t : Tables). AreReadFrom (EXAMPLE_TABLE.now ∷ []) (listed t)) same c.requires.file
