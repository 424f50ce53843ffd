use Rattle.gate_law.specs.Station.{station_of}
use Rattle.gate_tests.proofs.tests.of_gate_law.books.asked_by_book.Goals as goal

-- the clerk keeps the station of its book, whose history is legal
pub returns : goal.returns
returns g c asked has =
    c.ask_and_settle.ensures.ok station_of asked c.books_keep_stations.ensures.keeps has
    c.books_keep_stations.ensures.legal
