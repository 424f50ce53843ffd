use Rattle.table_check.proofs.journey.fare_text.Goals as goal

-- the table was read, and what the journey costs by it is written
pub returns : goal.returns
returns c = record {
  table = c.in_ok-fares.fares;
  read = c.in_ok-fares.ensures.ok;
  quote = c.in_ok-quote.quote;
  costs = c.in_ok-quote.ensures.ok;
  written = c.in_ok-format.ensures.ok;
}
