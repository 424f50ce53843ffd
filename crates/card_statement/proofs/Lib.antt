mod DayLists
mod NamedCapLemmas
pub mod StatementLemmas
mod Examples
mod GatheredLemmas
mod RunLemmas
mod DayRowLemmas
mod RowDayLemmas
mod CountLemmas
pub mod KnownLemmas
