mod StationLemmas
mod ReadyLemmas
mod CardLemmas
mod JournalLemmas
mod EntryLemmas
mod LawLemmas
