mod PlacesLemmas
mod Examples
