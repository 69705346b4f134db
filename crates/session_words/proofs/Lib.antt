pub mod AmountLemmas
