pub mod WrittenLemmas
pub mod TextLemmas
