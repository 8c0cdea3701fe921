-- The entries of a map with one more, and with one less.
pub use Rattle.plain_tables.proofs.Entries.{len_with, len_without, each_with, there_with, no_entry}
