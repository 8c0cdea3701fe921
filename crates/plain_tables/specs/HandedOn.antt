-- What is handed on of the libraries below for a tactic to unfold, which names a file of this crate.
unfoldable pub use Rattle.plain_process.specs.Attempts.{and_then, found}
