-- What is handed on of the libraries below, so that who uses this one need not name them.
pub use Rattle.wrap_calls.specs.Console.{console_write, takes_writes, writes_console}
unfoldable pub use Rattle.wrap_calls.specs.Console.{written}
pub use Rattle.wrap_calls.specs.Directions.{is_above}
pub use Rattle.wrap_passing.specs.OfWrapNames.Wrapping.{Answers}
pub use Rattle.wrap_passing.specs.OfWrapNames.Changes.{arrived_in}
unfoldable pub use Rattle.wrap_passing.specs.OfWrapNames.Changes.{after_arrival}
pub use Rattle.wrap_passing.specs.OfWrapNames.Wrapping.{IsWrapped}
