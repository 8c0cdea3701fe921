-- What is handed on of the libraries below, so that who uses this one need not name them.
pub use Rattle.wire_net.specs.Networks.{waiting_at, Network}
unfoldable pub use Rattle.plain_machine.specs.Rows.Descriptors.{dup_row}
