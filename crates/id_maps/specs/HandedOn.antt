-- What is handed on of the libraries below, so that who uses this one need not name them.
pub use Rattle.conn_maps.specs.NextConns.{is_above}
