pub use Rattle.conn_maps.proofs.OfViews
pub use Rattle.conn_maps.proofs.OfSysAbi
