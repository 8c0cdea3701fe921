pub mod LentValues
pub mod HandedOn
pub use Rattle.conn_maps.specs.OfViews
pub use Rattle.conn_maps.specs.OfSysAbi
