-- What is handed on of the libraries below, so that who uses this one need not name them.
pub use Rattle.computation.specs.Computations.{plain_of, user_at, first_signal, CanWork, IsDid, IsReady, IsTold, IsTurnAt, Worked, Failed}
pub use Rattle.computation.specs.Parts.{StandsAt}
pub use Rattle.computation.specs.Takes.{Takes, Breaks}
pub use Rattle.computation.specs.declared.computation.Computation.{Computation}
pub use Rattle.computation.specs.declared.computation.Did.{Did}
pub use Rattle.computation.specs.declared.computation.Stop.{Stop}
pub use Rattle.computation.specs.HandedOn.{IsWrapped}
pub use Rattle.rebuild_tables.specs.Rebuilt.{HasNoDatagrams}
