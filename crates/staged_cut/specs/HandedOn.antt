-- What is handed on of the libraries below, so that who uses this one need not name them.
pub use Rattle.run_start.specs.Starts.{state_of, CanBegin}
pub use Rattle.run_start.specs.declared.start.Start.{Start}
pub use Rattle.run_start.specs.HandedOn.{Computation, Did, Stop, plain_of, user_at, first_signal, CanWork, IsDid, IsReady, IsTold, IsTurnAt, Worked, Failed, StandsAt, Takes, Breaks}
pub use Rattle.seen_kernel.specs.Seen.{all_in}
