-- What is true of each program that a job starts, as the readers of programs and of the command line give it.
use Rattle.std.specs.Prelude.{◌<◌, All}
use Rattle.elf32.specs.OfViews.Limits.{HOST_LIMIT}
use Rattle.elf32.specs.declared.program.Segment.{Segment}
use Rattle.plain_process.specs.Start.{Launched, IsLoadable}
use Rattle.plain_process.specs.Valid.{IsWord, IsByte}

pub record IsLaunched (launched : Launched) : Type 0 where
  pub host : launched.host < HOST_LIMIT
  pub loadable : IsLoadable launched.program
  pub entry : IsWord launched.program.entry
  pub bytes : All (λ (segment : Segment). All IsByte segment.bytes) launched.program.segments
  pub arguments : All IsByte launched.arguments
