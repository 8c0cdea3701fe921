use Rattle.std.proofs.Common.{ap, arith}
use Rattle.std.specs.Prelude.{is_some}
use Rattle.plain_process.specs.Buffers.{bytes_of}
use Rattle.process_memory.proofs.Texts.{nothing}
use Rattle.process_memory.proofs.buffers.readable_span.Goals as goal

pub returns-in-Nothing : goal.returns-in-Nothing
returns-in-Nothing c =
    (nothing c.args.space.now c.args.source c.in-Nothing.is, ap (λ source. is_some (bytes_of c.args.space.now source)) c.in-Nothing.is, omega arith)
