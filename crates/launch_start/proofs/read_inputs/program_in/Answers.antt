use Rattle.std.proofs.Common.{◌≤◌, sym, subst}
use Rattle.std.specs.Prelude.{All}
use Rattle.elf32.specs.declared.program.Program.{Program}
use Rattle.elf32.specs.Pages.{page_count}
use Rattle.elf32.specs.Programs.{IsWellPlaced}
use Rattle.plain_process.specs.Launches.{IsLaunched}
use Rattle.plain_machine.proofs.StartUsers.{read_is_launched}
use Rattle.launch_start.proofs.Bytes.{all_bytes}
use Rattle.launch_start.proofs.read_inputs.program_in.Goals as goal

pub returns-in-Ok-clause-ok : goal.returns-in-Ok-clause-ok
returns-in-Ok-clause-ok c =
    let read = c.in-Ok.ensures.program in
    let placed = subst (λ (p : Program). All IsWellPlaced p.segments) read c.in-Ok.ensures.placed in
    let pages = subst (λ (p : Program). page_count p.segments ≤ 1536) read c.in-Ok.ensures.pages in
    record {
      fine = c.in-Ok.ensures.rules;
      is = read;
      good = λ host arguments low bytes.
          subst (λ (p : Program). IsLaunched (record { host = host; program = p; arguments = arguments })) (sym read)
          (read_is_launched host c.args.file.now arguments (all_bytes c.args.file.now c.type_inv.file) bytes placed pages low);
    }
