-- What fcntl is asked for, by the number of its command.
-- Source: `man 2 fcntl`.
--     fcntl_command number      none where no command has the number
use Rattle.std.specs.Prelude.{◌==◌, ℕ, Option, Some, None, if◌then◌else◌}
use Rattle.plain_process.specs.declared.commands.FcntlCommand.{FcntlCommand}
use Rattle.plain_process.specs.declared.commands.FcntlCommand.TheVariants.{DupFd, GetFd, SetFd, GetFl, SetFl, SetOwn, GetOwn, DupFdCloexec}

unfoldable pub fcntl_command : ℕ → Option FcntlCommand
fcntl_command number =
    if number == 0 then Some DupFd else
    if number == 1 then Some GetFd else
    if number == 2 then Some SetFd else
    if number == 3 then Some GetFl else
    if number == 4 then Some SetFl else
    if number == 8 then Some SetOwn else
    if number == 9 then Some GetOwn else
    if number == 1030 then Some DupFdCloexec else None
