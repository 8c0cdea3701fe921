-- A process, and what calls do to it.
-- Source: `man 2 fork`, `man 2 exit`, `man 7 signal`.
--     newborn parent number      a process with the one thread of its own number
--     lives_with t process       it lives, with this thread if one is named
--     signals_of t process       the signals pending for the thread, none where it is not there
--     raised t s process         the signal is pending for the process, or for this thread alone
--     has_either, after_take     the signal is pending for the thread or the process;  without it, at the thread first
--     zombie status process      it has ended
use Rattle.std.specs.Prelude.{ℕ, Bool, false, ◌&&◌, ◌||◌, Option, Some, None, is_some, unwrap_or, if◌then◌else◌}
use Rattle.std.specs.Ordering.{eq_by_cmp}
use Rattle.std.specs.FinMap as map
use Rattle.virt_ids.specs.OfSysAbi.declared.identity.RealPid.{RealPid}
use Rattle.proc_book.specs.declared.process.Process.{Process}
use Rattle.virt_ids.specs.OfSysAbi.declared.life.Life.TheVariants.{Live, Zombie}
use Rattle.virt_ids.specs.Changes.{at_key}
use Rattle.virt_ids.specs.OfSysAbi.Orders.{real_pid_cmp}
use Rattle.virt_ids.specs.OfSysAbi.Signals.{has_signal, with_signal, without_signal}
use Rattle.virt_ids.specs.OfSysAbi.Lives.{lives}

abbrev pub newborn : Option RealPid → ℕ → Process
newborn parent number = record { parent = parent; life = Live; pending = 0; threads = map.insert map.empty number 0 }

abbrev pub is_live : Process → Bool
is_live process = lives process.life

abbrev pub is_parent : RealPid → Option RealPid → Bool
is_parent p None = false
is_parent p (Some parent) = eq_by_cmp real_pid_cmp p parent

abbrev pub is_child_of : RealPid → Process → Bool
is_child_of p process = is_parent p process.parent

abbrev pub lives_with : Option ℕ → Process → Bool
lives_with None process = is_live process
lives_with (Some t) process = is_live process && is_some (map.get process.threads t)

abbrev pub signals_of : ℕ → Process → ℕ
signals_of t process = unwrap_or (map.get process.threads t) 0

abbrev pub raised : Option ℕ → ℕ → Process → Process
raised None s process = record process { pending = with_signal process.pending s }
raised (Some t) s process = record process { threads = at_key process.threads t (λ set. with_signal set s) }

abbrev pub has_either : ℕ → ℕ → Process → Bool
has_either t s process = has_signal (signals_of t process) s || has_signal process.pending s

abbrev pub after_take : ℕ → ℕ → Process → Process
after_take t s process =
    if has_signal (signals_of t process) s then record process { threads = at_key process.threads t (λ set. without_signal set s) } else
    if has_signal process.pending s then record process { pending = without_signal process.pending s } else process

abbrev pub zombie : ℕ → Process → Process
zombie status process = record { parent = process.parent; life = Zombie status; pending = 0; threads = map.empty }
