-- Sets of signals: bit s - 1 stands for signal s, from 1 to 31.
-- Source: `man 7 signal`; that the signals end at 31 is this project's own rule.
--     has_signal set s, with_signal, without_signal      one signal of a set
--     without_signals set others                         a set without those of another one
--     blockable set                                      those of a word that a mask may hold: never SIGKILL and SIGSTOP (`man 2 sigprocmask`)
--     lowest_signal set                                  the least of the signals in it
use Rattle.std.specs.Prelude.{◌==◌, ℕ, ◌-◌, ◌%◌, ◌^◌, Bool, not, ◌&&◌, nat_le, bit_and, bit_or, bit_xor, find, Option, if◌then◌else◌}
use Rattle.std.specs.List.{range_with_len}
use Rattle.views.specs.Numbers.{SignalNumber}
use Rattle.sys_abi.specs.declared.signals.TheConstants.{SIGKILL, SIGSTOP}

abbrev pub is_signal : SignalNumber → Bool
is_signal s = nat_le 1 s && nat_le s 31

-- no bit for what is no signal
abbrev pub bit_of : SignalNumber → ℕ
bit_of s = if is_signal s then 2 ^ (s - 1) else 0

abbrev pub has_signal : ℕ → SignalNumber → Bool
has_signal set s = not (bit_and set (bit_of s) == 0)

abbrev pub with_signal : ℕ → SignalNumber → ℕ
with_signal set s = bit_or set (bit_of s)

abbrev pub without_signals : ℕ → ℕ → ℕ
without_signals set others = bit_xor set (bit_and set others)

abbrev pub without_signal : ℕ → SignalNumber → ℕ
without_signal set s = without_signals set (bit_of s)

abbrev pub blockable : ℕ → ℕ
blockable word = without_signal (without_signal (word % 2 ^ 31) SIGKILL) SIGSTOP

unfoldable pub lowest_signal : ℕ → Option SignalNumber
lowest_signal set = find (has_signal set) (range_with_len 1 31)
