-- The file of the ring's program.
use Rattle.std.proofs.Common.{◌≡◌, ◌+◌, ◌++◌, length, refl, sym, arith, lit<, lit≤}
use Rattle.std.specs.Prelude.{None}
use Rattle.elf32.specs.Rules.{first_fault}
use Rattle.rv_asm.specs.declared.ring.TheConstants.{RING_CODE}
use Rattle.rv_asm.specs.Layout.{BASE, HEADERS}
use Rattle.rv_asm.specs.Ring.{ring_file}
use Rattle.rv_asm.proofs.ElfRules.{headed}
use Rattle.rv_asm.proofs.Whole.{header_bytes}

pub ring_accepted : first_fault ring_file ≡ None
unfolding ring_file
ring_accepted =
    headed (BASE + HEADERS) (HEADERS + length RING_CODE) RING_CODE (lit< tt) (lit≤ tt) (lit≤ tt)
    (header_bytes (BASE + HEADERS) (HEADERS + length RING_CODE) RING_CODE)
    (record { aligned = refl; first = lit≤ tt; within = lit< tt })
