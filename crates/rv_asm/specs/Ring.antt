-- The program of the worked ring.
use Rattle.std.specs.Prelude.{ℕ, ◌+◌, List, ◌++◌, length}
use Rattle.rv_asm.specs.declared.ring.TheConstants.{RING_CODE}
use Rattle.rv_asm.specs.Layout.{BASE, HEADERS}
use Rattle.rv_asm.specs.Files.{headers}

-- its file: the headers, and the bytes of its lines, of which the first is where it begins
unfoldable pub ring_file : List ℕ
ring_file = headers (BASE + HEADERS) (HEADERS + length RING_CODE) ++ RING_CODE
