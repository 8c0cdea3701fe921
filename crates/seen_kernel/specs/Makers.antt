-- The makers of processes, taken one after the other.
-- Source: `man 2 clone`; a maker is this project's own: a process's host, and the running number of what it
-- makes.
--     SameKeys makers processes      each process has a maker, and nobody else has one
--     with_maker all seen p          and that of this process, if it has one
--     with_makers all seen ps        and those of all these
use Rattle.std.specs.Prelude.{◌≡◌, List, [], ◌∷◌, is_some}
use Rattle.std.specs.Option.{option_map_or}
use Rattle.std.specs.FinMap as map
use Rattle.sys_abi.specs.declared.identity.VPid.{VPid}
use Rattle.plain_tables.specs.Tables.{Makers, Processes}

abbrev pub SameKeys : Makers → Processes → Type 0
SameKeys makers processes = (p : VPid) → is_some (map.get makers p) ≡ is_some (map.get processes p)

abbrev pub with_maker : Makers → Makers → VPid → Makers
with_maker all seen p = option_map_or (λ maker. map.insert seen p maker) (map.get all p) seen

unfoldable pub with_makers : Makers → Makers → List VPid → Makers
with_makers all seen [] = seen
with_makers all seen (p ∷ ps) = with_makers all (with_maker all seen p) ps
