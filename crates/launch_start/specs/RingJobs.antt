-- The worked ring as command lines: a launch of its programs, and a restart from the last set.
--     members n          its programs, one for each process: process i on host i, with the arguments `ring`, i and n
--     launch_of ring     the command of the launch
--     restart_of ring    the command of the restart
--     ring_files         the input of the launch: the ring's program under its name
use Rattle.std.specs.Prelude.{ℕ, List, [], ◌∷◌, map, codes}
use Rattle.std.specs.List.{range_with_len}
use Rattle.std.specs.Fmt.{decimal}
use Rattle.std.specs.FinMap as map_of
use Rattle.edge_io.specs.Inputs.{NamedFiles}
use Rattle.option_words.specs.declared.option_key.OptionKey.TheVariants.{Workers, Every}
use Rattle.option_words.specs.Options.{Text, Setting, number}
use Rattle.job_words.specs.declared.job.RingJob.{RingJob}
use Rattle.job_words.specs.Commands.{Command, launch, restart}
use Rattle.job_words.specs.Programs.{ProgramText}
use Rattle.rv_asm.specs.Ring.{ring_file}

-- the name of the program
abbrev pub RING : Text
RING = codes "ring"

abbrev pub member : ℕ → ℕ → ProgramText
member n i = record { host = i; name = RING; arguments = decimal i ∷ decimal n ∷ [] }

abbrev pub members : ℕ → List ProgramText
members n = map (member n) (range_with_len 0 n)

-- --workers W --every K
abbrev pub launch_settings : RingJob → List Setting
launch_settings ring = number Workers ring.workers ∷ number Every ring.every ∷ []

-- --workers W
abbrev pub restart_settings : RingJob → List Setting
restart_settings ring = number Workers ring.workers ∷ []

-- launch --workers W --every K 0:ring,0,N 1:ring,1,N ..
abbrev pub launch_of : RingJob → Command
launch_of ring = launch (launch_settings ring) (members ring.processes)

-- restart --workers W
abbrev pub restart_of : RingJob → Command
restart_of ring = restart (restart_settings ring)

abbrev pub ring_files : NamedFiles
ring_files = map_of.insert map_of.empty RING ring_file
