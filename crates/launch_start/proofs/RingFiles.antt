-- What the ring's inputs hold.
--     files_hold          the program, under its name
--     files_lack          and nothing under another name
use Rattle.std.proofs.Common.{◌≡◌, ◌≢◌, Some, None, ◌∙◌}
use Rattle.std.specs.FinMap as map_of
use Rattle.std.specs.FinMap.{slice_cmp-IsAntisymmetric, nat_cmp-IsAntisymmetric}
use Rattle.std.specs.Cmp.Lexicographic.{slice_cmp}
use Rattle.std.specs.Ordering.{nat_cmp}
use Rattle.std.proofs.lemmas.Cmp.{nat_list_cmp_total}
use Rattle.views.proofs.MapLaws.{get_insert_same, get_insert_other}
use Rattle.option_words.specs.Options.{Text}
use Rattle.rv_asm.specs.Ring.{ring_file}
use Rattle.launch_start.specs.RingJobs.{RING, ring_files}

pub files_hold : map_of.get ring_files RING ≡ Some ring_file
files_hold = get_insert_same nat_list_cmp_total (slice_cmp-IsAntisymmetric nat_cmp-IsAntisymmetric) map_of.empty RING ring_file

pub files_lack : (name : Text) → name ≢ RING → map_of.get ring_files name ≡ None
files_lack name other =
    get_insert_other nat_list_cmp_total (slice_cmp-IsAntisymmetric nat_cmp-IsAntisymmetric) map_of.empty RING ring_file name other ∙ map_of.get-empty (slice_cmp nat_cmp) name
