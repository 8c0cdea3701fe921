-- Notes that name the same agents.
--     agents_same            notes on one direction
--     dirs_named             they are on the same directions
--     noted_named            and so are those on each of these
use Rattle.std.proofs.Common.{◌≡◌, [], ◌∷◌, refl, sym, ap, ◌∙◌}
use Rattle.std.specs.Prelude.{Option, List, ◌||◌, Bool, map as each}
use Rattle.std.specs.List.{list_any}
use Rattle.std.specs.Ordering.{eq_by_cmp}
use Rattle.sys_abi.specs.declared.identity.Dir.{Dir}
use Rattle.sys_abi.specs.declared.identity.RealPid.{RealPid}
use Rattle.sys_abi.specs.Orders.{dir_cmp}
use Rattle.wire_net.specs.declared.cut_room.DirNotes.{DirNotes}
use Rattle.wire_net.specs.Noted.{Notes, NamedAgents, agents_in, named_agents, dirs_of, has_notes}

abbrev named : Dir → Option RealPid → Option RealPid → NamedAgents
named d sender reader = record { dir = d; sender = sender; reader = reader }

pub agents_same : (x y : DirNotes) → x.dir ≡ y.dir → x.sender ≡ y.sender → x.reader ≡ y.reader → agents_in x ≡ agents_in y
agents_same x y dir sender reader = λ i. named (dir i) (sender i) (reader i)

dirs_are : (notes : Notes) → each (λ (agents : NamedAgents). agents.dir) (named_agents notes) ≡ dirs_of notes
dirs_are [] = refl
dirs_are (x ∷ notes) = ap (λ (ds : List Dir). x.dir ∷ ds) (dirs_are notes)

pub dirs_named : (now before : Notes) → named_agents now ≡ named_agents before → dirs_of now ≡ dirs_of before
dirs_named now before same = sym (dirs_are now) ∙ ap (each (λ (agents : NamedAgents). agents.dir)) same ∙ dirs_are before

any_dir : (d : Dir) (notes : Notes) → list_any (λ e. eq_by_cmp dir_cmp e d) (dirs_of notes) ≡ has_notes d notes
any_dir d [] = refl
any_dir d (x ∷ notes) = ap (λ (b : Bool). eq_by_cmp dir_cmp x.dir d || b) (any_dir d notes)

pub noted_named : (d : Dir) (now before : Notes) → named_agents now ≡ named_agents before → has_notes d now ≡ has_notes d before
noted_named d now before same = sym (any_dir d now) ∙ ap (list_any (λ e. eq_by_cmp dir_cmp e d)) (dirs_named now before same) ∙ any_dir d before
