-- Where the words say that the hosts are.
--     launched_within, restarted_within      nodes can be made there
use Rattle.std.proofs.Common.{◌≡◌, Bool, true, false, if◌then◌else◌, ℕ, ◌+◌, ◌<◌, ◌≤◌, List, [], ◌∷◌, refl, sym, subst, arith}
use Rattle.std.specs.Prelude.{All, max, fold, slice_get, unwrap_or, length}
use Rattle.std.specs.Str.{bytes_eq}
use Rattle.std.proofs.Math.Nat.{max-le}
use Rattle.std.proofs.lemmas.Slice.Eq.{bytes_eq-Decides}
use Rattle.std.proofs.lemmas.List.Elements.{All-nil, All-cons, All-head, All-tail}
use Rattle.rebuild_tables.specs.Hosts.{IsHosts}
use Rattle.option_words.specs.declared.option_key.OptionKey.{OptionKey}
use Rattle.option_words.specs.declared.option_key.OptionKey.TheVariants.{Nodes, Shift, PidBase, PortBase}
use Rattle.option_words.specs.declared.option_key.Form.{Form}
use Rattle.option_words.specs.declared.option_key.Form.TheVariants.{Launch, Restart}
use Rattle.option_words.specs.Options.{Text, Setting, number, file, name_of, least_of, greatest_of, IsSetting, AreSettings, numbers_of, given_or}
use Rattle.option_words.proofs.Keys.{same_key}
use Rattle.job_words.specs.declared.job.Job.TheVariants as job
use Rattle.job_words.specs.declared.job.LaunchJob.{LaunchJob}
use Rattle.job_words.specs.declared.job.RestartJob.{RestartJob}
use Rattle.job_words.specs.Programs.{ProgramText, IsProgram, hosts_of}
use Rattle.job_words.specs.Commands.{Command, launch, restart, IsCommand, IsLaunch, nodes_of}
use Rattle.job_words.specs.Jobs.{IsJob, IsJobOf}
use Rattle.dmtcp_top.specs.Hosts.{launch_hosts, restart_hosts}

-- ---- the number that is given for an option is within its range

abbrev IsWithin : OptionKey → ℕ → Type 0
IsWithin key n = (least_of key ≤ n) × (n ≤ greatest_of key)

within_under : (k key : OptionKey) (n : ℕ) → bytes_eq (name_of k) (name_of key) ≡ true → IsWithin k n → IsWithin key n
within_under k key n is within = subst (λ (j : OptionKey). IsWithin j n) (same_key k key ((bytes_eq-Decides (name_of k) (name_of key)).0 is)) within

all_within : (form : Form) (key : OptionKey) (given : List Setting) → All (IsSetting form) given → All (IsWithin key) (numbers_of key given)
all_within form key [] each = All-nil (IsWithin key)
all_within form key (number k n ∷ rest) each = step (bytes_eq (name_of k) (name_of key)) refl (all_within form key rest (All-tail (IsSetting form) (number k n) rest each))
  where
    step : (b : Bool) → bytes_eq (name_of k) (name_of key) ≡ b → All (IsWithin key) (numbers_of key rest) → All (IsWithin key) (if b then n ∷ numbers_of key rest else numbers_of key rest)
    step true is all =
        let setting : IsSetting form (number k n) = All-head (IsSetting form) (number k n) rest each in
        All-cons (IsWithin key) n (numbers_of key rest) (within_under k key n is (setting.1, setting.2)) all
    step false is all = all
all_within form key (file name ∷ rest) each = all_within form key rest (All-tail (IsSetting form) (file name) rest each)

first_within : (key : OptionKey) (default : ℕ) (ns : List ℕ) → All (IsWithin key) ns → IsWithin key default → IsWithin key (unwrap_or (slice_get ns 0) default)
first_within key default [] all within = within
first_within key default (n ∷ ns) all within = All-head (IsWithin key) n ns all

given_within : (form : Form) (given : List Setting) → AreSettings form given → (key : OptionKey) (default : ℕ) → IsWithin key default → IsWithin key (given_or key given default)
given_within form given are key default within = first_within key default (numbers_of key given) (all_within form key given are.each) within

-- ---- of a launch

abbrev hosts_from : ℕ → List ProgramText → ℕ
hosts_from count programs = fold (λ (count : ℕ) (program : ProgramText). max count (program.host + 1)) count programs

few_hosts : (count : ℕ) (programs : List ProgramText) → count ≤ 16 → All IsProgram programs → hosts_from count programs ≤ 16
few_hosts count [] few each = few
few_hosts count (program ∷ rest) few each =
    let first = (All-head IsProgram program rest each).host in
    few_hosts (max count (program.host + 1)) rest (max-le few (let below : program.host + 1 ≤ 16 = omega (arith, first) in below)) (All-tail IsProgram program rest each)

some_nodes : (nodes : ℕ) (programs : List ProgramText) → 1 ≤ length programs → All (λ program. program.host < nodes) programs → 1 ≤ nodes
some_nodes nodes [] some placed = absurd (omega (arith, some))
some_nodes nodes (program ∷ rest) some placed =
    let first = All-head (λ (p : ProgramText). p.host < nodes) program rest placed in omega (arith, first)

launch_nodes : (given : List Setting) (programs : List ProgramText) → IsLaunch given programs → (1 ≤ nodes_of given programs) × (nodes_of given programs ≤ 16)
launch_nodes given programs is = (
  some_nodes (nodes_of given programs) programs is.some is.placed,
  few_given (numbers_of Nodes given) (all_within Launch Nodes given is.settings.each) (few_hosts 0 programs (omega arith) is.each),
)
  where
    few_given : (ns : List ℕ) → All (IsWithin Nodes) ns → hosts_of programs ≤ 16 → unwrap_or (slice_get ns 0) (hosts_of programs) ≤ 16
    few_given [] all few = few
    few_given (n ∷ ns) all few = (All-head (IsWithin Nodes) n ns all).1

launched_by : (command : Command) (asked : LaunchJob) → IsCommand command → IsJobOf command (job.Launch asked) → IsHosts (launch_hosts asked)
launched_by (launch given programs) asked is of =
    let there = launch_nodes given programs is in
    record {
      some = subst (λ (n : ℕ). 1 ≤ n) (sym of.nodes) there.0;
      nodes = subst (λ (n : ℕ). n ≤ 16) (sym of.nodes) there.1;
      shift = omega arith;
      first = omega arith;
      last = omega arith;
      ports = omega arith;
    }
launched_by _ asked is of = absurd of

pub launched_within : (words : List Text) (asked : LaunchJob) → IsJob words (job.Launch asked) → IsHosts (launch_hosts asked)
launched_within words asked is = launched_by is.command asked is.spell.is is.job

-- ---- of a restart

restarted_by : (command : Command) (asked : RestartJob) → IsCommand command → IsJobOf command (job.Restart asked) → IsHosts (restart_hosts asked)
restarted_by (restart given) asked is of =
    let nodes = subst (IsWithin Nodes) (sym of.nodes) (given_within Restart given is Nodes 16 (omega arith, omega arith)) in
    let shift = subst (IsWithin Shift) (sym of.shift) (given_within Restart given is Shift 0 (omega arith, omega arith)) in
    let pids = subst (IsWithin PidBase) (sym of.pid_base) (given_within Restart given is PidBase 2000 (omega arith, omega arith)) in
    let ports = subst (IsWithin PortBase) (sym of.port_base) (given_within Restart given is PortBase 30000 (omega arith, omega arith)) in
    record {
      some = nodes.0;
      nodes = nodes.1;
      shift = shift.1;
      first = pids.0;
      last = pids.1;
      ports = ports.1;
    }
restarted_by _ asked is of = absurd of

pub restarted_within : (words : List Text) (asked : RestartJob) → IsJob words (job.Restart asked) → IsHosts (restart_hosts asked)
restarted_within words asked is = restarted_by is.command asked is.spell.is is.job
