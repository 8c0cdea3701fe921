-- The command lines of a ring's halves are such, and what they ask for.
--     launch_asked, restart_asked      jobs of these programs and settings are what they ask for
--     launch_made, launch_there        such a launch, and that there is one
--     programs_more                    its programs, one after the other
--     hosts_counted, nodes_used        a ring of n processes has n hosts, and as many nodes
use Rattle.std.proofs.Common.{◌≡◌, ◌≢◌, true, not, ◌==◌, ℕ, zero, suc, ◌+◌, ◌<◌, ◌≤◌, ◌^◌, List, [], ◌∷◌, ◌++◌, length, map, Some, refl, sym, ap, subst, ◌∙◌, arith, add-zero, length-append, eq-eqb, lit<, lit≤}
use Rattle.std.specs.Prelude.{All, codes, fold, max}
use Rattle.std.specs.List.{range_with_len, list_all, flat_map, IsDistinct}
use Rattle.std.specs.Fmt.{decimal}
use Rattle.std.proofs.lemmas.Fmt.{length-decimal-le}
use Rattle.std.proofs.lemmas.List.FromFn.{get_or-range_with_len, length-range_with_len, length-map-range_with_len, map-range_with_len_more}
use Rattle.std.proofs.lemmas.List.{map-append}
use Rattle.std.proofs.lemmas.List.Elements.{All-nil, All-cons, All-append, All-from_get_or, All-map, All-weaker}
use Rattle.std.proofs.lemmas.List.Sums.{AllPass-from_list_all}
use Rattle.option_words.specs.declared.option_key.OptionKey.{OptionKey}
use Rattle.option_words.specs.declared.option_key.OptionKey.TheVariants.{Nodes, Workers, Every, Records, Shift, PidBase, PortBase}
use Rattle.option_words.specs.declared.option_key.Form.TheVariants as form
use Rattle.option_words.specs.Options.{Text, Setting, number, IsSetting, AreSettings, numbers_of, words_of_all}
use Rattle.option_words.proofs.Numbers.{digit_in_decimal}
use Rattle.job_words.specs.declared.job.Job.TheVariants as job
use Rattle.job_words.specs.declared.job.LaunchJob.{LaunchJob}
use Rattle.job_words.specs.declared.job.RestartJob.{RestartJob}
use Rattle.job_words.specs.declared.job.RingJob.{RingJob}
use Rattle.job_words.specs.declared.job.NamedProgram.{NamedProgram}
use Rattle.job_words.specs.Programs.{ProgramText, IsProgram, COLON, COMMA, argument_bytes, listed, after_comma, program_word, hosts_of}
use Rattle.job_words.specs.Outlines.{hosts_used}
use Rattle.job_words.specs.Commands.{HasNoZero, IsLaunch, words_of_command}
use Rattle.job_words.specs.Jobs.{IsJob, IsLaunchOf, IsRestartOf, start_of}
use Rattle.launch_start.specs.RingJobs.{RING, member, members, launch_of, launch_settings, restart_of, restart_settings}
use Rattle.launch_start.proofs.RingBounds.{IsRingJob}

-- ---- one more program

pub programs_more : (n p : ℕ) (programs more : List NamedProgram) (program : NamedProgram) → programs ≡ map start_of (map (member n) (range_with_len 0 p)) → program ≡ start_of (member n p) → more ≡ programs ++ program ∷ []
    → more ≡ map start_of (map (member n) (range_with_len 0 (p + 1)))
programs_more n p programs more program are is grown =
    let next : map (member n) (range_with_len 0 (p + 1)) ≡ map (member n) (range_with_len 0 p) ++ member n p ∷ [] = map-range_with_len_more (member n) 0 p p (omega arith) in
    grown ∙ ap (λ front. front ++ program ∷ []) are ∙ ap (λ last. map start_of (map (member n) (range_with_len 0 p)) ++ last ∷ []) is
    ∙ sym (ap (map start_of) next ∙ map-append start_of (map (member n) (range_with_len 0 p)) (member n p ∷ []))

-- ---- texts

abbrev Lacks : ℕ → Text → Type 0
Lacks byte text = All (λ b. b ≢ byte) text

differs : (byte b : ℕ) → not (b == byte) ≡ true → b ≢ byte
differs byte b apart same = let is : (b == byte) ≡ true = eq-eqb b byte same in cc

text_lacks : (byte : ℕ) (text : Text) → list_all (λ b. not (b == byte)) text ≡ true → Lacks byte text
text_lacks byte text all = All-weaker (λ b. not (b == byte) ≡ true) (λ b. b ≢ byte) (differs byte) text (AllPass-from_list_all (λ b. not (b == byte)) text all)

-- a number lacks what is no digit
number_lacks : (byte n : ℕ) → n < 2 ^ 64 → byte < 48 → Lacks byte (decimal n)
number_lacks byte n small low = All-from_get_or (λ b. b ≢ byte) (decimal n) 0 (λ i inside is. let digit = digit_in_decimal n i small inside in omega (arith, digit))

-- ---- numbers from 0 on

all_below : (P : ℕ → Type 0) (n : ℕ) → ((i : ℕ) → i < n → P i) → All P (range_with_len 0 n)
all_below P n each = All-from_get_or P (range_with_len 0 n) 0 (λ i inside.
    let below : i < n = omega (arith, inside, length-range_with_len 0 n) in
    subst P (sym (get_or-range_with_len 0 n i 0 below)) (each (0 + i) (omega arith)))

counted : (n a m : ℕ) → fold (λ count (program : ProgramText). max count (program.host + 1)) a (map (member n) (range_with_len a m)) ≡ a + m
counted n a zero = sym (add-zero a)
counted n a (suc m) =
    let greater : max a (a + 1) ≡ a + 1 = omega arith in
    ap (λ c. fold (λ count (program : ProgramText). max count (program.host + 1)) c (map (member n) (range_with_len (a + 1) m))) greater
    ∙ counted n (a + 1) m ∙ (let e : (a + 1) + m ≡ a + suc m = omega arith in e)

pub hosts_counted : (n : ℕ) → hosts_of (members n) ≡ n
hosts_counted n = counted n 0 n ∙ (let e : 0 + n ≡ n = omega arith in e)

-- ---- the programs

module _ (n i : ℕ) (few : n ≤ 16) (inside : i < n) where
  plain_arguments : (byte : ℕ) → byte < 48 → All (Lacks byte) (decimal i ∷ decimal n ∷ [])
  plain_arguments byte low =
      All-cons (Lacks byte) (decimal i) (decimal n ∷ []) (number_lacks byte i (omega arith) low)
      (All-cons (Lacks byte) (decimal n) [] (number_lacks byte n (omega arith) low) (All-nil (Lacks byte)))

  bytes_few : length (argument_bytes (member n i)) ≤ 4096
  bytes_few =
      let first : length (decimal i) ≤ 2 = length-decimal-le 2 i (lit< tt) (omega arith) (omega arith) in
      let second : length (decimal n) ≤ 2 = length-decimal-le 2 n (lit< tt) (omega arith) (omega arith) in
      simp length-append (omega (arith, first, second))

  is_member : IsProgram (member n i)
  is_member = record {
    host = omega arith;
    some = lit≤ tt;
    short = lit≤ tt;
    name = text_lacks COMMA RING refl;
    arguments = plain_arguments COMMA (lit< tt);
    bytes = bytes_few;
  }

  argument_plain : (m : ℕ) → m < 2 ^ 64 → HasNoZero (after_comma (decimal m))
  argument_plain m small = All-cons (λ b. b ≢ 0) COMMA (decimal m) (λ e. absurd (omega arith)) (number_lacks 0 m small (lit< tt))

  word_plain : HasNoZero (program_word (member n i))
  word_plain =
      let P : ℕ → Type 0 = λ b. b ≢ 0 in
      let rest : Text = flat_map after_comma (decimal i ∷ decimal n ∷ []) in
      All-append P (decimal i) (COLON ∷ listed RING (decimal i ∷ decimal n ∷ [])) (number_lacks 0 i (omega arith) (lit< tt))
      (All-cons P COLON (listed RING (decimal i ∷ decimal n ∷ [])) (λ e. absurd (omega arith))
      (All-append P RING rest (text_lacks 0 RING refl)
      (All-append P (after_comma (decimal i)) (after_comma (decimal n) ++ []) (argument_plain i (omega arith))
      (All-append P (after_comma (decimal n)) [] (argument_plain n (omega arith)) (All-nil P)))))

-- ---- the settings

module _ (ring : RingJob) (is : IsRingJob ring) where
  launch_once : (key : OptionKey) → length (numbers_of key (launch_settings ring)) ≤ 1
  launch_once Nodes = lit≤ tt
  launch_once Workers = lit≤ tt
  launch_once Every = lit≤ tt
  launch_once Records = lit≤ tt
  launch_once Shift = lit≤ tt
  launch_once PidBase = lit≤ tt
  launch_once PortBase = lit≤ tt

  restart_once : (key : OptionKey) → length (numbers_of key (restart_settings ring)) ≤ 1
  restart_once Nodes = lit≤ tt
  restart_once Workers = lit≤ tt
  restart_once Every = lit≤ tt
  restart_once Records = lit≤ tt
  restart_once Shift = lit≤ tt
  restart_once PidBase = lit≤ tt
  restart_once PortBase = lit≤ tt

  launch_is_set : AreSettings form.Launch (launch_settings ring)
  unfolding IsDistinct
  launch_is_set =
      let P : Setting → Type 0 = IsSetting form.Launch in
      record {
        each = All-cons P (number Workers ring.workers) (number Every ring.every ∷ []) (refl, is.workers.0, is.workers.1)
            (All-cons P (number Every ring.every) [] (refl, is.every.0, is.every.1) (All-nil P));
        once = launch_once;
        few = lit≤ tt;
        distinct = tt;
      }

  restart_is_set : AreSettings form.Restart (restart_settings ring)
  unfolding IsDistinct
  restart_is_set =
      let P : Setting → Type 0 = IsSetting form.Restart in
      record {
        each = All-cons P (number Workers ring.workers) [] (refl, is.workers.0, is.workers.1) (All-nil P);
        once = restart_once;
        few = lit≤ tt;
        distinct = tt;
      }

  setting_plain : (name : Text) (m : ℕ) (rest : List Text) → list_all (λ b. not (b == 0)) name ≡ true → m < 2 ^ 64 → All HasNoZero rest → All HasNoZero (name ∷ decimal m ∷ rest)
  setting_plain name m rest plain small others =
      All-cons HasNoZero name (decimal m ∷ rest) (text_lacks 0 name plain) (All-cons HasNoZero (decimal m) rest (number_lacks 0 m small (lit< tt)) others)

  launch_plain : All HasNoZero (words_of_command (launch_of ring))
  launch_plain =
      let programs : List Text = map program_word (members ring.processes) in
      let few = is.few in
      let each : All HasNoZero programs =
      All-map HasNoZero program_word (members ring.processes) (All-map (λ program. HasNoZero (program_word program)) (member ring.processes) (range_with_len 0 ring.processes)
      (all_below (λ i. HasNoZero (program_word (member ring.processes i))) ring.processes (λ i inside. word_plain ring.processes i few inside))) in
      All-cons HasNoZero (codes "launch") (words_of_all (launch_settings ring) ++ programs) (text_lacks 0 (codes "launch") refl)
      (setting_plain (codes "--workers") ring.workers (codes "--every" ∷ decimal ring.every ∷ programs) refl (let most = is.workers.1 in omega (arith, most))
      (setting_plain (codes "--every") ring.every programs refl (let most = is.every.1 in omega (arith, most)) each))

  restart_plain : All HasNoZero (words_of_command (restart_of ring))
  restart_plain =
      All-cons HasNoZero (codes "restart") (words_of_all (restart_settings ring)) (text_lacks 0 (codes "restart") refl)
      (setting_plain (codes "--workers") ring.workers [] refl (let most = is.workers.1 in omega (arith, most)) (All-nil HasNoZero))

  is_launch : IsLaunch (launch_settings ring) (members ring.processes)
  is_launch =
      let n = ring.processes in
      let some = is.some in
      let few = is.few in
      let count : length (members n) ≡ n = length-map-range_with_len (member n) 0 n in
      let hosts : hosts_of (members n) ≡ n = hosts_counted n in
      record {
        settings = launch_is_set;
        some = omega (arith, count);
        few = omega (arith, count);
        each = All-map IsProgram (member n) (range_with_len 0 n) (all_below (λ i. IsProgram (member n i)) n (λ i inside. is_member n i few inside));
        placed = All-map (λ (program : ProgramText). program.host < hosts_of (members n)) (member n) (range_with_len 0 n) (all_below (λ i. i < hosts_of (members n)) n (λ i inside. subst (λ k. i < k) (sym hosts) inside));
      }

  -- a job of these programs and settings
  pub launch_asked : (asked : LaunchJob) → IsLaunchOf (launch_settings ring) (members ring.processes) asked → IsJob (words_of_command (launch_of ring)) (job.Launch asked)
  launch_asked asked of = record { command = launch_of ring; spell = record { is = is_launch; text = refl; plain = launch_plain }; job = of }

  pub restart_asked : (asked : RestartJob) → IsRestartOf (restart_settings ring) asked → IsJob (words_of_command (restart_of ring)) (job.Restart asked)
  restart_asked asked of = record { command = restart_of ring; spell = record { is = restart_is_set; text = refl; plain = restart_plain }; job = of }

pub launch_made : (ring : RingJob) (asked : LaunchJob) → asked.nodes ≡ ring.processes → asked.workers ≡ ring.workers → asked.every ≡ Some ring.every → asked.records ≡ 1000000 → asked.file ≡ [] → asked.programs ≡ map start_of (members ring.processes)
    → IsLaunchOf (launch_settings ring) (members ring.processes) asked
launch_made ring asked nodes workers every records files programs = record {
  nodes = nodes ∙ sym (hosts_counted ring.processes);
  workers = workers;
  every = every;
  records = records;
  file = files;
  programs = programs;
}

-- the job that the launch's words ask for
pub launch_there : (ring : RingJob) → IsRingJob ring → (asked : LaunchJob) × (IsJob (words_of_command (launch_of ring)) (job.Launch asked) × IsLaunchOf (launch_settings ring) (members ring.processes) asked)
launch_there ring is =
    let asked : LaunchJob = record {
      nodes = ring.processes;
      workers = ring.workers;
      every = Some ring.every;
      records = 1000000;
      file = [];
      programs = map start_of (members ring.processes);
    } in
    let of = launch_made ring asked refl refl refl refl refl refl in
    (asked, (launch_asked ring is asked of, of))

used_from : (n a m : ℕ) → fold (λ count (program : NamedProgram). max count (program.host + 1)) a (map start_of (map (member n) (range_with_len a m))) ≡ a + m
used_from n a zero = sym (add-zero a)
used_from n a (suc m) =
    let greater : max a (a + 1) ≡ a + 1 = omega arith in
    ap (λ c. fold (λ count (program : NamedProgram). max count (program.host + 1)) c (map start_of (map (member n) (range_with_len (a + 1) m)))) greater
    ∙ used_from n (a + 1) m ∙ (let e : (a + 1) + m ≡ a + suc m = omega arith in e)

-- the hosts that its programs use are as many as its nodes
pub nodes_used : (ring : RingJob) (asked : LaunchJob) → IsLaunchOf (launch_settings ring) (members ring.processes) asked → asked.nodes ≡ hosts_used asked.programs
nodes_used ring asked of =
    let n = ring.processes in
    of.nodes ∙ hosts_counted n ∙ sym (ap hosts_used of.programs ∙ used_from n 0 n ∙ (let e : 0 + n ≡ n = omega arith in e))
