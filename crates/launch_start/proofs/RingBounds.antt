-- What a ring that words ask for keeps to.
--     IsRingJob ring      its number of processes, its workers, and after how many records checkpoints are asked for
--     ring_bounds         a ring that words ask for is such
use Rattle.std.proofs.Common.{◌≡◌, Bool, true, false, if◌then◌else◌, ℕ, ◌≤◌, List, [], ◌∷◌, refl, sym, subst, lit≤}
use Rattle.std.specs.Prelude.{All, slice_get, unwrap_or}
use Rattle.std.specs.Str.{bytes_eq}
use Rattle.std.proofs.lemmas.Slice.Eq.{bytes_eq-Decides}
use Rattle.std.proofs.lemmas.List.Elements.{All-nil, All-cons, All-head, All-tail}
use Rattle.option_words.specs.declared.option_key.OptionKey.{OptionKey}
use Rattle.option_words.specs.declared.option_key.OptionKey.TheVariants.{Workers, Every}
use Rattle.option_words.specs.declared.option_key.Form.{Form}
use Rattle.option_words.specs.declared.option_key.Form.TheVariants.{Ring}
use Rattle.option_words.specs.Options.{Text, Setting, number, file, name_of, least_of, greatest_of, IsSetting, numbers_of, given_or}
use Rattle.option_words.proofs.Keys.{same_key}
use Rattle.job_words.specs.declared.job.Job.TheVariants as job
use Rattle.job_words.specs.declared.job.RingJob.{RingJob}
use Rattle.job_words.specs.Commands.{Command, ring, IsCommand}
use Rattle.job_words.specs.Jobs.{IsJob, IsJobOf}

abbrev pub IsBetween : OptionKey → ℕ → Type 0
IsBetween key n = (least_of key ≤ n) × (n ≤ greatest_of key)

between_under : (k key : OptionKey) (n : ℕ) → bytes_eq (name_of k) (name_of key) ≡ true → IsBetween k n → IsBetween key n
between_under k key n is between = subst (λ (j : OptionKey). IsBetween j n) (same_key k key ((bytes_eq-Decides (name_of k) (name_of key)).0 is)) between

all_between : (form : Form) (key : OptionKey) (given : List Setting) → All (IsSetting form) given → All (IsBetween key) (numbers_of key given)
all_between form key [] each = All-nil (IsBetween key)
all_between form key (number k n ∷ rest) each = step (bytes_eq (name_of k) (name_of key)) refl (all_between form key rest (All-tail (IsSetting form) (number k n) rest each))
  where
    step : (b : Bool) → bytes_eq (name_of k) (name_of key) ≡ b → All (IsBetween key) (numbers_of key rest) → All (IsBetween key) (if b then n ∷ numbers_of key rest else numbers_of key rest)
    step true is all =
        let setting : IsSetting form (number k n) = All-head (IsSetting form) (number k n) rest each in
        All-cons (IsBetween key) n (numbers_of key rest) (between_under k key n is (setting.1, setting.2)) all
    step false is all = all
all_between form key (file name ∷ rest) each = all_between form key rest (All-tail (IsSetting form) (file name) rest each)

first_between : (key : OptionKey) (ns : List ℕ) (default : ℕ) → All (IsBetween key) ns → IsBetween key default → IsBetween key (unwrap_or (slice_get ns 0) default)
first_between key [] default all between = between
first_between key (n ∷ ns) default all between = All-head (IsBetween key) n ns all

given_between : (form : Form) (key : OptionKey) (given : List Setting) (default : ℕ) → All (IsSetting form) given → IsBetween key default → IsBetween key (given_or key given default)
given_between form key given default each between = first_between key (numbers_of key given) default (all_between form key given each) between

pub record IsRingJob (asked : RingJob) : Type 0 where
  pub some : 2 ≤ asked.processes
  pub few : asked.processes ≤ 16
  pub workers : IsBetween Workers asked.workers
  pub every : IsBetween Every asked.every

bounds_of : (command : Command) (asked : RingJob) → IsCommand command → IsJobOf command (job.Ring asked) → IsRingJob asked
bounds_of (ring n given) asked is of = record {
  some = subst (λ k. 2 ≤ k) (sym of.processes) is.0;
  few = subst (λ k. k ≤ 16) (sym of.processes) is.1;
  workers = subst (IsBetween Workers) (sym of.workers) (given_between Ring Workers given 0 is.2.each (lit≤ tt, lit≤ tt));
  every = subst (IsBetween Every) (sym of.every) (given_between Ring Every given 1000 is.2.each (lit≤ tt, lit≤ tt));
}
bounds_of _ asked is of = absurd of

pub ring_bounds : (words : List Text) (asked : RingJob) → IsJob words (job.Ring asked) → IsRingJob asked
ring_bounds words asked is = bounds_of is.command asked is.spell.is is.job
