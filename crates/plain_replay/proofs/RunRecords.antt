-- A run record by record.
--     run-none_yet, run-more, run-done      so far, with one more record, at the end      refused_first      where the next one is no step
use Rattle.std.proofs.Common.{◌≡◌, ℕ, ◌+◌, ◌<◌, ◌≤◌, false, true, Bool, List, length, take, refl, sym, ap, subst, ◌∙◌, add-one}
use Rattle.std.specs.Prelude.{Some}
use Rattle.std.proofs.Math.ListN.{get_or}
use Rattle.std.proofs.Math.Seq.{take-suc}
use Rattle.std.proofs.lemmas.List.{take_all}
use Rattle.std.proofs.lemmas.Option.{slice_get-get_or}
use Rattle.sys_abi.specs.declared.record.Record.{Record}
use Rattle.plain_machine.specs.declared.plain.Plain.{Plain}
use Rattle.plain_machine.specs.Records.{step}
use Rattle.plain_machine.specs.Runs.{run}
use Rattle.plain_replay.specs.Replays.{after_told, FirstRefused}
use Rattle.plain_machine.proofs.RunLaws.{run_of_one_more}

pub run-none_yet : (start : Plain) (trace : List Record) → run start (take 0 trace) ≡ Some start
unfolding run
run-none_yet start trace = refl

pub run-more : (start g next : Plain) (trace : List Record) (n : ℕ) (r : Record) (is_step : Bool) → run start (take n trace) ≡ Some g → n < length trace
    → step g (get_or trace n r) ≡ after_told is_step next → is_step ≡ true → run start (take (n + 1) trace) ≡ Some next
run-more start g next trace n r is_step so_far inside goes steps =
    ap (λ k. run start (take k trace)) (add-one n) ∙ ap (run start) (take-suc trace n r inside)
    ∙ run_of_one_more start g (take n trace) (get_or trace n r) so_far ∙ goes ∙ ap (λ b. after_told b next) steps

pub run-done : (start g : Plain) (trace : List Record) (n : ℕ) → run start (take n trace) ≡ Some g → length trace ≤ n → run start trace ≡ Some g
run-done start g trace n so_far all = ap (run start) (sym (take_all n trace all)) ∙ so_far

pub refused_first : (start g next : Plain) (trace : List Record) (n m : ℕ) (r : Record) (is_step : Bool) → run start (take n trace) ≡ Some g → n < length trace
    → step g (get_or trace n r) ≡ after_told is_step next → is_step ≡ false → n ≡ m → FirstRefused start trace m
refused_first start g next trace n m r is_step so_far inside goes stops same =
    subst (FirstRefused start trace) same (record {
      before = g;
      refused = get_or trace n r;
      steps = so_far;
      place = slice_get-get_or trace n r inside;
      no_step = goes ∙ ap (λ b. after_told b next) stops;
    })
