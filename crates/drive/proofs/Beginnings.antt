-- A driver before its first record, and the system that comes back.
--     one_more         a guest that is taken off the list's end is put into the map
--     same_state, ready     the computation that is made stands for the state, and can be run
--     kept             what the checkpointer knows of the folder
--     unbegun          what is promised where memory is wanted for the run itself
--     at_end           the system that comes back
use Rattle.std.proofs.Common.{◌≡◌, ◌≢◌, ℕ, ◌≤◌, false, List, [], ◌∷◌, ◌++◌, length, Option, Some, None, refl, sym, ap, subst, ◌∙◌, arith}
use Rattle.std.specs.Prelude.{suc, All, is_some}
use Rattle.std.specs.FinMap as map
use Rattle.std.proofs.lemmas.List.Elements.{All-head, All-tail}
use Rattle.views.proofs.MapValues.{EachEntry}
use Rattle.sys_abi.specs.declared.identity.VPid.{VPid}
use Rattle.sys_abi.specs.declared.record.Record.{Record}
use Rattle.sys_abi.specs.Orders.{vpid_cmp}
use Rattle.sys_abi.proofs.OrderLaws.{vpid_total, vpid_exact}
use Rattle.disk_folder.specs.SeenFolder.{SeenFolder}
use Rattle.disk_folder.proofs.Stretches.{told_then}
use Rattle.plain_machine.specs.declared.kernel.PlainKernel.{PlainKernel}
use Rattle.plain_machine.specs.declared.plain.Plain.{Plain}
use Rattle.plain_machine.specs.Valid.{IsValid}
use Rattle.checkpointer.specs.OfGuestProc.Guests.{GuestPart}
use Rattle.image_codec.specs.KernelParts.{inserted}
use Rattle.image_codec.proofs.Inserted.{inserted-append}
use Rattle.image_codec.proofs.MadeMaps.{each_made}
use Rattle.image_store.specs.Slots.{last}
use Rattle.image_store.specs.StoreStates.{Known, FitsFolder, generation_after, next_generation}
use Rattle.image_store.specs.declared.set_info.SetInfo.{SetInfo}
use Rattle.trace_log.specs.declared.requests.Schedule.{Schedule}
use Rattle.trace_log.specs.LogText.{at_start}
use Rattle.trace_log.specs.Requests.{first_tally}
use Rattle.trace_log.specs.Trace.{TraceState}
use Rattle.drive.specs.HandedOn.{sunk, NewRound, Checkpointer, IsKept, plain_of, IsReady}
use Rattle.drive.specs.declared.loop_end.LoopEnd.{LoopEnd}
use Rattle.drive.specs.declared.loop_end.LoopEnd.TheVariants as loop_ended
use Rattle.drive.specs.Going.{HasEnded}
use Rattle.drive.specs.RunEnds.{EndsAt, KernelAtEnd}
use Rattle.drive.proofs.Ended.{at_memory, kernel_left}
use Rattle.drive.proofs.Starting.{starting}
use Rattle.drive.specs.Driving.{Guests, CanDrive, state_of}

each_numbered : (guests : Guests) → All (λ entry. entry.1.pid ≡ entry.0) guests → EachEntry (λ p guest. guest.pid ≡ p) guests
each_numbered [] all = tt
each_numbered (entry ∷ guests) all =
    let P : VPid × GuestPart → Type 0 = λ (e : VPid × GuestPart). e.1.pid ≡ e.0 in
    (All-head P entry guests all, each_numbered guests (All-tail P entry guests all))

numbered : (guests : Guests) → All (λ entry. entry.1.pid ≡ entry.0) guests → (p : VPid) (guest : GuestPart) → map.get (map.from_entries {R = vpid_cmp} guests) p ≡ Some guest → guest.pid ≡ p
numbered guests all p guest = each_made vpid_total vpid_exact (λ p guest. guest.pid ≡ p) guests (each_numbered guests all) p guest

abbrev pub Parts : Type 0
Parts = map.FinMap vpid_cmp GuestPart

pub same_state : (wrapped : PlainKernel) (guests : Guests) (parts : Parts) (transfer : List ℕ) → parts ≡ map.from_entries guests
    → plain_of (record { kernel = wrapped; guests = parts; transfer = transfer }) ≡ state_of wrapped guests
same_state wrapped guests parts transfer same = ap (λ (m : Parts). plain_of (record { kernel = wrapped; guests = m; transfer = transfer })) same

pub ready : (wrapped : PlainKernel) (guests : Guests) (parts : Parts) (transfer : List ℕ) → parts ≡ map.from_entries guests → IsValid (state_of wrapped guests) → All (λ entry. entry.1.pid ≡ entry.0) guests
    → IsReady (record { kernel = wrapped; guests = parts; transfer = transfer })
ready wrapped guests parts transfer same valid all = record {
  valid = subst IsValid (sym (same_state wrapped guests parts transfer same)) valid;
  numbered = λ p guest found. numbered guests all p guest (ap (λ (m : Parts). map.get m p) (sym same) ∙ found);
}

pub one_more : (before after : Guests) (p : VPid) (guest : GuestPart) (m n : map.FinMap vpid_cmp GuestPart) → before ≡ after ++ (p, guest) ∷ [] → n ≡ map.insert m p guest → inserted after n ≡ inserted before m
one_more before after p guest m n last put =
    ap (inserted after) put ∙ sym (inserted-append after ((p, guest) ∷ []) m) ∙ ap (λ es. inserted es m) (sym last)

-- a set that the next one follows has no later generation than the opening one
within : (floor : ℕ) (found : Option SetInfo) (opening : ℕ) → generation_after floor found ≡ suc opening → (info : SetInfo) → found ≡ Some info → info.generation ≤ opening
unfolding generation_after
within floor None opening next info at = absurd (cc)
within floor (Some known) opening next info at =
    let same : known ≡ info = cc in
    let bound : known.generation ≤ opening = omega arith in
    subst (λ (x : SetInfo). x.generation ≤ opening) same bound

none_some : {A : Type 0} (o : Option A) (a : A) → o ≡ Some a → o ≡ None → ⊥
none_some o a some none = cc

kept_with : (checkpointer : Checkpointer) (opening : ℕ) (store : Known) (folder : SeenFolder) → checkpointer.tally.greatest ≡ opening → checkpointer.store ≡ Some store → next_generation store ≡ suc opening → FitsFolder store folder → IsKept checkpointer folder
kept_with checkpointer opening store folder greatest stored next fits = record {
  fits = λ other is. let same : store ≡ other = cc in
      (subst (λ (s : Known). FitsFolder s folder) same fits, ap next_generation (sym same) ∙ next ∙ ap suc (sym greatest));
  above = λ files is. told_then (last files) (λ info at.
      let bound = within store.floor store.last opening next info (sym (fits files is).last ∙ at) in
      subst (λ n. info.generation ≤ n) (sym greatest) bound);
  floor = λ no_store. absurd (none_some checkpointer.store store stored no_store);
}

no_schedule : (every : Option ℕ) → false ≡ is_some every → every ≢ None → ⊥
no_schedule None is some = some refl
no_schedule (Some n) is some = cc

pub kept : (checkpointer : Checkpointer) (kernel : PlainKernel) (guests : Guests) (schedule : Schedule) (store : Option Known) (folder : SeenFolder) → checkpointer.tally ≡ first_tally schedule → checkpointer.store ≡ store
    → CanDrive kernel guests schedule store folder → schedule.every ≢ None → IsKept checkpointer folder
kept checkpointer kernel guests schedule None folder tally stored can some = absurd (no_schedule schedule.every can.stored some)
kept checkpointer kernel guests schedule (Some store) folder tally stored can some =
    kept_with checkpointer schedule.opening store folder (ap (λ t. t.greatest) tally) stored can.follows can.fits

pub unbegun : (schedule : Schedule) (g : Plain) (trace : TraceState) (taken told : Option (List ℕ)) (disk : SeenFolder) → trace.records ≡ []
    → HasEnded loop_ended.Memory schedule g trace.room trace.records g (sunk taken taken) (sunk told told) disk disk
unbegun schedule g trace taken told disk empty =
    let first : Checkpointer = record { schedule = schedule; tally = first_tally schedule; store = None; lines = at_start } in
    let begun = starting g first trace taken told disk empty refl refl in
    let none : length trace.records ≡ 0 = ap length empty in
    at_memory schedule g g NewRound trace (sunk taken taken) trace.room first (sunk told told) disk disk begun.now (omega arith)

pub at_end : (end : LoopEnd) (g h : Plain) (trace : List Record) (state : Plain) → g ≡ h → EndsAt end g trace state → KernelAtEnd h trace state.kernel
at_end end g h trace state same ends = subst (λ (x : Plain). KernelAtEnd x trace state.kernel) same (kernel_left g trace state end ends)
