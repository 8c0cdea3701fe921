-- The image of a process's part, which has a spelling where the part is valid.
--     own p user      what is made of it      part_back      which stands for it
--     part_spelled      and is spelled by its text
use Rattle.std.proofs.Common.{◌≡◌, ℕ, ◌<◌, ◌≤◌, ◌^◌, List, [], ◌∷◌, map as each, refl, sym, ap, ◌∙◌}
use Rattle.std.specs.Prelude.{All, Some}
use Rattle.std.specs.Ordering.{nat_cmp}
use Rattle.std.specs.Cmp.{nat_cmp_total}
use Rattle.std.specs.FinMap as map
use Rattle.std.specs.FinMap.{nat_cmp-IsAntisymmetric}
use Rattle.std.proofs.lemmas.List.Elements.{All-map}
use Rattle.sys_abi.specs.declared.identity.VPid.{VPid}
use Rattle.plain_process.specs.declared.memory.Frame.{Frame}
use Rattle.plain_process.specs.declared.user_part.UserPart.{UserPart}
use Rattle.plain_process.specs.declared.user_part.ThreadPart.{ThreadPart}
use Rattle.plain_process.specs.declared.user_part.Waiter.{Waiter}
use Rattle.plain_process.specs.Valid.{IsWord, IsAction, IsThread, IsUser, IsWaiter}
use Rattle.plain_tables.proofs.Entries.{found_at}
use Rattle.image_process.specs.declared.process_image.ProcImage.{ProcImage}
use Rattle.image_process.specs.ProcessImages.{SpellsProcess}
use Rattle.image_process.specs.ProcessFits.{ImageWords, ActionWords, ThreadWords, WaiterWords, threads_of}
use Rattle.image_process.specs.ProcessTexts.{process_text}
use Rattle.image_process.specs.UserParts.{page_entry, thread_entry, user_of}
use Rattle.image_process.proofs.FittingParts.{each_entry, image_fits}
use Rattle.image_process.proofs.ProcessFiles as process
use Rattle.image_codec.proofs.UserImages.{image_of, page_image, thread_image}

-- a weaker fact of each item
all_weaker : {X : Type 0} (P Q : X → Type 0) (xs : List X) → ((x : X) → P x → Q x) → All P xs → All Q xs
all_weaker P Q xs to are = λ i d inside. to _ (are i d inside)

-- what is made of a part stands for it
module _ (p : VPid) (user : UserPart) where
  abbrev pub own : ProcImage
  own = image_of (p, user)

  pages_listed : (es : List (ℕ × Frame)) → each page_entry (each page_image es) ≡ es
  pages_listed [] = refl
  pages_listed (e ∷ es) = ap (λ (rest : List (ℕ × Frame)). e ∷ rest) (pages_listed es)

  pub threads_listed : (es : List (ℕ × ThreadPart)) → each thread_entry (each thread_image es) ≡ es
  threads_listed [] = refl
  threads_listed (e ∷ es) = ap (λ (rest : List (ℕ × ThreadPart)). e ∷ rest) (threads_listed es)

  entries_back : {X : Type 0} (m : map.FinMap nat_cmp X) → map.from_entries {R = nat_cmp} (map.entries m) ≡ m
  entries_back m = map.same_map nat_cmp_total nat_cmp-IsAntisymmetric (map.from_entries (map.entries m)) m (λ q. map.get-from_entries nat_cmp_total (map.entries m) q ∙ sym (map.get-entries m q))

  pub part_back : user_of own ≡ user
  unfolding user_of
  part_back =
      let memory = ap map.from_entries (pages_listed (map.entries user.memory)) ∙ entries_back user.memory in
      let threads = ap map.from_entries (threads_listed (map.entries user.threads)) ∙ entries_back user.threads in
      λ i. record user { memory = memory i; threads = threads i }

  module _ (is : IsUser user) (small : p.0 < 2 ^ 32) where
    waiter_words : (w : Waiter) → IsWaiter user.threads w → WaiterWords w
    waiter_words w waits =
        let (thread, known) = found_at nat_cmp_total nat_cmp-IsAntisymmetric user.threads w.tid waits.thread in
        record { tid = is.thread_numbers w.tid thread known; address = waits.address }

    thread_words : (e : ℕ × ThreadPart) → IsWord e.0 × IsThread e.1 → ThreadWords (thread_image e)
    thread_words e facts =
        let thread = facts.1 in
        record {
          tid = facts.0;
          x = thread.regs.words;
          pc = thread.regs.pc;
          mask = thread.mask;
          clear_tid = thread.clear_tid;
          contexts = λ i d inside. let context = thread.contexts i d inside in record { x = context.0.words; pc = context.0.pc; mask = context.1 };
        }

    words : ImageWords own
    words = record {
      number = small;
      actions = all_weaker IsAction ActionWords user.actions (λ a action. record { handler = action.handler; flags = action.flags; mask = action.mask }) is.handlers;
      waiters = all_weaker (IsWaiter user.threads) WaiterWords user.waiters waiter_words is.waiters;
      threads = All-map ThreadWords thread_image (map.entries user.threads)
          (all_weaker (λ (e : ℕ × ThreadPart). IsWord e.0 × IsThread e.1) (λ e. ThreadWords (thread_image e)) (map.entries user.threads) thread_words
          (each_entry (λ t thread. IsWord t × IsThread thread) user.threads (λ t thread found. (is.thread_numbers t thread found, is.threads t thread found))));
    }

    pub part_spelled : 1 ≤ map.len user.threads → SpellsProcess (Some p.0) (threads_of own) (process_text own) own
    part_spelled some = process.of_text (Some p.0) (threads_of own) (process_text own) own (record {
      keeps = image_fits own user (record { pages = pages_listed (map.entries user.memory); threads = threads_listed (map.entries user.threads); break_start = refl; break_end = refl; actions = refl; waiters = refl }) is some;
      words = words;
      text_is = refl;
    })
