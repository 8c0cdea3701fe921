-- The format of a process's image and its text say the same, and what a reading of it tells
use Rattle.std.proofs.Common.{◌≡◌, ℕ, ◌<◌, ◌≤◌, ◌^◌, ◌⊎◌, true, false, IsTrue, List, [], ◌∷◌, ◌++◌, length, Option, Ok, Err, refl, sym, ap, subst, append_assoc, append-nil, arith}
use Rattle.std.specs.Prelude.{All}
use Rattle.std.specs.List.{flat_map}
use Rattle.std.proofs.lemmas.Bool.Decides.{nat_tests}
use Rattle.std.proofs.lemmas.List.Elements.{All-nil, All-cons}
use Rattle.std.proofs.lemmas.Slice.Eq.{bytes_eq-Decides}
use Rattle.image_process.specs.declared.thread_image.ThreadImage.{ThreadImage}
use Rattle.image_process.specs.declared.process_image.ProcImage.{ProcImage}
use Rattle.image_format.specs.Fields.{is_bytes}
use Rattle.image_format.specs.Files.{FileLaws}
use Rattle.image_format.specs.Format.{n32, any, number_text, Spells, SpellsFile}
use Rattle.image_format.specs.Reading.{read}
use Rattle.image_format.specs.Texts.{EachFrom}
use Rattle.image_process.specs.ProcessTests.{is_number, is_break_start, is_break_end, is_page_count, is_count_of_threads, is_context_count}
use Rattle.image_process.specs.ProcessImages.{PROCESS_MAGIC, page_format, action_format, waiter_format}
use Rattle.image_process.specs.ProcessImages.{thread_format, process_format, is_whole_process, SpellsProcess}
use Rattle.image_process.specs.ProcessImages.{DamagedProcess}
use Rattle.image_process.specs.ProcessFits.{IsPage, IsWaiter, IsThreadImage, ActionWords, WaiterWords}
use Rattle.image_process.specs.ProcessFits.{ThreadWords, ImageFields, ImageWords, IsImage}
use Rattle.image_process.specs.ProcessTexts.{page_text, action_text, waiter_text, thread_text, process_text}
use Rattle.image_process.specs.ProcessTexts.{list_text, IsProcessText}
use Rattle.image_process.proofs.DistinctWaiters.{few_waiters}
use Rattle.image_format.proofs.Numerals.{AllBytes}
use Rattle.image_format.proofs.Texts.{Law, in_words, next_law, unsigned_law, raw_law, counted_law, each_law, give_law, all_from_each, each_from_all, both_from_each, each_from_both}
use Rattle.image_process.proofs.ProcessLaws.{page_law, action_law, waiter_law, thread_law}
use Rattle.image_format.proofs.WholeFiles.{spells_whole, only_value, no_value, no_value_after, laws_of}
use Rattle.image_format.proofs.Laws.{spelled_read}

break_start-below : (n : ℕ) → IsTrue (is_break_start n) → n < 2 ^ 32
break_start-below n h = grind (arith, nat_tests)

break_end-below : (start n : ℕ) → IsTrue (is_break_end start n) → n < 2 ^ 32
break_end-below start n h = grind (arith, nat_tests)

pub break-order : (start n : ℕ) → IsTrue (is_break_end start n) → start ≤ n
break-order start n h = grind (arith, nat_tests)

page_count-below : (n : ℕ) → IsTrue (is_page_count n) → n < 2 ^ 32
page_count-below n h = grind (arith, nat_tests)

thread_count-below : (tids : List ℕ) (n : ℕ) → IsTrue (is_count_of_threads tids n) → n < 2 ^ 32
thread_count-below tids n h = grind (arith, nat_tests)

-- no more wait than there are threads
few_tids : (tids : List ℕ) (n : ℕ) → IsTrue (is_count_of_threads tids n) → length tids ≤ 64
few_tids tids n h = grind (arith, nat_tests)

pub waiter_count-below : (pid : Option ℕ) (tids : List ℕ) (p : ProcImage) → ImageFields pid tids p → length p.waiters < 2 ^ 32
waiter_count-below pid tids p f = omega (arith, few_tids tids (length p.threads) f.thread_count, few_waiters tids p.waiters f.waiters)

context_count-below : (n : ℕ) → IsTrue (is_context_count n) → n < 2 ^ 32
context_count-below n h = grind (arith, nat_tests)

pub few_contexts : (tids : List ℕ) (front threads : List ThreadImage) → EachFrom (IsThreadImage tids) front threads → All (λ thread. length thread.part.contexts < 2 ^ 32) threads
unfolding EachFrom
few_contexts tids front [] h = All-nil (λ thread. length thread.part.contexts < 2 ^ 32)
few_contexts tids front (thread ∷ threads) h =
    All-cons (λ t. length t.part.contexts < 2 ^ 32) thread threads (context_count-below _ h.0.context_count) (few_contexts tids (front ++ thread ∷ []) threads h.1)

abbrev pub Facts : Option ℕ → List ℕ → ProcImage → Type 0
Facts pid tids p = ImageFields pid tids p × ImageWords p

regroup : (m a b c d e f g : List ℕ) → m ++ (a ++ (b ++ (c ++ (d ++ (e ++ (f ++ (g ++ []))))))) ≡ m ++ a ++ b ++ c ++ d ++ e ++ f ++ g
regroup m a b c d e f g = simp (append_assoc, append-nil)

pub process_law : (pid : Option ℕ) (tids : List ℕ) → Law (process_format pid tids) process_text (Facts pid tids)
unfolding process_format process_text list_text
process_law pid tids =
    in_words _ _ _ _ _
    (λ p h.
    regroup PROCESS_MAGIC (number_text n32 p.pid.0) (number_text n32 p.break_start) (number_text n32 p.break_end) (list_text page_text p.pages) (flat_map action_text p.actions)
    (list_text waiter_text p.waiters) (list_text thread_text p.threads))
    (λ p h.
    let (magic, (number, (start, (end, (pages, (actions, (waiters, (threads, is)))))))) = h in
    let (waiting, waiter_words) = both_from_each (IsWaiter tids) WaiterWords [] p.waiters waiters.1 in
    let (running, thread_words) = both_from_each (IsThreadImage tids) ThreadWords [] p.threads threads.1 in (
      record {
        number = number.1;
        break_start = start.1;
        break_end = end.1;
        page_count = pages.0.1;
        pages = pages.1;
        actions = actions.0;
        waiters = waiting;
        thread_count = threads.0.1;
        threads = running;
      },
      record { number = number.0; actions = all_from_each ActionWords [] p.actions actions.1; waiters = waiter_words; threads = thread_words },
    ))
    (λ p h.
    let f = h.0 in
    let w = h.1 in (
      (refl, refl),
      (
        (w.number, f.number),
        (
          (break_start-below _ f.break_start, f.break_start),
          (
            (break_end-below _ _ f.break_end, f.break_end),
            (
              ((page_count-below _ f.page_count, f.page_count), f.pages),
              (
                (f.actions, each_from_all ActionWords [] p.actions w.actions),
                (
                  ((waiter_count-below pid tids p f, refl), each_from_both (IsWaiter tids) WaiterWords [] p.waiters f.waiters w.waiters),
                  (((thread_count-below tids _ f.thread_count, f.thread_count), each_from_both (IsThreadImage tids) ThreadWords [] p.threads f.threads w.threads), refl),
                ),
              ),
            ),
          ),
        ),
      ),
    ))
    (next_law _ _ _ _ _ _ (λ (p : ProcImage). PROCESS_MAGIC) (raw_law 8 (is_bytes PROCESS_MAGIC)) (λ b p h o. (bytes_eq-Decides b PROCESS_MAGIC).0 h.1) (λ _.
    next_law _ _ _ _ _ _ (λ (p : ProcImage). p.pid.0) (unsigned_law n32 (is_number pid)) (λ b p h o. sym (ap (λ (p : ProcImage). p.pid.0) o.1.1.1.1.1.1)) (λ _.
    next_law _ _ _ _ _ _ (λ (p : ProcImage). p.break_start) (unsigned_law n32 is_break_start) (λ b p h o. sym (ap (λ (p : ProcImage). p.break_start) o.1.1.1.1.1)) (λ start.
    next_law _ _ _ _ _ _ (λ (p : ProcImage). p.break_end) (unsigned_law n32 (is_break_end start)) (λ b p h o. sym (ap (λ (p : ProcImage). p.break_end) o.1.1.1.1)) (λ end.
    next_law _ _ _ _ _ _ (λ (p : ProcImage). p.pages) (counted_law is_page_count (page_format start end) page_text (IsPage start end) (page_law start end))
    (λ b p h o. sym (ap (λ (p : ProcImage). p.pages) o.1.1.1)) (λ _.
    next_law _ _ _ _ _ _ (λ (p : ProcImage). p.actions) (each_law (λ _. action_format) action_text (λ _. ActionWords) 31 (λ _. action_law))
    (λ b p h o. sym (ap (λ (p : ProcImage). p.actions) o.1.1)) (λ _.
    next_law _ _ _ _ _ _ (λ (p : ProcImage). p.waiters) (counted_law any (waiter_format tids) waiter_text (λ front w. IsWaiter tids front w × WaiterWords w) (waiter_law tids))
    (λ b p h o. sym (ap (λ (p : ProcImage). p.waiters) o.1)) (λ _.
    next_law _ _ _ _ _ _ (λ (p : ProcImage). p.threads) (counted_law (is_count_of_threads tids) (thread_format tids) thread_text (λ front t. IsThreadImage tids front t × ThreadWords t) (thread_law tids))
    (λ b p h o. sym (ap (λ (p : ProcImage). p.threads) o)) (λ _.
    give_law _)))))))))

-- in the words of the writer

pub text_of : (pid : Option ℕ) (tids text : List ℕ) (p : ProcImage) → SpellsProcess pid tids text p → IsProcessText pid tids text p
unfolding SpellsFile
text_of pid tids text p s =
    let (text_is, facts) = (process_law pid tids).only text p s.0 in
    record { keeps = record { fields = facts.0; whole = s.1 }; words = facts.1; text_is = text_is }

pub of_text : (pid : Option ℕ) (tids text : List ℕ) (p : ProcImage) → IsProcessText pid tids text p → SpellsProcess pid tids text p
unfolding SpellsFile
of_text pid tids text p s =
    (subst (λ (t : List ℕ). Spells (process_format pid tids) t p) (sym s.text_is) ((process_law pid tids).again p (s.keeps.fields, s.words)), s.keeps.whole)

-- what a file tells of its value
pub image_of : (pid : Option ℕ) (tids text : List ℕ) (p : ProcImage) → SpellsProcess pid tids text p → IsImage pid tids p
image_of pid tids text p s = (text_of pid tids text p s).keeps

pub laws : (pid : Option ℕ) (tids : List ℕ) → FileLaws (SpellsProcess pid tids) (DamagedProcess pid tids)
laws pid tids = laws_of (process_format pid tids) is_whole_process process_text (Facts pid tids) (process_law pid tids)

module _ (pid : Option ℕ) (tids text : List ℕ) (p : ProcImage) (rest : List ℕ) (e : read (process_format pid tids) text ≡ Ok (p, rest)) where
  -- the fields of an image that was read
  pub fields : AllBytes text → ImageFields pid tids p
  fields bytes = let front = spelled_read (process_format pid tids) text p rest bytes e in let (is_text, facts) = (process_law pid tids).only front.first p front.spells in facts.0

  pub found : AllBytes text → rest ≡ [] → is_whole_process p ≡ true → SpellsProcess pid tids text p
  found bytes none passes = spells_whole (process_format pid tids) is_whole_process text p rest bytes e none passes

  pub only : (q : ProcImage) → SpellsProcess pid tids text q → p ≡ q
  only q s = only_value (process_format pid tids) is_whole_process text p q rest e s

  pub none_after : (0 < length rest) ⊎ (is_whole_process p ≡ false) → (q : ProcImage) → SpellsProcess pid tids text q → ⊥
  none_after why q s = no_value_after (process_format pid tids) is_whole_process text p rest q e why s

pub none_left : (pid : Option ℕ) (tids text : List ℕ) (left : ℕ) → read (process_format pid tids) text ≡ Err left → (q : ProcImage) → SpellsProcess pid tids text q → ⊥
none_left pid tids text left e q s = no_value (process_format pid tids) is_whole_process text left q e s
