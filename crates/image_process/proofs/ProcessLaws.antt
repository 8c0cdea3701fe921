-- The format of a process's image and its text say the same: its items
use Rattle.std.proofs.Common.{◌≡◌, ℕ, suc, ◌<◌, ◌^◌, ◌==◌, ◌&&◌, nat_le, nat_lt, true, false, Bool, IsTrue, List, [], ◌∷◌, length, drop, map, refl, sym, ap, subst, ◌∙◌, append_assoc, append-nil, length-drop, arith, lit<}
use Rattle.std.specs.Prelude.{All, slice_index, if◌then◌else◌}
use Rattle.std.proofs.lemmas.Bool.Decides.{nat_tests}
use Rattle.std.proofs.lemmas.List.Elements.{All-weaker, All-cons, All-tail}
use Rattle.plain_process.specs.declared.user_part.Context.{Context}
use Rattle.plain_process.specs.declared.user_part.SignalAction.{SignalAction}
use Rattle.plain_process.specs.declared.user_part.Waiter.{Waiter}
use Rattle.image_process.specs.declared.page_image.PageImage.{PageImage}
use Rattle.image_process.specs.declared.thread_image.ThreadImage.{ThreadImage}
use Rattle.image_format.specs.Format.{n8, n32, any, number_text}
use Rattle.image_format.specs.Texts.{FitsField}
use Rattle.image_process.specs.ProcessTests.{is_page_number, is_page_rights, is_page_content, is_waiting, is_context_count, is_thread_at}
use Rattle.image_process.specs.ProcessImages.{word_format, page_format, action_format, waiter_format}
use Rattle.image_process.specs.ProcessImages.{registers_format, context_format, thread_format}
use Rattle.image_process.specs.ProcessFits.{IsPage, IsWaiter, IsRegisters, IsThreadImage, ActionWords}
use Rattle.image_process.specs.ProcessFits.{ContextWords, WaiterWords, ThreadWords}
use Rattle.image_process.specs.ProcessTexts.{page_text, action_text, waiter_text, registers_text}
use Rattle.image_process.specs.ProcessTexts.{context_text, thread_text, list_text}
use Rattle.image_format.proofs.Texts.{Law, in_words, next_law, unsigned_law, raw_law, counted_law, each_law, give_law, all_from_each, each_from_all, both_from_each, each_from_both}
use Rattle.plain_process.specs.Valid.{IsWord}

abbrev IsAnyWord : ℕ → Type 0
IsAnyWord n = FitsField n32 any n

any_word : (n : ℕ) → IsWord n → IsAnyWord n
any_word n h = (h, refl)

pub word_law : Law word_format (number_text n32) (FitsField n32 any)
unfolding word_format
word_law = unsigned_law n32 any

-- pages

middle : (a b c : Bool) → (a && b && c) ≡ true → b ≡ true
middle true true c h = refl
middle true false c h = h
middle false b c h = cc

number-below : (start end : ℕ) (front : List PageImage) (n : ℕ) → IsTrue (is_page_number start end front n) → n < 2 ^ 32
unfolding is_page_number
number-below start end front n h = let below = middle _ (nat_lt n (2 ^ 20)) _ h in grind (arith, nat_tests)

rights-below : (special : Bool) (rights : ℕ) → (if special then rights == 5 else nat_le rights 7) ≡ true → rights < 2 ^ 8
rights-below true rights h = grind (arith, nat_tests)
rights-below false rights h = grind (arith, nat_tests)

pub page_law : (start end : ℕ) (front : List PageImage) → Law (page_format start end front) page_text (IsPage start end front)
unfolding page_format page_text
page_law start end front =
    in_words _ _ _ _ _
    (λ p h. simp (append_assoc, append-nil))
    (λ p h. let (number, (rights, (bytes, is))) = h in record { number = number.1; rights = rights.1; size = bytes.0; content = bytes.1 })
    (λ p h. ((number-below start end front _ h.number, h.number), ((rights-below _ _ h.rights, h.rights), ((h.size, h.content), refl))))
    (next_law _ _ _ _ _ _ (λ (p : PageImage). p.number) (unsigned_law n32 (is_page_number start end front)) (λ b p h o. sym (ap (λ (p : PageImage). p.number) o.1.1)) (λ number.
    next_law _ _ _ _ _ _ (λ (p : PageImage). p.frame.rights) (unsigned_law n8 (is_page_rights number)) (λ b p h o. sym (ap (λ (p : PageImage). p.frame.rights) o.1)) (λ rights.
    next_law _ _ _ _ _ _ (λ (p : PageImage). p.frame.page) (raw_law 4096 (is_page_content number)) (λ b p h o. sym (ap (λ (p : PageImage). p.frame.page) o)) (λ bytes.
    give_law _))))

-- rows of signals

pub action_law : Law action_format action_text ActionWords
unfolding action_format action_text
action_law =
    in_words _ _ _ _ _
    (λ a h. simp (append_assoc, append-nil))
    (λ a h. let (handler, (flags, (mask, is))) = h in record { handler = handler.0; flags = flags.0; mask = mask.0 })
    (λ a h. ((h.handler, refl), ((h.flags, refl), ((h.mask, refl), refl))))
    (next_law _ _ _ _ _ _ (λ (a : SignalAction). a.handler) word_law (λ b a h o. sym (ap (λ (a : SignalAction). a.handler) o.1.1)) (λ _.
    next_law _ _ _ _ _ _ (λ (a : SignalAction). a.flags) word_law (λ b a h o. sym (ap (λ (a : SignalAction). a.flags) o.1)) (λ _.
    next_law _ _ _ _ _ _ (λ (a : SignalAction). a.mask) word_law (λ b a h o. sym (ap (λ (a : SignalAction). a.mask) o)) (λ _.
    give_law _))))

-- waiters

pub waiter_law : (tids : List ℕ) (front : List Waiter) → Law (waiter_format tids front) waiter_text (λ w. IsWaiter tids front w × WaiterWords w)
unfolding waiter_format waiter_text
waiter_law tids front =
    in_words _ _ _ _ _
    (λ w h. simp append-nil)
    (λ w h. let (tid, (address, is)) = h in (tid.1, record { tid = tid.0; address = address.0 }))
    (λ w h. ((h.1.tid, h.0), ((h.1.address, refl), refl)))
    (next_law _ _ _ _ _ _ (λ (w : Waiter). w.tid) (unsigned_law n32 (is_waiting tids (map (λ before. before.tid) front))) (λ b w h o. sym (ap (λ (w : Waiter). w.tid) o.1)) (λ _.
    next_law _ _ _ _ _ _ (λ (w : Waiter). w.address) word_law (λ b w h o. sym (ap (λ (w : Waiter). w.address) o)) (λ _.
    give_law _)))

-- registers

split_zero : (x : List ℕ) (n : ℕ) → length x ≡ suc n → slice_index x 0 ≡ 0 → x ≡ 0 ∷ drop 1 x
split_zero [] n h e = absurd (omega arith)
split_zero (a ∷ x) n h e = ap (λ (b : ℕ). b ∷ x) e

pub registers_law : Law registers_format registers_text (λ x. IsRegisters x × All IsWord x)
unfolding registers_format registers_text
registers_law =
    in_words _ _ _ _ _
    (λ x h. append-nil _)
    (λ x h.
    let ((size, words), is) = h in
    let whole : length x ≡ 32 = ap length is ∙ ap suc size in
    let words_fit : All IsWord (drop 1 x) = All-weaker IsAnyWord IsWord (λ n fits. fits.0) (drop 1 x) (all_from_each IsAnyWord [] (drop 1 x) words) in
    (record { size = whole; zero = ap (λ (y : List ℕ). slice_index y 0) is }, subst (All IsWord) (sym is) (All-cons IsWord 0 (drop 1 x) (lit< tt) words_fit)))
    (λ x h.
    let is = split_zero x 31 h.0.size h.0.zero in
    let size : length (drop 1 x) ≡ 31 = omega (arith, length-drop 1 x, h.0.size) in
    let words_fit : All IsWord (drop 1 x) = All-tail IsWord 0 (drop 1 x) (subst (All IsWord) is h.1) in
    ((size, each_from_all IsAnyWord [] (drop 1 x) (All-weaker IsWord IsAnyWord any_word (drop 1 x) words_fit)), is))
    (next_law _ _ _ _ _ _ (λ (x : List ℕ). drop 1 x) (each_law (λ _. word_format) (number_text n32) (λ _. IsAnyWord) 31 (λ _. word_law)) (λ b x h o. sym (ap (λ (y : List ℕ). drop 1 y) o)) (λ _.
    give_law _))

-- contexts

pub context_law : Law context_format context_text (λ c. IsRegisters c.regs.x × ContextWords c)
unfolding context_format context_text
context_law =
    in_words _ _ _ _ _
    (λ c h. simp (append_assoc, append-nil))
    (λ c h. let (x, (pc, (mask, is))) = h in (x.0, record { x = x.1; pc = pc.0; mask = mask.0 }))
    (λ c h. ((h.0, h.1.x), ((h.1.pc, refl), ((h.1.mask, refl), refl))))
    (next_law _ _ _ _ _ _ (λ (c : Context). c.regs.x) registers_law (λ b c h o. sym (ap (λ (c : Context). c.regs.x) o.1.1)) (λ _.
    next_law _ _ _ _ _ _ (λ (c : Context). c.regs.pc) word_law (λ b c h o. sym (ap (λ (c : Context). c.regs.pc) o.1)) (λ _.
    next_law _ _ _ _ _ _ (λ (c : Context). c.mask) word_law (λ b c h o. sym (ap (λ (c : Context). c.mask) o)) (λ _.
    give_law _))))

-- threads

context_count-below : (n : ℕ) → IsTrue (is_context_count n) → n < 2 ^ 32
context_count-below n h = grind (arith, nat_tests)

abbrev ContextFacts : List Context → Context → Type 0
ContextFacts front c = IsRegisters c.regs.x × ContextWords c

pub thread_law : (tids : List ℕ) (front : List ThreadImage) → Law (thread_format tids front) thread_text (λ t. IsThreadImage tids front t × ThreadWords t)
unfolding thread_format thread_text list_text
thread_law tids front =
    in_words _ _ _ _ _
    (λ t h. simp (append_assoc, append-nil))
    (λ t h.
    let (tid, (x, (pc, (mask, (clear_tid, (contexts, is)))))) = h in
    let (kept, words) = both_from_each (λ _ c. IsRegisters c.regs.x) ContextWords [] t.part.contexts contexts.1 in (
      record { tid = tid.1; registers = x.0; context_count = contexts.0.1; contexts = all_from_each (λ c. IsRegisters c.regs.x) [] t.part.contexts kept },
      record { tid = tid.0; x = x.1; pc = pc.0; mask = mask.0; clear_tid = clear_tid.0; contexts = words },
    ))
    (λ t h.
    let contexts = each_from_both (λ _ c. IsRegisters c.regs.x) ContextWords [] t.part.contexts (each_from_all (λ c. IsRegisters c.regs.x) [] t.part.contexts h.0.contexts) h.1.contexts in
    ((h.1.tid, h.0.tid), ((h.0.registers, h.1.x), ((h.1.pc, refl), ((h.1.mask, refl), ((h.1.clear_tid, refl), (((context_count-below _ h.0.context_count, h.0.context_count), contexts), refl)))))))
    (next_law _ _ _ _ _ _ (λ (t : ThreadImage). t.tid) (unsigned_law n32 (is_thread_at tids (length front))) (λ b t h o. sym (ap (λ (t : ThreadImage). t.tid) o.1.1.1.1.1)) (λ _.
    next_law _ _ _ _ _ _ (λ (t : ThreadImage). t.part.regs.x) registers_law (λ b t h o. sym (ap (λ (t : ThreadImage). t.part.regs.x) o.1.1.1.1)) (λ _.
    next_law _ _ _ _ _ _ (λ (t : ThreadImage). t.part.regs.pc) word_law (λ b t h o. sym (ap (λ (t : ThreadImage). t.part.regs.pc) o.1.1.1)) (λ _.
    next_law _ _ _ _ _ _ (λ (t : ThreadImage). t.part.mask) word_law (λ b t h o. sym (ap (λ (t : ThreadImage). t.part.mask) o.1.1)) (λ _.
    next_law _ _ _ _ _ _ (λ (t : ThreadImage). t.part.clear_tid) word_law (λ b t h o. sym (ap (λ (t : ThreadImage). t.part.clear_tid) o.1)) (λ _.
    next_law _ _ _ _ _ _ (λ (t : ThreadImage). t.part.contexts) (counted_law is_context_count (λ _. context_format) context_text ContextFacts (λ _. context_law))
    (λ b t h o. sym (ap (λ (t : ThreadImage). t.part.contexts) o)) (λ _.
    give_law _)))))))
