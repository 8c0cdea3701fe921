-- The processes of a valid kernel part, with their threads and descriptors, fit the fields of the shared image.
--     process_fits      each of them, after those before it
use Rattle.std.proofs.Common.{◌≡◌, ℕ, ◌+◌, ◌<◌, ◌≤◌, ◌^◌, ◌==◌, ◌&&◌, ◌||◌, Less, Bool, true, false, List, [], ◌∷◌, length, filter, map as each, inl, inr, refl, sym, ap, subst, ◌∙◌, arith, lit<}
use Rattle.std.specs.Prelude.{not, nat_le, nat_lt, Option, Some, None, is_some, option_map}
use Rattle.std.specs.List.{AllByRecursion, list_any}
use Rattle.std.specs.Ordering.{nat_cmp, ordering_then}
use Rattle.std.specs.Cmp.{nat_cmp_total}
use Rattle.std.specs.FinMap as map
use Rattle.std.specs.FinMap.{nat_cmp-IsAntisymmetric}
use Rattle.std.proofs.lemmas.Bool.Decides.{nat_tests}
use Rattle.std.proofs.lemmas.List.{length-map}
use Rattle.views.specs.NumberMap.{is_above}
use Rattle.views.proofs.MapLaws.{true_false}
use Rattle.views.proofs.MapValues.{EachEntry, each_entry}
use Rattle.sys_abi.specs.declared.identity.VPid.{VPid}
use Rattle.sys_abi.specs.declared.identity.Slot.{Slot}
use Rattle.sys_abi.specs.Orders.{vpid_cmp, slot_cmp}
use Rattle.sys_abi.specs.Lives.{lives}
use Rattle.sys_abi.specs.declared.life.Life.{Life}
use Rattle.sys_abi.specs.declared.life.Life.TheVariants.{Live, Zombie}
use Rattle.sys_abi.proofs.OrderLaws.{vpid_total, vpid_exact, slot_total, slot_exact, desc_total, desc_exact, conn_total, conn_exact}
use Rattle.plain_machine.specs.declared.kernel.PlainKernel.{PlainKernel}
use Rattle.plain_machine.specs.Kernels.{IsKernel}
use Rattle.plain_tables.specs.declared.process.Process.{Process}
use Rattle.sys_abi.specs.declared.maker.Maker.{Maker}
use Rattle.sys_abi.specs.declared.descriptor.Descriptor.{Descriptor}
use Rattle.plain_tables.specs.Tables.{is_live_process, lives_in, has_thread_in, pid}
use Rattle.plain_tables.specs.Valid.Processes.{FitsLife, HasParent, IsGivenOut, IsParent, IsProcess}
use Rattle.plain_tables.specs.Valid.Descriptions.{IsMade}
use Rattle.plain_tables.proofs.Entries.{found_at}
use Rattle.shared_items.specs.declared.shared.ChannelImage.{ChannelImage}
use Rattle.shared_items.specs.declared.shared.DescriptionImage.{DescriptionImage}
use Rattle.shared_items.specs.declared.shared.ThreadEntry.{ThreadEntry}
use Rattle.shared_items.specs.declared.shared.DescriptorEntry.{DescriptorEntry}
use Rattle.shared_items.specs.declared.shared.ProcessEntry.{ProcessEntry}
use Rattle.shared_items.specs.SharedTests as field
use Rattle.shared_items.specs.SharedFits.{FitsNumber, ThreadFits, DescriptorFits, LifeFits, ProcessFits}
use Rattle.image_format.specs.Fields.{last_item, is_within}
use Rattle.image_format.specs.Texts.{EachFrom}
use Rattle.image_format.proofs.Rising.{RisesFrom, IsAfter, each_rising, all_from}
use Rattle.image_codec.specs.KernelImages.{process_image, maker_or, thread_image, description_image, descriptor_image, channel_image, is_of}
use Rattle.image_codec.proofs.Listings.{IsSplit, IsBefore, IsLast, each_split, last_before, none_before, some_before, some_image, which_image, all_images}
use Rattle.image_codec.proofs.HeldImages.{own, own_entries, own_found, live_one, same_pair}
use Rattle.image_codec.proofs.TestFacts.{both_true, or_later, not_true, same_number, equal_numbers, other_number, is_below, is_at_most, below_number}

-- tests
given_out : (next_id n : ℕ) → IsGivenOut next_id n → field.is_given_out next_id n ≡ true
given_out next_id n given = both_true (nat_le 40000 n) (nat_lt n next_id) (is_at_most 40000 n given.0) (is_below n next_id given.1)

second_after : (a b c : ℕ) → ordering_then (nat_cmp a a) (nat_cmp b c) ≡ Less → b < c
second_after a b c h = grind (arith, nat_tests)

-- numbers that rise below a bound
rising_room : (n before : ℕ) (ks : List ℕ) → before < n → RisesFrom nat_cmp (Some before) ks → AllByRecursion (λ k. k < n) ks → length ks + before < n
rising_room n before [] small rises below = omega arith
rising_room n before (k ∷ ks) small rises below =
    let rest = rising_room n k ks below.0 rises.1 below.1 in
    let above = below_number before k rises.0 in
    omega arith

pub few_rising : (n : ℕ) (ks : List ℕ) → RisesFrom nat_cmp None ks → AllByRecursion (λ k. k < n) ks → length ks ≤ n
few_rising n [] rises below = omega arith
few_rising n (k ∷ ks) rises below = let rest = rising_room n k ks below.0 rises.1 below.1 in omega arith

all_of_each : {A B : Type 0} (f : A → B) (P : B → Type 0) (xs : List A) → AllByRecursion (λ x. P (f x)) xs → AllByRecursion P (each f xs)
all_of_each f P [] are = tt
all_of_each f P (x ∷ xs) are = (are.0, all_of_each f P xs are.1)

module _ (k : PlainKernel) (is : IsKernel k) where
  limit : k.next_id < 2 ^ 31
  limit = is.numbers.last_id

  -- threads of a process
  listed_thread : (n : ℕ) (q : VPid) (other : Process) → map.get k.processes q ≡ Some other → field.lists_thread n (process_image k (q, other)) ≡ true → has_thread_in n (map.get k.processes q) ≡ true
  listed_thread n q other there some =
      let (t, signals, found, same) = which_image nat_cmp_total nat_cmp-IsAntisymmetric thread_image (λ (thread : ThreadEntry). thread.tid == n) other.threads some in
      let number : t ≡ n = equal_numbers t n same in
      ap (has_thread_in n) there ∙ ap (λ m. is_some (map.get other.threads m)) (sym number) ∙ ap is_some found

  has_thread : (p : VPid) (process : Process) (t signals : ℕ) → map.get k.processes p ≡ Some process → map.get process.threads t ≡ Some signals → has_thread_in t (map.get k.processes p) ≡ true
  has_thread p process t signals there found = ap (has_thread_in t) there ∙ ap is_some found

  -- the processes in front of one
  module _ (p : VPid) (process : Process) (xs : List (VPid × Process)) (split : IsSplit vpid_total vpid_exact k.processes xs (p, process)) where
    abbrev front : List ProcessEntry
    front = each (process_image k) xs

    there : map.get k.processes p ≡ Some process
    there = split.found

    not_itself : (q : VPid) → vpid_cmp q p ≡ Less → q ≡ p → ⊥
    not_itself q less same = let below = below_number q.0 p.0 less in let number : q.0 ≡ p.0 = ap (λ (r : VPid). r.0) same in omega arith

    one : IsProcess k.next_id p process
    one = is.processes.each p process there

    maker : Maker
    maker = maker_or (map.get k.makers p)

    made_by : map.get k.makers p ≡ Some maker
    unfolding maker
    made_by =
        let (found, known) = found_at vpid_total vpid_exact k.makers p (is.makers.same p ∙ ap is_some there) in
        known ∙ (λ i. Some (maker_or (sym known i)))

    above_last : is_above (field.last_process front) p.0 ≡ true
    above_last = by_last (last_item front) (last_before vpid_total vpid_exact (process_image k) (IsBefore vpid_total vpid_exact k.processes p) xs split.before)
      where
        by_last : (last : Option ProcessEntry) → IsLast vpid_total vpid_exact (process_image k) (IsBefore vpid_total vpid_exact k.processes p) last → is_above (option_map (λ (e : ProcessEntry). e.pid.0) last) p.0 ≡ true
        by_last last (inl none) = ap (λ (l : Option ProcessEntry). is_above (option_map (λ (e : ProcessEntry). e.pid.0) l) p.0) none
        by_last last (inr (q, v, some, before)) =
            ap (λ (l : Option ProcessEntry). is_above (option_map (λ (e : ProcessEntry). e.pid.0) l) p.0) some ∙ is_below q.0 p.0 (below_number q.0 p.0 before.1)

    -- a process's number is no other's thread
    no_thread_of_it : list_any (field.lists_thread p.0) front ≡ false
    no_thread_of_it = none_before vpid_total vpid_exact (process_image k) (field.lists_thread p.0) (IsBefore vpid_total vpid_exact k.processes p) xs split.before (λ q v before.
        not_true (field.lists_thread p.0 (process_image k (q, v))) (λ some.
        not_itself q before.1 (is.processes.own_number q p (listed_thread p.0 q v before.0 some) (ap is_some there))))

    number_fits : FitsNumber (field.is_process_number k.next_id front) p.0
    number_fits =
        let (least, most) = one.number in
        let none = no_thread_of_it in
        (omega (arith, limit, most), both_true (is_above (field.last_process front) p.0 && field.is_given_out k.next_id p.0) _ (both_true (is_above (field.last_process front) p.0) _ above_last (given_out k.next_id p.0 one.number)) (λ i. not (none i)))

    parent_listed : IsParent k.processes k.makers p process.parent → list_any (field.is_live_entry process.parent) front ≡ true
    parent_listed parent =
        let (other, known, alive) = live_one k.processes (pid process.parent) parent.alive in
        let below : process.parent < p.0 = parent.below in
        some_before vpid_total vpid_exact (process_image k) (field.is_live_entry process.parent) xs (pid process.parent) other (split.below (pid process.parent) other known (less_number process.parent p.0 below))
        (λ i. same_number process.parent i && alive i)
      where
        less_number : (m n : ℕ) → m < n → nat_cmp m n ≡ Less
        less_number m n h = grind (arith, nat_tests)

    parent_fits : FitsNumber (field.is_parent front) process.parent
    parent_fits = by_life process.life (is.parents.each p process there)
      where
        parent_is : IsParent k.processes k.makers p process.parent → FitsNumber (field.is_parent front) process.parent
        parent_is parent =
            let (least, most) = one.number in
            let below : process.parent < p.0 = parent.below in
            (omega (arith, limit, most, below), or_later (process.parent == 1) _ (parent_listed parent))

        by_life : (life : Life) → HasParent k.processes k.makers p process.parent life → FitsNumber (field.is_parent front) process.parent
        by_life Live (inl nobody) = (omega (arith, nobody), ap (λ n. (n == 1) || list_any (field.is_live_entry n) front) nobody)
        by_life Live (inr parent) = parent_is parent
        by_life (Zombie status) has = parent_is has.0

    host_fits : FitsNumber field.is_host maker.host
    host_fits = let small = is.makers.hosts p maker made_by in (omega (arith, small), is_below maker.host 16 small)

    made_fits : maker.made < 2 ^ 32
    made_fits = is.makers.counts p maker made_by

    -- a live process gave each number below its running number
    below_made : lives process.life ≡ true → (by : VPid) (number : ℕ) → IsMade k.next_id k.processes k.makers by number → field.is_number_below p.0 maker.made by.0 number ≡ true
    below_made alive by number made = by_test (by.0 == p.0) refl
      where
        by_test : (b : Bool) → (by.0 == p.0) ≡ b → (not b || nat_lt number maker.made) ≡ true
        by_test false other = refl
        by_test true same =
            let number_is : by.0 ≡ p.0 = equal_numbers by.0 p.0 same in
            let mine : by ≡ p = λ i. record { 0 = number_is i } in
            let lives_there : lives_in k.processes p ≡ true = ap (λ (o : Option Process). is_live_process o) there ∙ alive in
            is_below number maker.made (made.below maker (ap (map.get k.makers) mine ∙ made_by) (ap (lives_in k.processes) mine ∙ lives_there))

    -- a thread's number is no other process's, and no other's thread
    threads_fit : EachFrom (ThreadFits k.next_id front) [] (each thread_image (map.entries process.threads))
    threads_fit = each_split nat_cmp_total nat_cmp-IsAntisymmetric thread_image process.threads (ThreadFits k.next_id front) (λ ys e thread.
        let (given, signals) = one.threads e.0 e.1 thread.found in
        let (least, most) = given in
        let small : e.1 < 2 ^ 31 = signals in
        let none = no_other ys e thread in
        record {
          number = (omega (arith, limit, most), both_true (is_above (field.last_thread (each thread_image ys)) e.0 && field.is_given_out k.next_id e.0) _ (both_true (is_above (field.last_thread (each thread_image ys)) e.0) _ (after_last ys e thread) (given_out k.next_id e.0 given)) (λ i. not (none i)));
          pending = (omega (arith, small), is_below e.1 (2 ^ 31) small);
        })
      where
        after_last : (ys : List (ℕ × ℕ)) (e : ℕ × ℕ) → IsSplit nat_cmp_total nat_cmp-IsAntisymmetric process.threads ys e → is_above (field.last_thread (each thread_image ys)) e.0 ≡ true
        after_last ys e thread = by_last (last_item (each thread_image ys)) (last_before nat_cmp_total nat_cmp-IsAntisymmetric thread_image (IsBefore nat_cmp_total nat_cmp-IsAntisymmetric process.threads e.0) ys thread.before)
          where
            by_last : (last : Option ThreadEntry) → IsLast nat_cmp_total nat_cmp-IsAntisymmetric thread_image (IsBefore nat_cmp_total nat_cmp-IsAntisymmetric process.threads e.0) last → is_above (option_map (λ (t : ThreadEntry). t.tid) last) e.0 ≡ true
            by_last last (inl none) = ap (λ (l : Option ThreadEntry). is_above (option_map (λ (t : ThreadEntry). t.tid) l) e.0) none
            by_last last (inr (q, v, some, before)) = ap (λ (l : Option ThreadEntry). is_above (option_map (λ (t : ThreadEntry). t.tid) l) e.0) some ∙ is_below q e.0 (below_number q e.0 before.1)

        no_other : (ys : List (ℕ × ℕ)) (e : ℕ × ℕ) → IsSplit nat_cmp_total nat_cmp-IsAntisymmetric process.threads ys e → list_any (field.is_number_of e.0) front ≡ false
        no_other ys e thread =
            let mine = has_thread p process e.0 e.1 there thread.found in
            none_before vpid_total vpid_exact (process_image k) (field.is_number_of e.0) (IsBefore vpid_total vpid_exact k.processes p) xs split.before (λ q v before.
            let not_pid : (q.0 == e.0) ≡ false = other_number q.0 e.0 (λ same. not_itself q before.1 (sym (is.processes.own_number p q (subst (λ n. has_thread_in n (map.get k.processes p) ≡ true) (sym same) mine) (ap is_some before.0)))) in
            let not_thread : field.lists_thread e.0 (process_image k (q, v)) ≡ false =
            not_true (field.lists_thread e.0 (process_image k (q, v))) (λ some. not_itself q before.1 (is.processes.threads_apart q p e.0 (listed_thread e.0 q v before.0 some) mine)) in
            λ i. not_pid i || not_thread i)

    -- descriptors
    abbrev mine : map.FinMap slot_cmp Descriptor
    mine = own k.descriptors p

    own_fit : EachFrom (DescriptorFits (each (description_image k.listeners) (map.entries k.descriptions))) [] (each descriptor_image (map.entries mine))
    own_fit = each_split slot_total slot_exact descriptor_image mine (DescriptorFits (each (description_image k.listeners) (map.entries k.descriptions))) (λ ys e slot.
        let (found, of_p) = own_found k.descriptors p e.0 e.1 slot.found in
        let small = is.descriptors.number e.0 e.1 found in
        let (description, known) = found_at desc_total desc_exact k.descriptions e.1.desc (is.descriptors.described e.0 e.1 found) in
        let made = is.made.opened e.1.desc description known in
        let by_known : e.1.desc.pid.0 < k.next_id = made.known in
        let word = made.word in
        record {
          number = (omega (arith, small), both_true (is_above (field.last_descriptor (each descriptor_image ys)) e.0.fd) _ (after_last ys e slot of_p) (is_below e.0.fd 256 small));
          maker = (omega (arith, limit, by_known), refl);
          described = (omega (arith, word), some_image desc_total desc_exact (description_image k.listeners) (λ (it : DescriptionImage). field.is_pair e.1.desc.pid.0 e.1.desc.num it.id) k.descriptions e.1.desc description known (same_pair e.1.desc e.1.desc refl));
        })
      where
        after_last : (ys : List (Slot × Descriptor)) (e : Slot × Descriptor) → IsSplit slot_total slot_exact mine ys e → e.0.pid ≡ p → is_above (field.last_descriptor (each descriptor_image ys)) e.0.fd ≡ true
        after_last ys e slot of_p = by_last (last_item (each descriptor_image ys)) (last_before slot_total slot_exact descriptor_image (IsBefore slot_total slot_exact mine e.0) ys slot.before)
          where
            by_last : (last : Option DescriptorEntry) → IsLast slot_total slot_exact descriptor_image (IsBefore slot_total slot_exact mine e.0) last → is_above (option_map (λ (d : DescriptorEntry). d.number) last) e.0.fd ≡ true
            by_last last (inl none) = ap (λ (l : Option DescriptorEntry). is_above (option_map (λ (d : DescriptorEntry). d.number) l) e.0.fd) none
            by_last last (inr (q, v, some, before)) =
                let also = (own_found k.descriptors p q v before.0).1 in
                let number : q.pid.0 ≡ e.0.pid.0 = ap (λ (r : VPid). r.0) (also ∙ sym of_p) in
                let rises : ordering_then (nat_cmp e.0.pid.0 e.0.pid.0) (nat_cmp q.fd e.0.fd) ≡ Less = ap (λ n. ordering_then (nat_cmp n e.0.pid.0) (nat_cmp q.fd e.0.fd)) (sym number) ∙ before.1 in
                ap (λ (l : Option DescriptorEntry). is_above (option_map (λ (d : DescriptorEntry). d.number) l) e.0.fd) some ∙ is_below q.fd e.0.fd (second_after e.0.pid.0 q.fd e.0.fd rises)

    abbrev entries_of : List DescriptorEntry
    entries_of = each descriptor_image (filter (is_of p) (map.entries k.descriptors))

    descriptors_fit : EachFrom (DescriptorFits (each (description_image k.listeners) (map.entries k.descriptions))) [] entries_of
    descriptors_fit = subst (λ (es : List (Slot × Descriptor)). EachFrom (DescriptorFits (each (description_image k.listeners) (map.entries k.descriptions))) [] (each descriptor_image es)) (own_entries k.descriptors p) own_fit

    few_descriptors : length entries_of ≤ 256
    few_descriptors =
        let fits = descriptors_fit in
        let rises = each_rising nat_cmp (λ (d : DescriptorEntry). d.number) (DescriptorFits (each (description_image k.listeners) (map.entries k.descriptions))) number_rises [] entries_of fits in
        let below = all_of_each (λ (d : DescriptorEntry). d.number) (λ n. n < 256) entries_of (all_from (DescriptorFits (each (description_image k.listeners) (map.entries k.descriptions))) (λ d. d.number < 256) number_below [] entries_of fits) in
        let few = few_rising 256 (each (λ (d : DescriptorEntry). d.number) entries_of) rises below in
        let same = length-map entries_of (λ (d : DescriptorEntry). d.number) in
        omega arith
      where
        and_both : (a b : Bool) → (a && b) ≡ true → (a ≡ true) × (b ≡ true)
        and_both true b h = (refl, h)
        and_both false b h = true_false (sym h)

        above_it : (before : Option ℕ) (n : ℕ) → is_above before n ≡ true → IsAfter nat_cmp before n
        above_it None n h = tt
        above_it (Some before) n h = grind (arith, nat_tests)

        number_rises : (ds : List DescriptorEntry) (d : DescriptorEntry) → DescriptorFits (each (description_image k.listeners) (map.entries k.descriptions)) ds d → IsAfter nat_cmp (option_map (λ (e : DescriptorEntry). e.number) (last_item ds)) d.number
        number_rises ds d fits = above_it (option_map (λ (e : DescriptorEntry). e.number) (last_item ds)) d.number (and_both (is_above (option_map (λ (e : DescriptorEntry). e.number) (last_item ds)) d.number) (nat_lt d.number 256) fits.number.1).0

        number_below : (ds : List DescriptorEntry) (d : DescriptorEntry) → DescriptorFits (each (description_image k.listeners) (map.entries k.descriptions)) ds d → d.number < 256
        number_below ds d fits = let less = (and_both (is_above (option_map (λ (e : DescriptorEntry). e.number) (last_item ds)) d.number) (nat_lt d.number 256) fits.number.1).1 in below_it d.number less
          where
            below_it : (n : ℕ) → nat_lt n 256 ≡ true → n < 256
            below_it n h = grind (arith, nat_tests)

    abbrev channels : List ChannelImage
    channels = each (channel_image k.directions) (map.entries k.channels)

    abbrev descriptions : List DescriptionImage
    descriptions = each (description_image k.listeners) (map.entries k.descriptions)

    -- a process that lives
    all_made : lives process.life ≡ true → field.is_made channels descriptions p.0 maker.made ≡ true
    all_made alive =
        let of_channels = all_images conn_total conn_exact (channel_image k.directions) (λ (c : ChannelImage). field.is_number_below p.0 maker.made c.id.pid.0 c.id.num) k.channels (λ conn channel known. below_made alive conn.pid conn.num (is.made.joined conn channel known)) in
        let of_descriptions = all_images desc_total desc_exact (description_image k.listeners) (λ (d : DescriptionImage). field.is_number_below p.0 maker.made d.id.pid.0 d.id.num) k.descriptions (λ d x known. below_made alive d.pid d.num (is.made.opened d x known)) in
        λ i. of_channels i && of_descriptions i

    -- a zombie, which has a parent and holds nothing
    not_nobody : IsParent k.processes k.makers p process.parent → not (process.parent == 1) ≡ true
    not_nobody parent =
        let (other, known, alive) = live_one k.processes (pid process.parent) parent.alive in
        let (least, most) = (is.processes.each (pid process.parent) other known).number in
        let other_one = other_number process.parent 1 (λ same. omega (arith, same, least)) in
        λ i. not (other_one i)

    holds_nothing : (status : ℕ) → process.life ≡ Zombie status → length entries_of ≡ 0
    holds_nothing status dead =
        length-map (filter (is_of p) (map.entries k.descriptors)) descriptor_image ∙ ap length (sym (own_entries k.descriptors p)) ∙ by_entries (map.entries mine) (each_entry slot_total slot_exact (λ at x. map.get mine at ≡ Some x) mine (λ at x found. found))
      where
        by_entries : (es : List (Slot × Descriptor)) → EachEntry (λ at x. map.get mine at ≡ Some x) es → length es ≡ 0
        by_entries [] are = refl
        by_entries (e ∷ es) are =
            let (found, of_p) = own_found k.descriptors p e.0 e.1 are.0 in
            let alive : lives_in k.processes p ≡ true = ap (lives_in k.processes) (sym of_p) ∙ is.descriptors.alive e.0 e.1 found in
            true_false (sym alive ∙ ap is_live_process there ∙ ap lives dead)

    -- each fits the state that it is in
    life_fits : LifeFits channels descriptions p.0 process.parent maker.made process.life
    life_fits = by_life process.life refl (is.parents.each p process there)
      where
        by_life : (life : Life) → process.life ≡ life → HasParent k.processes k.makers p process.parent life → LifeFits channels descriptions p.0 process.parent maker.made life
        by_life Live known parent = record { state = (lit< tt, all_made (ap lives known)); status = (lit< tt, refl) }
        by_life (Zombie status) known (parent, word) =
            let somebody = not_nobody parent in
            record { state = (lit< tt, somebody); status = (word, refl) }

    pending_fits : FitsNumber (field.is_pending_set process.life) process.pending
    pending_fits =
        let small : process.pending < 2 ^ 31 = one.pending in
        (omega (arith, small), both_true (nat_lt process.pending (2 ^ 31)) _ (is_below process.pending (2 ^ 31) small) (by_life process.life one.life))
      where
        by_life : (life : Life) → FitsLife life process.threads process.pending → (lives life || (process.pending == 0)) ≡ true
        by_life Live fits = refl
        by_life (Zombie status) fits = ap (λ n. n == 0) fits.1

    threads_count : FitsNumber (field.is_thread_count process.life) (length (each thread_image (map.entries process.threads)))
    threads_count = by_life process.life one.life
      where
        count : map.len process.threads ≡ length (each thread_image (map.entries process.threads))
        count = map.len-entries process.threads ∙ sym (length-map (map.entries process.threads) thread_image)

        within : (n : ℕ) → 1 ≤ n → n ≤ 64 → is_within 1 64 n ≡ true
        within n least most = both_true (nat_le 1 n) (nat_le n 64) (is_at_most 1 n least) (is_at_most n 64 most)

        by_life : (life : Life) → FitsLife life process.threads process.pending → FitsNumber (field.is_thread_count life) (length (each thread_image (map.entries process.threads)))
        by_life Live fits =
            let same = count in
            let least : 1 ≤ length (each thread_image (map.entries process.threads)) = omega (arith, same, fits.0) in
            let most : length (each thread_image (map.entries process.threads)) ≤ 64 = omega (arith, same, fits.1) in
            (omega (arith, most), within (length (each thread_image (map.entries process.threads))) least most)
        by_life (Zombie status) fits =
            let none = sym count ∙ fits.0 in
            (omega (arith, none), ap (λ n. n == 0) none)

    descriptors_count : FitsNumber (field.is_descriptor_count process.life) (length entries_of)
    descriptors_count =
        let few = few_descriptors in
        (omega (arith, few), both_true (nat_le (length entries_of) 256) _ (is_at_most (length entries_of) 256 few) (by_life process.life refl))
      where
        by_life : (life : Life) → process.life ≡ life → (lives life || (length entries_of == 0)) ≡ true
        by_life Live known = refl
        by_life (Zombie status) known = ap (λ n. n == 0) (holds_nothing status known)

    pub process_fits : ProcessFits k.next_id channels descriptions front (process_image k (p, process))
    unfolding maker
    process_fits = record {
      number = number_fits;
      parent = parent_fits;
      host = host_fits;
      made = (omega (arith, made_fits), refl);
      life = life_fits;
      pending = pending_fits;
      thread_count = threads_count;
      threads = threads_fit;
      descriptor_count = descriptors_count;
      descriptors = descriptors_fit;
    }
