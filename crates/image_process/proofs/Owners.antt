-- An image that has a spelling has the number and the threads of the process that it is read for
use Rattle.std.proofs.Common.{◌≡◌, ℕ, zero, suc, ◌+◌, IsTrue, List, [], ◌∷◌, ◌++◌, length, drop, map, Option, Some, None, sym, ap, subst, ◌∙◌, arith, length-append}
use Rattle.std.specs.Prelude.{slice_get}
use Rattle.std.proofs.lemmas.List.{drop_all}
use Rattle.std.proofs.lemmas.Bool.Decides.{nat_tests}
use Rattle.image_process.specs.declared.thread_image.ThreadImage.{ThreadImage}
use Rattle.image_process.specs.declared.process_image.ProcImage.{ProcImage}
use Rattle.image_format.specs.Texts.{EachFrom}
use Rattle.image_process.specs.ProcessTests.{is_number, is_count_of_threads}
use Rattle.image_process.specs.ProcessFits.{threads_of, IsThreadImage, IsImage, HasImage}

pub number-is : (number : Option ℕ) (n : ℕ) → IsTrue (is_number number n) → number ≡ Some n
number-is None n h = cc
number-is (Some number) n h = let same : number ≡ n = grind (arith, nat_tests) in ap Some same

pub drop-at : {X : Type 0} (xs : List X) (i : ℕ) (x : X) → slice_get xs i ≡ Some x → drop i xs ≡ x ∷ drop (i + 1) xs
drop-at [] zero x h = cc
drop-at [] (suc i) x h = cc
drop-at {X} (y ∷ xs) zero x h = let same : y ≡ x = cc in ap (λ (z : X). z ∷ xs) same
drop-at {X} (y ∷ xs) (suc i) x h =
    let next : suc (i + 1) ≡ suc i + 1 = omega arith in
    drop-at xs i x h ∙ ap (λ (j : ℕ). x ∷ drop j (y ∷ xs)) next

threads_follow : (tids : List ℕ) (front threads : List ThreadImage) → EachFrom (IsThreadImage tids) front threads → length tids ≡ length front + length threads → drop (length front) tids ≡ map (λ t. t.tid) threads
unfolding EachFrom
threads_follow tids front [] h size = drop_all (length front) tids (omega arith)
threads_follow tids front (t ∷ threads) h size =
    let count : length (front ++ t ∷ []) ≡ length front + 1 = length-append front (t ∷ []) in
    let more : length tids ≡ length (front ++ t ∷ []) + length threads = omega arith in
    let rest = threads_follow tids (front ++ t ∷ []) threads h.1 more in
    drop-at tids (length front) t.tid (number-is _ _ h.0.tid) ∙ ap (λ (r : List ℕ). t.tid ∷ r) (ap (λ (i : ℕ). drop i tids) (sym count) ∙ rest)

counted-same : (tids : List ℕ) (n : ℕ) → IsTrue (is_count_of_threads tids n) → length tids ≡ n
counted-same tids n h = grind (arith, nat_tests)

pub same_tids : (number : Option ℕ) (tids : List ℕ) (p : ProcImage) → IsImage number tids p → tids ≡ threads_of p
same_tids number tids p h =
    let size : length tids ≡ length p.threads = counted-same tids (length p.threads) h.fields.thread_count in
    threads_follow tids [] p.threads h.fields.threads (omega arith)

pub owns : (number : Option ℕ) (tids : List ℕ) (p : ProcImage) → IsImage number tids p → HasImage p
owns number tids p h =
    let same_number : number ≡ Some p.pid.0 = number-is number p.pid.0 h.fields.number in
    subst (λ (n : Option ℕ). IsImage n (threads_of p) p) same_number (subst (λ (ts : List ℕ). IsImage number ts p) (same_tids number tids p h) h)
