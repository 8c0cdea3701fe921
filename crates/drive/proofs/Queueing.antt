-- All threads of a process, one after the other, by the next number above the last one.
use Rattle.std.proofs.Common.{◌≡◌, ℕ, suc, ◌+◌, ◌<◌, ◌≤◌, true, cond, List, [], ◌∷◌, ◌++◌, length, Option, Some, None, refl, sym, ap, ◌∙◌, arith}
use Rattle.std.specs.Prelude.{find, is_some, map as each}
use Rattle.std.specs.Ordering.{nat_cmp}
use Rattle.std.specs.FinMap as map
use Rattle.views.specs.NumberMap.{is_above}
use Rattle.plain_process.specs.declared.user_part.ThreadPart.{ThreadPart}
use Rattle.std.specs.Cmp.{nat_cmp_total}
use Rattle.std.proofs.lemmas.List.{length-append}
use Rattle.views.proofs.MapValues.{EachEntry, each_entry}
use Rattle.checkpointer.proofs.OfGuestProc.Images.{above, lt_true, key_there, one_more_entry, fewer_left, all_entries}

-- those up to this number are queued
pub record IsQueued (threads : map.FinMap nat_cmp ThreadPart) (last : ℕ) (queue : List ℕ) : Type 0 where
  pub done : List (ℕ × ThreadPart)
  pub queued : queue ≡ each (λ e. e.0) done
  pub whole : done ++ above (Some last) (map.entries threads) ≡ map.entries threads

abbrev pub left_above : map.FinMap nat_cmp ThreadPart → ℕ → ℕ
left_above threads last = length (above (Some last) (map.entries threads))

positive : (es : List (ℕ × ThreadPart)) → EachEntry (λ t thread. 0 < t) es → above (Some 0) es ≡ es
positive [] are = refl
positive (e ∷ es) are = ap (λ b. cond b (e ∷ above (Some 0) es) (above (Some 0) es)) (lt_true 0 e.0 are.0) ∙ ap (λ rest. e ∷ rest) (positive es are.1)

pub none_queued : (threads : map.FinMap nat_cmp ThreadPart) (queue : List ℕ) → ((t : ℕ) (thread : ThreadPart) → map.get threads t ≡ Some thread → 0 < t) → queue ≡ [] → IsQueued threads 0 queue
none_queued threads queue numbers empty = record { done = []; queued = empty; whole = positive (map.entries threads) (each_entry nat_cmp_total map.nat_cmp-IsAntisymmetric (λ t thread. 0 < t) threads numbers) }

value_at : {A : Type 0} (o : Option A) → is_some o ≡ true → (a : A) × (o ≡ Some a)
value_at None there = absurd (cc)
value_at (Some a) there = (a, refl)

keys_more : (done : List (ℕ × ThreadPart)) (t : ℕ) (thread : ThreadPart) → each (λ e. e.0) (done ++ (t, thread) ∷ []) ≡ each (λ e. e.0) done ++ t ∷ []
keys_more [] t thread = refl
keys_more (e ∷ done) t thread = ap (λ rest. e.0 ∷ rest) (keys_more done t thread)

pub one_queued : (threads : map.FinMap nat_cmp ThreadPart) (last t : ℕ) (queue after : List ℕ) → IsQueued threads last queue → Some t ≡ find (is_above (Some last)) (map.keys threads) → after ≡ queue ++ t ∷ [] → IsQueued threads t after
one_queued threads last t queue after is next put =
    let value = value_at (map.get threads t) (key_there threads (Some last) t (sym next)) in
    record {
      done = is.done ++ (t, value.0) ∷ [];
      queued = put ∙ ap (λ ts. ts ++ t ∷ []) is.queued ∙ sym (keys_more is.done t value.0);
      whole = one_more_entry threads is.done (Some last) t value.0 is.whole (sym next) value.1;
    }

pub fewer_above : (threads : map.FinMap nat_cmp ThreadPart) (last t : ℕ) → Some t ≡ find (is_above (Some last)) (map.keys threads) → left_above threads t < left_above threads last
fewer_above threads last t next = let value = value_at (map.get threads t) (key_there threads (Some last) t (sym next)) in fewer_left threads (Some last) t value.0 (sym next) value.1

keys_count : (done : List (ℕ × ThreadPart)) → length (each (λ (e : ℕ × ThreadPart). e.0) done) ≡ length done
keys_count [] = refl
keys_count (e ∷ done) = ap suc (keys_count done)

pub room_left : (threads : map.FinMap nat_cmp ThreadPart) (last t : ℕ) (queue : List ℕ) → IsQueued threads last queue → Some t ≡ find (is_above (Some last)) (map.keys threads) → map.len threads ≤ 64 → length queue < 128
room_left threads last t queue is next few =
    let less = fewer_above threads last t next in
    let counted = ap length is.queued ∙ keys_count is.done in
    let all : length is.done + left_above threads last ≡ length (map.entries threads) = sym (length-append is.done (above (Some last) (map.entries threads))) ∙ ap length is.whole in
    let size = map.len-entries threads in
    omega arith

pub all_queued : (threads : map.FinMap nat_cmp ThreadPart) (last : ℕ) (queue : List ℕ) → IsQueued threads last queue → None ≡ find (is_above (Some last)) (map.keys threads) → queue ≡ map.keys threads
all_queued threads last queue is next = is.queued ∙ ap (each (λ e. e.0)) (all_entries threads is.done (Some last) is.whole (sym next))
