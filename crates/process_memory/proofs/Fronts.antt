-- The front of the bytes that a call reads, as a loop fills it in.
--     FrontSoFar given done front      the first bytes are filled in, and zeros follow
--     starts, filled, whole            before the loop, after a turn of it, and at its end
use Rattle.std.proofs.Common.{◌≡◌, ℕ, ◌+◌, ◌-◌, ◌<◌, ◌≤◌, true, List, [], ◌∷◌, ◌++◌, length, take, drop, replicate, get_or, set, inl, inr, refl, sym, ap, subst, ◌∙◌, arith}
use Rattle.std.specs.Prelude.{◌⊎◌, min, Option, Some, None, is_some, unwrap_or}
use Rattle.std.proofs.Math.Nat.{eq-or-lt_of_le}
use Rattle.std.proofs.lemmas.Bool.{cases_lt}
use Rattle.std.proofs.lemmas.List.{ext_get_or, get_or-take, get_or_append_left, get_or-append_right, get_or-replicate, get_or-set_same, get_or-set_other, get_or-drop, length-set, length-replicate, length-take-le, length-append}
use Rattle.plain_process.specs.declared.memory.Right.TheVariants.{Read}
use Rattle.plain_process.specs.Memory.{Memory, followed_by, bytes_at, byte_at}
use Rattle.process_memory.proofs.LocalReads.{bytes_part}
use Rattle.process_memory.specs.Lending.{IsFrontOf}

-- the byte of each index of bytes that can be read
one_byte : (m : Memory) (address : ℕ) (bytes : List ℕ) (byte : Option ℕ) → byte_at m Read address ≡ byte → bytes_at m Read address 1 ≡ Some bytes → unwrap_or byte 0 ≡ get_or bytes 0 0
unfolding bytes_at
one_byte m address bytes None is read =
    let same : None ≡ Some bytes = ap (followed_by (Some [])) (sym is ∙ ap (byte_at m Read) (omega arith)) ∙ read in cc
one_byte m address bytes (Some b) is read =
    let same : Some (b ∷ []) ≡ Some bytes = ap (followed_by (Some [])) (sym is ∙ ap (byte_at m Read) (omega arith)) ∙ read in
    cc

pub byte_of : (m : Memory) (address n i : ℕ) (given : List ℕ) (byte : Option ℕ) (value : ℕ) → i < n → bytes_at m Read address n ≡ Some given
    → byte ≡ byte_at m Read (address + i) → value ≡ unwrap_or byte 0 → value ≡ get_or given i 0
byte_of m address n i given byte value within read is value_is =
    value_is ∙ one_byte m (address + i) (take 1 (drop i given)) byte (sym is) (bytes_part m Read address n i 1 given (omega arith) read) ∙ first_of_drop
  where
    first_of_drop : get_or (take 1 (drop i given)) 0 0 ≡ get_or given i 0
    first_of_drop = get_or-take 1 (drop i given) 0 0 (omega arith) ∙ get_or-drop i given 0 0 ∙ ap (λ k. get_or given k 0) (omega arith)

pub record FrontSoFar (given : List ℕ) (done : ℕ) (front : List ℕ) : Type 0 where
  pub size : length front ≡ 16
  pub filled : (j : ℕ) → j < done → get_or front j 0 ≡ get_or given j 0
  pub zeros : (j : ℕ) → done ≤ j → j < 16 → get_or front j 0 ≡ 0

pub starts : (given : List ℕ) → FrontSoFar given 0 (replicate 16 0)
starts given = record {
  size = length-replicate {A = ℕ} 16 0;
  filled = λ j none. absurd (omega arith);
  zeros = λ j _ less. get_or-replicate 16 j 0 0 less;
}

module _ (given : List ℕ) (done byte : ℕ) (front : List ℕ) (less : done < 16) (is : byte ≡ get_or given done 0) (so_far : FrontSoFar given done front) where
  within : done < length front
  within = subst (λ n. done < n) (sym so_far.size) less

  one : (j : ℕ) → (j ≡ done) ⊎ (j < done) → get_or (set front done byte) j 0 ≡ get_or given j 0
  one j (inl same) = ap (λ i. get_or (set front done byte) i 0) same ∙ get_or-set_same front done byte 0 within ∙ is ∙ ap (λ i. get_or given i 0) (sym same)
  one j (inr below) = get_or-set_other front done j byte 0 (λ same. absurd (omega arith)) ∙ so_far.filled j below

  pub filled : FrontSoFar given (done + 1) (set front done byte)
  filled = record {
    size = length-set front done byte ∙ so_far.size;
    filled = λ j below. let at_most : j ≤ done = omega arith in one j (eq-or-lt_of_le at_most);
    zeros = λ j above few. get_or-set_other front done j byte 0 (λ same. absurd (omega arith)) ∙ so_far.zeros j (omega arith) few;
  }

module _ (given front : List ℕ) (so_far : FrontSoFar given (min (length given) 16) front) where
  padded_size : 16 ≤ length (given ++ replicate 16 0)
  padded_size = let size = length-append given (replicate 16 0) in let zeros = length-replicate {A = ℕ} 16 0 in omega arith

  in_padded : (i : ℕ) → i < 16 → (i < length given) ⊎ (length given ≤ i) → get_or (given ++ replicate 16 0) i 0 ≡ get_or front i 0
  in_padded i less (inl inside) = get_or_append_left given (replicate 16 0) 0 i inside ∙ sym (so_far.filled i (omega arith))
  in_padded i less (inr past) =
      get_or-append_right given (replicate 16 0) (length given) i 0 refl past ∙ get_or-replicate 16 (i - length given) 0 0 (omega arith) ∙ sym (so_far.zeros i (omega arith) less)

  pub whole : IsFrontOf given front
  whole = ext_get_or 0 (take 16 (given ++ replicate 16 0)) front (length-take-le 16 (given ++ replicate 16 0) padded_size ∙ sym so_far.size)
      (λ i within. let less : i < 16 = subst (λ n. i < n) (length-take-le 16 (given ++ replicate 16 0) padded_size) within in
      get_or-take 16 (given ++ replicate 16 0) i 0 less ∙ in_padded i less (cases_lt i (length given)))

-- the bytes of a call are those that are read, where its buffers are as it needs

pub given_read : {lent : Option (List ℕ)} (read : Option (List ℕ)) → is_some read ≡ true → ((xs : List ℕ) → read ≡ Some xs → lent ≡ Some xs) → (given : List ℕ) → lent ≡ Some given → read ≡ Some given
given_read None there whole given is = cc
given_read (Some xs) there whole given is = sym (whole xs refl) ∙ is

pub never_missing : {lent : Option (List ℕ)} (read : Option (List ℕ)) → is_some read ≡ true → ((xs : List ℕ) → read ≡ Some xs → lent ≡ Some xs) → lent ≡ None → ⊥
never_missing None there whole none = cc
never_missing (Some xs) there whole none = let same : Some xs ≡ None = sym (whole xs refl) ∙ none in cc
