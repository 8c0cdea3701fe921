-- The first fault of a list, where its front is known.
use Rattle.std.proofs.lemmas.Result.{err_from_is_err_and}
use Rattle.std.specs.Result.{result_err, IsErrAnd}
use Rattle.std.proofs.Common.{◌≡◌, ◌⊎◌, Result, List, [], ◌∷◌, ◌++◌, Option, Some, None, refl}
use Rattle.elf32.specs.declared.fault.ElfFault.{ElfFault}
use Rattle.elf32.specs.Faults.{first_some, no_memory, Reports}

pub first_some-none : (fault : Option ElfFault) (faults : List (Option ElfFault)) → fault ≡ None → first_some (fault ∷ faults) ≡ first_some faults
unfolding first_some
first_some-none fault faults h = rw h refl

pub first_some-some : (fault : Option ElfFault) (faults : List (Option ElfFault)) (found : ElfFault) → fault ≡ Some found → first_some (fault ∷ faults) ≡ Some found
unfolding first_some
first_some-some fault faults found h = rw h refl

pub first_some-one : (fault : Option ElfFault) → first_some (fault ∷ []) ≡ fault
unfolding first_some
first_some-one None = refl
first_some-one (Some found) = refl

-- where no fault is in the front, the first is in the back
pub first_some-none_append : (front back : List (Option ElfFault)) → first_some front ≡ None → first_some (front ++ back) ≡ first_some back
unfolding first_some
first_some-none_append [] back h = refl
first_some-none_append (None ∷ front) back h = first_some-none_append front back h
first_some-none_append (Some found ∷ front) back h = cc

pub first_some-some_append : (front back : List (Option ElfFault)) (found : ElfFault) → first_some front ≡ Some found → first_some (front ++ back) ≡ Some found
unfolding first_some
first_some-some_append [] back found h = cc
first_some-some_append (None ∷ front) back found h = first_some-some_append front back found h
first_some-some_append (Some fault ∷ front) back found h = h

-- where no fault is in a list, none is in its parts
pub first_some-head : (fault : Option ElfFault) (faults : List (Option ElfFault)) → first_some (fault ∷ faults) ≡ None → fault ≡ None
unfolding first_some
first_some-head None faults h = refl
first_some-head (Some found) faults h = cc

pub first_some-tail : (fault : Option ElfFault) (faults : List (Option ElfFault)) → first_some (fault ∷ faults) ≡ None → first_some faults ≡ None
unfolding first_some
first_some-tail None faults h = h
first_some-tail (Some found) faults h = cc

pub first_some-front : (front back : List (Option ElfFault)) → first_some (front ++ back) ≡ None → first_some front ≡ None
unfolding first_some
first_some-front [] back h = refl
first_some-front (None ∷ front) back h = first_some-front front back h
first_some-front (Some found ∷ front) back h = cc

pub first_some-back : (front back : List (Option ElfFault)) → first_some (front ++ back) ≡ None → first_some back ≡ None
unfolding first_some
first_some-back [] back h = h
first_some-back (None ∷ front) back h = first_some-back front back h
first_some-back (Some found ∷ front) back h = cc

-- what the exit of a `?` gives back
pub result_err-exit : {A : Type 0} (r : Result A ElfFault) (fault : ElfFault) → IsErrAnd r (λ e. e ≡ fault) → result_err r ≡ Some fault
result_err-exit r fault h = let p = err_from_is_err_and r h in rw (p.1, p.2) refl

pub Reports-exit : {A : Type 0} (r : Result A ElfFault) (fault : ElfFault) (first : Option ElfFault) → IsErrAnd r (λ e. e ≡ fault) → (fault ≡ no_memory) ⊎ (first ≡ Some fault) → Reports r first
Reports-exit r fault first h is = let p = err_from_is_err_and r h in rw (p.1, p.2) is
